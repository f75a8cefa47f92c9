use Rattle.std.proofs.Common.{◌∙◌, Some, ap, drop, subst}
use Rattle.espresso.specs.Program.{IsOpenedAs, named_file}
use Rattle.espresso.specs.Tool.{first_name}
use Rattle.espresso.proofs.source_reading.AnySecondSource.read.Goals as goal

pub read_second-requires : goal.read_second-requires
read_second-requires g c = c.in-Ok.ensures.name ∙ ap first_name (c.after_first.ensures ∙ ap (drop 1) c.files.ensures)

pub returns-in-Ok : goal.returns-in-Ok
returns-in-Ok g c = let rest = c.read_second.ensures in (
  Some rest.0,
  (
    (λ first faultless. (
      c.requires.two,
      faultless,
      record {
        source = c.in-Ok.source;
        source_after = c.read_second.new.source;
        opened = subst (λ files. IsOpenedAs g.O.Opener.file g.O.Opener.input (named_file files) c.args.self.now c.in-Ok.source c.open_source.new.opener)
            (c.after_first.ensures ∙ ap (drop 1) c.files.ensures) c.in-Ok.ensures.source;
        taken = rest.1;
      },
    )),
    rest.2,
  ),
)
