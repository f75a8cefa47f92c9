use Rattle.std.proofs.Common.{None, Ok, Err}
use Rattle.std.proofs.lemmas.Result.{err_from_is_err_and}
use Rattle.espresso.specs.declared.failure.Operand.TheVariants.{First}
use Rattle.espresso.specs.Run.{Intakes, name_of, trace}
use Rattle.espresso.specs.Tool.{first_name}
use Rattle.espresso.proofs.Both.{first_read, first_stopped}
use Rattle.espresso.proofs.Opening.{asks_none, named, stopped_before}
use Rattle.espresso.proofs.run_files.read_and_answer.Goals as goal

pub returns-in_err-pla : goal.returns-in_err-pla
returns-in_err-pla g c = let read = c.read_source.ensures in
    let p = err_from_is_err_and c.from_residual.result c.from_residual.ensures.1 in
    let line = c.args.line.now in
    let out = trace (g.W.Output.taken c.args.out.now) (g.W.Output.taken c.read_source.new.out) (g.W.Output.calls c.args.out.now) (g.W.Output.calls c.read_source.new.out) in
    let taken : Intakes = record { first = read.0; second = None } in
    let fault = c.in_err-pla.field-0.0 in
    let stopped = named line First (name_of c.args.first.now) (first_name line.files) read.0 out (Err fault) c.requires.first_name (rw c.in_err-pla.was at read.2) in (
      taken,
      read.1,
      asks_none (g.S.SecondSource.asked line) line read.0 _ c.args.second.now (rw (p.1, p.2) (stopped_before line First (first_name line.files) read.0 out fault stopped)),
      rw (p.1, p.2) (first_stopped line taken _ _ _ _ fault stopped),
    )

pub returns : goal.returns
returns g c = let read = c.read_source.ensures in let rest = c.answer.ensures in
    let line = c.args.line.now in
    let out = trace (g.W.Output.taken c.args.out.now) (g.W.Output.taken c.read_source.new.out) (g.W.Output.calls c.args.out.now) (g.W.Output.calls c.read_source.new.out) in
    let first = named line First (name_of c.args.first.now) (first_name line.files) read.0 out (Ok c.in_ok-pla.pla) c.requires.first_name (rw c.in_ok-pla.was at read.2) in
    let taken : Intakes = record { first = read.0; second = rest.0 } in
    (taken, read.1, rest.1.0 read.0 first.2, first_read line taken _ _ _ _ c.in_ok-pla.pla _ _ c.answer.result first rest.1.1)
