use Rattle.std.proofs.Common.{[], Some, ap, sym, ◌∙◌, option_map}
use Rattle.std.specs.Option.{option_or}
use Rattle.cube.specs.Size.{Size}
use Rattle.pla.specs.declared.file_type.FileType.TheVariants.{Fd}
use Rattle.pla.specs.Reading.{RowsRead, rows_of}
use Rattle.pla.proofs.parser.open_rows.Goals as goal

pub returns-in-None-Some : goal.returns-in-None-Some
returns-in-None-Some c =
    let empty : Size → RowsRead = λ size. rows_of Fd size [] in
    ap (λ r. Some r) (c.new.ensures Fd) ∙ sym (ap (λ r. option_or r (option_map empty c.args.shape)) c.in-None-Some.is-0 ∙ ap (option_map empty) c.in-None-Some.is-1)
