use Rattle.std.proofs.Common.{ap, ◌∙◌}
use Rattle.pla.specs.declared.file_type.FileType.{FileType}
use Rattle.pla.specs.Names.{owned_names}
use Rattle.pla.specs.Description.{Description}
use Rattle.pla.specs.Reading.{RowsRead}
use Rattle.pla.proofs.row_lines.Rows.into_pla.Goals as goal

pub returns : goal.returns
returns c =
    let described : FileType → RowsRead → Description = λ t r. record {
      size = r.size;
      input_names = owned_names c.args.head.input_names;
      output_names = owned_names c.args.head.output_names;
      file_type = t;
      on = r.on;
      dc = r.dc;
      off = r.off;
    } in
    c.new.ensures ∙ ap (described c.file_type_or_fd-file_type.result) c.self.view_is ∙ ap (λ t. described t c.args.self) (c.file_type_or_fd-file_type.ensures 0)
