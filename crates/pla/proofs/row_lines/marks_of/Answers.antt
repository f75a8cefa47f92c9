use Rattle.std.proofs.Common.{◌≡◌, codes, refl, ap, sym, ◌∙◌}
use Rattle.pla.specs.declared.file_type.FileType.{FileType}
use Rattle.pla.specs.declared.file_type.FileType.TheVariants.{F, Fd, Fr, Fdr}
use Rattle.pla.specs.declared.row_lines.Part.{Part}
use Rattle.pla.specs.declared.row_lines.Part.TheVariants.{On}
use Rattle.pla.specs.Symbols.{is_byte_of}
use Rattle.pla.specs.Lists.{part_symbols}
use Rattle.pla.proofs.Marks.{on_marked, dc_marked, off_marked}
use Rattle.pla.proofs.row_lines.marks_of.Goals as goal

on_letters : (t : FileType) → part_symbols t On ≡ codes "14"
on_letters F = refl
on_letters Fd = refl
on_letters Fr = refl
on_letters Fdr = refl

pub returns-in-On-default : goal.returns-in-On-default
returns-in-On-default c b lt =
    on_marked b lt ∙ ap (λ l. is_byte_of l b) (sym (ap (λ (p : Part). part_symbols c.args.file_type p) c.in-On-default.is-0 ∙ on_letters c.args.file_type))

pub returns-in-DontCare-Fd : goal.returns-in-DontCare-Fd
returns-in-DontCare-Fd c b lt = rw (c.in-DontCare-Fd.is-0, c.in-DontCare-Fd.is-1) (dc_marked b lt)

pub returns-in-DontCare-Fdr : goal.returns-in-DontCare-Fdr
returns-in-DontCare-Fdr c b lt = rw (c.in-DontCare-Fdr.is-0, c.in-DontCare-Fdr.is-1) (dc_marked b lt)

pub returns-in-Off-Fr : goal.returns-in-Off-Fr
returns-in-Off-Fr c b lt = rw (c.in-Off-Fr.is-0, c.in-Off-Fr.is-1) (off_marked b lt)

pub returns-in-Off-Fdr : goal.returns-in-Off-Fdr
returns-in-Off-Fdr c b lt = rw (c.in-Off-Fdr.is-0, c.in-Off-Fdr.is-1) (off_marked b lt)
