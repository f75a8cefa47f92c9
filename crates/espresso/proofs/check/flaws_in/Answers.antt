use Rattle.std.proofs.Common.{◌∙◌, ap, sym, false}
use Rattle.pla.specs.declared.file_type.FileType.TheVariants.{F, Fd, Fr, Fdr}
use Rattle.espresso.specs.Check.{flaws_of}
use Rattle.espresso.proofs.Checking.{flaws-shown, sets_by}
use Rattle.espresso.proofs.check.flaws_in.Goals as goal

pub returns-in-F : goal.returns-in-F
returns-in-F c = let d = c.args.pla.now in
    flaws-shown F d ∙ ap (λ type. flaws_of (sets_by type d)) (sym c.in-F.is ∙ c.file_type.ensures)

pub returns-in_ok-on_meets_dc-in-Fd : goal.returns-in_ok-on_meets_dc-in-Fd
returns-in_ok-on_meets_dc-in-Fd c = let d = c.args.pla.now in
    (λ i. record { on_dc = c.in_ok-on_meets_dc-in-Fd.ensures i; on_off = false; dc_off = false; gap = false })
    ∙ flaws-shown Fd d ∙ ap (λ type. flaws_of (sets_by type d)) (sym c.in-Fd.is ∙ c.file_type.ensures)

pub returns-in_ok-on_meets_off-in-Fr : goal.returns-in_ok-on_meets_off-in-Fr
returns-in_ok-on_meets_off-in-Fr c = let d = c.args.pla.now in
    (λ i. record { on_dc = false; on_off = c.in_ok-on_meets_off-in-Fr.ensures i; dc_off = false; gap = false })
    ∙ flaws-shown Fr d ∙ ap (λ type. flaws_of (sets_by type d)) (sym c.in-Fr.is ∙ c.file_type.ensures)

pub returns-in_ok-has_gap-in-Fdr : goal.returns-in_ok-has_gap-in-Fdr
returns-in_ok-has_gap-in-Fdr c = let d = c.args.pla.now in
    (λ i. record {
      on_dc = c.in_ok-on_meets_dc-in-Fdr.ensures i;
      on_off = c.in_ok-on_meets_off-in-Fdr.ensures i;
      dc_off = c.in_ok-dc_meets_off-in-Fdr.ensures i;
      gap = c.in_ok-has_gap-in-Fdr.ensures i;
    }) ∙ flaws-shown Fdr d ∙ ap (λ type. flaws_of (sets_by type d)) (sym c.in-Fdr.is ∙ c.file_type.ensures)
