use Rattle.std.proofs.Common.{◌≡◌, ℕ, List, sym, flat_map, subst, ap, ◌∙◌, append-nil, ◌++◌}
use Rattle.pla.specs.declared.out_type.OutType.{OutType}
use Rattle.pla.specs.declared.out_type.OutType.TheVariants.{F}
use Rattle.pla.specs.Device.{Puts}
use Rattle.pla.specs.Sets.{SetLists, lists_of}
use Rattle.pla.specs.Text.{elsewhere, rows_text, sections}
use Rattle.pla.proofs.text.write_sections.Goals as goal

-- the text of the sections
abbrev text : (front : List ℕ) (t : OutType) (lists : SetLists) → List ℕ
text front t lists = front ++ flat_map (rows_text (elsewhere t)) (sections t lists)

one : (front : List ℕ) (t : OutType) (lists : SetLists) → t ≡ F → front ++ rows_text 48 (49, lists.on) ≡ text front t lists
one front t lists e = ap (λ s. front ++ s) (sym (append-nil (rows_text 48 (49, lists.on)))) ∙ ap (λ x. text front x lists) (sym e)

pub returns-in-F-clause-bytes : goal.returns-in-F-clause-bytes
returns-in-F-clause-bytes g c = λ old front w.
    subst (Puts old _ _ _) (one front c.args.out_type (lists_of c.args.on.now c.args.dc.now c.args.off.now) c.in-F.is) (c.write_rows.ensures.bytes old front w)
