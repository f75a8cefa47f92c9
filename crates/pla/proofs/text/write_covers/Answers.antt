use Rattle.std.proofs.Common.{◌≡◌, ℕ, List, [], ◌++◌, Result, Ok, refl, append_assoc, append-nil, ap, ◌∙◌, subst, codes, decimal, sum_by, length, flat_map}
use Rattle.pla.specs.declared.writing.WriteFault.{WriteFault}
use Rattle.pla.specs.Device.{Writes}
use Rattle.pla.specs.Description.{Description}
use Rattle.pla.specs.Sets.{SetLists, lists_of}
use Rattle.pla.specs.Text.{elsewhere, names_text, rows_text, sections, text_of, type_text}
use Rattle.pla.specs.declared.out_type.OutType.{OutType}
use Rattle.pla.proofs.Putting.{puts_first, puts_writes}
use Rattle.pla.proofs.text.write_covers.Goals as goal

-- lines with a number, by their parts
by_parts : (i o p end feed inputs outputs input_names output_names type count rows : List ℕ)
    → (i ++ inputs ++ feed) ++ (o ++ outputs ++ feed) ++ input_names ++ output_names ++ type ++ (p ++ count ++ feed) ++ rows ++ end ++ []
    ≡ i ++ inputs ++ (feed ++ o) ++ outputs ++ feed ++ input_names ++ output_names ++ type ++ p ++ count ++ feed ++ rows ++ end
by_parts i o p end feed inputs outputs input_names output_names type count rows = simp (append_assoc, append-nil)

-- the text by its parts
text_parts : (d : Description) (t : OutType) (lists : SetLists) (inputs outputs input_names output_names type count : List ℕ)
    → inputs ≡ decimal d.size.inputs → outputs ≡ decimal d.size.outputs
    → input_names ≡ names_text (codes ".ilb") d.input_names → output_names ≡ names_text (codes ".ob") d.output_names
    → type ≡ type_text t → count ≡ decimal (sum_by (λ section. length section.1) (sections t lists))
    → codes ".i " ++ inputs ++ codes "\n.o " ++ outputs ++ codes "\n" ++ input_names ++ output_names ++ type
    ++ codes ".p " ++ count ++ codes "\n" ++ flat_map (rows_text (elsewhere t)) (sections t lists) ++ codes ".e\n" ≡ text_of d t lists
text_parts d t lists inputs outputs input_names output_names type count i o n m y c = cc

pub returns-clause-bytes : goal.returns-clause-bytes
returns-clause-bytes g c =
    let pla = c.args.pla.now in
    let lists = lists_of c.args.on.now c.args.dc.now c.args.off.now in
    let shape = c.shape-shape.ensures in
    let first : Result (Unit {0}) WriteFault = Ok tt in
    let start = puts_first (g.W.Output.taken c.args.out.now) c.new-buffer.result first tt refl c.new-buffer.ensures in
    let whole = c.write_next-done-2.ensures.bytes _ _ (c.write_sections-done.ensures.bytes _ _ (c.write_number-done-3.ensures.bytes _ _ (c.write_next-done.ensures.bytes _ _
    (c.write_names-done-2.ensures.bytes _ _ (c.write_names-done.ensures.bytes _ _ (c.write_number-done-2.ensures.bytes _ _ (c.write_number-done.ensures.bytes _ _ start))))))) in
    subst (Writes (g.W.Output.taken c.args.out.now) (g.W.Output.taken c.flush_to.new.out) c.flush_to.result)
    (by_parts (codes ".i ") (codes ".o ") (codes ".p ") (codes ".e\n") (codes "\n") _ _ _ _ _ _ _ ∙ text_parts pla c.args.out_type lists _ _ _ _ _ _ (ap decimal (c.inputs.ensures.value ∙ ap (λ s. s.inputs) shape)) (ap decimal (c.outputs.ensures.value ∙ ap (λ s. s.outputs) shape))
    (ap (names_text (codes ".ilb")) c.input_names.ensures) (ap (names_text (codes ".ob")) c.output_names.ensures) c.type_line.ensures (ap decimal c.row_count-rows.ensures))
    (puts_writes _ _ _ _ c.flush_to.result c.flush_to.ensures.empty (c.flush_to.ensures.bytes _ _ whole))
