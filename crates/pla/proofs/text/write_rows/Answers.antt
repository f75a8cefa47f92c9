use Rattle.std.proofs.Common.{◌≡◌, ℕ, ◌+◌, ◌<◌, List, [], ◌∷◌, ◌++◌, flat_map, take, drop, length, get_or, subst, rules, sym, ap, ◌∙◌, append_assoc, append-nil}
use Rattle.std.proofs.lemmas.List.{take_more}
use Rattle.std.proofs.lemmas.List.Concat.{flat_map-append}
use Rattle.cube.specs.Cube.{Cube}
use Rattle.pla.specs.Device.{Puts, PutsOn}
use Rattle.pla.specs.Text.{row_text}
use Rattle.pla.proofs.Printing.{flat_map_split}
use Rattle.pla.proofs.Putting.{puts_failed}
use Rattle.pla.proofs.text.write_rows.Goals as goal

one_more : (front : List ℕ) (row : Cube → List ℕ) (cubes : List Cube) (i : ℕ) (cube : Cube) → i < length cubes → cube ≡ get_or cubes i cube
    → (front ++ flat_map row (take i cubes)) ++ row cube ≡ front ++ flat_map row (take (i + 1) cubes)
one_more front row cubes i cube lt is =
    append_assoc front (flat_map row (take i cubes)) (row cube)
    ∙ ap (λ s. front ++ s) (
    ap (λ b. flat_map row (take i cubes) ++ b) (ap row is ∙ sym (append-nil (row (get_or cubes i cube))))
    ∙ sym (flat_map-append row (take i cubes) (get_or cubes i cube ∷ [])) ∙ ap (flat_map row) (sym (take_more cubes i cube lt))
    )

pub loop-cube-preserved : goal.loop-cube-preserved
loop-cube-preserved g c = record {
  bytes = λ old front w.
      subst (Puts old _ _ _) (one_more front (row_text c.args.mark c.args.other) c.as_slice-cube-items.result.now c.loop-cube.cube-index c.cube-item.result c.loop-cube-test.true c.cube-item.is)
      (c.write_next_row-done.ensures.bytes _ _ (c.loop-cube.invariant.bytes old front w));
  count = λ before h. c.write_next_row-done.ensures.count before (c.loop-cube.invariant.count before h);
}

pub returns-then-is_err-clause-bytes : goal.returns-then-is_err-clause-bytes
returns-then-is_err-clause-bytes g c =
    let row = row_text c.args.mark c.args.other in
    let cubes = c.as_slice-cube-items.result.now in
    let at = c.loop-cube.cube-index in
    let whole : flat_map row (take at cubes) ++ flat_map row (drop at cubes) ≡ flat_map row c.args.list.now.cubes =
    sym (flat_map_split row cubes at) ∙ ap (flat_map row) c.as_slice-cube-items.ensures.value in
    subst (PutsOn (g.W.Output.taken c.args.out.now) c.args.buffer.now c.args.done (g.W.Output.taken c.loop-cube.out) c.loop-cube.buffer c.loop-cube.done) whole
    (puts_failed _ _ _ _ _ c.loop-cube.done (flat_map row (take at cubes)) (flat_map row (drop at cubes)) (search rules) c.loop-cube.invariant.bytes)
