use Rattle.std.proofs.Common.{◌≡◌, ◌∙◌, ap, sym, subst, ◌↔◌, IsTrue}
use Rattle.std.proofs.lemmas.Result.{IfOk-weaker}
use Rattle.cube.specs.Cube.{holds, IsSubset, HasSize}
use Rattle.rows.specs.Places.{places, holds_all, universal}
use Rattle.rows.proofs.Everywhere.{same_test, holds_all-universal, is_subset-iff, HasSize-universal}
use Rattle.cover.proofs.list.Cover.tautology.Goals as goal

pub holds_cube-requires : goal.holds_cube-requires
holds_cube-requires c =
    subst (λ r. HasSize r c.args.self.now.size) (ap universal (sym c.shape.ensures.size) ∙ sym c.in_ok-region.ensures.value) (HasSize-universal c.args.self.now.size)

pub returns : goal.returns
returns c =
    let size = c.args.self.now.size in
    let s = places c.args.self.now.cubes in
    let region = c.in_ok-region.region in
    let is : universal size ≡ region = ap universal (sym c.shape.ensures.size) ∙ sym c.in_ok-region.ensures.value in
    IfOk-weaker c.holds_cube.result _ _
    (λ all h. same_test all (holds_all size s)
    (subst (λ b. IsTrue b ↔ IsSubset (holds region) s) (sym h)
    (is_subset-iff size region s (subst (λ r. HasSize r size) is (HasSize-universal size))))
    (subst (λ r. IsTrue (holds_all size s) ↔ IsSubset (holds r) s) is (holds_all-universal size s)))
    c.holds_cube.ensures
