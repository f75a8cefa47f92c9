use Rattle.std.proofs.Common.{◌≡◌, ◌∙◌, ap, rules, [], ◌∷◌, ◌++◌}
use Rattle.cube.specs.Cube.{size_of}
use Rattle.cube.specs.Sharp.{rest_rows}
use Rattle.cube.proofs.PackingLemmas.{some_output}
use Rattle.cube.proofs.SharpLemmas.{complete_sum-disjoint}
use Rattle.cube.proofs.RestLemmas.{IsCube-of, sharp-from_rows}
use Rattle.cube.proofs.cube.Cube.sharp.Goals as goal

pub returns-then-disjoint : goal.returns-then-disjoint
returns-then-disjoint c =
    let only : c.push.new.self.items ≡ c.args.self.now ∷ [] = search rules in
    only ∙ complete_sum-disjoint (size_of c.args.self.now) c.args.self.now c.args.other.now
    (IsCube-of c.args.self.now (some_output _ _ _ _ c.self.view_is c.self.invariant)) (c.disjoint.ensures.0 c.if-disjoint.true)

pub returns : goal.returns
returns c =
    sharp-from_rows c.args.self.now c.args.other.now c.requires c.disjoint.result c.push_rest.new.rows.items c.push_pieces.new.rows.items
    (some_output _ _ _ _ c.self.view_is c.self.invariant) c.disjoint.ensures c.if-disjoint.false
    (c.in_ok-push_rest.ensures ∙ ap (λ z. z ++ rest_rows c.args.self.now c.args.other.now) c.new-rows.ensures.items) c.in_ok-push_pieces.ensures
