use Rattle.std.proofs.Common.{◌≡◌, ◌∙◌, ◌++◌, All, ap, ap₂, sym, subst}
use Rattle.std.proofs.lemmas.Result.{IfOk-weaker}
use Rattle.cube.specs.Cube.{IsCube, IsSubset, holds}
use Rattle.cover.specs.Places.{places}
use Rattle.minimum.proofs.PickedPoints.{wanted_in}
use Rattle.minimum.proofs.AsNeeded.{all_within, have_size}
use Rattle.minimum.proofs.as_needed.wanted_left_out.Goals as goal
use Rattle.minimum.proofs.as_needed.wanted_left_out.Goals.{After-as_slice}

size : (c : After-as_slice) → c.append.new.self.size ≡ c.args.sets.now.size
size c = c.in_ok-append.ensures.size ∙ ap (λ l. l.size) c.in_ok-held.ensures ∙ c.requires

pub parts_not_held-requires : goal.parts_not_held-requires
parts_not_held-requires c =
    let s = (goal.at.parts_not_held-requires c).After-as_slice in
    have_size c.on.result.now.size c.append.new.self.size c.as_slice.result.now (ap (λ l. l.size) c.on.ensures ∙ sym (size s)) c.as_slice.ensures.cubes

pub returns-clause-held : goal.returns-clause-held
returns-clause-held c =
    let sets = c.args.sets.now in
    let list = c.args.list.now in
    let held = c.append.new.self in
    let on : c.as_slice.result.now ≡ sets.on = c.as_slice.ensures.value ∙ ap (λ l. l.cubes) c.on.ensures in
    let both : held.cubes ≡ list.cubes ++ sets.dc = c.in_ok-append.ensures.ok ∙ ap₂ (λ a b. a ++ b) (ap (λ l. l.cubes) c.in_ok-held.ensures) (ap (λ l. l.cubes) c.dc.ensures) in
    IfOk-weaker c.parts_not_held.result _ _
    (λ parts h empty. wanted_in sets list.cubes held.cubes both
    (all_within sets.on held.cubes (subst (All (λ d. IsSubset (holds d) (places held.cubes))) on (h empty))))
    c.parts_not_held.ensures.held

pub returns-clause-cubes : goal.returns-clause-cubes
returns-clause-cubes c =
    let s = (goal.at.returns-clause-cubes c).After-as_slice in
    IfOk-weaker c.parts_not_held.result _ _ (λ parts h d k. subst (λ z. IsCube z d) (size s) (h d k)) c.parts_not_held.ensures.cubes
