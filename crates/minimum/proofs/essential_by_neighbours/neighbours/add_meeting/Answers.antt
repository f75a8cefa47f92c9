use Rattle.std.proofs.Common.{◌∙◌, ◌||◌, ◌∷◌, [], ap, sym, subst}
use Rattle.std.proofs.lemmas.Bool.{false≢true}
use Rattle.std.proofs.lemmas.List.Elements.{All-append, All-cons, All-nil}
use Rattle.cube.specs.Cube.{IsCube, SameSize, size_of}
use Rattle.cover.specs.Cubes.{AreCubes}
use Rattle.cover.specs.Places.{places}
use Rattle.minimum.specs.Neighbours.{held_by}
use Rattle.growth.proofs.MorePlaces.{places_pushed}
use Rattle.minimum.proofs.Neighbours.{met_output}
use Rattle.minimum.proofs.essential_by_neighbours.neighbours.add_meeting.Goals as goal

pub returns-in_ok-push-clause-size : goal.returns-in_ok-push-clause-size
returns-in_ok-push-clause-size c = λ are.
    let prime = c.args.prime.now in
    let cube = c.in-Some.cube in
    let near = c.args.near.now.items in
    let size = size_of prime in
    let long : SameSize cube prime = rw c.in-Some.is at c.requires in
    let is_cube : IsCube size cube = record {
      has_size = long;
      some_output = met_output cube prime (λ apart. false≢true (sym c.if-not-disjoint.true ∙ c.disjoint.ensures.1 apart));
    } in
    subst (AreCubes size) (sym c.in_ok-push.ensures.items) (All-append (IsCube size) near (cube ∷ []) are (All-cons (IsCube size) cube [] is_cube (All-nil (IsCube size))))

pub returns-in_ok-push-clause-places : goal.returns-in_ok-push-clause-places
returns-in_ok-push-clause-places c = λ p _.
    let cube = c.in-Some.cube in
    let near = c.args.near.now.items in
    ap (λ l. places l p) c.in_ok-push.ensures.items ∙ places_pushed near cube p ∙ ap (λ f. places near p || held_by f p) (sym c.in-Some.is)
