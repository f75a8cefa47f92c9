use Rattle.std.proofs.Common.{◌≡◌, ◌∙◌, ◌+◌, ◌<◌, ◌≤◌, ◌++◌, ◌∷◌, [], All, length, get_or, ap, sym, subst, arith}
use Rattle.std.proofs.lemmas.List.{take_all}
use Rattle.std.proofs.lemmas.Slice.Zip.{AllZip-long}
use Rattle.cube.specs.Cube.{holds, IsSubset}
use Rattle.cover.specs.Places.{places}
use Rattle.minimum.proofs.AsNeeded.{ArePartsOf, parts_none, parts_held, parts_left}
use Rattle.minimum.proofs.as_needed.places_outside.parts_not_held.Goals as goal
use Rattle.minimum.proofs.as_needed.places_outside.parts_not_held.Goals.{in-Some+in_ok-try_clone+in_ok-push, in_default}

pub loop-part-init : goal.loop-part-init
loop-part-init c = parts_none c.args.list.now c.args.cubes.now c.new-parts.result.items c.new-parts.ensures.items

pub loop-part-preserved : goal.loop-part-preserved
loop-part-preserved c =
    let list = c.args.list.now in
    let cubes = c.args.cubes.now in
    let found = c.in_ok-found.found.items in
    let n = c.loop-part.part-index in
    let old = c.loop-part.parts.items in
    let lt : n < length found = subst (λ l. n < length l) c.deref-part-items.ensures.value c.loop-part-test.true in
    let item : c.part-item.result ≡ get_or found n c.part-item.result = c.part-item.is ∙ ap (λ l. get_or l n c.part-item.result) c.deref-part-items.ensures.value in
    elim c.match-part.branch [
      | in-Some+in_ok-try_clone+in_ok-push w ↦
          let part = w.in-Some.part in
          let more = w.in_ok-push.ensures.items ∙ ap (λ x. old ++ x ∷ []) w.in_ok-try_clone.ensures.value in
          parts_left list cubes found n lt old c.loop-part.invariant c.in_ok-found.ensures.left_out part c.match-part.parts.items
          (subst (λ o. o ≡ get_or found n o) w.in-Some.is item) (ap (λ v. v.items) w.parts-is ∙ more)
      | in_default w ↦
          subst (ArePartsOf list cubes (n + 1)) (sym (ap (λ v. v.items) w.parts-is))
          (parts_held list cubes found n lt old c.loop-part.invariant c.in_ok-found.ensures.held (subst (λ o. o ≡ get_or found n o) w.in_default.is item))
    ]

pub returns-clause-held : goal.returns-clause-held
returns-clause-held c none' =
    let list = c.args.list.now in
    let cubes = c.args.cubes.now in
    let found = c.in_ok-found.found.items in
    let long = AllZip-long _ cubes found c.in_ok-found.ensures.held in
    let past : length found ≤ c.loop-part.part-index = subst (λ l. length l ≤ c.loop-part.part-index) c.deref-part-items.ensures.value c.loop-part-test.false in
    subst (All (λ d. IsSubset (holds d) (places list.cubes))) (take_all c.loop-part.part-index cubes (omega (arith, long, past))) (c.loop-part.invariant.held none')
