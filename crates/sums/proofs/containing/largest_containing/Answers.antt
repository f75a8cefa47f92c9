use Rattle.std.proofs.Common.{◌≡◌, ◌∙◌, ◌++◌, ◌∷◌, [], ap, sym, subst, not}
use Rattle.rows.specs.Cubes.{AreCubes}
use Rattle.rows.specs.Places.{places}
use Rattle.sums.specs.Containing.{largest}
use Rattle.sums.proofs.OverRegion.{IsOver-whole, IsOver-absorbed, largest-sum_containing, AreCubes-largest}
use Rattle.sums.proofs.containing.largest_containing.Goals as goal

pub absorb-requires : goal.absorb-requires
absorb-requires c =
    let size = c.args.shape in
    let all = c.in_ok-everything.everything in
    let is : c.push.new.self.items ≡ all ∷ [] = c.in_ok-push.ensures.items ∙ ap (λ l. l ++ all ∷ []) c.new-cubes.ensures.items in
    let cuts = rw c.in-Some.is at c.in_ok-cubes.ensures in
    record {
      size = size;
      are_cubes = (IsOver-whole size c.args.region.now all c.push.new.self.items c.args.rows.now c.in-Some.cubes.items c.in_ok-everything.ensures.value c.in_ok-everything.ensures.is_cube.some_output c.requires.region is cuts).are_cubes;
    }

pub largest_cubes-requires : goal.largest_cubes-requires
largest_cubes-requires c =
    let size = c.args.shape in
    let all = c.in_ok-everything.everything in
    let is : c.push.new.self.items ≡ all ∷ [] = c.in_ok-push.ensures.items ∙ ap (λ l. l ++ all ∷ []) c.new-cubes.ensures.items in
    let cuts = rw c.in-Some.is at c.in_ok-cubes.ensures in
    let o = IsOver-whole size c.args.region.now all c.push.new.self.items c.args.rows.now c.in-Some.cubes.items c.in_ok-everything.ensures.value c.in_ok-everything.ensures.is_cube.some_output c.requires.region is cuts in
    record {
      size = size;
      are_cubes = subst (AreCubes size) (sym c.deref.ensures.value)
          (IsOver-absorbed size c.args.region.now (λ p. not (places c.args.rows.now p)) c.in-Some.cubes.items c.in_ok-cubes-2.cubes.items c.in_ok-cubes-2.ensures o).are_cubes;
    }

pub returns-clause-cubes : goal.returns-clause-cubes
returns-clause-cubes c =
    let size = c.args.shape in
    let all = c.in_ok-everything.everything in
    let is : c.push.new.self.items ≡ all ∷ [] = c.in_ok-push.ensures.items ∙ ap (λ l. l ++ all ∷ []) c.new-cubes.ensures.items in
    let cuts = rw c.in-Some.is at c.in_ok-cubes.ensures in
    let o = IsOver-whole size c.args.region.now all c.push.new.self.items c.args.rows.now c.in-Some.cubes.items c.in_ok-everything.ensures.value c.in_ok-everything.ensures.is_cube.some_output c.requires.region is cuts in
    let are = subst (AreCubes size) (sym c.deref.ensures.value)
    (IsOver-absorbed size c.args.region.now (λ p. not (places c.args.rows.now p)) c.in-Some.cubes.items c.in_ok-cubes-2.cubes.items c.in_ok-cubes-2.ensures o).are_cubes in
    AreCubes-largest size c.deref.result.now c.in_ok-cubes-3.cubes.items (c.in_ok-cubes-3.ensures size are) are

pub returns-clause-sum : goal.returns-clause-sum
returns-clause-sum c =
    let size = c.args.shape in
    let region = c.args.region.now in
    let rows = c.args.rows.now in
    let all = c.in_ok-everything.everything in
    let is : c.push.new.self.items ≡ all ∷ [] = c.in_ok-push.ensures.items ∙ ap (λ l. l ++ all ∷ []) c.new-cubes.ensures.items in
    let cuts = rw c.in-Some.is at c.in_ok-cubes.ensures in
    let o = IsOver-whole size region all c.push.new.self.items rows c.in-Some.cubes.items c.in_ok-everything.ensures.value c.in_ok-everything.ensures.is_cube.some_output c.requires.region is cuts in
    let a = IsOver-absorbed size region (λ p. not (places rows p)) c.in-Some.cubes.items c.in_ok-cubes-2.cubes.items c.in_ok-cubes-2.ensures o in
    c.in_ok-cubes-3.ensures size (subst (AreCubes size) (sym c.deref.ensures.value) a.are_cubes) ∙ ap (largest size) c.deref.ensures.value
    ∙ largest-sum_containing size region (λ p. not (places rows p)) c.in_ok-cubes-2.cubes.items c.in_ok-cubes-2.ensures.rising a c.requires.region
