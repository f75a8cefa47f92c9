use Rattle.std.proofs.Common.{◌≡◌, ◌∙◌, ◌++◌, ◌∷◌, [], List, All, ap, sym, subst}
use Rattle.std.specs.List.{Contains}
use Rattle.std.proofs.lemmas.List.Elements.{All-cons}
use Rattle.cube.specs.Cube.{Cube, IsCube}
use Rattle.sums.specs.Apart.{IsFree}
use Rattle.rows.specs.Cubes.{AreCubes}
use Rattle.sums.specs.Free.{AreWider}
use Rattle.rows.specs.Reduced.{HasSameCubes}
use Rattle.rows.proofs.Lists.{all_members}
use Rattle.sums.proofs.SumFree.{complete_sum-widened, complete_sum-with_constant_outputs}
use Rattle.sums.proofs.constant_outputs.with_constant_outputs.Goals as goal

pub returns-then-has_row_without_literals : goal.returns-then-has_row_without_literals
returns-then-has_row_without_literals c = λ size cubes rest own part left is.
    let sum = c.args.sum.items in
    let wide = c.in_ok-wide.wide.items in
    let widened = subst (λ l. AreCubes size l → AreWider size c.args.constant l wide) c.deref.ensures.value (λ h. c.in_ok-wide.ensures size h part.is_cube) own in
    let w = c.has_row_without_literals.ensures.some c.if-has_row_without_literals.true in
    complete_sum-widened size cubes rest c.args.constant part left sum wide is widened c.in_ok-sorted.sorted.items
    c.in_ok-sorted.ensures.rising c.in_ok-sorted.ensures.cubes w.0 (subst (λ l. Contains l w.0) c.deref-2.ensures.value w.1) w.2

pub sort_rows-requires-2 : goal.sort_rows-requires-2
sort_rows-requires-2 c =
    let size = c.requires.size.0 in
    let constant = c.args.constant in
    let wide = c.in_ok-wide.wide.items in
    let widened = c.in_ok-wide.ensures size (subst (AreCubes size) (sym c.deref.ensures.value) c.requires.size.1) c.requires.size.2 in
    let is_all : c.in_ok-all.all.items ≡ constant ∷ wide =
    c.in_ok-all.ensures ∙ ap (λ l. l ++ wide) (c.in_ok-push.ensures.items ∙ ap (λ l. l ++ constant ∷ []) c.new-all.ensures.items) in
    record { size = size; are_cubes = subst (AreCubes size) (sym is_all) (All-cons (IsCube size) constant wide c.requires.size.2 widened.are_cubes) }

pub returns : goal.returns
returns c = λ size cubes rest own part left is.
    let sum = c.args.sum.items in
    let wide = c.in_ok-wide.wide.items in
    let constant = c.args.constant in
    let widened = subst (λ l. AreCubes size l → AreWider size constant l wide) c.deref.ensures.value (λ h. c.in_ok-wide.ensures size h part.is_cube) own in
    let none' = subst (λ l. (m : Cube) → Contains l m → IsFree m → ⊥) c.deref-2.ensures.value (none_of c.deref-2.result.now (c.has_row_without_literals.ensures.none c.if-has_row_without_literals.false)) in
    let is_all : c.in_ok-all.all.items ≡ constant ∷ wide =
    c.in_ok-all.ensures ∙ ap (λ l. l ++ wide) (c.in_ok-push.ensures.items ∙ ap (λ l. l ++ constant ∷ []) c.new-all.ensures.items) in
    complete_sum-with_constant_outputs size cubes rest constant part left sum wide is widened c.in_ok-whole.whole.items
    c.in_ok-whole.ensures.rising (subst (λ l. HasSameCubes l c.in_ok-whole.whole.items) is_all c.in_ok-whole.ensures.cubes) none'
  where
    none_of : (l : List Cube) → All (λ m. IsFree m → ⊥) l → (m : Cube) → Contains l m → IsFree m → ⊥
    none_of l all m = all_members (λ m. IsFree m → ⊥) l all m
