use Rattle.std.proofs.Common.{◌++◌, ◌∷◌, ap, sym, subst, ◌∙◌, [], Some, None, take}
use Rattle.std.specs.Option.{option_copied}
use Rattle.std.proofs.lemmas.List.{append-nil}
use Rattle.cube.specs.Cube.{HasSize}
use Rattle.minimum.specs.Primes.{chosen}
use Rattle.minimum.proofs.LeastPrimes.{chosen_next}
use Rattle.minimum.proofs.cubes.cubes_at.Goals as goal
use Rattle.minimum.proofs.cubes.cubes_at.Goals.{in-Some+in_ok-add_copy, in_default}

pub add_copy-requires : goal.add_copy-requires
add_copy-requires c = subst (HasSize c.in-Some.cube.now) (sym c.loop-number.invariant.size) c.in-Some.ensures.is_cube.has_size

pub loop-number-preserved : goal.loop-number-preserved
loop-number-preserved c =
    let cubes = c.args.list.now.cubes in
    let next = chosen_next cubes c.args.numbers.now c.loop-number.number-index c.loop-number-test.true in
    elim c.match-get.branch [
      | in-Some+in_ok-add_copy w ↦ record {
        size = ap (λ l. l.size) w.picked-is ∙ w.in_ok-add_copy.ensures.size ∙ c.loop-number.invariant.size;
        cubes = ap (λ l. l.cubes) w.picked-is ∙ w.in_ok-add_copy.ensures.cubes ∙ ap (λ l. l ++ w.in-Some.cube.now ∷ []) c.loop-number.invariant.cubes ∙ sym (next (Some w.in-Some.cube.now) w.in-Some.ensures.value);
      }
      | in_default w ↦ record {
        size = ap (λ l. l.size) w.picked-is ∙ c.loop-number.invariant.size;
        cubes = ap (λ l. l.cubes) w.picked-is ∙ c.loop-number.invariant.cubes ∙ sym (append-nil (chosen cubes (take c.loop-number.number-index c.args.numbers.now))) ∙ sym (next None (ap option_copied (sym w.in_default.is) ∙ c.get.ensures.value));
      }
    ]
