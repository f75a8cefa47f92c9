use Rattle.std.proofs.Common.{◌≡◌, map, length}
use Rattle.std.specs.Prelude.{option_map, None}
use Rattle.std.specs.List.{AllByRecursion, list_all}
use Rattle.covering.specs.Cover.{meets, counted}
use Rattle.covering.specs.Choices.{choices, best_of}
use Rattle.itertools.specs.Pool.{combination_left}
use Rattle.covering.proofs.Ways.{picks, AreBelow}
use Rattle.covering.proofs.exhaustive.best_choice.Given as goal

abbrev pub invariant-loop-chosen : goal.invariant-loop-chosen
invariant-loop-chosen l = record {
  pool : l.chosen-iterator.pool.items ≡ l.live;
  below : AllByRecursion (AreBelow (length l.live)) (combination_left l.chosen-iterator);
  left : best_of (counted l.choice l.literals) (λ s. list_all (λ row. meets s row.items) l.rows) None (choices l.size l.live) ≡ best_of (counted l.choice l.literals) (λ s. list_all (λ row. meets s row.items) l.rows) (option_map (λ v. v.items) l.best) (map (picks l.live) (combination_left l.chosen-iterator));
}
