-- The cover of the taken columns and some live ones.
use Rattle.std.proofs.Common.{◌≡◌, ℕ, inl, inr, Bool, true, ◌&&◌, ◌||◌, List, [], ◌∷◌, sym, subst, arith, Vec}
use Rattle.std.specs.Prelude.{filter}
use Rattle.std.specs.List.{AllByRecursion, list_all, range_with_len}
use Rattle.std.proofs.lemmas.Bool.{or_cases, or_left, or_right, and_parts}
use Rattle.covering.specs.Table.{Table, RisesFrom, has, IsTable, items_of}
use Rattle.covering.specs.Cover.{meets, IsCover}
use Rattle.covering.specs.Search.{marked}
use Rattle.covering.proofs.Sets.{filter_parts, filter_keeps, filter_rises}
use Rattle.covering.proofs.Rising.{range_rises, range_has}

abbrev pub chosen : Table → List Bool → ℕ → Bool
chosen t marks n = has n t.taken || (marked marks n && has n t.live)

pub all_met : {Z : Type 0} (s : List ℕ) (rows : List (Vec ℕ Z)) → list_all (λ row. meets s row.items) rows ≡ true → AllByRecursion (λ row. meets s row ≡ true) (items_of rows)
all_met s [] h = tt
all_met s (row ∷ rows) h = let p = and_parts (meets s row.items) _ h in (p.0, all_met s rows p.1)

pub chosen_cover : (t : Table) (marks : List Bool) (s : List ℕ) → IsTable t → s ≡ filter (chosen t marks) (range_with_len 0 t.columns) → AllByRecursion (λ row. meets s row ≡ true) t.rows → IsCover t s
chosen_cover t marks s w e rows = record {
  rises = subst (λ xs. RisesFrom 0 xs) (sym e) (filter_rises (chosen t marks) 0 (range_with_len 0 t.columns) (range_rises 0 t.columns));
  taken = λ n h. subst (λ xs. has n xs ≡ true) (sym e) (filter_keeps (chosen t marks) n (range_with_len 0 t.columns) (range_has n 0 t.columns (omega arith) (let b = w.taken_within n h in omega arith)) (or_left _ _ h));
  only = λ n h. let p = filter_parts (chosen t marks) n (range_with_len 0 t.columns) (subst (λ xs. has n xs ≡ true) e h) in
      elim (or_cases (has n t.taken) _ p.1) [ inl a ↦ or_left _ _ a | inr a ↦ or_right (has n t.taken) _ (and_parts (marked marks n) (has n t.live) a).1 ];
  rows = rows;
}
