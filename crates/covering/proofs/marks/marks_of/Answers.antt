use Rattle.std.proofs.Common.{◌≡◌, ◌∙◌, ℕ, inl, inr, Bool, true, false, not, ◌&&◌, ◌<◌, List, nat_lt, map, refl, sym, ap, arith}
use Rattle.std.specs.List.{range_with_len}
use Rattle.std.proofs.lemmas.Bool.{cases_lt, lt-ltb, le-ltb}
use Rattle.std.proofs.lemmas.Result.{IfOk-weaker}
use Rattle.std.proofs.lemmas.List.{get_or_past}
use Rattle.std.proofs.lemmas.List.FromFn.{length-map-range_with_len}
use Rattle.covering.specs.Table.{has}
use Rattle.covering.specs.Search.{marked}
use Rattle.covering.proofs.Lagrange.{marks_at}
use Rattle.covering.proofs.marks.marks_of.Goals as goal

twice : (b : Bool) → not (not b) ≡ b
twice true = refl
twice false = refl

at_each : (columns : List ℕ) (marks : List Bool) (end : ℕ) → ((n : ℕ) → n < end → marked marks n ≡ not (has n columns)) → (n : ℕ) → marked (map (λ k. not (marked marks k)) (range_with_len 0 end)) n ≡ (nat_lt n end && has n columns)
at_each columns marks end h n = elim (cases_lt n end) [
  | inl l ↦ marks_at test end n l ∙ ap not (h n l) ∙ twice (has n columns) ∙ sym (ap (λ b. b && has n columns) (lt-ltb n end l))
  | inr l ↦ get_or_past (map test (range_with_len 0 end)) n false (let k = length-map-range_with_len test 0 end in omega arith) ∙ sym (ap (λ b. b && has n columns) (le-ltb n end l))
]
  where
    test : ℕ → Bool
    test k = not (marked marks k)

pub returns : goal.returns
returns c = IfOk-weaker c.others.result _ _ (λ v e n.
    ap (λ xs. marked xs n) (e ∙ ap (λ ms. map (λ k. not (marked ms k)) (range_with_len 0 c.args.end)) c.deref.ensures.value)
    ∙ at_each c.args.columns.now c.in_ok-others_marked.others_marked.items c.args.end c.in_ok-others_marked.ensures n) c.others.ensures
