-- The order of covers, and that one is the least.
use Rattle.std.proofs.Common.{◌≡◌, ℕ, inl, inr, List, sym, subst, ◌∙◌, arith}
use Rattle.std.specs.Cmp.Lexicographic.{slice_cmp}
use Rattle.std.specs.Ordering.{nat_cmp, ordering_reverse}
use Rattle.std.specs.declared.cmp.Ordering.{Ordering}
use Rattle.std.specs.declared.cmp.Ordering.TheVariants.{Less, Equal, Greater}
use Rattle.std.proofs.lemmas.Cmp.{nat_list_cmp_total}
use Rattle.covering.specs.declared.choice.Choice.{Choice}
use Rattle.covering.specs.Table.{Table}
use Rattle.covering.specs.Cover.{IsBefore, Precedes, IsLeast, counted}

not_both : (o : Ordering) → o ≡ Less → ordering_reverse o ≡ Less → ⊥
not_both Less e f = cc
not_both Equal e f = cc
not_both Greater e f = cc

module _ (count : ℕ → ℕ) where
  before_trans : (s x y : List ℕ) → IsBefore count s x → IsBefore count x y → IsBefore count s y
  before_trans s x y (inl h) (inl k) = inl (omega arith)
  before_trans s x y (inl h) (inr k) = inl (omega (arith, k.0))
  before_trans s x y (inr h) (inl k) = inl (omega (arith, h.0))
  before_trans s x y (inr h) (inr k) = inr (h.0 ∙ k.0, nat_list_cmp_total.trans s x y h.1 k.1)

  before_asym : (s x : List ℕ) → IsBefore count s x → IsBefore count x s → ⊥
  before_asym s x (inl h) (inl k) = omega arith
  before_asym s x (inl h) (inr k) = omega (arith, k.0)
  before_asym s x (inr h) (inl k) = omega (arith, h.0)
  before_asym s x (inr h) (inr k) = not_both (slice_cmp nat_cmp s x) h.1 (sym (nat_list_cmp_total.antisymm x s) ∙ k.1)

  pub Precedes-trans : (s x y : List ℕ) → Precedes count s x → Precedes count x y → Precedes count s y
  Precedes-trans s x y (inl h) (inl k) = inl (omega arith)
  Precedes-trans s x y (inl h) (inr k) = inl (omega (arith, k.0))
  Precedes-trans s x y (inr h) (inl k) = inl (omega (arith, h.0))
  Precedes-trans s x y (inr h) (inr k) = inr (h.0 ∙ k.0, before_trans s x y h.1 k.1)

  pub Precedes-asym : (s x : List ℕ) → Precedes count s x → Precedes count x s → ⊥
  Precedes-asym s x (inl h) (inl k) = omega arith
  Precedes-asym s x (inl h) (inr k) = omega (arith, k.0)
  Precedes-asym s x (inr h) (inl k) = omega (arith, h.0)
  Precedes-asym s x (inr h) (inr k) = before_asym s x h.1 k.1

  pub Precedes-irrefl : (s x : List ℕ) → s ≡ x → Precedes count s x → ⊥
  Precedes-irrefl s x e h = Precedes-asym s x h (subst (λ z. Precedes count z s) e (subst (λ z. Precedes count s z) (sym e) h))

-- there is one least cover at most
pub IsLeast-unique : (choice : Choice) (t : Table) (s x : List ℕ) → IsLeast choice t s → IsLeast choice t x → s ≡ x
IsLeast-unique choice t s x h k = elim (h.first x k.cover) [
  | inl e ↦ e
  | inr p ↦ elim (k.first s h.cover) [ inl e ↦ sym e | inr q ↦ absurd (Precedes-asym (counted choice t.weights) s x p q) ]
]
