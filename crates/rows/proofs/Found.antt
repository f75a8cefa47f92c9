-- What a cube is that a call found: a meet, or a cube of symbols and outputs.
use Rattle.std.proofs.Common.{◌≡◌, ◌∙◌, Bool, true, false, ◌&&◌, IsNone, IfNone, ◌↔◌, get_or, length, sym, subst, refl, inl, inr}
use Rattle.std.specs.Prelude.{Option, Some, None, IsSome, IfSome, List}
use Rattle.std.specs.List.{Contains, list_any}
use Rattle.std.specs.Option.{is_some}
use Rattle.std.proofs.lemmas.Bool.{cases_Bool, false≢true, and_parts, and_from}
use Rattle.cube.specs.declared.symbol.Symbol.{Symbol}
use Rattle.cube.specs.Size.{Size}
use Rattle.cube.specs.Pattern.{matches}
use Rattle.cube.specs.Cube.{Cube, Place, IsCube, IsDisjoint, SameSize, holds, intersection}
use Rattle.cube.proofs.SharpLemmas.{true_some}
use Rattle.rows.proofs.Lists.{list_any_from}

-- a cube with a place has its output
pub output_of_place : (c : Cube) (p : Place) → holds c p ≡ true → list_any (λ b. b) c.outputs ≡ true
output_of_place c p h = true_some c.outputs p.output (and_parts (matches c.symbols p.point) (get_or c.outputs p.output false) h).1

-- what holds if a call found none
pub told_by_none : {X : Type 0} (P : Type 0) (found : Option X) → IfNone found P → is_some found ≡ false → P
told_by_none P None h off = h
told_by_none P (Some x) h off = absurd (false≢true (sym off))

-- what a call that looks for the meet of two cubes has found: without a meet they share no place, and a meet has the size of the
-- first, and the places that both have
pub apart_from_none : (a b : Cube) (found : Option Cube) → (IsNone found ↔ IsDisjoint (holds a) (holds b)) → found ≡ None → IsDisjoint (holds a) (holds b)
apart_from_none a b found apart is = (subst (λ o. IsNone o ↔ IsDisjoint (holds a) (holds b)) is apart).0 refl

pub same_from_some : (a m : Cube) (found : Option Cube) → IfSome found (λ d. SameSize d a) → found ≡ Some m → SameSize m a
same_from_some a m found size is = subst (λ o. IfSome o (λ d. SameSize d a)) is size

pub part_from_some : (a b m : Cube) (found : Option Cube) → IfSome found (λ d. (p : Place) → holds d p ≡ intersection (holds a) (holds b) p) → found ≡ Some m
    → (p : Place) → holds m p ≡ intersection (holds a) (holds b) p
part_from_some a b m found both is = subst (λ o. IfSome o (λ d. (p : Place) → holds d p ≡ intersection (holds a) (holds b) p)) is both

-- a meet that was found has an output
pub meet_output : (a b m : Cube) (found : Option Cube) → found ≡ Some m → (IsNone found ↔ IsDisjoint (holds a) (holds b))
    → ((p : Place) → holds m p ≡ (holds a p && holds b p)) → list_any (λ b. b) m.outputs ≡ true
meet_output a b m found is none' both = elim (cases_Bool (list_any (λ x. x) m.outputs)) [
  | inl on ↦ on
  | inr off ↦
      let apart : IsDisjoint (holds a) (holds b) =
      λ p mine theirs. false≢true (sym off ∙ output_of_place m p (both p ∙ and_from (holds a p) (holds b p) mine theirs)) in
      absurd (false≢true (sym (subst IsNone is (none'.1 apart))))
]

-- so it is a cube of each size that the first has
pub meet_IsCube : (size : Size) (a b m : Cube) (found : Option Cube) → (length a.symbols ≡ size.inputs) × (length a.outputs ≡ size.outputs) → SameSize m a → found ≡ Some m
    → (IsNone found ↔ IsDisjoint (holds a) (holds b)) → ((p : Place) → holds m p ≡ (holds a p && holds b p)) → IsCube size m
meet_IsCube size a b m found has same is none' both = record {
  has_size = (same.0 ∙ has.0, same.1 ∙ has.1);
  some_output = meet_output a b m found is none' both;
}

-- a cube that was made of symbols and outputs has an output
pub made_output : (symbols : List Symbol) (outputs : List Bool) (c : Cube) (found : Option Cube) → found ≡ Some c → (IsSome found ↔ Contains outputs true)
    → c ≡ record { symbols = symbols; outputs = outputs } → list_any (λ b. b) c.outputs ≡ true
made_output symbols outputs c found is some value =
    let P : Cube → Type 0 = λ d. list_any (λ b. b) d.outputs ≡ true in
    subst P (sym value) (list_any_from (λ b. b) outputs true (some.0 (subst IsSome (sym is) refl)) refl)
