-- Rows that become one, and lists that stand for others.
use Rattle.std.proofs.Common.{◌≡◌, ℕ, zero, suc, ◌+◌, ◌<◌, Bool, true, false, ◌&&◌, ◌||◌, List, [], ◌∷◌, ◌++◌, length, get_or, set, slice_get, IsTrue, refl, ap, sym, subst, ◌∙◌, arith, inl, inr, append_assoc}
use Rattle.std.specs.Prelude.{Some}
use Rattle.std.proofs.lemmas.Bool.{and_parts, and_from, or_left, or_right, or_cases}
use Rattle.std.proofs.lemmas.List.{length-set, length-append}
use Rattle.std.proofs.lemmas.Option.{get_or_from_slice_get}
use Rattle.cube.specs.declared.symbol.Symbol.{Symbol}
use Rattle.cube.specs.declared.symbol.Symbol.TheVariants.{Dash, Zero, One}
use Rattle.cube.specs.Pattern.{agrees, matches}
use Rattle.cube.specs.Sharp.{opposite}
use Rattle.cube.specs.Cube.{Cube, Place, IsSubset, holds, with_symbol}
use Rattle.rows.specs.Cubes.{Cubes}
use Rattle.rows.specs.Marks.{is_symbol}
use Rattle.cover.specs.Merging.{Adds, IsUnion, StandsFor}
use Rattle.rows.specs.Places.{places}
use Rattle.rows.proofs.ContainmentLemmas.{is_symbol-same}
use Rattle.rows.proofs.Everywhere.{same_test}
use Rattle.rows.proofs.SumMeets.{places-append}
use Rattle.rows.proofs.SumSplit.{holds-own}

-- ---- two rows

-- a bit agrees with a literal or with its opposite
both_sides : (s : Symbol) (bit h : Bool) → h ≡ ((agrees s bit && h) || (agrees (opposite s) bit && h))
both_sides Dash bit true = refl
both_sides Dash bit false = refl
both_sides Zero true true = refl
both_sides Zero true false = refl
both_sides Zero false true = refl
both_sides Zero false false = refl
both_sides One true true = refl
both_sides One true false = refl
both_sides One false true = refl
both_sides One false false = refl

-- rows that are one but for opposite literals
pub merged_union : (a b f g : Cube) (i : ℕ) (s t : Symbol) → i < length a.symbols → i < length b.symbols → slice_get a.symbols i ≡ Some s → slice_get b.symbols i ≡ Some t
    → is_symbol t (opposite s) ≡ true → f ≡ with_symbol a i Dash → g ≡ with_symbol b i Dash → f ≡ g → IsUnion a b f
merged_union a b f g i s t lt_a lt_b at_a at_b is e_f e_g e p =
    let bit = get_or p.point i false in
    let own : holds a p ≡ (agrees s bit && holds f p) =
    holds-own a i p lt_a
    ∙ ap (λ x. agrees x bit && holds (with_symbol a i Dash) p) (get_or_from_slice_get a.symbols i s Dash at_a)
    ∙ ap (λ c. agrees s bit && holds c p) (sym e_f) in
    let other : holds b p ≡ (agrees (opposite s) bit && holds f p) =
    holds-own b i p lt_b
    ∙ ap (λ x. agrees x bit && holds (with_symbol b i Dash) p) (get_or_from_slice_get b.symbols i t Dash at_b ∙ is_symbol-same t (opposite s) is)
    ∙ ap (λ c. agrees (opposite s) bit && holds c p) (sym e_g ∙ sym e) in
    both_sides s bit (holds f p) ∙ ap (λ x. x || (agrees (opposite s) bit && holds f p)) (sym own) ∙ ap (λ x. holds a p || x) (sym other)

joined_bits : (ma mb oa ob c : Bool) → c ≡ ((ma && mb) && (oa || ob)) → ((ma && oa) ≡ true → c ≡ true) → ((mb && ob) ≡ true → c ≡ true) → c ≡ ((ma && oa) || (mb && ob))
joined_bits ma mb oa ob c e in_a in_b = same_test {P = IsTrue ((ma && oa) || (mb && ob))} c ((ma && oa) || (mb && ob)) (to, from) (λ h. h, λ h. h)
  where
    to : c ≡ true → ((ma && oa) || (mb && ob)) ≡ true
    to t =
        let parts = and_parts (ma && mb) (oa || ob) (sym e ∙ t) in
        let both = and_parts ma mb parts.0 in
        elim (or_cases oa ob parts.1) [
          | inl o ↦ or_left (ma && oa) (mb && ob) (and_from ma oa both.0 o)
          | inr o ↦ or_right (ma && oa) (mb && ob) (and_from mb ob both.1 o)
        ]

    from : ((ma && oa) || (mb && ob)) ≡ true → c ≡ true
    from h = elim (or_cases (ma && oa) (mb && ob) h) [ inl x ↦ in_a x | inr x ↦ in_b x ]

-- the consensus at the outputs, where it contains both rows
pub joined_union : (a b c : Cube) → ((p : Place) → holds c p ≡ ((matches a.symbols p.point && matches b.symbols p.point) && (get_or a.outputs p.output false || get_or b.outputs p.output false)))
    → IsSubset (holds a) (holds c) → IsSubset (holds b) (holds c) → IsUnion a b c
joined_union a b c is in_a in_b p =
    joined_bits (matches a.symbols p.point) (matches b.symbols p.point) (get_or a.outputs p.output false) (get_or b.outputs p.output false) (holds c p)
    (is p) (in_a p) (in_b p)

-- ---- a list with one more row

or_group : (a b c : Bool) → (a || (b || c)) ≡ ((a || b) || c)
or_group true b c = refl
or_group false b c = refl

or_exchange : (r d s : Bool) → ((r || d) || s) ≡ ((d || s) || (r || false))
or_exchange true true s = refl
or_exchange true false true = refl
or_exchange true false false = refl
or_exchange false true s = refl
or_exchange false false true = refl
or_exchange false false false = refl

places-set : (cs : List Cube) (i : ℕ) (row c : Cube) (p : Place) → i < length cs → holds c p ≡ (holds row p || holds (get_or cs i c) p)
    → places (set cs i c) p ≡ (places cs p || places (row ∷ []) p)
places-set [] i row c p lt e = absurd (omega arith)
places-set (d ∷ ds) zero row c p lt e = ap (λ x. x || places ds p) e ∙ or_exchange (holds row p) (holds d p) (places ds p)
places-set (d ∷ ds) (suc i) row c p lt e = ap (λ x. holds d p || x) (places-set ds i row c p (omega arith) e) ∙ or_group (holds d p) (places ds p) (places (row ∷ []) p)

pub Adds-put : (old new : Cubes) (i : ℕ) (row c : Cube) → i < length old.cubes → new.size ≡ old.size → new.cubes ≡ set old.cubes i c → IsUnion row (get_or old.cubes i c) c
    → Adds old (row ∷ []) new
Adds-put old new i row c lt size is union = record {
  size = size;
  places = λ p. ap (λ l. places l p) is ∙ places-set old.cubes i row c p lt (union p);
  no_more = let e : length new.cubes ≡ length old.cubes = ap length is ∙ length-set old.cubes i c in omega arith;
}

pub Adds-end : (old new : Cubes) (row : Cube) → new.size ≡ old.size → new.cubes ≡ old.cubes ++ row ∷ [] → Adds old (row ∷ []) new
Adds-end old new row size is = record {
  size = size;
  places = λ p. ap (λ l. places l p) is ∙ places-append old.cubes (row ∷ []) p;
  no_more = let e : length new.cubes ≡ length old.cubes + length (row ∷ []) = ap length is ∙ length-append old.cubes (row ∷ []) in omega arith;
}

-- ---- rows added one by one

-- of the rows some wait, and the others were added
pub record AddsRest (old : Cubes) (more waiting : List Cube) (new : Cubes) : Type 0 where
  pub done : List Cube
  pub all : more ≡ waiting ++ done
  pub added : Adds old done new

pub AddsRest-none : (old : Cubes) (more : List Cube) → AddsRest old more more old
AddsRest-none old more = record {
  done = [];
  all = sym (append-nil' more);
  added = record { size = refl; places = λ p. or-none (places old.cubes p); no_more = omega arith };
}
  where
    append-nil' : (l : List Cube) → l ++ [] ≡ l
    append-nil' [] = refl
    append-nil' (x ∷ xs) = ap (λ l. x ∷ l) (append-nil' xs)

    or-none : (b : Bool) → b ≡ (b || false)
    or-none true = refl
    or-none false = refl

pub AddsRest-more : (old : Cubes) (more waiting left : List Cube) (row : Cube) (new next : Cubes) → AddsRest old more waiting new → waiting ≡ left ++ row ∷ [] → Adds new (row ∷ []) next
    → AddsRest old more left next
AddsRest-more old more waiting left row new next before popped step = record {
  done = row ∷ before.done;
  all = before.all ∙ ap (λ l. l ++ before.done) popped ∙ append_assoc left (row ∷ []) before.done;
  added = record {
    size = step.size ∙ before.added.size;
    places = λ p. step.places p ∙ ap (λ x. x || places (row ∷ []) p) (before.added.places p) ∙ or_last (places old.cubes p) (places before.done p) (holds row p);
    no_more = let one = step.no_more in let rest = before.added.no_more in omega arith;
  };
}
  where
    or_last : (o d r : Bool) → ((o || d) || (r || false)) ≡ (o || (r || d))
    or_last true d r = refl
    or_last false true true = refl
    or_last false true false = refl
    or_last false false true = refl
    or_last false false false = refl

pub AddsRest-all : (old : Cubes) (more : List Cube) (new : Cubes) → AddsRest old more [] new → Adds old more new
AddsRest-all old more new h = subst (λ l. Adds old l new) (sym h.all) h.added

-- ---- lists that stand for others

pub StandsFor-same : (old : Cubes) → StandsFor old old
StandsFor-same old = record { size = refl; places = λ p. refl; no_more = omega arith }

pub StandsFor-next : (old new next : Cubes) → StandsFor old new → StandsFor new next → StandsFor old next
StandsFor-next old new next one other = record {
  size = other.size ∙ one.size;
  places = λ p. other.places p ∙ one.places p;
  no_more = let a = one.no_more in let b = other.no_more in omega arith;
}

-- all rows of a list added to none
pub StandsFor-added : (none' rows new : Cubes) → none' ≡ record { size = rows.size; cubes = [] } → Adds none' rows.cubes new → StandsFor rows new
StandsFor-added none' rows new e added = record {
  size = added.size ∙ ap (λ (c : Cubes). c.size) e;
  places = λ p. added.places p ∙ ap (λ (c : Cubes). places c.cubes p || places rows.cubes p) e;
  no_more = let n : length none'.cubes ≡ 0 = ap (λ (c : Cubes). length c.cubes) e in let a = added.no_more in omega arith;
}
