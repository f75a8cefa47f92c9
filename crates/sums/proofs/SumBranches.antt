-- The lists of the branches at an input stand for the set there.
use Rattle.std.proofs.Common.{◌≡◌, ℕ, ◌<◌, Bool, true, false, not, ◌&&◌, ◌||◌, List, ◌++◌, get_or, refl, ap, sym, subst, ◌∙◌}
use Rattle.std.specs.List.{Contains}
use Rattle.std.proofs.lemmas.List.Elements.{All-append}
use Rattle.cube.specs.declared.symbol.Symbol.TheVariants.{Dash, Zero, One}
use Rattle.cube.specs.Size.{Size}
use Rattle.cube.specs.Cube.{Cube, Place, holds, IsCube, IsSubset}
use Rattle.cube.proofs.Members.{list_any_none, list_any_false}
use Rattle.rows.specs.Cubes.{AreCubes}
use Rattle.rows.specs.Places.{places}
use Rattle.rows.specs.Complete.{literal, cofactor_at, consensus_at}
use Rattle.rows.specs.Marks.{is_symbol}
use Rattle.rows.specs.Parts.{part, has_literal}
use Rattle.rows.specs.Reduced.{IsMeets, IsBranch, IsAbsorbed, IsPartlyAbsorbed, HasSameCubes}
use Rattle.rows.proofs.Lists.{all_members, members_all, list_any_from, list_any_witness}
use Rattle.rows.proofs.SumParts.{AreCubes-part, places-cofactor_at, Frees-part, Frees-append, Frees-less}
use Rattle.rows.proofs.SumMeets.{places-append}

same_bool : (x y : Bool) → (x ≡ true → y ≡ true) → (y ≡ true → x ≡ true) → x ≡ y
same_bool true y to from = sym (to refl)
same_bool false true to from = from refl
same_bool false false to from = refl

-- a list of some of the cubes, in which each of them lies
module _ (cubes kept : List Cube) (within : (c : Cube) → Contains kept c → Contains cubes c)
    (over : (c : Cube) → Contains cubes c → (d : Cube) × Contains kept d × IsSubset (holds c) (holds d)) where
  pub places-kept : (p : Place) → places kept p ≡ places cubes p
  places-kept p = same_bool (places kept p) (places cubes p)
      (λ h. let r = list_any_witness (λ (c : Cube). holds c p) kept h in list_any_from (λ (c : Cube). holds c p) cubes r.0 (within r.0 r.1) r.2)
      (λ h.
      let r = list_any_witness (λ (c : Cube). holds c p) cubes h in
      let d = over r.0 r.1 in
      list_any_from (λ (c : Cube). holds c p) kept d.0 d.1 (d.2 p r.2))

  pub has_literal-kept : (k : ℕ) → has_literal k cubes ≡ false → has_literal k kept ≡ false
  has_literal-kept k h =
      let test = λ (c : Cube). not (is_symbol Dash (get_or c.symbols k Dash)) in
      list_any_false test kept (λ c m t. list_any_none test cubes c h (within c m) t)

pub IsBranch-absorbed : (size : Size) (i : ℕ) (cubes : List Cube) (s : Place → Bool) (all kept : List Cube) → IsBranch size i cubes s all
    → IsPartlyAbsorbed all kept → IsBranch size i cubes s kept
IsBranch-absorbed size i cubes s all kept branch absorbed = record {
  are_cubes = members_all (IsCube size) kept (λ c h. all_members (IsCube size) all branch.are_cubes c (absorbed.within c h));
  places = λ p. places-kept all kept absorbed.within absorbed.over p ∙ branch.places p;
  frees = Frees-less i cubes all kept (has_literal-kept all kept absorbed.within absorbed.over) branch.frees;
}

pub IsPartlyAbsorbed-absorbed : (cubes kept : List Cube) → IsAbsorbed cubes kept → IsPartlyAbsorbed cubes kept
IsPartlyAbsorbed-absorbed cubes kept h = record { within = h.within; over = h.over }

pub IsPartlyAbsorbed-same : (cubes kept : List Cube) → HasSameCubes cubes kept → IsPartlyAbsorbed cubes kept
IsPartlyAbsorbed-same cubes kept same = record { within = λ c h. (same c).1 h; over = λ c h. (c, (same c).0 h, λ p k. k) }

module _ (size : Size) (i : ℕ) (lt : i < size.inputs) (cubes : List Cube) (h : AreCubes size cubes) where
  pub IsBranch-both : (common : List Cube) → IsMeets size (part i Zero cubes) (part i One cubes) common
      → IsBranch size i cubes (consensus_at i (places cubes)) (part i Dash cubes ++ common)
  IsBranch-both common meets = record {
    are_cubes = All-append (IsCube size) (part i Dash cubes) common (AreCubes-part size i Dash cubes h) meets.are_cubes;
    places = λ p.
        let d = places (part i Dash cubes) p in
        let z = places (part i Zero cubes) p in
        let o = places (part i One cubes) p in
        places-append (part i Dash cubes) common p ∙ ap (λ x. d || x) (meets.places p) ∙ or_over_and d z o
        ∙ ap (λ x. x && (d || o)) (places-cofactor_at size i lt false cubes p h)
        ∙ ap (λ x. cofactor_at i false (places cubes) p && x) (places-cofactor_at size i lt true cubes p h);
    frees = Frees-append i cubes (part i Dash cubes) common (Frees-part size i Dash cubes lt h) (record {
      there = meets.literals i (Frees-part size i Zero cubes lt h).there (Frees-part size i One cubes lt h).there;
      others = λ k ne none'. meets.literals k ((Frees-part size i Zero cubes lt h).others k ne none') ((Frees-part size i One cubes lt h).others k ne none');
    });
  }
    where
      or_over_and : (d z o : Bool) → (d || (z && o)) ≡ ((d || z) && (d || o))
      or_over_and true z o = refl
      or_over_and false z o = refl

  -- the lists as the code makes them
  pub IsBranch-both_list : (dashes zeros ones common all : List Cube) → dashes ≡ part i Dash cubes → zeros ≡ part i Zero cubes → ones ≡ part i One cubes
      → IsMeets size zeros ones common → all ≡ dashes ++ common → IsBranch size i cubes (consensus_at i (places cubes)) all
  IsBranch-both_list dashes zeros ones common all d z o meets is =
      subst (IsBranch size i cubes (consensus_at i (places cubes))) (sym (is ∙ ap (λ l. l ++ common) d))
      (IsBranch-both common (subst (λ l. IsMeets size l (part i One cubes) common) z (subst (λ l. IsMeets size zeros l common) o meets)))

  -- those at one value: the cubes with its literal, and those without one
  pub IsBranch-side : (b : Bool) (side dashes all : List Cube) → side ≡ part i (literal b) cubes → dashes ≡ part i Dash cubes → all ≡ side ++ dashes
      → IsBranch size i cubes (cofactor_at i b (places cubes)) all
  IsBranch-side b side dashes all e d is =
      let own = part i (literal b) cubes in
      let free = part i Dash cubes in
      subst (IsBranch size i cubes (cofactor_at i b (places cubes))) (sym (is ∙ ap (λ l. l ++ dashes) e ∙ ap (λ l. own ++ l) d)) (record {
        are_cubes = All-append (IsCube size) own free (AreCubes-part size i (literal b) cubes h) (AreCubes-part size i Dash cubes h);
        places = λ p. places-append own free p ∙ swapped (places own p) (places free p) ∙ places-cofactor_at size i lt b cubes p h;
        frees = Frees-append i cubes own free (Frees-part size i (literal b) cubes lt h) (Frees-part size i Dash cubes lt h);
      })
    where
      swapped : (x y : Bool) → (x || y) ≡ (y || x)
      swapped true true = refl
      swapped true false = refl
      swapped false true = refl
      swapped false false = refl
