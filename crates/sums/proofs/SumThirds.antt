-- Lists cut in three by their symbols at an input, and the meets of their parts.
use Rattle.std.proofs.Common.{◌≡◌, ℕ, ◌<◌, Bool, true, false, ◌&&◌, List, [], ◌++◌, take, drop, get_or, All, refl, ap, sym, subst, ◌∙◌, arith, append_assoc, inl, inr}
use Rattle.std.proofs.lemmas.Bool.{cases_Bool, false≢true, and_parts}
use Rattle.std.proofs.lemmas.List.{append-nil, take-append-drop}
use Rattle.std.proofs.lemmas.List.Elements.{All-nil, All-same, All-take, All-drop}
use Rattle.cube.specs.declared.symbol.Symbol.{Symbol}
use Rattle.cube.specs.declared.symbol.Symbol.TheVariants.{Dash, Zero, One}
use Rattle.cube.specs.Size.{Size}
use Rattle.cube.specs.Pattern.{agrees, matches}
use Rattle.cube.specs.Cube.{Cube, Place, holds, IsCube}
use Rattle.cube.proofs.HoldsLemmas.{agrees_at-matches}
use Rattle.rows.specs.Cubes.{AreCubes}
use Rattle.rows.specs.Places.{places}
use Rattle.rows.specs.Reduced.{IsMeets, IsMeetsWithBoth, IsInThirds}
use Rattle.rows.proofs.Lists.{all_members, list_any_witness}
use Rattle.rows.proofs.SumMeets.{IsMeets-rows, IsMeets-others}

-- the pieces of a list cut twice
pub IsInThirds-cut : (size : Size) (i : ℕ) (cubes dashes rest zeros ones : List Cube) (m n : ℕ) → AreCubes size cubes
    → dashes ≡ take m cubes → rest ≡ drop m cubes → zeros ≡ take n rest → ones ≡ drop n rest
    → All (λ c. get_or c.symbols i Dash ≡ Zero) zeros → All (λ c. get_or c.symbols i Dash ≡ One) ones
    → IsInThirds size i cubes dashes zeros ones
IsInThirds-cut size i cubes dashes rest zeros ones m n are d r z o all_zeros all_ones =
    let rest_cubes = All-same (IsCube size) rest (drop m cubes) r (All-drop (IsCube size) m cubes are) in
    record {
      all = sym (take-append-drop m cubes) ∙ ap (λ l. l ++ drop m cubes) (sym d) ∙ ap (λ l. dashes ++ l) (sym r)
          ∙ ap (λ l. dashes ++ l) (sym (take-append-drop n rest)) ∙ ap (λ l. dashes ++ (l ++ drop n rest)) (sym z) ∙ ap (λ l. dashes ++ (zeros ++ l)) (sym o)
          ∙ sym (append_assoc dashes zeros ones);
      dash_cubes = All-same (IsCube size) dashes (take m cubes) d (All-take (IsCube size) m cubes are);
      zero_cubes = All-same (IsCube size) zeros (take n rest) z (All-take (IsCube size) n rest rest_cubes);
      one_cubes = All-same (IsCube size) ones (drop n rest) o (All-drop (IsCube size) n rest rest_cubes);
      zeros_at = all_zeros;
      ones_at = all_ones;
    }

-- a place in two lists has a bit that both symbols agree with
apart_at : (size : Size) (i : ℕ) (s t : Symbol) (cubes others : List Cube) → i < size.inputs → AreCubes size cubes → AreCubes size others
    → All (λ c. get_or c.symbols i Dash ≡ s) cubes → All (λ c. get_or c.symbols i Dash ≡ t) others
    → ((b : Bool) → agrees s b ≡ true → agrees t b ≡ true → ⊥) → (p : Place) → false ≡ (places cubes p && places others p)
apart_at size i s t cubes others lt are are' own own' apart p = elim (cases_Bool (places cubes p && places others p)) [
  | inl on ↦
      let both = and_parts (places cubes p) (places others p) on in
      let c = list_any_witness (λ (c : Cube). holds c p) cubes both.0 in
      let d = list_any_witness (λ (c : Cube). holds c p) others both.1 in
      absurd (apart (get_or p.point i false)
      (ap (λ x. agrees x (get_or p.point i false)) (sym (all_members (λ e. get_or e.symbols i Dash ≡ s) cubes own c.0 c.1)) ∙ bit c.0 (all_members (IsCube size) cubes are c.0 c.1) c.2)
      (ap (λ x. agrees x (get_or p.point i false)) (sym (all_members (λ e. get_or e.symbols i Dash ≡ t) others own' d.0 d.1)) ∙ bit d.0 (all_members (IsCube size) others are' d.0 d.1) d.2))
  | inr off ↦ sym off
]
  where
    bit : (e : Cube) → IsCube size e → holds e p ≡ true → agrees (get_or e.symbols i Dash) (get_or p.point i false) ≡ true
    bit e cube held = agrees_at-matches e.symbols p.point i (and_parts (matches e.symbols p.point) (get_or e.outputs p.output false) held).0 (omega (arith, cube.has_size.0))

other_literals : (b : Bool) → agrees Zero b ≡ true → agrees One b ≡ true → ⊥
other_literals true h g = false≢true h
other_literals false h g = false≢true g

module _ (size : Size) (i : ℕ) (lt : i < size.inputs) (rows dashes zeros ones others dashes' zeros' ones' : List Cube)
    (mine : IsInThirds size i rows dashes zeros ones) (theirs : IsInThirds size i others dashes' zeros' ones') where
  zeros_apart : IsMeets size zeros ones' []
  zeros_apart = record {
    are_cubes = All-nil (IsCube size);
    places = apart_at size i Zero One zeros ones' lt mine.zero_cubes theirs.one_cubes mine.zeros_at theirs.ones_at other_literals;
    literals = λ k h g. refl;
  }

  ones_apart : IsMeets size ones zeros' []
  ones_apart = record {
    are_cubes = All-nil (IsCube size);
    places = apart_at size i One Zero ones zeros' lt mine.one_cubes theirs.zero_cubes mine.ones_at theirs.zeros_at (λ b h g. other_literals b g h);
    literals = λ k h g. refl;
  }

  pub IsMeets-thirds : (first dn second third all : List Cube) → IsMeetsWithBoth size dashes dashes' zeros' first → IsMeets size dashes ones' dn
      → IsMeetsWithBoth size zeros dashes' zeros' second → IsMeetsWithBoth size ones dashes' ones' third
      → all ≡ ((first ++ dn) ++ second) ++ third → IsMeets size rows others all
  IsMeets-thirds first dn second third all a c d f is =
      let each = (dashes' ++ zeros') ++ ones' in
      let front = (a.front ++ a.back) ++ dn in
      let middle = d.front ++ d.back in
      let of_dashes = IsMeets-others size dashes (dashes' ++ zeros') ones' (a.front ++ a.back) dn (IsMeets-others size dashes dashes' zeros' a.front a.back a.of_others a.of_more) c in
      let of_zeros = IsMeets-others size zeros (dashes' ++ zeros') ones' middle [] (IsMeets-others size zeros dashes' zeros' d.front d.back d.of_others d.of_more) zeros_apart in
      let of_ones = IsMeets-others size ones (dashes' ++ zeros') ones' (f.front ++ []) f.back (IsMeets-others size ones dashes' zeros' f.front [] f.of_others ones_apart) f.of_more in
      let whole = IsMeets-rows size (dashes ++ zeros) ones each (front ++ (middle ++ [])) ((f.front ++ []) ++ f.back)
      (IsMeets-rows size dashes zeros each front (middle ++ []) of_dashes of_zeros) of_ones in
      let same : (front ++ (middle ++ [])) ++ ((f.front ++ []) ++ f.back) ≡ all =
      ap (λ l. (front ++ l) ++ ((f.front ++ []) ++ f.back)) (append-nil middle)
      ∙ ap (λ l. (front ++ middle) ++ (l ++ f.back)) (append-nil f.front)
      ∙ ap (λ l. ((l ++ dn) ++ middle) ++ (f.front ++ f.back)) (sym a.all)
      ∙ ap (λ l. ((first ++ dn) ++ l) ++ (f.front ++ f.back)) (sym d.all)
      ∙ ap (λ l. ((first ++ dn) ++ second) ++ l) (sym f.all)
      ∙ sym is in
      subst (λ l. IsMeets size l others all) (sym mine.all)
      (subst (λ l. IsMeets size ((dashes ++ zeros) ++ ones) l all) (sym theirs.all)
      (subst (IsMeets size ((dashes ++ zeros) ++ ones) each) same whole))
