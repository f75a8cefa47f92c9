-- The flaws of a description's three sets, by the lists that its type gives.
use Rattle.std.proofs.Common.{◌≡◌, ◌∙◌, Bool, true, false, not, ◌||◌, List, [], ◌++◌, refl, ap, sym, inl, inr}
use Rattle.std.proofs.lemmas.Bool.{cases_Bool, or_left, or_right}
use Rattle.std.proofs.lemmas.List.Folds.{list_any-append}
use Rattle.cube.specs.Cube.{Cube, Place, holds, IsSubset}
use Rattle.cover.specs.Places.{holds_all, places, share_place}
use Rattle.cover.proofs.SumPlaces.{none-shares, outside-shares, shares-none, shares-outside, whole-outside}
use Rattle.pla.specs.declared.file_type.FileType.{FileType}
use Rattle.pla.specs.declared.file_type.FileType.TheVariants.{F, Fd, Fr, Fdr}
use Rattle.pla.specs.Completed.{dc_list, off_list, outside}
use Rattle.pla.specs.Description.{Description}
use Rattle.pla.specs.Sets.{SetLists}
use Rattle.espresso.specs.declared.check.Flaws.{Flaws}
use Rattle.espresso.specs.Check.{flaws_of}

-- the three sets of a description, by a type
abbrev pub sets_by : FileType → Description → SetLists
sets_by t d = record { size = d.size; on = d.on; dc = dc_list t true d; off = off_list t true d }

-- the flaws that the given lists show
abbrev pub shown : FileType → Description → Flaws
shown F d = record { on_dc = false; on_off = false; dc_off = false; gap = false }
shown Fd d = record { on_dc = share_place d.size (places d.on) (places d.dc); on_off = false; dc_off = false; gap = false }
shown Fr d = record { on_dc = false; on_off = share_place d.size (places d.on) (places d.off); dc_off = false; gap = false }
shown Fdr d = record {
  on_dc = share_place d.size (places d.on) (places d.dc);
  on_off = share_place d.size (places d.on) (places d.off);
  dc_off = share_place d.size (places d.dc) (places d.off);
  gap = not (holds_all d.size (λ p. places d.on p || places d.dc p || places d.off p));
}

-- the places of two lists together
front : (xs ys : List Cube) → IsSubset (places xs) (places (xs ++ ys))
front xs ys p h = list_any-append (λ (c : Cube). holds c p) xs ys ∙ or_left (places xs p) (places ys p) h

back : (xs ys : List Cube) → IsSubset (places ys) (places (xs ++ ys))
back xs ys p h = list_any-append (λ (c : Cube). holds c p) xs ys ∙ or_right (places xs p) (places ys p) h

either : (xs ys : List Cube) (t : Place → Bool) → IsSubset (places xs) t → IsSubset (places ys) t → IsSubset (places (xs ++ ys)) t
either xs ys t in_xs in_ys p h = elim (cases_Bool (places xs p)) [
  | inl on ↦ in_xs p on
  | inr off ↦ in_ys p (ap (λ b. b || places ys p) (sym off) ∙ sym (list_any-append (λ (c : Cube). holds c p) xs ys) ∙ h)
]

module _ (on dc off : List Cube) where
  abbrev all : Place → Bool
  all p = places on p || places dc p || places off p

  first : IsSubset (places on) all
  first p h = or_left (places on p || places dc p) (places off p) (or_left (places on p) (places dc p) h)

  second : IsSubset (places dc) all
  second p h = or_left (places on p || places dc p) (places off p) (or_right (places on p) (places dc p) h)

  third : IsSubset (places off) all
  third p h = or_right (places on p || places dc p) (places off p) h

-- the places of three lists, one behind the other
pub places-of-three : (on dc off : List Cube) → places (on ++ dc ++ off) ≡ all on dc off
places-of-three on dc off i p =
    (list_any-append (λ (c : Cube). holds c p) (on ++ dc) off ∙ ap (λ b. b || places off p) (list_any-append (λ (c : Cube). holds c p) on dc)) i

-- a list that is computed shares no place with the given ones, and with them leaves no gap
pub flaws-shown : (t : FileType) (d : Description) → shown t d ≡ flaws_of (sets_by t d)
flaws-shown F d =
    let off = outside d.size d.on in
    λ i. record {
      on_dc = sym (shares-none d.size (places d.on)) i;
      on_off = sym (shares-outside d.size (places d.on) (places d.on) (λ p h. h)) i;
      dc_off = sym (none-shares d.size (places off)) i;
      gap = sym (ap not (whole-outside d.size (all d.on [] off) (places d.on) (first d.on [] off) (third d.on [] off))) i;
    }
flaws-shown Fd d =
    let both = d.on ++ d.dc in
    let off = outside d.size both in
    λ i. record {
      on_dc = share_place d.size (places d.on) (places d.dc);
      on_off = sym (shares-outside d.size (places d.on) (places both) (front d.on d.dc)) i;
      dc_off = sym (shares-outside d.size (places d.dc) (places both) (back d.on d.dc)) i;
      gap = sym (ap not (whole-outside d.size (all d.on d.dc off) (places both)
          (either d.on d.dc (all d.on d.dc off) (first d.on d.dc off) (second d.on d.dc off)) (third d.on d.dc off))) i;
    }
flaws-shown Fr d =
    let both = d.on ++ d.off in
    let dc = outside d.size both in
    λ i. record {
      on_dc = sym (shares-outside d.size (places d.on) (places both) (front d.on d.off)) i;
      on_off = share_place d.size (places d.on) (places d.off);
      dc_off = sym (outside-shares d.size (places d.off) (places both) (back d.on d.off)) i;
      gap = sym (ap not (whole-outside d.size (all d.on dc d.off) (places both)
          (either d.on d.off (all d.on dc d.off) (first d.on dc d.off) (third d.on dc d.off)) (second d.on dc d.off))) i;
    }
flaws-shown Fdr d = refl
