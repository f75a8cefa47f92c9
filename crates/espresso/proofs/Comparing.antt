-- Two files compared, by the lists that their types give.
use Rattle.std.proofs.Common.{◌≡◌, ◌∙◌, Bool, true, false, not, ◌&&◌, ◌||◌, List, ◌++◌, refl, ap, sym, subst, ◌↔◌, IsTrue}
use Rattle.cube.specs.Cube.{Cube, Place, IsPlace, IsSubset, intersection}
use Rattle.cover.specs.Places.{places}
use Rattle.cover.proofs.MaskedAgreement.{all_free}
use Rattle.cover.proofs.MeetsWithin.{IsSubset-meets}
use Rattle.cover.proofs.OffSets.{places-sum}
use Rattle.cover.proofs.SumMeets.{places-append}
use Rattle.pla.specs.declared.file_type.FileType.{FileType}
use Rattle.pla.specs.declared.file_type.FileType.TheVariants.{F, Fd, Fr, Fdr}
use Rattle.pla.specs.Completed.{dc_list}
use Rattle.pla.specs.Description.{Description}
use Rattle.espresso.specs.Comparing.{settled}

-- the places outside its ON list that a file settles
abbrev pub settles : FileType → List Cube → Place → Bool
settles F off p = true
settles Fd off p = true
settles Fr off p = places off p
settles Fdr off p = true

and_true : (x : Bool) → x ≡ (x && true)
and_true true = refl
and_true false = refl

settled-by : (t : FileType) (off : List Cube) (s : Place → Bool) (p : Place) → settled t off s p ≡ (s p && settles t off p)
settled-by F off s p = and_true (s p)
settled-by Fd off s p = and_true (s p)
settled-by Fr off s p = refl
settled-by Fdr off s p = and_true (s p)

-- no place more is a don't-care
none_more : (x s : Bool) → x ≡ (x || not (s || true))
none_more true s = refl
none_more false true = refl
none_more false false = refl

-- the DC list, by the cubes that are listed and the places that are not settled
dc-listed : (t : FileType) (d : Description) (p : Place) → IsPlace d.size p
    → places (dc_list t true d) p ≡ (places (dc_list t false d) p || not (places d.on p || settles t d.off p))
dc-listed F d p place = none_more false (places d.on p)
dc-listed Fd d p place = none_more (places d.dc p) (places d.on p)
dc-listed Fr d p place = places-sum d.size (λ q. not (places (d.on ++ d.off) q)) p place ∙ ap not (places-append d.on d.off p)
dc-listed Fdr d p place = none_more (places d.dc p) (places d.on p)

regrouped : (a x b y : Bool) → ((a || x) || (b || y)) ≡ ((a || b) || (x || y))
regrouped true x b y = refl
regrouped false true true y = refl
regrouped false true false y = refl
regrouped false false b y = refl

module _ (d e : Description) (same : e.size ≡ d.size) where
  pub dcs-free : (p : Place) → IsPlace d.size p
      → places (dc_list d.file_type true d ++ dc_list e.file_type true e) p
      ≡ all_free (places d.on) (places e.on) (places (dc_list d.file_type false d ++ dc_list e.file_type false e)) (settles d.file_type d.off) (settles e.file_type e.off) p
  dcs-free p place =
      let own = dc-listed d.file_type d p place in
      let other = dc-listed e.file_type e p (subst (λ z. IsPlace z p) (sym same) place) in
      places-append (dc_list d.file_type true d) (dc_list e.file_type true e) p
      ∙ ap (λ x. x || places (dc_list e.file_type true e) p) own
      ∙ ap (λ x. (places (dc_list d.file_type false d) p || not (places d.on p || settles d.file_type d.off p)) || x) other
      ∙ regrouped (places (dc_list d.file_type false d) p) (not (places d.on p || settles d.file_type d.off p)) (places (dc_list e.file_type false e) p) (not (places e.on p || settles e.file_type e.off p))
      ∙ ap (λ x. x || (not (places d.on p || settles d.file_type d.off p) || not (places e.on p || settles e.file_type e.off p)))
      (sym (places-append (dc_list d.file_type false d) (dc_list e.file_type false e) p))

-- what is said of the settled places
pub held-masked : (t : FileType) (off : List Cube) (s : Place → Bool) (others free cubes : List Cube) → free ≡ cubes → (r : Bool)
    → IsTrue r ↔ IsSubset (settled t off s) (λ p. places free p || places others p)
    → IsTrue r ↔ IsSubset (intersection s (settles t off)) (λ p. places cubes p || places others p)
held-masked t off s others free cubes is r answer =
    IsSubset-meets (settled t off s) (intersection s (settles t off)) (λ p. places cubes p || places others p) (settled-by t off s) r
    (subst (λ l. IsTrue r ↔ IsSubset (settled t off s) (λ p. places l p || places others p)) is answer)
