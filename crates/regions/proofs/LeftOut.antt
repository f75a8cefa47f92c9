-- What a list leaves out of cubes.
use Rattle.std.proofs.Common.{◌≡◌, ℕ, suc, ◌+◌, ◌<◌, Bool, true, false, not, List, [], ◌∷◌, ◌++◌, take, get_or, subst, length, map, Option, None, Some, is_none, is_some, IsTrue, IfSome, IfNone, ◌↔◌, All, refl, ap, sym, ◌∙◌, arith}
use Rattle.std.specs.List.{AllZip}
use Rattle.std.proofs.lemmas.Bool.{false≢true}
use Rattle.std.proofs.lemmas.List.{take_more}
use Rattle.cube.specs.Size.{Size}
use Rattle.cube.specs.Cube.{Cube, HasSize, IsSubset, holds}
use Rattle.cube.specs.Sum.{is_subset}
use Rattle.rows.specs.Places.{places}
use Rattle.regions.specs.LeftOut.{IsLeftOut, LeavesOut}
use Rattle.rows.proofs.Everywhere.{same_test, is_subset-iff}
use Rattle.regions.proofs.Halves.{outside}

-- what is found at a size is found at an equal one
pub leaves_out_at : (one other : Size) (rows : List Cube) (c : Cube) → one.inputs ≡ other.inputs → one.outputs ≡ other.outputs
    → (found : Option Cube) → LeavesOut one rows c found → LeavesOut other rows c found
leaves_out_at one other rows c e f None h = h
leaves_out_at one other rows c e f (Some part) h = record {
  is_cube = record { has_size = (h.is_cube.has_size.0 ∙ e, h.is_cube.has_size.1 ∙ f); some_output = h.is_cube.some_output };
  within = h.within;
  outside = h.outside;
}

pub held_by_none : (size : Size) (rows : List Cube) (c : Cube) (found : Option Cube) → LeavesOut size rows c found
    → IfNone found (IsSubset (holds c) (places rows))
held_by_none size rows c None h = h
held_by_none size rows c (Some part) h = tt

pub left_out_by_some : (size : Size) (rows : List Cube) (c : Cube) (found : Option Cube) → LeavesOut size rows c found
    → IfSome found (IsLeftOut size rows c)
left_out_by_some size rows c None h = tt
left_out_by_some size rows c (Some part) h = h

-- no part is found of a cube that is held, and of no other
pub none_if_held : (size : Size) (rows : List Cube) (c : Cube) (found : Option Cube) → IfNone found (IsSubset (holds c) (places rows))
    → IfSome found (IsLeftOut size rows c) → IsTrue (is_none found) ↔ IsSubset (holds c) (places rows)
none_if_held size rows c None held out = (λ on. held, λ all. refl)
none_if_held size rows c (Some part) held out =
    (λ on. absurd (false≢true on), λ all. absurd (outside rows c part out.is_cube.some_output out.within out.outside all))

-- an answer that says whether none is found
pub held_if_none : (size : Size) (rows : List Cube) (c : Cube) (found : Option Cube) (held : Bool) → is_some found ≡ not held
    → LeavesOut size rows c found → IsTrue held ↔ IsSubset (holds c) (places rows)
held_if_none size rows c None true e h = (λ on. h, λ all. refl)
held_if_none size rows c None false e h = absurd (false≢true e)
held_if_none size rows c (Some part) true e h = absurd (false≢true (sym e))
held_if_none size rows c (Some part) false e h =
    (λ on. absurd (false≢true on), λ all. absurd (outside rows c part h.is_cube.some_output h.within h.outside all))

pub none_if_not_some : {X : Type 0} (found : Option X) (b : Bool) → is_some found ≡ not b → b ≡ is_none found
none_if_not_some None true e = refl
none_if_not_some None false e = absurd (false≢true e)
none_if_not_some (Some x) true e = absurd (false≢true (sym e))
none_if_not_some (Some x) false e = refl

-- ---- for each of some cubes

all_zip_push : {A B : Type 0} (R : A → B → Type 0) (xs : List A) (ys : List B) (x : A) (y : B) → AllZip R xs ys → R x y
    → AllZip R (xs ++ x ∷ []) (ys ++ y ∷ [])
all_zip_push R [] [] x y h r = (r, tt)
all_zip_push R [] (b ∷ ys) x y h r = absurd h
all_zip_push R (a ∷ xs) [] x y h r = absurd h
all_zip_push R (a ∷ xs) (b ∷ ys) x y h r = (h.0, all_zip_push R xs ys x y h.1 r)

pub all_zip_next : {A B : Type 0} (R : A → B → Type 0) (xs : List A) (ys : List B) (i : ℕ) (x : A) (y : B) → i < length xs
    → x ≡ get_or xs i x → AllZip R (take i xs) ys → R x y → AllZip R (take (i + 1) xs) (ys ++ y ∷ [])
all_zip_next R xs ys i x y lt is h r =
    subst (λ l. AllZip R l (ys ++ y ∷ [])) (ap (λ z. take i xs ++ z ∷ []) is ∙ sym (take_more xs i x lt))
    (all_zip_push R (take i xs) ys x y h r)

pub held_by_nones : (size : Size) (rows cubes : List Cube) (parts : List (Option Cube)) → AllZip (LeavesOut size rows) cubes parts
    → AllZip (λ d part. IfNone part (IsSubset (holds d) (places rows))) cubes parts
held_by_nones size rows [] [] h = tt
held_by_nones size rows [] (part ∷ parts) h = absurd h
held_by_nones size rows (c ∷ cubes) [] h = absurd h
held_by_nones size rows (c ∷ cubes) (part ∷ parts) h = (held_by_none size rows c part h.0, held_by_nones size rows cubes parts h.1)

pub left_out_by_somes : (size : Size) (rows cubes : List Cube) (parts : List (Option Cube)) → AllZip (LeavesOut size rows) cubes parts
    → AllZip (λ d part. IfSome part (IsLeftOut size rows d)) cubes parts
left_out_by_somes size rows [] [] h = tt
left_out_by_somes size rows [] (part ∷ parts) h = absurd h
left_out_by_somes size rows (c ∷ cubes) [] h = absurd h
left_out_by_somes size rows (c ∷ cubes) (part ∷ parts) h = (left_out_by_some size rows c part h.0, left_out_by_somes size rows cubes parts h.1)

pub nones_if_held : (size : Size) (rows cubes : List Cube) (parts : List (Option Cube)) → All (λ d. HasSize d size) cubes
    → AllZip (λ d part. IfNone part (IsSubset (holds d) (places rows))) cubes parts
    → AllZip (λ d part. IfSome part (IsLeftOut size rows d)) cubes parts
    → map is_none parts ≡ map (λ d. is_subset size (holds d) (places rows)) cubes
nones_if_held size rows [] [] sizes held out = refl
nones_if_held size rows [] (part ∷ parts) sizes held out = absurd held
nones_if_held size rows (c ∷ cubes) [] sizes held out = absurd held
nones_if_held size rows (c ∷ cubes) (part ∷ parts) sizes held out =
    let own = same_test (is_none part) (is_subset size (holds c) (places rows)) (none_if_held size rows c part held.0 out.0)
    (is_subset-iff size c (places rows) (sizes 0 c (omega arith))) in
    let others = nones_if_held size rows cubes parts (λ k d lt. sizes (suc k) d (omega arith)) held.1 out.1 in
    ap (λ b. b ∷ map is_none parts) own ∙ ap (λ l. is_subset size (holds c) (places rows) ∷ l) others
