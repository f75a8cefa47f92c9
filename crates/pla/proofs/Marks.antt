-- The table of marks is held against the definitions by computing.
use Rattle.std.proofs.Common.{◌≡◌, ◌≢◌, ℕ, suc, ◌+◌, ◌<◌, Bool, true, false, not, bit_and, eqb, eq-eqb, ne_eqb, List, [], ◌∷◌, ◌++◌, length, take, map, get_or, refl, ap, sym, ◌∙◌, codes, arith}
use Rattle.std.specs.Prelude.{◌&&◌, ◌||◌}
use Rattle.std.specs.List.{list_all, list_any, range_with_len}
use Rattle.std.proofs.lemmas.Bool.{false≢true}
use Rattle.std.proofs.lemmas.Nat.{and_assoc, and_comm, and_le_r}
use Rattle.std.proofs.lemmas.List.{same_lists, get_or-map, length-map, take_more}
use Rattle.std.proofs.lemmas.List.FromFn.{get_or-map-range_with_len}
use Rattle.cube.specs.Bytes.{has_mark}
use Rattle.pla.specs.declared.row_lines.TheConstants.{MARKS}
use Rattle.pla.specs.Symbols.{is_byte_of}

and_left : (a b : Bool) → (a && b) ≡ true → a ≡ true
and_left true b h = refl
and_left false b h = cc

and_right : (a b : Bool) → (a && b) ≡ true → b ≡ true
and_right true b h = h
and_right false b h = cc

all_push : (p : ℕ → Bool) (xs : List ℕ) (x : ℕ) → list_all p xs ≡ true → p x ≡ true → list_all p (xs ++ x ∷ []) ≡ true
all_push p [] x all here = ap (λ t. t && true) here
all_push p (y ∷ xs) x all here =
    ap (λ t. t && list_all p (xs ++ x ∷ [])) (and_left (p y) (list_all p xs) all) ∙ all_push p xs x (and_right (p y) (list_all p xs) all) here

-- the bytes that have a mark are these
marked : (mask : ℕ) (letters : List ℕ) → map (has_mark MARKS mask) (range_with_len 0 256) ≡ map (is_byte_of letters) (range_with_len 0 256)
    → (b : ℕ) → b < 256 → has_mark MARKS mask b ≡ is_byte_of letters b
marked mask letters e b lt =
    sym (get_or-map-range_with_len (has_mark MARKS mask) 0 256 b b false lt (omega arith)) ∙ ap (λ t. get_or t b false) e
    ∙ get_or-map-range_with_len (is_byte_of letters) 0 256 b b false lt (omega arith)

pub on_marked : (b : ℕ) → b < 256 → has_mark MARKS 2 b ≡ is_byte_of (codes "14") b
on_marked = marked 2 (codes "14") refl

pub dc_marked : (b : ℕ) → b < 256 → has_mark MARKS 4 b ≡ is_byte_of (codes "-2") b
dc_marked = marked 4 (codes "-2") refl

pub off_marked : (b : ℕ) → b < 256 → has_mark MARKS 1 b ≡ is_byte_of (codes "0") b
off_marked = marked 1 (codes "0") refl

pub input_marked : (b : ℕ) → b < 256 → has_mark MARKS 16 b ≡ is_byte_of (codes "012-") b
input_marked = marked 16 (codes "012-") refl

pub output_marked : (b : ℕ) → b < 256 → has_mark MARKS 32 b ≡ is_byte_of (codes "01234-~") b
output_marked = marked 32 (codes "01234-~") refl

-- a byte that is shared with a further byte's marks
pub shared_more : (bytes : List ℕ) (k shared mask : ℕ) → k < length bytes → (bit_and shared mask ≢ 0 → list_all (has_mark MARKS mask) (take k bytes) ≡ true)
    → bit_and (bit_and shared (get_or MARKS (get_or bytes k 0) 0)) mask ≢ 0 → list_all (has_mark MARKS mask) (take (k + 1) bytes) ≡ true
shared_more bytes k shared mask lt before some =
    let b = get_or bytes k 0 in
    let m = get_or MARKS b 0 in
    let here : bit_and m mask ≢ 0 = λ e. some (omega (arith, and_assoc mask shared m, and_le_r shared (bit_and m mask))) in
    let earlier : bit_and shared mask ≢ 0 = λ e. some (omega (arith, ap (λ x. bit_and x mask) (and_comm shared m), and_assoc mask m shared, and_le_r m (bit_and shared mask))) in
    ap (list_all (has_mark MARKS mask)) (take_more bytes k 0 lt) ∙ all_push (has_mark MARKS mask) (take k bytes) b (before earlier) (ap not (ne_eqb (bit_and m mask) 0 here))

-- a row of bytes that all have a mark
pub all_marked : (mask : ℕ) (letters bytes : List ℕ) → ((b : ℕ) → b < 256 → has_mark MARKS mask b ≡ is_byte_of letters b)
    → ((i : ℕ) → get_or bytes i 0 < 256) → list_all (has_mark MARKS mask) bytes ≡ true → list_all (is_byte_of letters) bytes ≡ true
all_marked mask letters [] says fits all = refl
all_marked mask letters (b ∷ bytes) says fits all =
    ap (λ t. t && list_all (is_byte_of letters) bytes) (sym (says b (fits 0)) ∙ and_left (has_mark MARKS mask b) (list_all (has_mark MARKS mask) bytes) all)
    ∙ all_marked mask letters bytes says (λ i. fits (suc i)) (and_right (has_mark MARKS mask b) (list_all (has_mark MARKS mask) bytes) all)

pub some_bits : (x : ℕ) → not (eqb x 0) ≡ true → x ≢ 0
some_bits x some none = absurd (false≢true (sym (ap not (eq-eqb x 0 none)) ∙ some))

-- the same for a row of bytes
pub same_marks : (mask : ℕ) (letters bytes : List ℕ) → ((b : ℕ) → b < 256 → has_mark MARKS mask b ≡ is_byte_of letters b)
    → ((i : ℕ) → get_or bytes i 0 < 256) → map (has_mark MARKS mask) bytes ≡ map (is_byte_of letters) bytes
same_marks mask letters bytes says fits =
    same_lists (map (has_mark MARKS mask) bytes) (map (is_byte_of letters) bytes) (length-map bytes (has_mark MARKS mask) ∙ sym (length-map bytes (is_byte_of letters)))
    (λ k d lt.
    get_or-map (has_mark MARKS mask) bytes k 0 d (omega (arith, length-map bytes (has_mark MARKS mask))) ∙ says (get_or bytes k 0) (fits k)
    ∙ sym (get_or-map (is_byte_of letters) bytes k 0 d (omega (arith, length-map bytes (has_mark MARKS mask)))))

-- the mask 0 has no marks
pub no_marks : (bytes : List ℕ) → list_any (λ b. b) (map (has_mark MARKS 0) bytes) ≡ false
no_marks [] = refl
no_marks (b ∷ bytes) =
    ap (λ t. not t || list_any (λ x. x) (map (has_mark MARKS 0) bytes)) (eq-eqb (bit_and (get_or MARKS b 0) 0) 0 (omega (arith, and_le_r (get_or MARKS b 0) 0)))
    ∙ no_marks bytes
