-- A row line's code, as symbols that go on the symbols before it.
use Rattle.std.proofs.Common.{◌≡◌, ℕ, ◌+◌, ◌%◌, ◌<◌, Bool, true, false, cond, not, List, [], ◌∷◌, ◌++◌, length, filter, Some, None, refl, ap, sym, ◌∙◌, append_assoc, append-nil, length-append, arith, zero-add}
use Rattle.std.specs.Prelude.{◌||◌}
use Rattle.std.specs.List.{list_any, enumerate_from}
use Rattle.std.proofs.Math.Nat.{add-mod-mod, add_comm}
use Rattle.cube.specs.Size.{Size}
use Rattle.pla.specs.declared.file_type.FileType.{FileType}
use Rattle.pla.specs.Lines.{is_row_blank}
use Rattle.pla.specs.Symbols.{width, is_symbol_at, any_bad}
use Rattle.pla.specs.Reading.{RowsRead, rows_of, with_symbol, read_symbols, read_code}
use Rattle.pla.proofs.RowsOf.{with_symbol_of, length-unfinished_row}

-- the bytes that aren't blanks
abbrev pub marks : List ℕ → List ℕ
marks code = filter (λ b. not (is_row_blank b)) code

code_step : (type : FileType) (r : RowsRead) (b : ℕ) (bytes : List ℕ) (blank : Bool) → read_code type r bytes ≡ read_symbols type r (marks bytes) → read_code type (with_symbol type r b) bytes ≡ read_symbols type (with_symbol type r b) (marks bytes)
    → cond blank (read_code type r bytes) (cond (is_symbol_at r.size.inputs (length r.pending) b) (read_code type (with_symbol type r b) bytes) None)
    ≡ read_symbols type r (cond (not blank) (b ∷ marks bytes) (marks bytes))
code_step type r b bytes true h k = h
code_step type r b bytes false h k = ap (λ o. cond (is_symbol_at r.size.inputs (length r.pending) b) o None) k

-- blanks are passed over
pub code_symbols : (type : FileType) (r : RowsRead) (code : List ℕ) → read_code type r code ≡ read_symbols type r (marks code)
code_symbols type r [] = refl
code_symbols type r (b ∷ bytes) = code_step type r b bytes (is_row_blank b) (code_symbols type r bytes) (code_symbols type (with_symbol type r b) bytes)

-- the test of symbols, from the place of the first
bad : Size → ℕ → ℕ × ℕ → Bool
bad size start e = not (is_symbol_at size.inputs ((start + e.0) % width size) e.1)

read_step : (type : FileType) (size : Size) (s : List ℕ) (b : ℕ) (bytes : List ℕ) (good more : Bool)
    → read_symbols type (rows_of type size (s ++ b ∷ [])) bytes ≡ cond more None (Some (rows_of type size ((s ++ b ∷ []) ++ bytes)))
    → cond good (read_symbols type (rows_of type size (s ++ b ∷ [])) bytes) None ≡ cond (not good || more) None (Some (rows_of type size (s ++ b ∷ bytes)))
read_step type size s b bytes false more h = refl
read_step type size s b bytes true more h = h ∙ ap (λ z. cond more None (Some (rows_of type size z))) (append_assoc s (b ∷ []) bytes)

place_more : (start k n w : ℕ) → (start + k) % w ≡ n % w → (start + (k + 1)) % w ≡ (n + 1) % w
place_more start k n w h =
    ap (λ z. z % w) (let e : start + (k + 1) ≡ 1 + (start + k) = omega arith in e) ∙ sym (add-mod-mod 1 (start + k) w) ∙ ap (λ z. (1 + z) % w) h ∙ add-mod-mod 1 n w ∙ ap (λ z. z % w) (add_comm 1 n)

read_from : (type : FileType) (size : Size) (s bytes : List ℕ) (start k : ℕ) → 0 < width size → (start + k) % width size ≡ length s % width size
    → read_symbols type (rows_of type size s) bytes ≡ cond (list_any (bad size start) (enumerate_from k bytes)) None (Some (rows_of type size (s ++ bytes)))
unfolding bad
read_from type size s [] start k wide h = ap (λ z. Some (rows_of type size z)) (sym (append-nil s))
read_from type size s (b ∷ bytes) start k wide h =
    ap (λ p. cond (is_symbol_at size.inputs p b) (read_symbols type (with_symbol type (rows_of type size s) b) bytes) None) (length-unfinished_row size s ∙ sym h)
    ∙ ap (λ r. cond (is_symbol_at size.inputs ((start + k) % width size) b) (read_symbols type r bytes) None) (with_symbol_of type size s b wide)
    ∙ read_step type size s b bytes (is_symbol_at size.inputs ((start + k) % width size) b) (list_any (bad size start) (enumerate_from (k + 1) bytes))
    (read_from type size (s ++ b ∷ []) bytes start (k + 1) wide (place_more start k (length s) (width size) h ∙ ap (λ z. z % width size) (sym (length-append s (b ∷ [])))))

-- a row line's code after symbols: refused exactly where a byte isn't of its place
pub code_of : (type : FileType) (size : Size) (s code : List ℕ) → 0 < width size
    → read_code type (rows_of type size s) code ≡ cond (any_bad (Some size) (length s % width size) (marks code)) None (Some (rows_of type size (s ++ marks code)))
unfolding bad
code_of type size s code wide =
    code_symbols type (rows_of type size s) code
    ∙ read_from type size s (marks code) (length s % width size) 0 wide
    (ap (λ z. z % width size) (add_comm (length s % width size) 0) ∙ add-mod-mod 0 (length s) (width size) ∙ ap (λ z. z % width size) (zero-add (length s)))
