-- Rows have the size that the header gives.
use Rattle.std.proofs.Common.{◌≡◌, ℕ, Bool, true, false, cond, List, [], Option, Some, None, refl, ap, sym, ◌∙◌, option_map}
use Rattle.std.specs.Prelude.{◌||◌, ◌&&◌, is_some, codes}
use Rattle.cube.specs.Limits.{Limits}
use Rattle.cube.specs.Size.{Size}
use Rattle.pla.specs.declared.file_type.FileType.{FileType}
use Rattle.pla.specs.declared.file_type.FileType.TheVariants.{Fd}
use Rattle.pla.specs.Lines.{arguments}
use Rattle.pla.specs.Keywords.{has, number_within, type_by, is_ending, size_by}
use Rattle.pla.specs.Header.{Header, size_in}
use Rattle.pla.specs.Fault.{is_repeated}
use Rattle.pla.specs.HeadView.{with_keyword}
use Rattle.pla.specs.Reading.{RowsRead, rows_of}
use Rattle.pla.specs.Parsing.{IsTied, size_of_rows, opened}

opened_size : (o : Option Size) → size_of_rows (option_map (λ size. rows_of Fd size []) o) ≡ o
opened_size None = refl
opened_size (Some size) = refl

-- a header, by which keyword a line has
abbrev chosen : Header → Bool → Bool → Bool → Bool → Bool → Option ℕ → Option ℕ → Option (List (List ℕ)) → Option FileType → Bool → Header
chosen h i o ilb ob type n m names t e =
    cond i (record h { inputs = n }) (cond o (record h { outputs = m }) (cond ilb (record h { input_names = names }) (cond ob (record h { output_names = names }) (cond type (record h { file_type = t }) (record h { ended = e })))))

kept : (h : Header) (inputs outputs : Option ℕ) (size : Size) (i o ilb ob type : Bool) (n m : Option ℕ) (names : Option (List (List ℕ))) (t : Option FileType) (e x y z : Bool)
    → h.inputs ≡ inputs → h.outputs ≡ outputs → size_by inputs outputs ≡ Some size
    → ((i && is_some inputs) || (o && is_some outputs) || x || y || z) ≡ false
    → size_in (chosen h i o ilb ob type n m names t e) ≡ size_by inputs outputs
kept h None outputs size i o ilb ob type n m names t e x y z a b s r = cc
kept h (Some p) None size i o ilb ob type n m names t e x y z a b s r = cc
kept h (Some p) (Some q) size true o ilb ob type n m names t e x y z a b s r = cc
kept h (Some p) (Some q) size false true ilb ob type n m names t e x y z a b s r = cc
kept h (Some p) (Some q) size false false true ob type n m names t e x y z a b s r = ap (λ v. size_by v h.outputs) a ∙ ap (size_by (Some p)) b
kept h (Some p) (Some q) size false false false true type n m names t e x y z a b s r = ap (λ v. size_by v h.outputs) a ∙ ap (size_by (Some p)) b
kept h (Some p) (Some q) size false false false false true n m names t e x y z a b s r = ap (λ v. size_by v h.outputs) a ∙ ap (size_by (Some p)) b
kept h (Some p) (Some q) size false false false false false n m names t e x y z a b s r = ap (λ v. size_by v h.outputs) a ∙ ap (size_by (Some p)) b

-- a keyword that isn't repeated leaves a size that is given
pub size_kept : (limits : Limits) (h : Header) (line : List ℕ) (size : Size) → is_repeated h line ≡ false → size_in h ≡ Some size → size_in (with_keyword limits h line) ≡ size_in h
unfolding is_repeated
size_kept limits h line size r s =
    kept h h.inputs h.outputs size (has (codes ".i") line) (has (codes ".o") line) (has (codes ".ilb") line) (has (codes ".ob") line) (has (codes ".type") line)
    (number_within 0 limits.inputs (arguments line)) (number_within 1 limits.outputs (arguments line)) (Some (arguments line)) (type_by (arguments line)) (is_ending line)
    (has (codes ".ilb") line && is_some h.input_names) (has (codes ".ob") line && is_some h.output_names) (has (codes ".type") line && is_some h.file_type) refl refl s r

-- whether a keyword is repeated has nothing to do with rows
pub repeated_anywhere : (h : Header) (line : List ℕ) (unfinished : ℕ) → is_repeated (record h { unfinished = unfinished }) line ≡ is_repeated h line
unfolding is_repeated
repeated_anywhere h line unfinished = refl

-- rows fit the header after a keyword line
pub tied_keyword : (limits : Limits) (h : Header) (line : List ℕ) (rows : Option RowsRead) → is_repeated h line ≡ false → IsTied h rows → IsTied (with_keyword limits h line) (opened rows (with_keyword limits h line))
tied_keyword limits h line None r tied = opened_size (size_in (with_keyword limits h line))
tied_keyword limits h line (Some rows) r tied = tied ∙ sym (size_kept limits h line rows.size r (sym tied))
