use Rattle.std.proofs.Common.{◌≡◌, ℕ, false, Some, slice_get, slice_index_or, refl, ap, sym, ◌∙◌}
use Rattle.std.proofs.lemmas.Option.{get_or_from_slice_get}
use Rattle.cube.specs.declared.symbol.Symbol.{Symbol}
use Rattle.cube.specs.declared.symbol.Symbol.TheVariants.{Dash, Zero, One}
use Rattle.cube.specs.Cube.{Cube, with_symbol}
use Rattle.cube.specs.Sharp.{is_split, opposite, splits}
use Rattle.cube.proofs.cube.Cube.piece.Goals as goal
use Rattle.cube.proofs.cube.Cube.piece.Goals.{in_default-via-in-Dash+in_default, in_default-via-in_default}

splits_as : (a b : Cube) (i : ℕ) (s t : Symbol) → slice_get a.symbols i ≡ Some s → slice_get b.symbols i ≡ Some t → splits a b i ≡ is_split s t
splits_as a b i s t e f =
    ap (λ x. is_split x (slice_index_or b.symbols i Dash)) (get_or_from_slice_get a.symbols i s Dash e) ∙ ap (is_split s) (get_or_from_slice_get b.symbols i t Dash f)

not_split : (s t : Symbol) → (s ≡ Dash → ⊥) → is_split s t ≡ false
not_split Dash t other = absurd (other refl)
not_split Zero t other = refl
not_split One t other = refl

pub returns-in_ok-with_symbol-in-Dash-Zero : goal.returns-in_ok-with_symbol-in-Dash-Zero
returns-in_ok-with_symbol-in-Dash-Zero c =
    let a = c.args.self.now in
    let b = c.args.other.now in (
      splits_as a b c.args.i _ _ c.symbol.ensures c.symbol-2.ensures ∙ ap (λ s. is_split s c.symbol-2.result) c.in-Dash-Zero.is-0 ∙ ap (is_split Dash) c.in-Dash-Zero.is-1,
      c.in_ok-with_symbol-in-Dash-Zero.ensures.value ∙ ap (λ t. with_symbol a c.args.i (opposite t)) (sym (get_or_from_slice_get b.symbols c.args.i c.symbol-2.result Dash c.symbol-2.ensures ∙ c.in-Dash-Zero.is-1)),
    )

pub returns-in_ok-with_symbol-in-Dash-One : goal.returns-in_ok-with_symbol-in-Dash-One
returns-in_ok-with_symbol-in-Dash-One c =
    let a = c.args.self.now in
    let b = c.args.other.now in (
      splits_as a b c.args.i _ _ c.symbol.ensures c.symbol-2.ensures ∙ ap (λ s. is_split s c.symbol-2.result) c.in-Dash-One.is-0 ∙ ap (is_split Dash) c.in-Dash-One.is-1,
      c.in_ok-with_symbol-in-Dash-One.ensures.value ∙ ap (λ t. with_symbol a c.args.i (opposite t)) (sym (get_or_from_slice_get b.symbols c.args.i c.symbol-2.result Dash c.symbol-2.ensures ∙ c.in-Dash-One.is-1)),
    )

pub returns-in_default : goal.returns-in_default
returns-in_default c =
    splits_as c.args.self.now c.args.other.now c.args.i _ _ c.symbol.ensures c.symbol-2.ensures
    ∙ elim c.in_default.branch [
      | in_default-via-in-Dash+in_default w ↦ ap (λ s. is_split s c.symbol-2.result) w.in_default.is-0 ∙ ap (is_split Dash) w.in_default.is-1
      | in_default-via-in_default w ↦ not_split c.symbol.result c.symbol-2.result w.in_default.not-Dash-0
    ]
