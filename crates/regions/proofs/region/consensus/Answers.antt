use Rattle.std.proofs.Common.{◌≡◌, ◌∙◌, ◌<◌, ◌&&◌, ◌↔◌, ℕ, length, get_or, Option, IsNone, IfSome, Result, Ok, Err, IfOk, IsTrue, arith}
use Rattle.std.specs.List.{list_any}
use Rattle.cube.specs.declared.symbol.Symbol.TheVariants.{Dash}
use Rattle.cube.specs.Cube.{Cube, Place, SameSize, IsDisjoint, IsSubset, holds, with_symbol}
use Rattle.regions.specs.Reason.{Joins, Share}
use Rattle.regions.proofs.Reasons.{joined_meet}
use Rattle.regions.proofs.region.consensus.Goals as goal

-- what was found joins the two for each region
module _ {E : Type 0} where
  joined_each : (one other low high : Cube) (i : ℕ) → i < length one.symbols → SameSize other one → Share (get_or one.symbols i Dash) (get_or other.symbols i Dash)
      → low ≡ with_symbol one i Dash → high ≡ with_symbol other i Dash → SameSize low one → (found : Result (Option Cube) E)
      → IfOk found (λ o. IsNone o ↔ IsDisjoint (holds low) (holds high)) → IfOk found (λ o. IfSome o (λ c. SameSize c low))
      → IfOk found (λ o. IfSome o (λ c. (p : Place) → holds c p ≡ (holds low p && holds high p)))
      → IfOk found (λ o. (region : Cube) → IsTrue (list_any (λ b. b) region.outputs) → SameSize one region → IsSubset (holds region) (holds (with_symbol one i Dash))
      → IsSubset (holds region) (holds (with_symbol other i Dash)) → Joins region one other o)
  joined_each one other low high i lt same share e_low e_high s_low (Ok o) none' size places = λ region some s_one in_one in_other.
      joined_meet {E = E} region one other low high i some (omega (arith, lt, s_one.0)) s_one (same.0 ∙ s_one.0, same.1 ∙ s_one.1) in_one in_other share e_low e_high s_low (Ok o) none' size places
  joined_each one other low high i lt same share e_low e_high s_low (Err e) none' size places = tt

pub returns : goal.returns
returns c =
    joined_each c.args.one.now c.args.other.now c.in_ok-low.low c.in_ok-high.high c.args.i c.requires.input c.requires.size c.requires.sides
    c.in_ok-low.ensures.value c.in_ok-high.ensures.value c.in_ok-low.ensures.size c.meet.result c.meet.ensures.none c.meet.ensures.size c.meet.ensures.places
