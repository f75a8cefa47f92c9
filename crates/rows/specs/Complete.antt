-- A set of places at one value of an input, and what changes with the input. No public clause cites
-- this module.
use Rattle.std.specs.Prelude.{ℕ, Bool, true, false, ◌&&◌, ◌||◌, slice_set}
use Rattle.cube.specs.declared.symbol.Symbol.{Symbol}
use Rattle.cube.specs.declared.symbol.Symbol.TheVariants.{Zero, One}
use Rattle.cube.specs.Cube.{Place}

-- the symbol that agrees with this bit alone
abbrev pub literal : Bool → Symbol
literal false = Zero
literal true = One

-- the place with input i set to this bit
abbrev pub put : ℕ → Bool → Place → Place
put i bit p = record { point = slice_set p.point i bit; output = p.output }

-- s with input i set to this bit
abbrev pub cofactor_at : ℕ → Bool → (Place → Bool) → Place → Bool
cofactor_at i bit s p = s (put i bit p)

-- s at both values of input i
abbrev pub consensus_at : ℕ → (Place → Bool) → Place → Bool
consensus_at i s p = cofactor_at i false s p && cofactor_at i true s p

-- s at one value of input i or the other
abbrev pub smoothing_at : ℕ → (Place → Bool) → Place → Bool
smoothing_at i s p = cofactor_at i false s p || cofactor_at i true s p
