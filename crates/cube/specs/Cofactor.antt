-- The cofactor of one cube by another.
use Rattle.std.specs.Prelude.{not, ◌||◌}
use Rattle.cube.specs.declared.symbol.Symbol.{Symbol}
use Rattle.cube.specs.declared.symbol.Symbol.TheVariants.{Dash, Zero, One}
use Rattle.std.specs.Simd.Lanes.{zip2}
use Rattle.cube.specs.Cube.{Cube}

-- `-` where the other symbol is `0` or `1`
abbrev pub cofactor_symbol : Symbol → Symbol → Symbol
cofactor_symbol s Dash = s
cofactor_symbol s Zero = Dash
cofactor_symbol s One = Dash

-- a by b: `-` at the inputs where b has a literal, and also the outputs that b lacks
abbrev pub cofactor : Cube → Cube → Cube
cofactor a b = record {
  symbols = zip2 cofactor_symbol a.symbols b.symbols;
  outputs = zip2 (λ x y. x || not y) a.outputs b.outputs;
}
