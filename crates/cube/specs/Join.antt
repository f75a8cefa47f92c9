-- The smallest cube that holds two others.
use Rattle.std.specs.Prelude.{◌||◌}
use Rattle.cube.specs.declared.symbol.Symbol.{Symbol}
use Rattle.cube.specs.declared.symbol.Symbol.TheVariants.{Dash, Zero, One}
use Rattle.std.specs.Simd.Lanes.{zip2}
use Rattle.cube.specs.Cube.{Cube}

-- the symbol of both, or else `-`
abbrev pub supercube_symbol : Symbol → Symbol → Symbol
supercube_symbol Zero Zero = Zero
supercube_symbol One One = One
supercube_symbol s t = Dash

-- the symbols that both have, and the outputs of either
abbrev pub supercube : Cube → Cube → Cube
supercube a b = record {
  symbols = zip2 supercube_symbol a.symbols b.symbols;
  outputs = zip2 (λ x y. x || y) a.outputs b.outputs;
}
