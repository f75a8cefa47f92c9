use Rattle.std.proofs.Common.{◌<◌, ◌∙◌, ap, length, arith}
use Rattle.cube.specs.Cube.{with_symbol}
use Rattle.regions.proofs.Halves.{half_held}
use Rattle.regions.proofs.region.learned.remove_held_half.Goals as goal

pub returns-clause-held : goal.returns-clause-held
returns-clause-held c =
    let size = c.shape-shape.ensures.size.0 in
    let value = c.inputs.ensures.value in
    let at = c.if-i-inputs.false in
    let lt : c.first_open_literal-i.result.0 < length c.args.region.now.symbols = omega (arith, size, value, at) in
    λ on. half_held c.args.region.now c.set_symbol.new.self c.set_symbol-2.new.self c.args.row.now c.first_open_literal-i.result.0 c.first_open_literal-i.result.1
    lt c.set_symbol.ensures (c.set_symbol-2.ensures ∙ ap (λ s. with_symbol c.set_symbol.new.self c.first_open_literal-i.result.0 s) c.opposite.ensures)
    (c.contains-held.ensures.0 on)
