use Rattle.std.proofs.Common.{ap, sym}
use Rattle.cube.specs.Bytes.{symbol_byte}
use Rattle.cube.proofs.PackingLemmas.{symbol_of-same, symbol_of-low, symbol_of-high}
use Rattle.cube.proofs.groups.byte_by_bits.Goals as goal

pub returns-then-low-high : goal.returns-then-low-high
returns-then-low-high c = ap (symbol_byte c.args.dash c.args.zero c.args.one) (sym (symbol_of-same _ _ c.if-low-high.true))

pub returns-then-low-eq1 : goal.returns-then-low-eq1
returns-then-low-eq1 c = ap (symbol_byte c.args.dash c.args.zero c.args.one) (sym (symbol_of-low _ _ c.if-low-high.false c.if-low-eq1.true))

pub returns-else-low-eq1 : goal.returns-else-low-eq1
returns-else-low-eq1 c = ap (symbol_byte c.args.dash c.args.zero c.args.one) (sym (symbol_of-high _ _ c.if-low-high.false c.if-low-eq1.false))
