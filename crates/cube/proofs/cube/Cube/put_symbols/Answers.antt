use Rattle.std.proofs.Common.{◌<◌, length, ap, ◌∙◌, arith}
use Rattle.cube.specs.declared.symbol.Symbol.TheVariants.{Dash}
use Rattle.cube.specs.Bytes.{symbol_byte}
use Rattle.cube.proofs.BytesLemmas.{put_more, symbol_read}
use Rattle.cube.proofs.cube.Cube.put_symbols.Goals as goal

pub loop-i-preserved : goal.loop-i-preserved
loop-i-preserved c =
    let symbols = c.args.self.now.symbols in
    let byte = symbol_byte c.args.dash c.args.zero c.args.one in
    let within : c.loop-i.i < length symbols = omega arith in
    put_more byte symbols c.loop-i.i Dash c.args.row.now c.loop-i.row c.byte_by_bits.result within c.requires
    (c.byte_by_bits.ensures ∙ ap byte (symbol_read symbols c.input_part-words.result.now c.loop-i.i c.input_part-words.ensures.packs within)) c.loop-i.invariant
