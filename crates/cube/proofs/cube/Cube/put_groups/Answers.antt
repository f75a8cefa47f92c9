use Rattle.std.proofs.Common.{◌≡◌, ◌+◌, ◌*◌, ◌-◌, get_or, map, take, drop, ◌++◌, ap, ◌∙◌, arith}
use Rattle.cube.specs.declared.symbol.Symbol.TheVariants.{Dash}
use Rattle.cube.specs.Bytes.{symbol_byte}
use Rattle.cube.proofs.BytesLemmas.{put_four, group_read}
use Rattle.cube.proofs.cube.Cube.put_groups.Goals as goal

pub loop-g-preserved : goal.loop-g-preserved
loop-g-preserved c =
    let symbols = c.args.self.now.symbols in
    let g = c.loop-g.g in
    let byte = symbol_byte 45 48 49 in
    let next : 4 * g + 4 ≡ 4 * (g + 1) = omega arith in
    put_four byte symbols (4 * g) (4 * g + 4 - 4 * g) Dash c.args.row.now c.loop-g.row c.copy_from_slice.new.self (omega arith) c.requires (omega arith)
    (omega arith)
    (λ k lt. ap (λ r. get_or r k 0) c.copy_from_slice.ensures.after ∙ c.group_by_bits-group.ensures k lt
    ∙ ap byte (group_read symbols c.input_part-words.result.now g k c.input_part-words.ensures.packs lt (omega arith)))
    c.loop-g.invariant
    ∙ ap (λ n. map byte (take n symbols) ++ drop n c.args.row.now) next
