use Rattle.std.proofs.Common.{length, ap, sym, ◌∙◌}
use Rattle.cube.proofs.SharpLemmas.{length-minus}
use Rattle.growth.proofs.narrower_part.narrower_part.Goals as goal

pub returns : goal.returns
returns c =
    let is = c.in_ok-without_outputs.ensures.value in
    (ap (λ k. length k.symbols) is, ap (λ k. length k.outputs) is ∙ length-minus c.args.part.now.outputs c.args.row.now.outputs (sym c.requires.1))
