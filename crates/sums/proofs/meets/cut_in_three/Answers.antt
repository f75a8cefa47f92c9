use Rattle.std.proofs.Common.{◌≡◌, get_or, subst, take, arith}
use Rattle.std.proofs.lemmas.List.{take_all}
use Rattle.std.proofs.lemmas.List.Elements.{All-same}
use Rattle.cube.specs.declared.symbol.Symbol.TheVariants.{Dash, Zero, One}
use Rattle.cube.specs.Cube.{Cube}
use Rattle.std.specs.List.{All}
use Rattle.sums.proofs.SumThirds.{IsInThirds-cut}
use Rattle.sums.proofs.meets.cut_in_three.Goals as goal

pub returns : goal.returns
returns c = λ size cubes.
    let rest = c.split_at.result.1.now in
    let ones = c.split_at-2.result.1.now in
    IsInThirds-cut size c.args.i c.args.rows.now c.split_at.result.0.now rest c.split_at-2.result.0.now ones c.count_leading.result c.count_leading-2.result cubes
    c.split_at.ensures.front c.split_at.ensures.back c.split_at-2.ensures.front c.split_at-2.ensures.back
    (All-same (λ (d : Cube). get_or d.symbols c.args.i Dash ≡ Zero) c.split_at-2.result.0.now (take c.count_leading-2.result rest) c.split_at-2.ensures.front c.count_leading-2.ensures.symbol)
    (subst (All (λ (d : Cube). get_or d.symbols c.args.i Dash ≡ One)) (take_all c.count_leading-3.result ones (omega arith)) c.count_leading-3.ensures.symbol)
