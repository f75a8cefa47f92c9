use Rattle.std.proofs.Common.{rules, ◌≡◌, sym, subst}
use Rattle.cube.specs.declared.symbol.Symbol.TheVariants.{Dash}
use Rattle.growth.specs.Growth.{IsPartOf}
use Rattle.growth.proofs.Reached.{part_whole, part_narrowed}
use Rattle.growth.proofs.reached_outputs.point_of.Goals as goal
use Rattle.growth.proofs.reached_outputs.point_of.Goals.{then-eq, else-eq}

pub loop-i-init : goal.loop-i-init
loop-i-init c = part_whole c.args.cube.now c.in_ok-point.point c.in_ok-point.ensures.value

pub loop-i-preserved : goal.loop-i-preserved
loop-i-preserved c =
    let cube = c.args.cube.now in
    let i = c.loop-i.i in
    elim c.if-eq.branch [
      | then-eq w ↦ (
          let dash : c.symbol.result ≡ Dash = search rules in
          subst (IsPartOf cube) (sym w.point-is) (part_narrowed cube c.loop-i.point w.set_symbol.new.self i c.symbol.result c.symbol.ensures dash w.set_symbol.ensures c.loop-i.invariant))
      | else-eq w ↦ subst (IsPartOf cube) (sym w.point-is) c.loop-i.invariant
    ]
