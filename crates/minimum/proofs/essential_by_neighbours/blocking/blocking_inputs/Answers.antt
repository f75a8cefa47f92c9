use Rattle.std.proofs.Common.{◌≤◌, ◌+◌, ap, sym, subst, ◌∙◌, arith}
use Rattle.std.proofs.lemmas.Option.{get_or_from_slice_get}
use Rattle.cube.specs.declared.symbol.Symbol.TheVariants.{Dash}
use Rattle.cover.proofs.ContainmentLemmas.{is_symbol-same}
use Rattle.minimum.specs.Blocking.{AreBlocking}
use Rattle.minimum.proofs.Blocking.{AloneSoFar, inputs_next, inputs_skipped, inputs_all, symbols_apart}
use Rattle.minimum.proofs.essential_by_neighbours.blocking.blocking_inputs.Goals as goal
use Rattle.minimum.proofs.essential_by_neighbours.blocking.blocking_inputs.Goals.{then-not-is_same_symbol+in_ok-blocking_input+in_ok-push, else-not-is_same_symbol}

pub loop-i-preserved : goal.loop-i-preserved
loop-i-preserved c =
    let off = c.args.off.now in
    let prime = c.args.prime.now in
    let i = c.loop-i.i in
    let lists = c.loop-i.lists.items in
    let own = get_or_from_slice_get prime.symbols i c.symbol.result Dash c.symbol.ensures in
    elim c.if-not-is_same_symbol.branch [
      | then-not-is_same_symbol+in_ok-blocking_input+in_ok-push w ↦
          subst (λ z. AreBlocking off.size prime z (AloneSoFar off.cubes prime (i + 1))) (sym (ap (λ z. z.items) w.lists-is))
          (inputs_next off.size off.cubes prime c.requires lists i w.in_ok-blocking_input.field-0 w.push.new.self.items c.loop-i.invariant
          (λ e. symbols_apart c.symbol.result Dash (sym c.is_same_symbol.ensures ∙ w.if-not-is_same_symbol.true) (sym own ∙ e)) w.in_ok-blocking_input.ensures w.in_ok-push.ensures.items)
      | else-not-is_same_symbol w ↦
          subst (λ z. AreBlocking off.size prime z (AloneSoFar off.cubes prime (i + 1))) (sym (ap (λ z. z.items) w.lists-is))
          (inputs_skipped off.size off.cubes prime c.requires lists i c.loop-i.invariant (own ∙ is_symbol-same c.symbol.result Dash (sym c.is_same_symbol.ensures ∙ w.if-not-is_same_symbol.false)))
    ]

pub returns : goal.returns
returns c =
    let off = c.args.off.now in
    let size = ap (λ z. z.inputs) c.shape.ensures.size in
    let value = c.inputs-i-end.ensures.value in
    let past : off.size.inputs ≤ c.loop-i.i = omega (arith, size, value, c.loop-i-test.false) in
    inputs_all off.size off.cubes c.args.prime.now c.requires c.loop-i.lists.items c.loop-i.i past c.loop-i.invariant

pub blocking_input-requires-clause-literal : goal.blocking_input-requires-clause-literal
blocking_input-requires-clause-literal c e =
    let own = get_or_from_slice_get c.args.prime.now.symbols c.loop-i.i c.symbol.result Dash c.symbol.ensures in
    symbols_apart c.symbol.result Dash (sym c.is_same_symbol.ensures ∙ c.if-not-is_same_symbol.true) (sym own ∙ e)
