use Rattle.std.proofs.Common.{ap, sym, subst, ◌∙◌}
use Rattle.std.proofs.lemmas.Option.{get_or_from_slice_get}
use Rattle.cube.specs.declared.symbol.Symbol.TheVariants.{Dash}
use Rattle.cube.specs.Cube.{IsCube, size_of}
use Rattle.cover.proofs.ContainmentLemmas.{is_symbol-same}
use Rattle.cover.proofs.SumSplit.{IsCube-with_symbol}
use Rattle.minimum.specs.Neighbours.{flip}
use Rattle.growth.proofs.GrowthSteps.{same_sizes}
use Rattle.minimum.proofs.Blocking.{leads_none, leads_pushed, leads_on, leads_all, freed_row, same_row, apart_row, symbols_apart}
use Rattle.minimum.proofs.essential_by_neighbours.blocking.blocking_input.Goals as goal
use Rattle.minimum.proofs.essential_by_neighbours.blocking.blocking_input.Goals.{then-not-is_same_symbol+then-not-disjoint+in_ok-with_symbol+in_ok-push, else-not-is_same_symbol, else-not-is_same_symbol-via-then-not-is_same_symbol+else-not-disjoint, else-not-is_same_symbol-via-else-not-is_same_symbol}

pub loop-row-init : goal.loop-row-init
loop-row-init c = leads_none c.args.prime.now (flip c.args.i) c.new-list.result.items c.new-list.ensures.items

pub loop-row-preserved : goal.loop-row-preserved
loop-row-preserved c =
    let rows = c.as_slice-row-items.result.now in
    let k = c.loop-row.row-index in
    let lt = c.loop-row-test.true in
    let row = c.row-item.result in
    let at = c.row-item.is in
    let prime = c.args.prime.now in
    let i = c.args.i in
    let literal = c.requires.literal in
    let old = c.loop-row.list.items in
    let new = c.if-not-is_same_symbol.list.items in
    let row_cube = subst (IsCube c.args.off.now.size) (sym at) (c.as_slice-row-items.ensures.cubes k row lt) in
    let size = same_sizes c.args.off.now.size prime row c.requires.prime row_cube in
    let own = get_or_from_slice_get prime.symbols i c.symbol-literal.result Dash c.symbol-literal.ensures in
    let has = get_or_from_slice_get row.symbols i c.symbol.result Dash c.symbol.ensures in
    elim c.if-not-is_same_symbol.branch [
      | then-not-is_same_symbol+then-not-disjoint+in_ok-with_symbol+in_ok-push w ↦ (
          let e = w.in_ok-with_symbol.field-0 in
          let is = w.in_ok-with_symbol.ensures.value in
          let cube = subst (IsCube (size_of prime)) (sym is) (IsCube-with_symbol (size_of prime) row i Dash (record { has_size = size; some_output = row_cube.some_output })) in
          leads_pushed prime (flip i) rows k row lt at old c.loop-row.invariant new e cube (λ p in_c. freed_row prime row size i literal p in_c
          (λ same. symbols_apart c.symbol.result c.symbol-literal.result (sym c.is_same_symbol.ensures ∙ w.if-not-is_same_symbol.true) (sym has ∙ same ∙ own)) e is)
          (ap (λ z. z.items) w.list-is ∙ w.in_ok-push.ensures.items))
      | else-not-is_same_symbol w ↦
          leads_on prime (flip i) rows k row lt at old c.loop-row.invariant new
          (λ p in_c. elim w.else-not-is_same_symbol.branch [
            | else-not-is_same_symbol-via-then-not-is_same_symbol+else-not-disjoint w' ↦
                apart_row prime row size i literal p in_c c.in_ok-freed.freed c.in_ok-freed.ensures.value (w'.disjoint.ensures.0 w'.if-not-disjoint.false)
            | else-not-is_same_symbol-via-else-not-is_same_symbol w' ↦ same_row prime row size i literal p in_c (has ∙ is_symbol-same c.symbol.result c.symbol-literal.result (sym c.is_same_symbol.ensures ∙ w'.if-not-is_same_symbol.false) ∙ sym own)
          ])
          (ap (λ z. z.items) w.list-is)
    ]

pub returns : goal.returns
returns c =
    leads_all c.args.off.now.size c.args.prime.now c.requires.prime (flip c.args.i) c.as_slice-row-items.result.now c.loop-row.row-index c.loop-row.list.items c.loop-row-test.false
    c.loop-row.invariant c.args.off.now.cubes c.as_slice-row-items.ensures.value c.shape-shape.result c.shape-shape.ensures.size c.from_cubes.result c.from_cubes.ensures
