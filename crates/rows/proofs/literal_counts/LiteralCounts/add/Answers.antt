use Rattle.std.proofs.Common.{◌≡◌, ◌≤◌, ◌+◌, length, sym, subst, ◌∙◌, arith, rules, slice_get, Some}
use Rattle.std.proofs.lemmas.Option.{get_or_from_slice_get}
use Rattle.cube.specs.declared.symbol.Symbol.TheVariants.{Dash, Zero, One}
use Rattle.rows.specs.Splits.{Grows}
use Rattle.rows.proofs.Regions.{zero_literal, one_literal}
use Rattle.rows.proofs.LiteralCounting.{Grows-to_end, Grows-past_other, Grows-past_own}
use Rattle.rows.proofs.literal_counts.LiteralCounts.add.Goals as goal
use Rattle.rows.proofs.literal_counts.LiteralCounts.add.Goals.{then-eq, else-eq}

pub loop-i-preserved : goal.loop-i-preserved
loop-i-preserved c =
    let next = c.in-Some.ensures.found in
    let row = c.args.row.now in
    let i = c.in-Some.i in
    let within = next.within in
    let zeros = c.loop-i.invariant.1 in
    let ones = c.loop-i.invariant.2 in
    let past : i + 1 ≤ length row.symbols = omega (arith, within) in
    elim c.if-eq.branch [
      | then-eq w ↦
          let other : slice_get row.symbols i ≡ Some One → ⊥ =
          λ own. let same : c.symbol.result ≡ One = sym (get_or_from_slice_get row.symbols i c.symbol.result Dash c.symbol.ensures) ∙ get_or_from_slice_get row.symbols i One Dash own in
          search (rules, same) in (
            past,
            subst (λ z. Grows Zero row (i + 1) c.args.self.now.zeros.items z.zeros.items) (sym w.self-is)
                (Grows-past_own Zero zero_literal row _ _ _ zeros i next (omega (arith, zeros.len, c.requires.zeros, within)) _ (omega (arith, w.saturating_add.ensures))),
            subst (λ z. Grows One row (i + 1) c.args.self.now.ones.items z.ones.items) (sym w.self-is)
                (Grows-past_other One one_literal row _ _ _ ones i next other),
          )
      | else-eq w ↦
          let other : slice_get row.symbols i ≡ Some Zero → ⊥ =
          λ own. let same : c.symbol.result ≡ Zero = sym (get_or_from_slice_get row.symbols i c.symbol.result Dash c.symbol.ensures) ∙ get_or_from_slice_get row.symbols i Zero Dash own in
          search (rules, same) in (
            past,
            subst (λ z. Grows Zero row (i + 1) c.args.self.now.zeros.items z.zeros.items) (sym w.self-is)
                (Grows-past_other Zero zero_literal row _ _ _ zeros i next other),
            subst (λ z. Grows One row (i + 1) c.args.self.now.ones.items z.ones.items) (sym w.self-is)
                (Grows-past_own One one_literal row _ _ _ ones i next (omega (arith, ones.len, c.requires.ones, within)) _ (omega (arith, w.saturating_add-else-eq.ensures))),
          )
    ]

pub returns-clause-zeros : goal.returns-clause-zeros
returns-clause-zeros c = Grows-to_end Zero zero_literal _ _ _ _ c.loop-i.invariant.1 c.in_default.ensures.none _

pub returns-clause-ones : goal.returns-clause-ones
returns-clause-ones c = Grows-to_end One one_literal _ _ _ _ c.loop-i.invariant.2 c.in_default.ensures.none _
