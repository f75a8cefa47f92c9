use Rattle.std.proofs.Common.{◌≡◌, ◌∙◌, true, sym, ap, subst, arith}
use Rattle.std.specs.List.{list_any}
use Rattle.covering.specs.Table.{has, items_of}
use Rattle.covering.specs.Cover.{counted}
use Rattle.covering.specs.Reduce.{dominates, is_preferred, IsTranspose}
use Rattle.covering.proofs.TransposeSteps.{length_items}
use Rattle.covering.proofs.Dominance.{candidates}
use Rattle.covering.proofs.column_dominance.is_dominated.Goals as goal

pub returns-in-Some : goal.returns-in-Some
returns-in-Some c =
    let preferred = is_preferred c.args.preference (counted c.args.choice c.args.literals.now) in
    let transpose = items_of c.args.transpose.now in
    let wide = length_items c.args.transpose.now in
    c.any_dominates-in-Some.ensures ∙ ap (list_any (dominates preferred transpose c.args.keep.now c.args.a)) c.entry-in-Some.ensures
    ∙ candidates preferred c.args.live.now (items_of c.args.rows.now) transpose c.args.keep.now c.args.a c.in-Some.number
    (subst (λ n. IsTranspose n (items_of c.args.rows.now) transpose) (sym wide) c.requires.transpose) c.requires.within (λ n h. let l = c.requires.below n h in omega arith)
    (subst (λ row. has c.in-Some.number row ≡ true) c.entry.ensures c.in-Some.ensures)

pub any_dominates-requires : goal.any_dominates-requires
any_dominates-requires c = record { rises = c.requires.transpose.rises; signatures = c.requires.signatures }

pub any_dominates-requires-in-Some : goal.any_dominates-requires-in-Some
any_dominates-requires-in-Some c = record { rises = c.requires.transpose.rises; signatures = c.requires.signatures }
