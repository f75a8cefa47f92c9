use Rattle.std.proofs.Common.{◌∙◌, ◌+◌, ◌++◌, ◌<◌, length, ap, sym, subst, drop, refl}
use Rattle.cube.specs.declared.symbol.Symbol.TheVariants.{Dash, Zero, One}
use Rattle.cube.specs.Cube.{with_symbol}
use Rattle.rows.specs.Marks.{is_symbol}
use Rattle.rows.specs.Parts.{part}
use Rattle.sums.proofs.SumSymbols.{part-kept, part-skipped, part-all}
use Rattle.sums.proofs.by_symbol.split_by_symbol.Goals as goal
use Rattle.sums.proofs.by_symbol.split_by_symbol.Goals.{in-Dash+in_ok-push_freed-in-Dash, in-Zero+in_ok-push_freed-in-Zero, in-One+in_ok-push_freed-in-One}

pub loop-row-preserved : goal.loop-row-preserved
loop-row-preserved c =
    let i = c.args.i in
    let rows = c.args.rows.now in
    let k = c.loop-row.row-index in
    let row = c.row-item.result in
    let s = c.symbol.result in
    let freed = with_symbol row i Dash in
    elim c.match-symbol.branch [
      | in-Dash+in_ok-push_freed-in-Dash w ↦ record {
        dashes = ap (λ v. v.items ++ part i Dash (drop (k + 1) rows)) w.dashes-is ∙ part-kept i rows k row s c.loop-row-test.true c.row-item.is c.symbol.ensures Dash c.loop-row.dashes.items w.push_freed.new.rows.items freed w.in-Dash.is refl w.in_ok-push_freed-in-Dash.ensures c.loop-row.invariant.dashes;
        zeros = ap (λ v. v.items ++ part i Zero (drop (k + 1) rows)) w.zeros-is ∙ part-skipped i rows k row s c.loop-row-test.true c.row-item.is c.symbol.ensures Zero c.loop-row.zeros.items (ap (is_symbol Zero) w.in-Dash.is) c.loop-row.invariant.zeros;
        ones = ap (λ v. v.items ++ part i One (drop (k + 1) rows)) w.ones-is ∙ part-skipped i rows k row s c.loop-row-test.true c.row-item.is c.symbol.ensures One c.loop-row.ones.items (ap (is_symbol One) w.in-Dash.is) c.loop-row.invariant.ones;
      }
      | in-Zero+in_ok-push_freed-in-Zero w ↦ record {
        dashes = ap (λ v. v.items ++ part i Dash (drop (k + 1) rows)) w.dashes-is ∙ part-skipped i rows k row s c.loop-row-test.true c.row-item.is c.symbol.ensures Dash c.loop-row.dashes.items (ap (is_symbol Dash) w.in-Zero.is) c.loop-row.invariant.dashes;
        zeros = ap (λ v. v.items ++ part i Zero (drop (k + 1) rows)) w.zeros-is ∙ part-kept i rows k row s c.loop-row-test.true c.row-item.is c.symbol.ensures Zero c.loop-row.zeros.items w.push_freed-in-Zero.new.rows.items freed w.in-Zero.is refl w.in_ok-push_freed-in-Zero.ensures c.loop-row.invariant.zeros;
        ones = ap (λ v. v.items ++ part i One (drop (k + 1) rows)) w.ones-is ∙ part-skipped i rows k row s c.loop-row-test.true c.row-item.is c.symbol.ensures One c.loop-row.ones.items (ap (is_symbol One) w.in-Zero.is) c.loop-row.invariant.ones;
      }
      | in-One+in_ok-push_freed-in-One w ↦ record {
        dashes = ap (λ v. v.items ++ part i Dash (drop (k + 1) rows)) w.dashes-is ∙ part-skipped i rows k row s c.loop-row-test.true c.row-item.is c.symbol.ensures Dash c.loop-row.dashes.items (ap (is_symbol Dash) w.in-One.is) c.loop-row.invariant.dashes;
        zeros = ap (λ v. v.items ++ part i Zero (drop (k + 1) rows)) w.zeros-is ∙ part-skipped i rows k row s c.loop-row-test.true c.row-item.is c.symbol.ensures Zero c.loop-row.zeros.items (ap (is_symbol Zero) w.in-One.is) c.loop-row.invariant.zeros;
        ones = ap (λ v. v.items ++ part i One (drop (k + 1) rows)) w.ones-is ∙ part-kept i rows k row s c.loop-row-test.true c.row-item.is c.symbol.ensures One c.loop-row.ones.items w.push_freed-in-One.new.rows.items freed w.in-One.is refl w.in_ok-push_freed-in-One.ensures c.loop-row.invariant.ones;
      }
    ]

pub loop-row-init : goal.loop-row-init
loop-row-init c =
    let i = c.args.i in
    let rows = c.args.rows.now in record {
      dashes = ap (λ l. l ++ part i Dash rows) c.new-dashes.ensures.items;
      zeros = ap (λ l. l ++ part i Zero rows) c.in_ok-zeros.ensures.items;
      ones = ap (λ l. l ++ part i One rows) c.in_ok-ones.ensures.items;
    }

pub symbol-requires : goal.symbol-requires
symbol-requires c =
    subst (λ d. c.args.i < length d.symbols) (sym c.row-item.is) (c.requires c.loop-row.row-index c.row-item.result c.loop-row-test.true)

pub push_freed-requires : goal.push_freed-requires
push_freed-requires c =
    subst (λ d. c.args.i < length d.symbols) (sym c.row-item.is) (c.requires c.loop-row.row-index c.row-item.result c.loop-row-test.true)

pub push_freed-requires-in-Zero : goal.push_freed-requires-in-Zero
push_freed-requires-in-Zero c =
    subst (λ d. c.args.i < length d.symbols) (sym c.row-item.is) (c.requires c.loop-row.row-index c.row-item.result c.loop-row-test.true)

pub push_freed-requires-in-One : goal.push_freed-requires-in-One
push_freed-requires-in-One c =
    subst (λ d. c.args.i < length d.symbols) (sym c.row-item.is) (c.requires c.loop-row.row-index c.row-item.result c.loop-row-test.true)

pub returns-clause-dashes : goal.returns-clause-dashes
returns-clause-dashes c =
    part-all c.args.i c.args.rows.now c.loop-row.row-index Dash c.loop-row.dashes.items c.loop-row-test.false c.loop-row.invariant.dashes

pub returns-clause-zeros : goal.returns-clause-zeros
returns-clause-zeros c =
    part-all c.args.i c.args.rows.now c.loop-row.row-index Zero c.loop-row.zeros.items c.loop-row-test.false c.loop-row.invariant.zeros

pub returns-clause-ones : goal.returns-clause-ones
returns-clause-ones c =
    part-all c.args.i c.args.rows.now c.loop-row.row-index One c.loop-row.ones.items c.loop-row-test.false c.loop-row.invariant.ones
