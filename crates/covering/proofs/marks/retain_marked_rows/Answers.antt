use Rattle.std.proofs.Common.{◌≡◌, ◌∙◌, ◌+◌, ◌++◌, take, drop, length, sym, ap, arith}
use Rattle.std.proofs.lemmas.List.{append-nil, drop_all}
use Rattle.std.proofs.lemmas.List.Edits.{length-swap}
use Rattle.covering.specs.Table.{items_of}
use Rattle.covering.specs.Search.{marked}
use Rattle.covering.specs.Reduce.{rows_from}
use Rattle.covering.proofs.Rows.{row_stays, row_goes}
use Rattle.covering.proofs.marks.retain_marked_rows.Goals as goal
use Rattle.covering.proofs.marks.retain_marked_rows.Goals.{then-is_marked, else-is_marked}

pub loop-i-preserved : goal.loop-i-preserved
loop-i-preserved c =
    let rows = c.loop-i.rows.items in
    let i = c.loop-i.i in
    let test = marked c.args.stay.now in
    elim c.if-is_marked.branch [
      | then-is_marked w ↦
          let here : c.if-is_marked.rows.items ≡ w.swap.new.self.items = ap (λ v. v.items) w.rows-is in
          record {
            all = ap (λ n. items_of (take n c.if-is_marked.rows.items) ++ rows_from test (i + 1) (items_of (drop (i + 1) c.if-is_marked.rows.items))) w.kept-is
                ∙ row_stays test rows c.if-is_marked.rows.items c.loop-i.kept i c.loop-i.invariant.kept (omega (arith, c.loop-i.invariant.long))
                (sym c.is_marked.ensures ∙ w.if-is_marked.true) (here ∙ w.swap.ensures.items)
                ∙ c.loop-i.invariant.all;
            kept = omega (arith, w.kept-is, c.loop-i.invariant.kept);
            long = ap length (here ∙ w.swap.ensures.items) ∙ length-swap rows c.loop-i.kept i ∙ c.loop-i.invariant.long;
          }
      | else-is_marked w ↦
          let here : c.if-is_marked.rows.items ≡ rows = ap (λ v. v.items) w.rows-is in
          record {
            all = ap (λ n. items_of (take n c.if-is_marked.rows.items) ++ rows_from test (i + 1) (items_of (drop (i + 1) c.if-is_marked.rows.items))) w.kept-is
                ∙ ap (λ rs. items_of (take c.loop-i.kept rs) ++ rows_from test (i + 1) (items_of (drop (i + 1) rs))) here
                ∙ ap (λ rs. items_of (take c.loop-i.kept rows) ++ rs) (row_goes test rows i (omega (arith, c.loop-i.invariant.long)) (sym c.is_marked.ensures ∙ w.if-is_marked.false))
                ∙ c.loop-i.invariant.all;
            kept = omega (arith, w.kept-is, c.loop-i.invariant.kept);
            long = ap length here ∙ c.loop-i.invariant.long;
          }
    ]

pub returns : goal.returns
returns c =
    let rows = c.loop-i.rows.items in
    let test = marked c.args.stay.now in
    ap items_of c.truncate.ensures.items
    ∙ sym (append-nil (items_of (take c.loop-i.kept rows)))
    ∙ ap (λ rs. items_of (take c.loop-i.kept rows) ++ rows_from test c.loop-i.i (items_of rs)) (sym (drop_all c.loop-i.i rows (omega (arith, c.loop-i.invariant.long))))
    ∙ c.loop-i.invariant.all
