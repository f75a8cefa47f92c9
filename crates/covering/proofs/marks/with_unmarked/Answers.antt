use Rattle.std.proofs.Common.{◌≡◌, ◌∙◌, ℕ, Bool, true, false, cond, not, ◌&&◌, ◌||◌, eqb, take, slice_index_or, refl, sym, ap}
use Rattle.std.proofs.lemmas.List.{take_more, take_all}
use Rattle.covering.specs.Table.{has}
use Rattle.covering.specs.Search.{marked}
use Rattle.covering.proofs.TransposeSteps.{has_append}
use Rattle.covering.proofs.Pushes.{number_passes, number_fails}
use Rattle.covering.proofs.marks.with_unmarked.Goals as goal
use Rattle.covering.proofs.marks.with_unmarked.Goals.{After-loop-column, then-not-is_marked+in_ok-push, else-not-is_marked}

-- what one more number that has no mark changes
struck : (hit here mark : Bool) → cond hit false (mark && not here) ≡ (mark && not (here || hit))
struck true true true = refl
struck true true false = refl
struck true false true = refl
struck true false false = refl
struck false true true = refl
struck false true false = refl
struck false false true = refl
struck false false false = refl

unmarked : (here mark : Bool) → not (mark && not here) ≡ (here || not mark)
unmarked true true = refl
unmarked true false = refl
unmarked false true = refl
unmarked false false = refl

all_left : (mark : Bool) → mark ≡ (mark && true)
all_left true = refl
all_left false = refl

pub loop-column-init : goal.loop-column-init
loop-column-init c = λ n. ap (λ marks. marked marks n) (c.in_ok-rest.ensures.items_if_clones_equal (λ y e k. k)) ∙ all_left (marked c.args.keep.now n)

pub loop-column-preserved : goal.loop-column-preserved
loop-column-preserved c = λ n.
    let taken = c.args.taken.now in
    let i = c.loop-column.column-index in
    let x = slice_index_or taken i 0 in
    c.unmark.ensures.at n ∙ ap (cond (eqb n x) false) (c.loop-column.invariant n) ∙ struck (eqb n x) (has n (take i taken)) (marked c.args.keep.now n)
    ∙ ap (λ b. marked c.args.keep.now n && not b) (sym (ap (has n) (take_more taken i 0 c.loop-column-test.true) ∙ has_append n (take i taken) x))

-- what has no mark after the first loop
same : (c : After-loop-column) (n : ℕ) → not (marked c.loop-column.rest.items n) ≡ (has n c.args.taken.now || not (marked c.args.keep.now n))
same c n =
    let taken = c.args.taken.now in
    ap not (c.loop-column.invariant n ∙ ap (λ xs. marked c.args.keep.now n && not (has n xs)) (take_all c.loop-column.column-index taken c.loop-column-test.false)) ∙ unmarked (has n taken) (marked c.args.keep.now n)

pub loop-n-preserved : goal.loop-n-preserved
loop-n-preserved c =
    let test = λ (n : ℕ). has n c.args.taken.now || not (marked c.args.keep.now n) in
    let n = c.loop-n.n in
    let is : not c.is_marked.result ≡ test n = ap not (c.is_marked.ensures ∙ ap (λ marks. marked marks n) c.deref.ensures.value) ∙ same (goal.at.loop-n-preserved c).After-loop-column n in
    elim c.if-not-is_marked.branch [
      | then-not-is_marked+in_ok-push w ↦ number_passes test n c.loop-n.unmarked.items _ (sym is ∙ ap not w.if-not-is_marked.true) c.loop-n.invariant (ap (λ v. v.items) w.unmarked-is ∙ w.in_ok-push.ensures.items)
      | else-not-is_marked w ↦ number_fails test n c.loop-n.unmarked.items _ (sym is ∙ ap not w.if-not-is_marked.false) c.loop-n.invariant (ap (λ v. v.items) w.unmarked-is)
    ]
