use Rattle.std.proofs.Common.{◌≡◌, ◌∙◌, ◌++◌, ◌∷◌, [], ap, ◌&&◌, sym, subst, append_assoc, refl, IfSome, IsNone, arith}
use Rattle.std.proofs.lemmas.List.{take_all}
use Rattle.cube.specs.Cube.{Place, holds, SameSize}
use Rattle.rows.specs.Reduced.{IsMeets}
use Rattle.rows.proofs.Found.{meet_output}
use Rattle.rows.proofs.SumMeets.{IsMeets-found, IsMeets-not_found}
use Rattle.rows.proofs.meets.push_meets.Goals as goal
use Rattle.rows.proofs.meets.push_meets.Goals.{in-Some+in_ok-push, in_default}

pub loop-other-preserved : goal.loop-other-preserved
loop-other-preserved c = λ size cube cubes.
    let before = c.loop-other.invariant size cube cubes in
    elim c.match-branch-2.branch [
      | in-Some+in_ok-push w ↦
          let met = w.in-Some.met in
          let same : SameSize met c.args.row.now = subst (λ o. IfSome o (λ m. SameSize m c.args.row.now)) w.in-Some.is c.in_ok-met.ensures.size in
          let both = subst (λ o. IfSome o (λ m. (p : Place) → holds m p ≡ (holds c.args.row.now p && holds c.other-item.result p))) w.in-Some.is c.in_ok-met.ensures.places in (
            before.0 ++ met ∷ [],
            ap (λ v. v.items) w.all-is ∙ w.in_ok-push.ensures.items ∙ ap (λ l. l ++ met ∷ []) before.1 ∙ append_assoc c.args.all.now.items before.0 (met ∷ []),
            IsMeets-found size c.args.row.now c.args.others.now c.loop-other.other-index c.other-item.result cube cubes c.loop-other-test.true c.other-item.is
                before.0 met before.2 (λ s e. record { has_size = e; some_output = meet_output c.args.row.now c.other-item.result met c.in_ok-met.field-0 w.in-Some.is c.in_ok-met.ensures.none both }) same both,
          )
      | in_default w ↦ (
        before.0,
        ap (λ v. v.items) w.all-is ∙ before.1,
        IsMeets-not_found size c.args.row.now c.args.others.now c.loop-other.other-index c.other-item.result cube cubes c.loop-other-test.true c.other-item.is
            before.0 before.2 (c.in_ok-met.ensures.none.0 (subst IsNone (sym w.in_default.is) refl)),
      )
    ]

pub returns : goal.returns
returns c = λ size cube cubes.
    let before = c.loop-other.invariant size cube cubes in (
      before.0,
      before.1,
      subst (λ l. IsMeets size (c.args.row.now ∷ []) l before.0) (take_all c.loop-other.other-index c.args.others.now (omega arith)) before.2,
    )
