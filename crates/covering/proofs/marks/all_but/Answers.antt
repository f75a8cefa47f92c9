use Rattle.std.proofs.Common.{◌≡◌, ◌∙◌, Bool, ◌==◌, true, false, cond, not, eqb, length, ap, refl}
use Rattle.std.proofs.lemmas.List.{length-replicate, get_or-replicate}
use Rattle.std.proofs.lemmas.List.FromFn.{fill_by_all}
use Rattle.covering.specs.Search.{marked}
use Rattle.covering.proofs.marks.all_but.Goals as goal

not_is : (b : Bool) → cond b false true ≡ not b
not_is true = refl
not_is false = refl

pub returns : goal.returns
returns c =
    let long = c.unmark.ensures.as_long ∙ ap length c.in_ok-others.ensures ∙ length-replicate c.args.end true in
    fill_by_all (λ k. not (k == c.args.column)) c.unmark.new.marks.items c.args.end false long
    (λ k h. c.unmark.ensures.at k ∙ ap (λ xs. cond (eqb k c.args.column) false (marked xs k)) c.in_ok-others.ensures ∙ ap (cond (eqb k c.args.column) false) (get_or-replicate c.args.end k true false h) ∙ not_is (k == c.args.column))
