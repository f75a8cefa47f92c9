use Rattle.std.proofs.Common.{◌≡◌, ◌++◌, ◌∙◌, ap, subst, IfOk}
use Rattle.pla.specs.Completed.{outside}
use Rattle.pla.proofs.completed.outside_both.Goals as goal

pub returns : goal.returns
returns c =
    let list = c.args.list.now in
    let others = c.args.other.now.cubes in
    let both = c.append.new.self in
    let size : both.size ≡ list.size = c.in_ok-append.ensures.size ∙ ap (λ l. l.size) c.in_ok-both.ensures in
    let cubes : both.cubes ≡ list.cubes ++ others = c.in_ok-append.ensures.ok ∙ ap (λ l. l.cubes ++ others) c.in_ok-both.ensures in
    subst (λ s. IfOk c.complement.result (λ sum. sum ≡ record { size = s; cubes = outside s (list.cubes ++ others) })) size
    (subst (λ cs. IfOk c.complement.result (λ sum. sum ≡ record { size = both.size; cubes = outside both.size cs })) cubes c.complement.ensures)
