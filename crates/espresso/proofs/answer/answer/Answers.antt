use Rattle.std.proofs.Common.{◌∙◌, refl, sym}
use Rattle.std.proofs.lemmas.Result.{err_from_is_err_and}
use Rattle.cube.specs.Cube.{difference, intersection}
use Rattle.cube.specs.Sum.{complete_sum}
use Rattle.cover.specs.Contained.{contained}
use Rattle.cover.specs.Places.{places}
use Rattle.minimum.specs.Primes.{essential_of, exact_of, primes_of}
use Rattle.espresso.specs.declared.command.Command.TheVariants.{Echo, Check, Contain, Primes, Essen, Exact, Tautology, Verify, Intersect, Sharp}
use Rattle.pla.specs.Completed.{three_sets}
use Rattle.espresso.specs.Run.{trace}
use Rattle.espresso.proofs.Opening.{follows_one, follows_stopped, follows_two}
use Rattle.espresso.proofs.Printed.{cubes_of}
use Rattle.espresso.proofs.answer.answer.Goals as goal

pub returns-in-Echo : goal.returns-in-Echo
returns-in-Echo g c = follows_one (g.S.SecondSource.asked c.args.line.now) c.args.line.now c.args.pla.now Echo (sym c.command.ensures ∙ c.in-Echo.is) refl c.args.second.now
    (trace (g.W.Output.taken c.args.out.now) (g.W.Output.taken c.print_lists.new.out) (g.W.Output.calls c.args.out.now) (g.W.Output.calls c.print_lists.new.out))
    c.print_lists.result (rw (c.out-out_type.ensures, c.on.ensures) at c.print_lists.ensures)

pub returns-in-Check : goal.returns-in-Check
returns-in-Check g c = follows_one (g.S.SecondSource.asked c.args.line.now) c.args.line.now c.args.pla.now Check (sym c.command.ensures ∙ c.in-Check.is) refl c.args.second.now
    (trace (g.W.Output.taken c.args.out.now) (g.W.Output.taken c.check.new.out) (g.W.Output.calls c.args.out.now) (g.W.Output.calls c.check.new.out))
    c.check.result c.check.ensures

pub returns-in-Contain : goal.returns-in-Contain
returns-in-Contain g c = follows_one (g.S.SecondSource.asked c.args.line.now) c.args.line.now c.args.pla.now Contain (sym c.command.ensures ∙ c.in-Contain.is) refl c.args.second.now
    (trace (g.W.Output.taken c.args.out.now) (g.W.Output.taken c.print_with.new.out) (g.W.Output.calls c.args.out.now) (g.W.Output.calls c.print_with.new.out))
    c.print_with.result (rw c.out-out_type.ensures at (c.print_with.ensures (contained c.args.pla.now.size c.args.pla.now.on) (cubes_of c.contain.result _ _ (rw (c.on-in-Contain.ensures) at c.contain.ensures))))

pub returns-in-Primes : goal.returns-in-Primes
returns-in-Primes g c = follows_one (g.S.SecondSource.asked c.args.line.now) c.args.line.now c.args.pla.now Primes (sym c.command.ensures ∙ c.in-Primes.is) refl c.args.second.now
    (trace (g.W.Output.taken c.args.out.now) (g.W.Output.taken c.print_with-in-Primes.new.out) (g.W.Output.calls c.args.out.now) (g.W.Output.calls c.print_with-in-Primes.new.out))
    c.print_with-in-Primes.result (rw c.out-out_type.ensures at (c.print_with-in-Primes.ensures (primes_of (three_sets c.args.pla.now)) (cubes_of c.primes_of_pla.result _ _ c.primes_of_pla.ensures)))

pub returns-in-Essen : goal.returns-in-Essen
returns-in-Essen g c = follows_one (g.S.SecondSource.asked c.args.line.now) c.args.line.now c.args.pla.now Essen (sym c.command.ensures ∙ c.in-Essen.is) refl c.args.second.now
    (trace (g.W.Output.taken c.args.out.now) (g.W.Output.taken c.print_with-in-Essen.new.out) (g.W.Output.calls c.args.out.now) (g.W.Output.calls c.print_with-in-Essen.new.out))
    c.print_with-in-Essen.result (rw c.out-out_type.ensures at (c.print_with-in-Essen.ensures (essential_of (three_sets c.args.pla.now) (primes_of (three_sets c.args.pla.now))) (cubes_of c.essential_of_pla.result _ _ c.essential_of_pla.ensures)))

pub returns-in-Exact : goal.returns-in-Exact
returns-in-Exact g c = follows_one (g.S.SecondSource.asked c.args.line.now) c.args.line.now c.args.pla.now Exact (sym c.command.ensures ∙ c.in-Exact.is) refl c.args.second.now
    (trace (g.W.Output.taken c.args.out.now) (g.W.Output.taken c.print_with-in-Exact.new.out) (g.W.Output.calls c.args.out.now) (g.W.Output.calls c.print_with-in-Exact.new.out))
    c.print_with-in-Exact.result (rw c.out-out_type.ensures at (c.print_with-in-Exact.ensures (exact_of c.args.line.now.choice (three_sets c.args.pla.now)) (cubes_of c.exact_of_pla-least.result _ _ (rw (c.choice.ensures) at c.exact_of_pla-least.ensures))))

pub returns-in-Tautology : goal.returns-in-Tautology
returns-in-Tautology g c = follows_one (g.S.SecondSource.asked c.args.line.now) c.args.line.now c.args.pla.now Tautology (sym c.command.ensures ∙ c.in-Tautology.is) refl c.args.second.now
    (trace (g.W.Output.taken c.args.out.now) (g.W.Output.taken c.tautology.new.out) (g.W.Output.calls c.args.out.now) (g.W.Output.calls c.tautology.new.out))
    c.tautology.result c.tautology.ensures

pub returns-in_err-other-in-Verify : goal.returns-in_err-other-in-Verify
returns-in_err-other-in-Verify g c = let p = err_from_is_err_and c.from_residual.result c.from_residual.ensures.1 in
    rw (p.1, p.2) (follows_stopped (g.S.SecondSource.asked c.args.line.now) c.args.line.now c.args.pla.now c.args.second.now c.read_other.new.second
    (g.W.Output.taken c.args.out.now) (g.W.Output.taken c.read_other.new.out) (g.W.Output.calls c.args.out.now) (g.W.Output.calls c.read_other.new.out)
    Verify (sym c.command.ensures ∙ c.in-Verify.is) refl c.in_err-other-in-Verify.field-0.0 (rw c.in_err-other-in-Verify.was at c.read_other.ensures))

pub returns-in_err-other-in-Intersect : goal.returns-in_err-other-in-Intersect
returns-in_err-other-in-Intersect g c = let p = err_from_is_err_and c.from_residual-in_err-other-in-Intersect.result c.from_residual-in_err-other-in-Intersect.ensures.1 in
    rw (p.1, p.2) (follows_stopped (g.S.SecondSource.asked c.args.line.now) c.args.line.now c.args.pla.now c.args.second.now c.read_other-in-Intersect.new.second
    (g.W.Output.taken c.args.out.now) (g.W.Output.taken c.read_other-in-Intersect.new.out) (g.W.Output.calls c.args.out.now) (g.W.Output.calls c.read_other-in-Intersect.new.out)
    Intersect (sym c.command.ensures ∙ c.in-Intersect.is) refl c.in_err-other-in-Intersect.field-0.0 (rw c.in_err-other-in-Intersect.was at c.read_other-in-Intersect.ensures))

pub returns-in_err-other-in-Sharp : goal.returns-in_err-other-in-Sharp
returns-in_err-other-in-Sharp g c = let p = err_from_is_err_and c.from_residual-in_err-other-in-Sharp.result c.from_residual-in_err-other-in-Sharp.ensures.1 in
    rw (p.1, p.2) (follows_stopped (g.S.SecondSource.asked c.args.line.now) c.args.line.now c.args.pla.now c.args.second.now c.read_other-in-Sharp.new.second
    (g.W.Output.taken c.args.out.now) (g.W.Output.taken c.read_other-in-Sharp.new.out) (g.W.Output.calls c.args.out.now) (g.W.Output.calls c.read_other-in-Sharp.new.out)
    Sharp (sym c.command.ensures ∙ c.in-Sharp.is) refl c.in_err-other-in-Sharp.field-0.0 (rw c.in_err-other-in-Sharp.was at c.read_other-in-Sharp.ensures))

pub returns-in_ok-other-in-Verify : goal.returns-in_ok-other-in-Verify
returns-in_ok-other-in-Verify g c = follows_two (g.S.SecondSource.asked c.args.line.now) c.args.line.now c.args.pla.now c.args.second.now c.read_other.new.second
    (g.W.Output.taken c.args.out.now) (g.W.Output.taken c.read_other.new.out) (g.W.Output.calls c.args.out.now) (g.W.Output.calls c.read_other.new.out)
    Verify (sym c.command.ensures ∙ c.in-Verify.is) c.in_ok-other-in-Verify.other (rw c.in_ok-other-in-Verify.was at c.read_other.ensures)
    (g.W.Output.taken c.verify.new.out) (g.W.Output.calls c.verify.new.out) c.verify.result c.verify.ensures

pub returns-in_ok-other-in-Intersect : goal.returns-in_ok-other-in-Intersect
returns-in_ok-other-in-Intersect g c = follows_two (g.S.SecondSource.asked c.args.line.now) c.args.line.now c.args.pla.now c.args.second.now c.read_other-in-Intersect.new.second
    (g.W.Output.taken c.args.out.now) (g.W.Output.taken c.read_other-in-Intersect.new.out) (g.W.Output.calls c.args.out.now) (g.W.Output.calls c.read_other-in-Intersect.new.out)
    Intersect (sym c.command.ensures ∙ c.in-Intersect.is) c.in_ok-other-in-Intersect.other (rw c.in_ok-other-in-Intersect.was at c.read_other-in-Intersect.ensures)
    (g.W.Output.taken c.print_with-in-Intersect.new.out) (g.W.Output.calls c.print_with-in-Intersect.new.out) c.print_with-in-Intersect.result (c.print_with-in-Intersect.ensures (complete_sum c.args.pla.now.size (intersection (places c.args.pla.now.on) (places c.in_ok-other-in-Intersect.other.on))) (cubes_of c.intersect-both.result _ _ (rw (c.on-in-Intersect.ensures, c.on-in-Intersect-2.ensures) at c.intersect-both.ensures)))

pub returns-in_ok-other-in-Sharp : goal.returns-in_ok-other-in-Sharp
returns-in_ok-other-in-Sharp g c = follows_two (g.S.SecondSource.asked c.args.line.now) c.args.line.now c.args.pla.now c.args.second.now c.read_other-in-Sharp.new.second
    (g.W.Output.taken c.args.out.now) (g.W.Output.taken c.read_other-in-Sharp.new.out) (g.W.Output.calls c.args.out.now) (g.W.Output.calls c.read_other-in-Sharp.new.out)
    Sharp (sym c.command.ensures ∙ c.in-Sharp.is) c.in_ok-other-in-Sharp.other (rw c.in_ok-other-in-Sharp.was at c.read_other-in-Sharp.ensures)
    (g.W.Output.taken c.print_with-in-Sharp.new.out) (g.W.Output.calls c.print_with-in-Sharp.new.out) c.print_with-in-Sharp.result (c.print_with-in-Sharp.ensures (complete_sum c.args.pla.now.size (difference (places c.args.pla.now.on) (places c.in_ok-other-in-Sharp.other.on))) (cubes_of c.difference-first_alone.result _ _ (rw (c.on-in-Sharp.ensures, c.on-in-Sharp-2.ensures) at c.difference-first_alone.ensures)))
