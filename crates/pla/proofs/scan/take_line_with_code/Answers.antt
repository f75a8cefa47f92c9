use Rattle.std.proofs.Common.{◌≡◌, ◌+◌, None, Some, length, option_map, refl, sym, subst}
use Rattle.cube.specs.Limits.{format_limits}
use Rattle.pla.specs.Device.{AllWritten, LastUnwritten}
use Rattle.pla.specs.Fault.{fault_on, at_line}
use Rattle.pla.specs.Scan.{Refuses}
use Rattle.pla.specs.Reads.{MatchCause}
use Rattle.pla.proofs.StepLaws.{taken_fine}
use Rattle.pla.proofs.Feeding.{fault_takes, fault_counts}
use Rattle.pla.proofs.scan.take_line_with_code.Goals as goal

pub returns-in-Err-clause-takes : goal.returns-in-Err-clause-takes
returns-in-Err-clause-takes g c = λ before st. (refl, taken_fine format_limits before c.args.line.now c.args.parser.now c.take.new.self st (c.in-Ok.ensures.stands before st))

pub returns-in-Err-Fault-clause-takes : goal.returns-in-Err-Fault-clause-takes
returns-in-Err-Fault-clause-takes g c = λ before st.
    let number = c.lines-number.result in
    let line = c.args.line.now in
    subst (λ k. MatchCause k ((number + 1 ≡ 0) × (fault_on format_limits before line ≡ None)) (number + 1 ≡ 0) (option_map (at_line (length before + 1)) (fault_on format_limits before line) ≡ Some (at_line (number + 1) k)))
    (sym c.in-Err-Fault.kind-is)
    (fault_takes before line c.args.parser.now number c.in-Err-Fault.kind st c.lines-number.ensures.value (subst (Refuses format_limits before line) c.in-Err-Fault.field-0-is (c.in-Err-Fault.ensures.stands before st)))

pub returns-in-Err-Fault-clause-count : goal.returns-in-Err-Fault-clause-count
returns-in-Err-Fault-clause-count g c = λ before st.
    let count = g.W.Output.calls c.args.output.now in
    subst (λ k. MatchCause k (LastUnwritten count count) (AllWritten count count) (AllWritten count count)) (sym c.in-Err-Fault.kind-is)
    (fault_counts before c.args.line.now c.in-Err-Fault.kind count (subst (Refuses format_limits before c.args.line.now) c.in-Err-Fault.field-0-is (c.in-Err-Fault.ensures.stands before st)))
