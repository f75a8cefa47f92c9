use Rattle.std.proofs.Common.{◌++◌, ap, sym, ◌∙◌}
use Rattle.std.proofs.Math.Seq.{take-length}
use Rattle.pla.proofs.echo_buffer.EchoBufferOutput.write.Goals as goal

pub returns-in-Ok-clause-bytes : goal.returns-in-Ok-clause-bytes
returns-in-Ok-clause-bytes c = c.in-Ok.ensures.items ∙ ap (λ t. c.args.self.now.bytes.items ++ t) (sym (take-length c.args.bytes.now))
