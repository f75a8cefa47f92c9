use Rattle.pla.proofs.Finds.{first_position}
use Rattle.pla.proofs.line.comment_at.Goals as goal

pub returns : goal.returns
returns c = first_position 35 c.args.line.now c.memchr.result c.memchr.ensures
