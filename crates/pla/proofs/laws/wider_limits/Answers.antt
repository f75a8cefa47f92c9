use Rattle.std.proofs.Common.{arith}
use Rattle.cube.specs.Limits.{format_limits}
use Rattle.pla.specs.WiderLimits.{older_limits}
use Rattle.pla.proofs.WiderLimits.{read_alike}
use Rattle.pla.proofs.laws.wider_limits.Goals as goal

pub returns-clause-all : goal.returns-clause-all
returns-clause-all c = read_alike

pub returns-clause-older : goal.returns-clause-older
returns-clause-older c = read_alike older_limits format_limits (record { inputs = omega arith; outputs = omega arith; line_bytes = omega arith; lines = omega arith })
