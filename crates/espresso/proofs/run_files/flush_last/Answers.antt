use Rattle.espresso.proofs.Ways.{flush_failed, flush_ignored, flush_kept}
use Rattle.espresso.proofs.run_files.flush_last.Goals as goal

pub returns-in-Ok-flush-clause-passes : goal.returns-in-Ok-flush-clause-passes
returns-in-Ok-flush-clause-passes g c = λ line intakes names old before s. flush_kept line intakes names old _ _ before _ _ c.flush.ensures.bytes
    c.in-Ok.status (rw c.in-Ok-flush.is at c.flush.ensures.count) (rw c.in-Ok.is at s)

pub returns-in-Err-flush-clause-passes : goal.returns-in-Err-flush-clause-passes
returns-in-Err-flush-clause-passes g c = λ line intakes names old before s. flush_failed line intakes names old _ _ before _ _ c.flush.ensures.bytes
    c.in-Ok.status (rw c.in-Err-flush.is at c.flush.ensures.count) (rw c.in-Ok.is at s)

pub returns-in-Err-clause-passes : goal.returns-in-Err-clause-passes
returns-in-Err-clause-passes g c = λ line intakes names old before s. flush_ignored line intakes names old _ _ before _ _ c.flush-in-Err.ensures.bytes
    c.in-Err.failure c.flush-in-Err.result c.flush-in-Err.ensures.count (rw c.in-Err.is at s)
