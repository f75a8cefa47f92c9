use Rattle.std.proofs.Common.{◌≡◌, ℕ, ◌<◌, ◌*◌, true, false, get_or}
use Rattle.rows.proofs.outputs.share_output.Given as goal

abbrev pub invariant-loop-w : goal.invariant-loop-w
invariant-loop-w l = (j : ℕ) → j < 64 * l.w → get_or l.cube.outputs j false ≡ true → get_or l.other.outputs j false ≡ true → ⊥
