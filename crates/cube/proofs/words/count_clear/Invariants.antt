use Rattle.std.proofs.Common.{◌≡◌, ◌≤◌, ◌*◌, take, sum_by}
use Rattle.std.specs.Int.{count_zeros, w64}
use Rattle.cube.proofs.words.count_clear.Given as goal

abbrev pub invariant-loop-word : goal.invariant-loop-word
invariant-loop-word l = record {
  counted : l.count ≡ sum_by (count_zeros w64) (take l.word-index l.words);
  bounded : l.count ≤ 64 * l.word-index;
}
