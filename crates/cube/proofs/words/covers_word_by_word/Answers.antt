use Rattle.std.proofs.Common.{arith, below_more}
use Rattle.std.proofs.lemmas.Bool.{false≢true}
use Rattle.cube.proofs.WordLemmas.{bits_from_covers, covers_from_bits}
use Rattle.cube.proofs.words.covers_word_by_word.Goals as goal

pub returns-then-b-k-ne0 : goal.returns-then-b-k-ne0
returns-then-b-k-ne0 c = (
  λ t. absurd (false≢true t),
  λ h. absurd (c.if-b-k-ne0.true (covers_from_bits _ _ (c.type_inv.a c.loop-k.k).fits (c.type_inv.b c.loop-k.k).fits (h c.loop-k.k (omega arith)))),
)

pub loop-k-preserved : goal.loop-k-preserved
loop-k-preserved c =
    below_more _ _ c.loop-k.invariant (bits_from_covers _ _ (c.type_inv.a c.loop-k.k).fits c.if-b-k-ne0.false)
