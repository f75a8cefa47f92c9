use Rattle.std.proofs.Common.{arith, refl, ◌<◌, ◌^◌, get_or, bit_and}
use Rattle.std.proofs.lemmas.Nat.{and_le_l}
use Rattle.cube.proofs.WordLemmas.{bit_from_nonzero}
use Rattle.cube.proofs.words.share_bit_word_by_word.Goals as goal

pub returns-then-a-k-ne0 : goal.returns-then-a-k-ne0
returns-then-a-k-ne0 c =
    let x = get_or c.args.a.now c.loop-k.k 0 in
    let y = get_or c.args.b.now c.loop-k.k 0 in
    let fits : bit_and x y < 2 ^ 64 = omega (arith, and_le_l x y, (c.type_inv.a c.loop-k.k).fits) in
    (λ _. (c.loop-k.k, omega arith, bit_from_nonzero (bit_and x y) fits c.if-a-k-ne0.true), λ _. refl)
