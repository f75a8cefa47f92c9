use Rattle.std.proofs.Common.{◌≡◌, ℕ, ◌∙◌, ◌<◌, ◌*◌, ◌+◌, ◌-◌, ◌/◌, [], length, get_or, ap, arith, bit_and}
use Rattle.cube.proofs.LaneLemmas.{get_or-first_chunks, put_four_more}
use Rattle.cube.proofs.lanes.put_common_of_many.Goals as goal

pub loop-k-preserved : goal.loop-k-preserved
loop-k-preserved c =
    let a = c.args.a.now in
    let b = c.args.b.now in
    let k = c.loop-k.k in
    let lt : k < length a / 4 = omega (arith, c.as_chunks.ensures.front_len) in
    let in_b : k < length b / 4 = omega (arith, c.requires.same) in
    let next : 4 * k + 4 ≡ 4 * (k + 1) = omega arith in
    let of_a : (j : ℕ) → j < 4 → get_or (get_or c.as_chunks.result.0.now k []) j 0 ≡ get_or a (4 * k + j) 0 =
    λ j small. ap (λ l. get_or (get_or l k []) j 0) c.as_chunks.ensures.front ∙ get_or-first_chunks 4 (length a / 4) a k j [] lt small
    ∙ ap (λ i. get_or a i 0) (omega arith) in
    let of_b : (j : ℕ) → j < 4 → get_or (get_or c.as_chunks-2.result.0.now k []) j 0 ≡ get_or b (4 * k + j) 0 =
    λ j small. ap (λ l. get_or (get_or l k []) j 0) c.as_chunks-2.ensures.front ∙ get_or-first_chunks 4 (length b / 4) b k j [] in_b small
    ∙ ap (λ i. get_or b i 0) (omega arith) in
    let more = put_four_more (λ j x. x ≡ bit_and (get_or a j 0) (get_or b j 0)) c.loop-k.words c.copy_from_slice.new.self (4 * k) (4 * k + 4 - 4 * k)
    (omega (arith, lt, c.loop-k.invariant.len)) (omega arith) (omega (arith, c.copy_from_slice.ensures.len)) c.loop-k.invariant.done
    (λ j small. ap (λ r. get_or r j 0) c.copy_from_slice.ensures.after ∙ c.common_of_four.ensures j small
    ∙ ap (λ x. bit_and x (get_or (get_or c.as_chunks-2.result.0.now k []) j 0)) (of_a j small)
    ∙ ap (λ y. bit_and (get_or a (4 * k + j) 0) y) (of_b j small)) in
    record { len = more.0 ∙ c.loop-k.invariant.len; done = λ j small. more.1 j (omega arith) }
