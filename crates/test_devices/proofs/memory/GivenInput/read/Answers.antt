use Rattle.std.proofs.Common.{arith, ◌≡◌, ◌+◌, take, drop, length, ℕ, List, ◌++◌, sym, ap, ◌∙◌}
use Rattle.std.proofs.lemmas.List.{take-append-le, take-append-drop, drop-drop, length-take-le, drop_all, length-append, length-drop}
use Rattle.std.proofs.Math.Seq.{take-length}
use Rattle.test_devices.proofs.memory.GivenInput.read.Goals as goal

-- what a read put at the buffer's front, and then the rest, was left before
moved : (bs x y : List ℕ) (at n : ℕ) → length x ≡ n → x ≡ take n (drop at bs) → drop at bs ≡ take n (x ++ y) ++ drop (at + n) bs
moved bs x y at n len is =
    let front : take n (x ++ y) ≡ take n (drop at bs) = take-append-le n x y (omega arith) ∙ ap (λ k. take k x) (sym len) ∙ take-length x ∙ is in
    sym (ap (λ z. z ++ drop (at + n) bs) front ∙ ap (λ z. take n (drop at bs) ++ z) (sym (drop-drop n at bs)) ∙ take-append-drop n (drop at bs))

pub returns-clause-bytes : goal.returns-clause-bytes
returns-clause-bytes c =
    let at = c.self.inside.at in
    let n = c.min-count.result in
    let bs = c.self.inside.bytes.items in
    let len : length c.copy_from_slice.new.self ≡ n = c.copy_from_slice.ensures.len ∙ length-take-le n c.args.buffer.now (omega (arith, c.min-count.ensures)) in
    let is : c.copy_from_slice.new.self ≡ take n (drop at bs) = c.copy_from_slice.ensures.after ∙ ap (λ k. take k (drop at c.deref.result.now)) (omega arith) ∙ ap (λ z. take n (drop at z)) c.deref.ensures.value in (
      ap (λ store. store.left) (sym c.self.view_is) ∙ moved bs c.copy_from_slice.new.self (drop n c.args.buffer.now) at n len is,
      λ none room. drop_all (at + n) bs (omega (arith, c.len.ensures, c.min.ensures, c.min-count.ensures, length-append c.copy_from_slice.new.self (drop n c.args.buffer.now), length-drop n c.args.buffer.now, len)),
    )

pub returns-clause-most : goal.returns-clause-most
returns-clause-most c =
    omega (arith, ap (λ store. length store.left) c.self.view_is, ap (λ store. store.most) c.self.view_is, length-drop c.self.inside.at c.self.inside.bytes.items, c.len.ensures, c.min.ensures, c.min-count.ensures)
