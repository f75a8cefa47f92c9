use Rattle.std.proofs.Common.{arith, ◌≡◌, ◌+◌, ◌≤◌, take, length, length-append, ℕ, List, ◌++◌, sym, ap, ◌∙◌, append_assoc}
use Rattle.std.proofs.lemmas.List.{take-take, take_at, length-take-le}
use Rattle.test_devices.proofs.memory.TakenOutput.write.Goals as goal

-- what was taken before, and what was put behind it
behind : (bs x y z : List ℕ) (used n most : ℕ) → used ≤ length bs → length x ≡ n → used + n ≤ most → take (used + n) (take most (take used bs ++ (x ++ y) ++ z)) ≡ take used bs ++ x
behind bs x y z used n most within is fits =
    let front = take used bs ++ x in
    let long : length front ≡ used + n = omega (arith, length-append (take used bs) x, length-take-le used bs within, is) in
    take-take (used + n) most (take used bs ++ (x ++ y) ++ z) fits
    ∙ ap (λ t. take (used + n) (t ++ z)) (sym (append_assoc (take used bs) x y))
    ∙ ap (take (used + n)) (append_assoc front y z)
    ∙ take_at front (y ++ z) (used + n) long

pub returns-clause-bytes : goal.returns-clause-bytes
returns-clause-bytes c =
    let used = c.self.inside.used in
    let n = c.min-count.result in
    let bs = c.deref_mut.result.now in
    let new = c.copy_from_slice.new.self in
    let before : take used bs ≡ c.args.self.now.taken = ap (take used) c.deref_mut.ensures.value ∙ ap (λ room. room.taken) c.self.view_is in
    let fits : used + n ≤ c.self.inside.bytes.len = omega (arith, c.self.invariant, c.len.ensures, c.min.ensures, c.min-count.ensures) in
    let len : length new ≡ n = ap length c.copy_from_slice.ensures.after ∙ length-take-le n c.args.bytes.now (omega (arith, c.min-count.ensures)) in
    behind bs new _ _ used n c.self.inside.bytes.len (omega (arith, c.deref_mut.ensures.len, fits)) len fits
    ∙ ap (λ t. t ++ new) before
    ∙ ap (λ t. c.args.self.now.taken ++ t) c.copy_from_slice.ensures.after
