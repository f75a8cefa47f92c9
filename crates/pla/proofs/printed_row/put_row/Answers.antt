use Rattle.std.proofs.Common.{arith, ◌≡◌, ◌+◌, ◌-◌, ◌<◌, [], ◌∷◌, take, set, length, length-append, length-drop, length-set, length-take, drop, map, ℕ, Bool, List, ◌++◌, ap, sym, ◌∙◌, append_assoc}
use Rattle.std.specs.Prelude.{if◌then◌else◌}
use Rattle.std.proofs.lemmas.List.{length-map, take_at, take_more_set}
use Rattle.pla.specs.Text.{symbol_byte}
use Rattle.pla.proofs.printed_row.put_row.Goals as goal

-- a list, a byte, a list behind it, and a byte at the end
row : (a b s o x y z : List ℕ) (i m sep end : ℕ) → a ≡ s ++ x → b ≡ o ++ y → length s ≡ i → length o ≡ m → i < length a → m < length b
    → take (i + 1 + m + 1) (set (take (i + 1) (set a i sep) ++ (b ++ z)) (i + 1 + m) end) ≡ s ++ sep ∷ o ++ end ∷ []
row a b s o x y z i m sep end first second is also some more =
    let front = s ++ sep ∷ [] in
    let whole = (front ++ o) ++ (y ++ z) in
    let at : take (i + 1) (set a i sep) ≡ front = take_more_set a i sep some ∙ ap (λ t. t ++ sep ∷ []) (ap (take i) first ∙ take_at s x i is) in
    let mid : length (front ++ o) ≡ i + 1 + m = omega (arith, length-append front o, length-append s (sep ∷ []), is, also) in
    let long : i + 1 + m < length whole = omega (arith, length-append (front ++ o) (y ++ z), length-append y z, mid, more, ap length second, length-append o y, also) in
    ap (λ t. take (i + 1 + m + 1) (set t (i + 1 + m) end)) (ap (λ t. t ++ (b ++ z)) at ∙ ap (λ t. front ++ (t ++ z)) second ∙ ap (λ t. front ++ t) (append_assoc o y z) ∙ sym (append_assoc front o (y ++ z)))
    ∙ take_more_set whole (i + 1 + m) end long
    ∙ ap (λ t. t ++ end ∷ []) (take_at (front ++ o) (y ++ z) (i + 1 + m) mid ∙ append_assoc s (sep ∷ []) o)

pub returns-clause-text : goal.returns-clause-text
returns-clause-text c =
    let i = c.inputs-inputs.result in
    let m = c.outputs.result in
    let cube = c.args.cube.now in
    let present = λ (b : Bool). if b then c.args.mark else c.args.other in
    let inputs : length (map symbol_byte cube.symbols) ≡ i = omega (arith, length-map cube.symbols symbol_byte, c.shape-shape.ensures.size, c.inputs-inputs.ensures.value) in
    let outputs : length (map present cube.outputs) ≡ m = omega (arith, length-map cube.outputs present, c.shape-shape.ensures.size, c.outputs.ensures.value) in
    let some : i < length c.put_symbols.new.row = omega (arith, c.put_symbols.auto.row, c.requires, c.inputs-inputs.ensures.limits) in
    let whole = set c.put_symbols.new.row i 32 in
    let more : m < length c.put_outputs.new.row = omega (arith, c.put_outputs.auto.row, length-take (length whole - (i + 1)) (drop (i + 1) whole), length-drop (i + 1) whole, length-set c.put_symbols.new.row i 32, c.put_symbols.auto.row, c.requires, c.inputs-inputs.ensures.limits) in
    row _ _ _ _ _ _ _ i m 32 10 c.put_symbols.ensures c.put_outputs.ensures inputs outputs some more
