use Rattle.std.proofs.Common.{◌≡◌, ℕ, ◌+◌, ◌-◌, ◌*◌, ◌<◌, Bool, true, false, not, refl, ap, sym, subst, ◌∙◌, arith}
use Rattle.cube.specs.Packing.{bit_of, IsInputWord}
use Rattle.cube.proofs.cube.Cube.literal_bits.Goals as goal

cleared : (b : Bool) → 1 - bit_of b ≡ bit_of (not b)
cleared true = refl
cleared false = refl

word : (c : goal.After-clear_from) → IsInputWord c.args.self.now.symbols c.args.w c.in-Some.word.now
word c =
    let found = c.in-Some.ensures.lookup.3 in
    let P : ℕ → Type 0 = λ x. IsInputWord c.args.self.now.symbols c.args.w x in
    subst P (sym (found.1 0)) (c.input_part.ensures.packs.each c.args.w (subst (λ (n : ℕ). c.args.w < n) c.input_part.ensures.packs.words_len found.0))

pub returns-in-Some-clause-zeros : goal.returns-in-Some-clause-zeros
returns-in-Some-clause-zeros c k lt =
    c.clear_from.ensures.from_on (2 * k + 1) (omega arith) (omega arith) ∙ ap (λ z. 1 - z) ((word c).high k lt) ∙ cleared _

pub returns-in-Some-clause-ones : goal.returns-in-Some-clause-ones
returns-in-Some-clause-ones c k lt =
    c.clear_from.ensures.from_on (2 * k) (omega arith) (omega arith) ∙ ap (λ z. 1 - z) ((word c).low k lt) ∙ cleared _
