use Rattle.std.proofs.Common.{arith, ◌≡◌, ◌∙◌, Some, ap, inl, inr, length, sym}
use Rattle.std.proofs.lemmas.Bool.{eqb-true, false≢true}
use Rattle.std.proofs.lemmas.List.{length-drop}
use Rattle.test_devices.proofs.memory.Given.fails.Goals as goal

pub returns-else-self-len : goal.returns-else-self-len
returns-else-self-len c = (
  λ last. absurd (c.if-self-len.false (eqb-true _ _ last)),
  λ due. elim due [
    | inl now ↦
        let own : c.self.inside.until_failure ≡ Some 0 = ap (λ store. store.until_failure) c.self.view_is ∙ now in
        absurd (false≢true (sym c.if-eq.false ∙ rw own at c.eq.ensures))
    | inr over ↦
        absurd (c.if-self-len.false (omega (
          arith,
          c.self.invariant,
          c.len.ensures,
          ap (λ store. length store.left) c.self.view_is,
          ap length over.0,
          length-drop c.self.inside.at c.self.inside.bytes.items,
        )))
  ],
)
