use Rattle.std.proofs.Common.{List, ℕ, subst, sym}
use Rattle.cube.specs.Packing.{Packs}
use Rattle.cube.proofs.PackingLemmas.{length-symbols, length-outputs, IsPacked-from_Packs, unpacked-Packs_at}
use Rattle.cube.proofs.cube.Cube.try_clone.Goals as goal

pub invariant_of-result : goal.invariant_of-result
invariant_of-result c =
    IsPacked-from_Packs c.args.self.now _ _ _ (length-symbols _ _ _ _ c.self.view_is) (length-outputs _ _ _ _ c.self.view_is)
    (let P : List ℕ → Type 0 = λ ws. Packs c.args.self.now ws in subst P (sym c.in_ok-words.ensures.value) c.words.ensures.packs)
    c.words.ensures.some_output.0 c.words.ensures.some_output.1

pub returns-clause-value : goal.returns-clause-value
returns-clause-value c =
    unpacked-Packs_at c.args.self.now _ _ _ (length-symbols _ _ _ _ c.self.view_is) (length-outputs _ _ _ _ c.self.view_is)
    (let P : List ℕ → Type 0 = λ ws. Packs c.args.self.now ws in subst P (sym c.in_ok-words.ensures.value) c.words.ensures.packs)
