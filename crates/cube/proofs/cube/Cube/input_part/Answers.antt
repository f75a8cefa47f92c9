use Rattle.std.proofs.Common.{ap, sym, ◌∙◌, arith}
use Rattle.cube.specs.Packing.{input_words}
use Rattle.cube.proofs.PackingLemmas.{length-symbols, length-words}
use Rattle.cube.proofs.cube.Cube.input_part.Goals as goal

pub split_at-requires : goal.split_at-requires
split_at-requires c =
    omega (arith, c.input_words.ensures.value, length-symbols _ _ _ _ c.self.view_is, length-words _ _ c.words.ensures.packs)

pub returns-clause-packs : goal.returns-clause-packs
returns-clause-packs c =
    let start = c.input_words.ensures.value ∙ ap (λ n. input_words n) (sym (length-symbols _ _ _ _ c.self.view_is)) in
    rw (c.split_at.ensures.front, start) c.words.ensures.packs.inputs

pub returns-clause-few : goal.returns-clause-few
returns-clause-few c = omega arith
