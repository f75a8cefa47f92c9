use Rattle.std.proofs.Common.{arith, length, ap}
use Rattle.cube.proofs.PackingLemmas.{slice_get-outputs, length-outputs, length-symbols, length-words, Packs-from_invariant}
use Rattle.cube.proofs.cube.Cube.output.Goals as goal

pub bounds-as_slice-input_words : goal.bounds-as_slice-input_words
bounds-as_slice-input_words c =
    omega (
      arith,
      length-outputs _ _ _ _ c.self.view_is,
      ap length c.as_slice.ensures,
      length-symbols _ _ _ _ c.self.view_is,
      c.input_words.ensures.value,
      length-words _ _ (Packs-from_invariant _ _ _ _ c.self.view_is c.self.invariant),
    )

pub returns : goal.returns
returns c = rw (c.as_slice.ensures, c.input_words.ensures.value) (slice_get-outputs _ _ _ _ _ c.self.view_is c.requires)
