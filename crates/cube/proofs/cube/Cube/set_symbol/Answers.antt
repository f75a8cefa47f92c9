use Rattle.cube.proofs.WithSymbolLemmas.{IsPacked-with_symbol}
use Rattle.cube.proofs.cube.Cube.set_symbol.Goals as goal

pub invariant_of-self : goal.invariant_of-self
invariant_of-self c =
    (IsPacked-with_symbol c.args.self.now _ _ c.args.i c.args.symbol _ _ c.with_bit-word.result c.with_bit.result _ _
    c.self.view_is c.self.invariant c.as_mut_slice-words.ensures.value c.requires
    c.allows.ensures c.with_bit-word.ensures.same c.with_bit-word.ensures.others
    c.allows-2.ensures c.with_bit.ensures.same c.with_bit.ensures.others).0

pub returns : goal.returns
returns c =
    (IsPacked-with_symbol c.args.self.now _ _ c.args.i c.args.symbol _ _ c.with_bit-word.result c.with_bit.result _ _
    c.self.view_is c.self.invariant c.as_mut_slice-words.ensures.value c.requires
    c.allows.ensures c.with_bit-word.ensures.same c.with_bit-word.ensures.others
    c.allows-2.ensures c.with_bit.ensures.same c.with_bit.ensures.others).1
