use Rattle.std.proofs.Common.{refl, rules}
use Rattle.std.proofs.lemmas.Bool.{false≢true}
use Rattle.cube.proofs.PackingLemmas.{length-symbols, length-outputs, few_words, same_words, SameSize-of_shape}
use Rattle.cube.proofs.JoinLemmas.{IsPacked-supercube}
use Rattle.cube.proofs.cube.Cube.join.Goals as goal

pub invariant_of-result : goal.invariant_of-result
invariant_of-result c =
    (IsPacked-supercube _ _ c.requires _ _ _ _ _ (length-symbols _ _ _ _ c.self.view_is) (length-outputs _ _ _ _ c.self.view_is)
    c.words.ensures.packs c.words-2.ensures.packs c.words.ensures.some_output c.in_ok-words.ensures.len
    (λ k lt. let h = c.in_ok-words.ensures.words k lt in search (rules, h))).0

pub returns-clause-value : goal.returns-clause-value
returns-clause-value c =
    (IsPacked-supercube _ _ c.requires _ _ _ _ _ (length-symbols _ _ _ _ c.self.view_is) (length-outputs _ _ _ _ c.self.view_is)
    c.words.ensures.packs c.words-2.ensures.packs c.words.ensures.some_output c.in_ok-words.ensures.len
    (λ k lt. let h = c.in_ok-words.ensures.words k lt in search (rules, h))).1

pub zip_words-requires-clause-same_len : goal.zip_words-requires-clause-same_len
zip_words-requires-clause-same_len c = same_words _ _ _ _ c.requires c.words.ensures.packs c.words-2.ensures.packs

pub returns-in_err-words-clause-inline : goal.returns-in_err-words-clause-inline
returns-in_err-words-clause-inline c few = absurd (false≢true (c.in_err-words.ensures.inline (few_words _ _ c.words.ensures.packs few)))

pub returns-clause-size : goal.returns-clause-size
returns-clause-size c = SameSize-of_shape _ _ _ c.in_ok-words.words.items _ c.self.view_is

pub returns-clause-inline : goal.returns-clause-inline
returns-clause-inline c _ = refl
