use Rattle.std.proofs.Common.{◌∙◌, rules}
use Rattle.std.proofs.lemmas.List.Sums.{count_by-le-length}
use Rattle.cube.specs.Pattern.{is_literal}
use Rattle.cube.proofs.LiteralLemmas.{literals-from_words}
use Rattle.cube.proofs.cube.Cube.literals.Goals as goal

pub returns-clause-value : goal.returns-clause-value
returns-clause-value c = c.count_clear.ensures ∙ literals-from_words c.args.self.now.symbols _ c.input_part-words.ensures.packs (λ v. search rules)

pub returns-clause-at_most : goal.returns-clause-at_most
returns-clause-at_most c = rw (returns-clause-value c) (count_by-le-length is_literal c.args.self.now.symbols)
