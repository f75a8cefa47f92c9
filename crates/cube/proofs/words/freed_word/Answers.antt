use Rattle.cube.proofs.WordLemmas.{freed_low, freed_high}
use Rattle.cube.proofs.words.freed_word.Goals as goal

pub returns-clause-low : goal.returns-clause-low
returns-clause-low c = freed_low c.args.a c.args.b

pub returns-clause-high : goal.returns-clause-high
returns-clause-high c = freed_high c.args.a c.args.b
