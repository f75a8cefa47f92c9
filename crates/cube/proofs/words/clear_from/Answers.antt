use Rattle.cube.proofs.WordLemmas.{clear_from_bits, clear_before_bits}
use Rattle.cube.proofs.words.clear_from.Goals as goal

pub returns-clause-from_on : goal.returns-clause-from_on
returns-clause-from_on c = clear_from_bits c.args.word c.args.bit c.ranges.word.fits c.requires

pub returns-clause-before : goal.returns-clause-before
returns-clause-before c = clear_before_bits c.args.word c.args.bit c.requires
