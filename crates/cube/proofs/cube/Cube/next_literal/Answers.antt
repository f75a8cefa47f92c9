use Rattle.cube.proofs.LiteralLemmas.{next_literal-found, next_literal-none}
use Rattle.cube.proofs.cube.Cube.next_literal.Goals as goal

pub returns-in-Some-clause-found : goal.returns-in-Some-clause-found
returns-in-Some-clause-found c =
    let facts = next_literal-found c.args.self.now.symbols _ c.input_part-words.ensures.packs c.args.from c.in-Some.at c.in-Some.ensures.found in
    record { from_on = facts.0; within = facts.1; literal = facts.2; dashes = facts.3 }

pub returns-in-None-clause-none : goal.returns-in-None-clause-none
returns-in-None-clause-none c =
    next_literal-none c.args.self.now.symbols _ c.input_part-words.ensures.packs c.args.from c.in-None.ensures.none
