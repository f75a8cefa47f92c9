use Rattle.std.proofs.Common.{ap}
use Rattle.std.specs.Option.{option_map_or}
use Rattle.espresso.specs.Tool.{outcome_of, refused}
use Rattle.espresso.proofs.laws.tool_is_outcome_or_refusal.Goals as goal

pub returns-clause-lines : goal.returns-clause-lines
returns-clause-lines c = λ words line e first second. ap (λ l. option_map_or (λ m. outcome_of m first second) l refused) e

pub returns-clause-refusals : goal.returns-clause-refusals
returns-clause-refusals c = λ words e first second. ap (λ l. option_map_or (λ m. outcome_of m first second) l refused) e
