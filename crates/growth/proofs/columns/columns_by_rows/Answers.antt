use Rattle.std.proofs.Common.{◌∙◌, [], length, subst}
use Rattle.std.specs.List.{Contains}
use Rattle.cube.proofs.Members.{Contains-nil}
use Rattle.cover.proofs.ContainmentLemmas.{All-range}
use Rattle.growth.proofs.Dominating.{all_candidates}
use Rattle.growth.proofs.columns.columns_by_rows.Goals as goal

pub add_around-requires-clause-candidates : goal.add_around-requires-clause-candidates
add_around-requires-clause-candidates c = all_candidates c.args.off.now c.args.points.now [] c.deref.result.now c.index-points-number.result (c.deref.ensures.value ∙ c.in_ok-candidates.ensures)

pub add_around-requires-clause-below : goal.add_around-requires-clause-below
add_around-requires-clause-below c = All-range (length c.args.points.now) c.deref.result.now (c.deref.ensures.value ∙ c.in_ok-candidates.ensures)

pub returns-clause-primes : goal.returns-clause-primes
returns-clause-primes c = c.in_ok-add_around.ensures.adds.primes (λ d h. absurd (Contains-nil d (subst (λ l. Contains l d) c.in_ok-found.ensures.none h)))
