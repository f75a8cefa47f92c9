use Rattle.std.proofs.Common.{◌≡◌, ◌∙◌, [], ap, sym, subst}
use Rattle.std.proofs.lemmas.List.{get_or_default}
use Rattle.cover.specs.Marks.{cube_at}
use Rattle.minimum.specs.Points.{AreColumnsOf, source_primes}
use Rattle.minimum.proofs.PickedPoints.{columns_of_filter}
use Rattle.minimum.proofs.points.source.columns_for.Goals as goal

pub returns-in_ok-cubes_containing-in-Primes-clause-columns : goal.returns-in_ok-cubes_containing-in-Primes-clause-columns
returns-in_ok-cubes_containing-in-Primes-clause-columns c =
    let list = c.in-Primes.list in
    let points = c.args.points.now in
    let x = c.index-points-number.result in
    let row = c.in_ok-cubes_containing-in-Primes.field-0 in
    let at : cube_at points c.args.number ≡ x = get_or_default points c.args.number (record { symbols = []; outputs = [] }) x c.requires.number ∙ sym c.index-points-number.is in
    subst (λ z. AreColumnsOf c.args.choice (source_primes z) points (cube_at points c.args.number) row.cubes) (sym c.in-Primes.is)
    (subst (λ y. AreColumnsOf c.args.choice list.cubes points y row.cubes) (sym at) (columns_of_filter c.args.choice list.size list.cubes points row.cubes x (ap (λ l. l.cubes) c.in_ok-cubes_containing-in-Primes.ensures)))
