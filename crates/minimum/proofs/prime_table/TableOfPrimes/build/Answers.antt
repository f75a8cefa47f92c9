use Rattle.std.proofs.Common.{◌≡◌, ◌∙◌, ap, sym}
use Rattle.std.proofs.lemmas.Result.{IfOk-weaker}
use Rattle.cover.specs.Cubes.{Cubes}
use Rattle.minimum.specs.Points.{lists_of}
use Rattle.minimum.proofs.PrimeSources.{columns_of_lists, covers_of_lists, listed_primes, source_among, same_primes, stands_among}
use Rattle.minimum.proofs.prime_table.TableOfPrimes.build.Goals as goal

pub table_of_primes-requires : goal.table_of_primes-requires
table_of_primes-requires c =
    let on = c.on.result.now in
    let dc = c.dc.result.now in
    let primes : c.args.primes.now ≡ listed_primes on dc = c.requires ∙ same_primes c.args.sets.now on dc c.on.ensures c.dc.ensures in (
      ap (λ (l : Cubes). l.size) (c.dc.ensures) ∙ sym (ap (λ (l : Cubes). l.size) c.on.ensures),
      (source_among (lists_of on dc) c.args.primes.now primes, stands_among (lists_of on dc) c.args.primes.now primes),
    )

pub returns-clause-columns : goal.returns-clause-columns
returns-clause-columns c = IfOk-weaker c.table_of_primes.result _ _
    (λ t h. columns_of_lists c.args.sets.now c.on.result.now c.dc.result.now c.on.ensures c.dc.ensures t h) c.table_of_primes.ensures.columns

pub returns-clause-covers : goal.returns-clause-covers
returns-clause-covers c = IfOk-weaker c.table_of_primes.result _ _
    (λ t h. covers_of_lists c.args.sets.now c.on.result.now c.dc.result.now c.on.ensures c.dc.ensures t h) c.table_of_primes.ensures.covers
