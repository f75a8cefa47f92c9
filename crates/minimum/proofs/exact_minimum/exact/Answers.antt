use Rattle.std.proofs.Common.{◌≡◌, ◌∙◌, [], ap, sym}
use Rattle.std.proofs.lemmas.Result.{IfOk-weaker}
use Rattle.cover.specs.Cubes.{Cubes}
use Rattle.minimum.specs.Primes.{exact_of}
use Rattle.minimum.specs.Points.{lists_of}
use Rattle.minimum.proofs.BothLists.{cubes_of}
use Rattle.minimum.proofs.PrimeSources.{by_lists, listed_primes, source_among, same_primes, stands_among}
use Rattle.minimum.proofs.exact_minimum.exact.Goals as goal

pub exact_by_primes-requires : goal.exact_by_primes-requires
exact_by_primes-requires c =
    let on = c.on.result.now in
    let dc = c.dc.result.now in
    let primes : c.in_ok-primes.field-0 ≡ listed_primes on dc = c.in_ok-primes.ensures ∙ same_primes c.args.sets.now on dc c.on.ensures c.dc.ensures in (
      ap (λ (l : Cubes). l.size) c.dc.ensures ∙ sym (ap (λ (l : Cubes). l.size) c.on.ensures),
      (source_among (lists_of on dc) c.in_ok-primes.field-0 primes, stands_among (lists_of on dc) c.in_ok-primes.field-0 primes),
    )

pub returns : goal.returns
returns c =
    IfOk-weaker c.exact_by_primes.result _ _
    (λ list h. h ∙ by_lists c.args.sets.now c.on.result.now c.dc.result.now c.on.ensures c.dc.ensures (λ size on dc. cubes_of size (exact_of c.args.choice (record { size = size; on = on; dc = dc; off = [] }))))
    c.exact_by_primes.ensures
