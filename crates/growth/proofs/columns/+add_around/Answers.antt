use Rattle.std.proofs.Common.{◌≡◌, ◌∙◌, ℕ, ◌<◌, ◌+◌, ◌-◌, List, length, take, drop, get_or, ap, sym, subst, arith}
use Rattle.std.specs.List.{Contains}
use Rattle.std.proofs.lemmas.List.{get_or_default, length-drop, take_all}
use Rattle.std.proofs.lemmas.List.Elements.{All-same, All-take, All-drop, All-get_or}
use Rattle.cube.specs.Size.{Size}
use Rattle.cube.specs.Cube.{Cube, IsCube}
use Rattle.cover.specs.Marks.{cube_at}
use Rattle.growth.specs.Dominating.{AreServed, AreCandidates, AreSorted, AddsColumns, IsBest}
use Rattle.growth.proofs.Dominating.{adds_both, join_candidates, join_served, around_end, cube_at-is}
use Rattle.growth.proofs.Joins.{wide_cube}
use Rattle.growth.proofs.columns.+add_around.Goals as goal
use Rattle.growth.proofs.columns.+add_around.Goals.{In_ok-wide}

-- the point with a number of the list
record IsPointAt (size : Size) (points : List Cube) (n : ℕ) (point : Cube) : Type 0 where
  is_cube : IsCube size point
  is_point : cube_at points n ≡ point

joined_point : (t : ℕ) (c : In_ok-wide t) → IsPointAt c.args.off.now.size c.args.points.now (get_or c.in_ok-order.order.numbers.items c.loop-at.at 0) c.index-points-index.result
joined_point t c =
    let size = c.args.off.now.size in
    let points = c.args.points.now in
    let numbers = c.in_ok-order.order.numbers.items in
    let at = c.loop-at.at in
    let sorted = c.in_ok-order.ensures.sorted in
    let within : at < length numbers = (let w = sorted.within in let lt = c.loop-at-test.true in omega (arith, lt, w)) in
    let index = c.index.result.now in
    let number : get_or numbers at 0 ≡ index = get_or_default numbers at 0 index within ∙ sym c.index.ensures in
    let low : index < length points = subst (λ n. n < length points) number (sorted.below at 0 within) in
    let same : cube_at points index ≡ c.index-points-index.result = cube_at-is points index c.index-points-index.result low c.index-points-index.is in
    record {
      is_cube = subst (IsCube size) same (All-get_or (IsCube size) points index _ low c.requires.points);
      is_point = ap (cube_at points) number ∙ same;
    }

pub add_around-requires : goal.add_around-requires
add_around-requires t c =
    let off = c.args.off.now in
    let points = c.args.points.now in
    let cube = c.args.cube.now in
    let order = c.in_ok-order.order in
    let numbers = order.numbers.items in
    let at = c.loop-at.at in
    let h = c.loop-at.invariant in
    let lt : at < order.held = c.loop-at-test.true in
    let sorted : AreSorted off points c.args.excluded.now c.args.candidates.now cube c.in-Some.best order = c.in_ok-order.ensures.sorted in
    let point = c.index-points-index.result in
    let joined = joined_point t ((goal.at.add_around-requires t c).In_ok-wide) in
    let wide = c.in_ok-wide.wide in
    let behind = c.deref-in-loop-at.result.now in
    let part = take (length behind - (at + 1)) (drop (at + 1) behind) in
    let rest : part ≡ drop (at + 1) numbers =
    take_all (length behind - (at + 1)) (drop (at + 1) behind) (let long = length-drop (at + 1) behind in omega (arith, long)) ∙ ap (drop (at + 1)) c.deref-in-loop-at.ensures.value in
    let left : AreCandidates off points (take at numbers) (drop (at + 1) numbers) wide = join_candidates c.args.choice off points c.args.excluded.now c.args.candidates.now cube c.in-Some.best order sorted at h.from lt
    c.requires.cube point joined.is_cube joined.is_point wide c.in_ok-wide.ensures.value c.requires.candidates in (
      (let one = c.spend.ensures.spent c.if-not-spend.false in let two = c.in_ok-best.ensures.left in let three = h.left in omega (arith, one, two, three)),
      (
        c.requires.points,
        (
          All-take (λ k. k < length points) at c.deref.result.now (All-same (λ k. k < length points) c.deref.result.now numbers c.deref.ensures.value sorted.below),
          (
            All-same (λ k. k < length points) part (drop (at + 1) numbers) rest (All-drop (λ k. k < length points) (at + 1) numbers sorted.below),
            (
              subst (λ l. AreCandidates off points (take at l) part wide) (sym c.deref.ensures.value) (subst (λ l. AreCandidates off points (take at numbers) l wide) (sym rest) left),
              (wide_cube off cube point c.in_ok-wide.wide c.requires.cube joined.is_cube c.in_ok-wide.ensures.value, (h.size, h.refusing)),
            ),
          ),
        ),
      ),
    )

pub returns-then-not-branch-clause-adds : goal.returns-then-not-branch-clause-adds
returns-then-not-branch-clause-adds t c =
    let off = c.args.off.now in
    let best = c.add_best.new.found.primes.cubes in
    let first : AddsColumns off c.args.found.now.primes.cubes best = subst (λ p. AddsColumns off p.cubes best) c.spend.ensures.primes c.in_ok-best.ensures.adds in
    adds_both off c.args.found.now.primes.cubes best c.add_around.new.found.primes.cubes first
    (adds_both off best c.loop-at.found.primes.cubes c.add_around.new.found.primes.cubes c.loop-at.invariant.adds c.in_ok-add_around.ensures.adds)

pub loop-at-preserved : goal.loop-at-preserved
loop-at-preserved t c =
    let off = c.args.off.now in
    let points = c.args.points.now in
    let cube = c.args.cube.now in
    let order = c.in_ok-order.order in
    let numbers = order.numbers.items in
    let at = c.loop-at.at in
    let h = c.loop-at.invariant in
    let lt : at < order.held = c.loop-at-test.true in
    let sorted : AreSorted off points c.args.excluded.now c.args.candidates.now cube c.in-Some.best order = c.in_ok-order.ensures.sorted in
    let point = c.index-points-index.result in
    let joined = joined_point t ((goal.at.loop-at-preserved t c).In_ok-wide) in
    let wide = c.in_ok-wide.wide in
    let new = c.add_around.new.found.primes.cubes in
    let more = c.in_ok-add_around.ensures in
    let served : AreServed c.args.choice off points (take at numbers) wide new = subst (λ l. AreServed c.args.choice off points (take at l) wide new) c.deref.ensures.value (more.served c.if-not-branch.false) in
    record {
      from = (let from = h.from in omega (arith, from));
      settled = join_served c.args.choice off points c.args.excluded.now c.args.candidates.now cube c.in-Some.best order sorted at h.from lt c.requires.cube point joined.is_cube joined.is_point wide c.in_ok-wide.ensures.value
          c.loop-at.found.primes.cubes new more.adds served h.settled;
      adds = adds_both off c.add_best.new.found.primes.cubes c.loop-at.found.primes.cubes new h.adds more.adds;
      size = more.size;
      refusing = more.refusing;
      left = (let one = more.left in let two = h.left in omega (arith, one, two));
    }

pub returns-clause-adds : goal.returns-clause-adds
returns-clause-adds t c =
    let off = c.args.off.now in
    let best = c.add_best.new.found.primes.cubes in
    let first : AddsColumns off c.args.found.now.primes.cubes best = subst (λ p. AddsColumns off p.cubes best) c.spend.ensures.primes c.in_ok-best.ensures.adds in
    adds_both off c.args.found.now.primes.cubes best c.loop-at.found.primes.cubes first c.loop-at.invariant.adds

pub returns-clause-served : goal.returns-clause-served
returns-clause-served t c _ =
    let off = c.args.off.now in
    let points = c.args.points.now in
    let cube = c.args.cube.now in
    let order = c.in_ok-order.order in
    let prime = c.in-Some.best in
    let h = c.loop-at.invariant in
    let sorted : AreSorted off points c.args.excluded.now c.args.candidates.now cube prime order = c.in_ok-order.ensures.sorted in
    let best : IsBest c.args.choice off cube prime = rw c.in-Some.is at c.in_ok-best.ensures.best in
    let member : Contains c.add_best.new.found.primes.cubes prime = rw c.in-Some.is at c.in_ok-best.ensures.member in
    around_end c.args.choice off points c.args.excluded.now c.args.candidates.now cube prime order sorted c.loop-at.found.primes.cubes c.loop-at.at (let past = c.loop-at-test.false in let end = c.loop-at.auto.at-end in let after = sorted.after in omega (arith, past, end, after)) c.requires.candidates best (h.adds.kept prime member) h.settled
