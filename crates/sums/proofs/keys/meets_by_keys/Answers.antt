use Rattle.std.proofs.Common.{◌≡◌, ℕ, ◌<◌, ◌≤◌, ◌∙◌, [], ◌∷◌, take, drop, length, get_or, ap, sym, subst, arith, inl, inr}
use Rattle.std.proofs.lemmas.Bool.{cases_lt}
use Rattle.std.proofs.lemmas.List.{take_all}
use Rattle.std.proofs.lemmas.List.Elements.{All-same, All-take, All-drop}
use Rattle.cube.specs.Cube.{IsCube}
use Rattle.rows.specs.Reduced.{IsMeets}
use Rattle.rows.proofs.SumMeets.{IsMeets-none, IsMeets-more_rows}
use Rattle.sums.proofs.SumKeys.{IsMeets-middle}
use Rattle.sums.proofs.keys.meets_by_keys.Goals as goal

pub loop-k-init : goal.loop-k-init
loop-k-init c = record {
  from = omega arith;
  below = λ j i lt le small. absurd (omega (arith, lt));
  meets = λ size cubes others. subst (IsMeets size [] c.args.others.now) (sym c.in_ok-all.ensures.items) (IsMeets-none size c.args.others.now);
}

pub first_key_not_below-start-requires : goal.first_key_not_below-start-requires
first_key_not_below-start-requires c = c.loop-k.invariant.from

pub loop-k-preserved : goal.loop-k-preserved
loop-k-preserved c =
    let keys = c.args.keys.now in
    let other_keys = c.args.other_keys.now in
    let k = c.loop-k.k in
    let start = c.first_key_not_below-start.result in
    let end = c.first_key_above-end.result in
    let key = get_or keys k 0 in
    let inside : k < length keys = omega (arith, c.loop-k-test.true, c.requires.keys.1.len) in
    let less : (j : ℕ) → j < start → get_or other_keys j 0 < key = λ j lt. elim (cases_lt j c.loop-k.from) [
      | inl old ↦ c.loop-k.invariant.below j k old (omega arith) inside
      | inr late ↦ c.first_key_not_below-start.ensures.below j late lt
    ] in
    let more : (j : ℕ) → end ≤ j → j < length other_keys → key < get_or other_keys j 0 = λ j le lt.
    omega (arith, c.first_key_above-end.ensures.above (omega (arith, le, lt)), c.requires.keys.2.rising end j le lt) in
    record {
      from = c.first_key_not_below-start.ensures.bound;
      below = λ j i lt le small. omega (arith, less j lt, c.requires.keys.1.rising k i (omega (arith, le)) small);
      meets = λ known own their.
          IsMeets-more_rows known c.args.rows.now c.args.others.now k c.index-rows-k.result own their c.loop-k-test.true c.index-rows-k.is
          c.loop-k.all.items c.push_meets.new.all.items (c.loop-k.invariant.meets known own their) (λ size cube cubes.
          let equal : c.split_at-in-loop-k.result.1.now ≡ drop start (take end c.args.others.now) =
          c.split_at-in-loop-k.ensures.back ∙ ap (λ l. drop start l) c.split_at.ensures.front in
          let part = All-drop (IsCube size) start (take end c.args.others.now) (All-take (IsCube size) end c.args.others.now cubes) in
          let r = c.in_ok-push_meets.ensures size cube (All-same (IsCube size) c.split_at-in-loop-k.result.1.now (drop start (take end c.args.others.now)) equal part) in (
            r.0,
            r.1,
            IsMeets-middle size c.requires.keys.0 c.index-rows-k.result key cube (c.requires.keys.1.each k c.index-rows-k.result c.loop-k-test.true c.index-rows-k.is)
                c.args.others.now other_keys cubes c.requires.keys.2 start end c.first_key_above-end.ensures.from_on c.first_key_above-end.ensures.bound less more
                r.0 (subst (λ l. IsMeets size (c.index-rows-k.result ∷ []) l r.0) equal r.2),
          ));
    }

pub returns : goal.returns
returns c = λ size cubes others.
    subst (λ l. IsMeets size l c.args.others.now c.loop-k.all.items) (take_all c.loop-k.k c.args.rows.now (omega arith)) (c.loop-k.invariant.meets size cubes others)

pub push_meets-requires : goal.push_meets-requires
push_meets-requires c =
    let size = c.requires.size.size in
    let row = c.index-rows-k.result in
    let start = c.first_key_not_below-start.result in
    let end = c.first_key_above-end.result in
    let own = subst (IsCube size) (sym c.index-rows-k.is) (c.requires.size.are_cubes c.loop-k.k row c.loop-k-test.true) in
    let equal = c.split_at-in-loop-k.ensures.back ∙ ap (λ l. drop start l) c.split_at.ensures.front in
    let part = All-same (IsCube size) c.split_at-in-loop-k.result.1.now (drop start (take end c.args.others.now)) equal
    (All-drop (IsCube size) start (take end c.args.others.now) (All-take (IsCube size) end c.args.others.now c.requires.size.are_others)) in
    λ j d lt. (own.has_size.0 ∙ sym (part j d lt).has_size.0, own.has_size.1 ∙ sym (part j d lt).has_size.1)
