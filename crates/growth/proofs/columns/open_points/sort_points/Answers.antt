use Rattle.std.proofs.Common.{◌≡◌, ℕ, ◌+◌, ◌<◌, ◌⊎◌, inl, inr, length, take, drop, [], ◌∷◌, ◌++◌, slice_index_or, refl, ap, sym, subst, ◌∙◌, arith}
use Rattle.std.specs.List.{All, Contains}
use Rattle.std.proofs.lemmas.List.{take_all, take-append-le, length-append}
use Rattle.std.proofs.lemmas.List.Elements.{All-append, All-push, Contains-append_left, Contains-append_right, Contains-push}
use Rattle.std.proofs.Math.Seq.{drop-append_seam}
use Rattle.cube.specs.Cube.{holds, IsSubset}
use Rattle.cover.specs.Marks.{cube_at}
use Rattle.growth.specs.Dominating.{NeedsNoJoin}
use Rattle.growth.proofs.Dominating.{cube_at-is, rest_more}
use Rattle.growth.proofs.columns.open_points.sort_points.Goals as goal
use Rattle.growth.proofs.columns.open_points.sort_points.Goals.{After-contains}

-- the candidate's point
below : (c : After-contains) → slice_index_or c.args.candidates.now c.loop-k.k-index 0 < length c.args.points.now
below c = c.requires.candidates c.loop-k.k-index 0 c.loop-k-test.true

same_point : (c : After-contains) → cube_at c.args.points.now (slice_index_or c.args.candidates.now c.loop-k.k-index 0) ≡ c.index-points-k.result
same_point c = cube_at-is c.args.points.now (slice_index_or c.args.candidates.now c.loop-k.k-index 0) c.index-points-k.result (below c) c.index-points-k.is

-- a candidate that needs no join is passed over
passed_over : (c : After-contains) → NeedsNoJoin c.args.off.now c.args.cube.now c.index-points-k.result → (j : ℕ) → Contains (take (c.loop-k.k-index + 1) c.args.candidates.now) j
    → (Contains c.loop-k.numbers.items j ⊎ Contains c.loop-k.inside.items j) ⊎ NeedsNoJoin c.args.off.now c.args.cube.now (cube_at c.args.points.now j)
passed_over c none =
    let off = c.args.off.now in
    let cube = c.args.cube.now in
    let at = c.loop-k.k-index in
    let candidates = c.args.candidates.now in
    rest_more (λ k. (Contains c.loop-k.numbers.items k ⊎ Contains c.loop-k.inside.items k) ⊎ NeedsNoJoin off cube (cube_at c.args.points.now k)) candidates at (slice_index_or candidates at 0) c.loop-k-test.true refl
    c.loop-k.invariant.rest (inr (subst (NeedsNoJoin off cube) (sym (same_point c)) none))

pub loop-k-preserved-then-contains : goal.loop-k-preserved-then-contains
loop-k-preserved-then-contains c =
    let so = c.loop-k.invariant in
    record {
      start = so.start;
      after = so.after;
      below = so.below;
      within = so.within;
      inside = so.inside;
      rest = passed_over ((goal.at.loop-k-preserved-then-contains c).After-contains) (λ _ _ _ _ _. c.contains.ensures.0 c.if-contains.true);
      refusing = so.refusing;
    }

pub loop-k-preserved-then-contains-2 : goal.loop-k-preserved-then-contains-2
loop-k-preserved-then-contains-2 c =
    let so = c.loop-k.invariant in
    let points = c.args.points.now in
    let inside = c.loop-k.inside.items in
    let x = slice_index_or c.args.candidates.now c.loop-k.k-index 0 in
    let low = below ((goal.at.loop-k-preserved-then-contains-2 c).After-contains) in
    let same = same_point ((goal.at.loop-k-preserved-then-contains-2 c).After-contains) in
    let items = c.in_ok-push.ensures.items in
    record {
      start = so.start;
      after = so.after;
      below = so.below;
      within = subst (All (λ k. k < length points)) (sym items) (All-push (λ k. k < length points) inside x so.within low);
      inside = subst (All (λ k. IsSubset (holds (cube_at points k)) (holds c.args.best.now))) (sym items) (All-push (λ k. IsSubset (holds (cube_at points k)) (holds c.args.best.now)) inside x so.inside
          (subst (λ z. IsSubset (holds z) (holds c.args.best.now)) (sym same) (c.contains-in-loop-k.ensures.0 c.if-contains-2.true)));
      rest = rest_more (λ k. (Contains c.loop-k.numbers.items k ⊎ Contains c.push.new.self.items k) ⊎ NeedsNoJoin c.args.off.now c.args.cube.now (cube_at points k)) c.args.candidates.now c.loop-k.k-index x c.loop-k-test.true refl
          (λ j h. elim (so.rest j h) [
            | inl (inl a) ↦ inl (inl a)
            | inl (inr b) ↦ inl (inr (subst (λ l. Contains l j) (sym items) (Contains-append_left inside (x ∷ []) j b)))
            | inr n ↦ inr n
          ])
          (inl (inr (subst (λ l. Contains l x) (sym items) (Contains-push inside x))));
      refusing = so.refusing;
    }

pub loop-k-preserved-then-branch : goal.loop-k-preserved-then-branch
loop-k-preserved-then-branch c =
    let so = c.loop-k.invariant in
    record {
      start = so.start;
      after = so.after;
      below = so.below;
      within = so.within;
      inside = so.inside;
      rest = passed_over ((goal.at.loop-k-preserved-then-branch c).After-contains) (c.in_ok-is_refused.ensures.refused c.if-branch.true);
      refusing = c.in_ok-is_refused.ensures.long ∙ so.refusing;
    }

pub loop-k-preserved : goal.loop-k-preserved
loop-k-preserved c =
    let so = c.loop-k.invariant in
    let points = c.args.points.now in
    let numbers = c.loop-k.numbers.items in
    let x = slice_index_or c.args.candidates.now c.loop-k.k-index 0 in
    let low = below ((goal.at.loop-k-preserved c).After-contains) in
    let n = length c.args.excluded.now in
    let items = c.in_ok-push-2.ensures.items in
    let long : length c.push-in-loop-k.new.self.items ≡ length (numbers ++ x ∷ []) = ap length items in
    record {
      start = ap (take n) items ∙ take-append-le n numbers (x ∷ []) so.after ∙ so.start;
      after = (let a = so.after in let b = length-append numbers (x ∷ []) in omega (arith, a, long, b));
      below = subst (All (λ k. k < length points)) (sym items) (All-push (λ k. k < length points) numbers x so.below low);
      within = so.within;
      inside = so.inside;
      rest = rest_more (λ k. (Contains c.push-in-loop-k.new.self.items k ⊎ Contains c.loop-k.inside.items k) ⊎ NeedsNoJoin c.args.off.now c.args.cube.now (cube_at points k)) c.args.candidates.now c.loop-k.k-index x c.loop-k-test.true refl
          (λ j h. elim (so.rest j h) [
            | inl (inl a) ↦ inl (inl (subst (λ l. Contains l j) (sym items) (Contains-append_left numbers (x ∷ []) j a)))
            | inl (inr b) ↦ inl (inr b)
            | inr n ↦ inr n
          ])
          (inl (inl (subst (λ l. Contains l x) (sym items) (Contains-push numbers x))));
      refusing = c.in_ok-is_refused.ensures.long ∙ so.refusing;
    }

pub returns-clause-sorted : goal.returns-clause-sorted
returns-clause-sorted c =
    let so = c.loop-k.invariant in
    let points = c.args.points.now in
    let candidates = c.args.candidates.now in
    let numbers = c.loop-k.numbers.items in
    let inside = c.loop-k.inside.items in
    let n = length c.args.excluded.now in
    let held : c.len-held.result ≡ length numbers = c.len-held.ensures ∙ c.loop-k.numbers.ok.0 in
    let items : c.extend_from_slice.new.self.items ≡ numbers ++ inside = c.in_ok-extend_from_slice.ensures.items ∙ ap (λ l. numbers ++ l) c.deref.ensures.value in
    let all : take c.loop-k.k-index candidates ≡ candidates = take_all c.loop-k.k-index candidates (let f = c.loop-k-test.false in omega (arith, f)) in
    record {
      start = ap (take n) items ∙ take-append-le n numbers inside so.after ∙ so.start;
      after = (let a = so.after in omega (arith, a, held));
      within = (let a = ap length items in let b = length-append numbers inside in omega (arith, held, a, b));
      below = subst (All (λ k. k < length points)) (sym items) (All-append (λ k. k < length points) numbers inside so.below so.within);
      inside = subst (All (λ k. IsSubset (holds (cube_at points k)) (holds c.args.best.now))) (sym (ap (drop c.len-held.result) items ∙ ap (λ k. drop k (numbers ++ inside)) held ∙ drop-append_seam numbers inside)) so.inside;
      rest = λ k h. elim (so.rest k (subst (λ l. Contains l k) (sym all) h)) [
        | inl (inl a) ↦ inl (subst (λ l. Contains l k) (sym items) (Contains-append_left numbers inside k a))
        | inl (inr b) ↦ inl (subst (λ l. Contains l k) (sym items) (Contains-append_right numbers inside k b))
        | inr none ↦ inr none
      ];
    }
