use Rattle.std.proofs.Common.{◌≡◌, ◌≤◌, ◌∙◌, All, IfNone, IfSome, length, ap, sym, subst, refl, arith}
use Rattle.std.specs.Prelude.{vec_len}
use Rattle.std.proofs.lemmas.Result.{MatchResult-at_ok, err_from_is_err_and}
use Rattle.std.proofs.lemmas.Option.{slice_get_within}
use Rattle.cube.specs.declared.symbol.Symbol.TheVariants.{Dash}
use Rattle.cube.specs.Cube.{IsDisjoint, holds, with_symbol, size_of}
use Rattle.rows.specs.Places.{behind, meeting}
use Rattle.regions.specs.Answer.{IsAnswer}
use Rattle.regions.specs.Reason.{IsReason, Joins, Leads, AreAmong, AreRowsWithNear}
use Rattle.regions.specs.declared.region.Step.TheVariants.{Row}
use Rattle.rows.proofs.Lists.{length-behind}
use Rattle.regions.proofs.Reasons.{answer_lent, explains_more, freed_half, share_sides, opposite_literal, rows_part, SameSize-part, reason_of_more, reason_joined, within_rows, reason_of_row, extent_half, row_inputs, row_above, size_rest, extent_rest, joined_stack, other_inputs, either_output, left_out_whole, half_within, rest_within, row_leads, reason_of_some, sizes_among, meets_among, among_lent, none_left, some_left}
use Rattle.regions.proofs.region.Splits.+reason.Goals as goal

pub reason_by_split-reason-requires : goal.reason_by_split-reason-requires
reason_by_split-reason-requires t c =
    let less = extent_half c.args.region.now c.in_ok-first.first c.args.at.0 c.args.at.1 c.requires.dash c.requires.literal c.in_ok-first.ensures.value in
    (omega (arith, less), rows_part c.args.rows.now c.args.near.now c.args.region.now c.in_ok-first.first c.requires.rows c.in_ok-first.ensures.size)

pub reason_by_split-reason_by_other_half-requires : goal.reason_by_split-reason_by_other_half-requires
reason_by_split-reason_by_other_half-requires t c =
    let r = c.in_ok-one.ensures.answer in
    let size = SameSize-part c.in_ok-one.one c.in_ok-first.first c.args.region.now r.size c.in_ok-first.ensures.size in
    let half = subst (λ h. IsReason h (behind c.args.rows.now) c.in_ok-one.one) c.in_ok-first.ensures.value r in
    (omega arith, (c.requires.output, (c.requires.rows, (c.requires.dash, (c.requires.literal, (size, half))))))

pub reason_by_other_half-reason-requires : goal.reason_by_other_half-reason-requires
reason_by_other_half-reason-requires t c =
    let less = extent_half c.args.region.now c.in_ok-second.second c.args.at.0 c.opposite.result c.requires.dash
    (subst (λ s. s ≡ Dash → ⊥) (sym c.opposite.ensures) (opposite_literal c.args.at.1 c.requires.literal)) c.in_ok-second.ensures.value in
    (omega (arith, less), rows_part c.args.rows.now c.args.near.now c.args.region.now c.in_ok-second.second c.requires.rows c.in_ok-second.ensures.size)

pub reason_by_other_half-consensus-requires-clause-input : goal.reason_by_other_half-consensus-requires-clause-input
reason_by_other_half-consensus-requires-clause-input t c =
    let lt = slice_get_within c.args.region.now.symbols c.args.at.0 Dash c.requires.dash in
    omega (arith, lt, c.requires.one_size.0)

pub reason_by_other_half-consensus-requires-clause-size : goal.reason_by_other_half-consensus-requires-clause-size
reason_by_other_half-consensus-requires-clause-size t c =
    let r = c.in_ok-other.ensures.answer in
    let size = SameSize-part c.in_ok-other.other c.in_ok-second.second c.args.region.now r.size c.in_ok-second.ensures.size in
    (size.0 ∙ sym c.requires.one_size.0, size.1 ∙ sym c.requires.one_size.1)

pub reason_by_other_half-consensus-requires-clause-sides : goal.reason_by_other_half-consensus-requires-clause-sides
reason_by_other_half-consensus-requires-clause-sides t c =
    let q = c.in_ok-other.ensures.answer in
    share_sides c.args.region.now (with_symbol c.args.region.now c.args.at.0 c.args.at.1) c.in_ok-second.second c.args.one.now c.in_ok-other.other c.args.at.0 c.args.at.1
    c.requires.output c.requires.dash refl
    (c.in_ok-second.ensures.value ∙ ap (λ s. with_symbol c.args.region.now c.args.at.0 s) c.opposite.ensures) c.requires.one.size q.size c.requires.one.above q.above

pub reason_by_other_half-returns : goal.reason_by_other_half-returns
reason_by_other_half-returns t c =
    let rows = behind c.args.rows.now in
    let region = c.args.region.now in
    let one = c.args.one.now in
    let other = c.in_ok-other.other in
    let second = c.in_ok-second.second in
    let at = c.args.at.0 in
    let r = c.in_ok-other.ensures.answer in
    let size = SameSize-part other second region r.size c.in_ok-second.ensures.size in
    let mine = freed_half region (with_symbol region at c.args.at.1) one at c.args.at.1 c.requires.dash c.requires.literal c.requires.one_size refl c.requires.one.above in
    let theirs = freed_half region second other at c.opposite.result c.requires.dash
    (subst (λ s. s ≡ Dash → ⊥) (sym c.opposite.ensures) (opposite_literal c.args.at.1 c.requires.literal)) size c.in_ok-second.ensures.value r.above in
    record {
      limited = c.in_ok-other.ensures.limited;
      answer =
          reason_joined rows region one other c.in-Some.cube c.requires.one.within r.within
          (subst (Joins region one other) c.in-Some.is (c.in_ok-cube.ensures region c.requires.output c.requires.one_size mine theirs));
    }

pub reason_by_outputs-returns-then-not-has_outputs_beyond : goal.reason_by_outputs-returns-then-not-has_outputs_beyond
reason_by_outputs-returns-then-not-has_outputs_beyond t c = record {
  limited = refl;
  answer =
      reason_of_row (behind c.args.rows.now) c.args.region.now c.args.row.now c.in_ok-try_clone.field-0 c.requires.member c.requires.size c.in_ok-try_clone.ensures.value
      (row_above (behind c.args.rows.now) c.args.region.now c.args.row.now c.args.row.now c.requires.size c.requires.meets c.requires.closed
      c.has_outputs_beyond.result c.has_outputs_beyond.ensures c.if-not-has_outputs_beyond.true);
}

pub reason_by_outputs-reason-requires : goal.reason_by_outputs-reason-requires
reason_by_outputs-reason-requires t c =
    let less = extent_rest (behind c.args.rows.now) c.args.region.now c.args.row.now c.in_ok-rest.rest c.requires.size c.requires.meets c.requires.closed c.in_ok-rest.ensures.value in (
      omega (arith, less),
      rows_part c.args.rows.now c.args.near.now c.args.region.now c.in_ok-rest.rest c.requires.rows
          (size_rest (behind c.args.rows.now) c.args.region.now c.args.row.now c.in_ok-rest.rest c.requires.size c.requires.meets c.requires.closed c.in_ok-rest.ensures.value),
    )

pub reason_by_outputs-contains-requires : goal.reason_by_outputs-contains-requires
reason_by_outputs-contains-requires t c =
    let r = c.in_ok-other.ensures.answer in
    SameSize-part c.in_ok-other.other c.in_ok-rest.rest c.args.region.now r.size
    (size_rest (behind c.args.rows.now) c.args.region.now c.args.row.now c.in_ok-rest.rest c.requires.size c.requires.meets c.requires.closed c.in_ok-rest.ensures.value)

pub reason_by_outputs-returns-then-contains : goal.reason_by_outputs-returns-then-contains
reason_by_outputs-returns-then-contains t c = record {
  limited = c.in_ok-other.ensures.limited;
  answer =
      reason_of_more (behind c.args.rows.now) c.in_ok-rest.rest c.args.region.now c.in_ok-other.other
      (size_rest (behind c.args.rows.now) c.args.region.now c.args.row.now c.in_ok-rest.rest c.requires.size c.requires.meets c.requires.closed c.in_ok-rest.ensures.value)
      c.in_ok-other.ensures.answer (c.contains.ensures.0 c.if-contains.true);
}

pub reason_by_outputs-output_consensus-requires : goal.reason_by_outputs-output_consensus-requires
reason_by_outputs-output_consensus-requires t c =
    let r = c.in_ok-other.ensures.answer in
    let size = SameSize-part c.in_ok-other.other c.in_ok-rest.rest c.args.region.now r.size
    (size_rest (behind c.args.rows.now) c.args.region.now c.args.row.now c.in_ok-rest.rest c.requires.size c.requires.meets c.requires.closed c.in_ok-rest.ensures.value) in
    (c.requires.size.0 ∙ sym size.0, c.requires.size.1 ∙ sym size.1)

pub reason_by_outputs-returns : goal.reason_by_outputs-returns
reason_by_outputs-returns t c =
    let rows = behind c.args.rows.now in
    let region = c.args.region.now in
    let row = c.args.row.now in
    let rest = c.in_ok-rest.rest in
    let other = c.in_ok-other.other in
    let r = c.in_ok-other.ensures.answer in
    let joins = joined_stack region row other c.requires.size (row_inputs rows region row rest c.requires.size c.requires.meets c.requires.closed)
    (other_inputs rows region row rest c.requires.size c.requires.meets c.requires.closed c.in_ok-rest.ensures.value other r.above (c.has_outputs_beyond.ensures.0 c.if-not-has_outputs_beyond.false))
    (either_output rows region row rest c.requires.size c.requires.meets c.requires.closed c.in_ok-rest.ensures.value other r.above)
    c.output_consensus.result c.output_consensus.ensures.none c.output_consensus.ensures.size c.output_consensus.ensures.places in
    record {
      limited = c.in_ok-other.ensures.limited;
      answer =
          reason_joined rows region row other c.in-Some.cube (within_rows rows row c.requires.member) r.within
          (subst (Joins region row other) c.in-Some.is
          (MatchResult-at_ok _ _ c.in_ok-cube.field-0 c.in_ok-cube.was joins));
    }

pub reason_by_step-next_step-requires-clause-sizes : goal.reason_by_step-next_step-requires-clause-sizes
reason_by_step-next_step-requires-clause-sizes t c = sizes_among c.args.near.now c.args.rows.now c.args.region.now c.requires.rows.sizes c.requires.rows.among

pub reason_by_step-reason_by_outputs-requires : goal.reason_by_step-reason_by_outputs-requires
reason_by_step-reason_by_outputs-requires t c =
    let h : Leads c.args.region.now (behind c.args.near.now) (Row c.in-Row.k) =
    subst (Leads c.args.region.now (behind c.args.near.now)) c.in-Row.is c.next_step.ensures in
    let r = row_leads c.args.rows.now c.args.near.now c.args.region.now c.requires.rows c.requires.meets c.in-Row.k c.index-near-k.result h c.index-near-k.is in
    (omega arith, (c.requires.rows, r))

pub reason-survey_rows-requires : goal.reason-survey_rows-requires
reason-survey_rows-requires t c = sizes_among c.args.near.now c.args.rows.now c.args.region.now c.requires.sizes c.requires.among

pub reason-returns-in-Some : goal.reason-returns-in-Some
reason-returns-in-Some t c = record {
  limited = c.in_ok-spend.ensures.limited;
  answer =
      reason_of_some c.args.near.now c.args.rows.now c.args.region.now c.in-Some.cube c.requires.among
      (subst (λ o. IfSome o (λ d. IsReason c.args.region.now (behind c.args.near.now) d)) c.in-Some.is c.in_ok-found.ensures.found);
}

pub reason-reason_by_step-requires : goal.reason-reason_by_step-requires
reason-reason_by_step-requires t c =
    let region = c.args.region.now in
    let near = c.args.near.now in
    let met = c.in_ok-found.field-0.meeting.items in
    let nearest = c.in_ok-found.field-0.nearest.items in
    let inside : behind met ≡ meeting (size_of region) region (behind near) =
    subst (λ o. IfNone o (behind met ≡ meeting (size_of region) region (behind near))) c.in_default.is c.in_ok-found.ensures.meeting in
    let sizes = sizes_among near c.args.rows.now region c.requires.sizes c.requires.among in
    let inner : AreAmong nearest met = c.in_ok-found.ensures.nearest in
    let there = c.in_ok-found.ensures.some (some_left met (vec_len c.in_ok-found.field-0.meeting) c.is_empty.result c.in_ok-found.field-0.meeting.ok.0 c.is_empty.ensures c.if-not-is_empty.true) in
    let known : AreRowsWithNear region c.args.rows.now nearest × (All (λ d. IsDisjoint (holds d.now) (holds region) → ⊥) nearest × (1 ≤ length nearest)) = (
      record { sizes = c.requires.sizes; among = λ d k. c.requires.among d (among_lent near met region inside d (inner d k)) },
      (meets_among nearest near met region sizes inside inner, there),
    ) in (
      omega arith,
      (
        c.in_ok-found.ensures.output,
        subst (λ l. AreRowsWithNear region c.args.rows.now l × (All (λ d. IsDisjoint (holds d.now) (holds region) → ⊥) l × (1 ≤ length l))) (sym c.deref.ensures.value) known,
      ),
    )

pub reason_by_all_rows-reason_by_step-requires : goal.reason_by_all_rows-reason_by_step-requires
reason_by_all_rows-reason_by_step-requires t c =
    let region = c.args.region.now in
    let rows = c.args.rows.now in
    let met = c.in_ok-found.field-0.meeting.items in
    let near = c.in_ok-found.field-0.nearest.items in
    let inside : behind met ≡ meeting (size_of region) region (behind rows) =
    subst (λ o. IfNone o (behind met ≡ meeting (size_of region) region (behind rows))) c.in_default.is
    c.in_ok-found.ensures.meeting in
    let among : AreAmong near met = c.in_ok-found.ensures.nearest in
    let there = c.in_ok-found.ensures.some (some_left met (vec_len c.in_ok-found.field-0.meeting) c.is_empty.result c.in_ok-found.field-0.meeting.ok.0 c.is_empty.ensures c.if-is_empty.false) in
    let known : AreRowsWithNear region met near × (All (λ d. IsDisjoint (holds d.now) (holds region) → ⊥) near × (1 ≤ length near)) = (
      record { sizes = sizes_among met rows region c.requires (among_lent rows met region inside); among = among },
      (meets_among near rows met region c.requires inside among, there),
    ) in (
      omega arith,
      (
        c.in_ok-found.ensures.output,
        subst (λ l. AreRowsWithNear region c.deref.result.now l × (All (λ d. IsDisjoint (holds d.now) (holds region) → ⊥) l × (1 ≤ length l))) (sym c.deref-2.ensures.value)
            (subst (λ l. AreRowsWithNear region l near × (All (λ d. IsDisjoint (holds d.now) (holds region) → ⊥) near × (1 ≤ length near))) (sym c.deref.ensures.value) known),
      ),
    )

pub reason_by_all_rows-returns : goal.reason_by_all_rows-returns
reason_by_all_rows-returns t c =
    let region = c.args.region.now in
    let rows = c.args.rows.now in
    let met = c.in_ok-found.field-0.meeting.items in
    let inside : behind met ≡ meeting (size_of region) region (behind rows) =
    subst (λ o. IfNone o (behind met ≡ meeting (size_of region) region (behind rows))) c.in_default.is
    c.in_ok-found.ensures.meeting in
    record {
      limited = c.reason_by_step.ensures.limited ∙ c.in_ok-spend.ensures.limited;
      answer =
          answer_lent rows c.deref.result.now region c.args.self.now.limited c.reason_by_step.result c.requires (ap behind c.deref.ensures.value ∙ inside)
          (subst (λ l. IsAnswer region (behind c.deref.result.now) l c.reason_by_step.result) c.in_ok-spend.ensures.limited c.reason_by_step.ensures.answer);
    }

pub reason_by_split-with_symbol-requires : goal.reason_by_split-with_symbol-requires
reason_by_split-with_symbol-requires t c = slice_get_within c.args.region.now.symbols c.args.at.0 Dash c.requires.dash

pub reason_by_other_half-with_symbol-requires : goal.reason_by_other_half-with_symbol-requires
reason_by_other_half-with_symbol-requires t c = slice_get_within c.args.region.now.symbols c.args.at.0 Dash c.requires.dash

pub reason_by_step-bounds-near-k : goal.reason_by_step-bounds-near-k
reason_by_step-bounds-near-k t c =
    let h : Leads c.args.region.now (behind c.args.near.now) (Row c.in-Row.k) =
    subst (Leads c.args.region.now (behind c.args.near.now)) c.in-Row.is c.next_step.ensures in
    let lt = h.0 in
    omega (arith, lt, length-behind c.args.near.now)

pub reason_by_outputs-unreachable-requires : goal.reason_by_outputs-unreachable-requires
reason_by_outputs-unreachable-requires t c =
    let rows = behind c.args.rows.now in
    let region = c.args.region.now in
    let row = c.args.row.now in
    let rest = c.in_ok-rest.rest in
    let other = c.in_ok-other.other in
    let r = c.in_ok-other.ensures.answer in
    let joins = joined_stack region row other c.requires.size (row_inputs rows region row rest c.requires.size c.requires.meets c.requires.closed)
    (other_inputs rows region row rest c.requires.size c.requires.meets c.requires.closed c.in_ok-rest.ensures.value other r.above (c.has_outputs_beyond.ensures.0 c.if-not-has_outputs_beyond.false))
    (either_output rows region row rest c.requires.size c.requires.meets c.requires.closed c.in_ok-rest.ensures.value other r.above)
    c.output_consensus.result c.output_consensus.ensures.none c.output_consensus.ensures.size c.output_consensus.ensures.places in
    subst (Joins region row other) c.in-None.is
    (MatchResult-at_ok _ _ c.in_ok-cube.field-0 c.in_ok-cube.was joins)

pub reason_by_other_half-unreachable-requires : goal.reason_by_other_half-unreachable-requires
reason_by_other_half-unreachable-requires t c =
    let region = c.args.region.now in
    let one = c.args.one.now in
    let other = c.in_ok-other.other in
    let second = c.in_ok-second.second in
    let at = c.args.at.0 in
    let r = c.in_ok-other.ensures.answer in
    let size = SameSize-part other second region r.size c.in_ok-second.ensures.size in
    let mine = freed_half region (with_symbol region at c.args.at.1) one at c.args.at.1 c.requires.dash c.requires.literal c.requires.one_size refl c.requires.one.above in
    let theirs = freed_half region second other at c.opposite.result c.requires.dash
    (subst (λ s. s ≡ Dash → ⊥) (sym c.opposite.ensures) (opposite_literal c.args.at.1 c.requires.literal)) size c.in_ok-second.ensures.value r.above in
    subst (Joins region one other) c.in-None.is (c.in_ok-cube.ensures region c.requires.output c.requires.one_size mine theirs)

pub reason_by_split-returns-in_err-one : goal.reason_by_split-returns-in_err-one
reason_by_split-returns-in_err-one t c =
    let p = err_from_is_err_and c.from_residual-in_err-one.result c.from_residual-in_err-one.ensures.1 in
    rw (p.1, p.2) (record {
      limited = c.in_err-one.ensures.limited;
      answer =
          explains_more (behind c.args.rows.now) c.in_ok-first.first c.args.region.now c.args.self.now.limited _ c.in_ok-first.ensures.size
          (half_within c.args.region.now c.in_ok-first.first c.args.at.0 c.args.at.1 c.requires.dash c.in_ok-first.ensures.value)
          c.in_err-one.ensures.answer;
    })

pub reason_by_other_half-returns-in_err-other : goal.reason_by_other_half-returns-in_err-other
reason_by_other_half-returns-in_err-other t c =
    let p = err_from_is_err_and c.from_residual-in_err-other.result c.from_residual-in_err-other.ensures.1 in
    rw (p.1, p.2) (record {
      limited = c.in_err-other.ensures.limited;
      answer =
          explains_more (behind c.args.rows.now) c.in_ok-second.second c.args.region.now c.args.self.now.limited _ c.in_ok-second.ensures.size
          (half_within c.args.region.now c.in_ok-second.second c.args.at.0 c.opposite.result c.requires.dash c.in_ok-second.ensures.value)
          c.in_err-other.ensures.answer;
    })

pub reason_by_outputs-returns-in_err-other : goal.reason_by_outputs-returns-in_err-other
reason_by_outputs-returns-in_err-other t c =
    let p = err_from_is_err_and c.from_residual-in_err-other.result c.from_residual-in_err-other.ensures.1 in
    let rows = behind c.args.rows.now in
    let region = c.args.region.now in
    let row = c.args.row.now in
    let rest = c.in_ok-rest.rest in
    rw (p.1, p.2) (record {
      limited = c.in_err-other.ensures.limited;
      answer =
          explains_more rows rest region c.args.self.now.limited _
          (size_rest rows region row rest c.requires.size c.requires.meets c.requires.closed c.in_ok-rest.ensures.value)
          (rest_within rows region row rest c.requires.size c.requires.meets c.requires.closed c.in_ok-rest.ensures.value)
          c.in_err-other.ensures.answer;
    })

pub reason_by_all_rows-returns-then-is_empty : goal.reason_by_all_rows-returns-then-is_empty
reason_by_all_rows-returns-then-is_empty t c =
    let region = c.args.region.now in
    let rows = c.args.rows.now in
    let met = c.in_ok-found.field-0.meeting.items in
    let inside : behind met ≡ meeting (size_of region) region (behind rows) =
    subst (λ o. IfNone o (behind met ≡ meeting (size_of region) region (behind rows))) c.in_default.is
    c.in_ok-found.ensures.meeting in
    record {
      limited = c.in_ok-spend.ensures.limited;
      answer =
          left_out_whole rows met region c.in_ok-try_clone.field-0 c.requires inside c.in_ok-found.ensures.output
          (ap behind (none_left met (vec_len c.in_ok-found.field-0.meeting) c.is_empty.result c.in_ok-found.field-0.meeting.ok.0 c.is_empty.ensures c.if-is_empty.true))
          c.in_ok-try_clone.ensures.value;
    }
