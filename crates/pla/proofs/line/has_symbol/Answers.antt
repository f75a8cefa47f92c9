use Rattle.std.proofs.Common.{◌≡◌, ℕ, suc, ◌+◌, ◌<◌, Bool, true, false, not, List, drop, length, get_or, drop-cons, ap, sym, ◌∙◌, arith}
use Rattle.std.specs.Prelude.{◌||◌}
use Rattle.std.specs.List.{list_any}
use Rattle.std.proofs.lemmas.List.{drop_all}
use Rattle.pla.specs.Lines.{is_row_blank}
use Rattle.pla.proofs.line.has_symbol.Goals as goal

abbrev any_symbol : List ℕ → Bool
any_symbol code = list_any (λ b. not (is_row_blank b)) code

at_byte : (code : List ℕ) (i : ℕ) (t : Bool) → i < length code → is_row_blank (get_or code i 0) ≡ t → any_symbol (drop i code) ≡ (not t || any_symbol (drop (i + 1) code))
at_byte code i t lt is =
    let next : suc i ≡ i + 1 = omega arith in
    ap any_symbol (drop-cons code i 0 lt) ∙ ap (λ s. not s || any_symbol (drop (suc i) code)) is ∙ ap (λ k. not t || any_symbol (drop k code)) next

pub loop-b-preserved : goal.loop-b-preserved
loop-b-preserved c = c.loop-b.invariant ∙ at_byte c.args.code.now c.loop-b.b-index true c.loop-b-test.true (sym c.row_blank.ensures ∙ c.if-not-row_blank.false)

pub returns-then-not-row_blank : goal.returns-then-not-row_blank
returns-then-not-row_blank c = sym (c.loop-b.invariant ∙ at_byte c.args.code.now c.loop-b.b-index false c.loop-b-test.true (sym c.row_blank.ensures ∙ c.if-not-row_blank.true))

pub returns : goal.returns
returns c = sym (c.loop-b.invariant ∙ ap any_symbol (drop_all c.loop-b.b-index c.args.code.now c.loop-b-test.false))
