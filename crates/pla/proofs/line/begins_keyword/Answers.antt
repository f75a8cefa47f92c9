use Rattle.std.proofs.Common.{◌≡◌, ℕ, suc, ◌+◌, ◌<◌, Bool, true, false, cond, not, List, Some, find, drop, length, get_or, eqb, drop-cons, ap, sym, ◌∙◌, arith}
use Rattle.std.specs.Option.{option_map_or}
use Rattle.std.proofs.lemmas.List.{drop_all}
use Rattle.pla.specs.Lines.{is_blank, is_keyword_line}
use Rattle.pla.proofs.line.begins_keyword.Goals as goal

-- whether a line begins with a dot, by whether its first byte is a blank
by_blank : ℕ → List ℕ → Bool → Bool
by_blank b rest t = option_map_or (λ b. eqb b 46) (cond (not t) (Some b) (find (λ b. not (is_blank b)) rest)) false

at_byte : (line : List ℕ) (i : ℕ) (t : Bool) → i < length line → is_blank (get_or line i 0) ≡ t → is_keyword_line (drop i line) ≡ by_blank (get_or line i 0) (drop (i + 1) line) t
unfolding by_blank
at_byte line i t lt is =
    let next : suc i ≡ i + 1 = omega arith in
    ap is_keyword_line (drop-cons line i 0 lt) ∙ ap (by_blank (get_or line i 0) (drop (suc i) line)) is ∙ ap (λ k. by_blank (get_or line i 0) (drop k line) t) next

pub loop-b-preserved : goal.loop-b-preserved
unfolding by_blank
loop-b-preserved c = c.loop-b.invariant ∙ at_byte c.args.line.now c.loop-b.b-index true c.loop-b-test.true (sym c.blank.ensures ∙ c.if-not-blank.false)

pub returns-then-not-blank : goal.returns-then-not-blank
unfolding by_blank
returns-then-not-blank c = sym (c.loop-b.invariant ∙ at_byte c.args.line.now c.loop-b.b-index false c.loop-b-test.true (sym c.blank.ensures ∙ c.if-not-blank.true))

pub returns : goal.returns
returns c = sym (c.loop-b.invariant ∙ ap is_keyword_line (drop_all c.loop-b.b-index c.args.line.now c.loop-b-test.false))
