use Rattle.std.proofs.Common.{suc, ◌+◌, ◌-◌, ◌++◌, take, drop, get_or, ap, sym, ◌∙◌, arith, eqb}
use Rattle.std.specs.Prelude.{◌&&◌}
use Rattle.pla.specs.Lines.{is_blank, keyword_code}
use Rattle.pla.proofs.Comments.{not_here, here, nowhere, no_hash, hash}
use Rattle.pla.proofs.line.keyword_code_of.Goals as goal
use Rattle.pla.proofs.line.keyword_code_of.Goals.{else-i-gt0-via-then-i-gt0+then-b-eq35+else-blank, else-i-gt0-via-then-i-gt0+else-b-eq35, else-i-gt0-via-else-i-gt0}

pub loop-i-preserved : goal.loop-i-preserved
loop-i-preserved c =
    let line = c.args.line.now in
    let i = c.loop-i.i in
    elim c.else-i-gt0.branch [
      | else-i-gt0-via-then-i-gt0+then-b-eq35+else-blank w ↦ not_here line (i - 1) (i + 1 - 1) (omega arith) (omega arith) (ap (λ x. x && eqb (get_or line (suc (i - 1)) 0) 35) (sym w.blank.ensures ∙ w.if-blank.false)) c.loop-i.invariant
      | else-i-gt0-via-then-i-gt0+else-b-eq35 w ↦ not_here line (i - 1) (i + 1 - 1) (omega arith) (omega arith) (no_hash (is_blank (get_or line (i - 1) 0)) (get_or line (suc (i - 1)) 0) (get_or line i 0) (ap (λ k. get_or line k 0) (omega arith)) w.if-b-eq35.false) c.loop-i.invariant
      | else-i-gt0-via-else-i-gt0 w ↦ c.loop-i.invariant ∙ ap (λ k. take k line ++ keyword_code (drop k line)) (omega arith)
    ]

pub returns-then-blank : goal.returns-then-blank
returns-then-blank c =
    let line = c.args.line.now in
    let i = c.loop-i.i in
    sym (here line (i - 1) i (omega arith) (omega arith) (hash (is_blank (get_or line (i - 1) 0)) (get_or line (suc (i - 1)) 0) (get_or line i 0) (ap (λ k. get_or line k 0) (omega arith)) (sym c.blank.ensures ∙ c.if-blank.true) c.if-b-eq35.true) c.loop-i.invariant)

pub returns : goal.returns
returns c = sym (nowhere c.args.line.now (c.loop-i.i - 1) (omega arith) c.loop-i.invariant)
