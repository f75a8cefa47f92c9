use Rattle.std.proofs.Common.{◌+◌, List, ℕ, Some, None, ne_eqb, sym, subst, arith}
use Rattle.memchr.specs.Find.{IsFirstByte, is_byte}
use Rattle.pla.proofs.Finds.{first_line, first_end, first_ends, no_end}
use Rattle.pla.proofs.Moves.{drop_is}
use Rattle.pla.proofs.scan.line_end.Goals as goal

pub returns-then-bytes-at-eq10 : goal.returns-then-bytes-at-eq10
returns-then-bytes-at-eq10 c =
    let bytes = c.args.bytes.now in
    let at = c.in_ok-at.at in
    let e = first_end bytes at c.in_ok-at.ensures c.if-bytes-at-eq10.true in
    let l = first_line bytes (Some at) e.0 in
    (l.0, l.1, l.2, omega arith, e.1)

pub returns-in-None : goal.returns-in-None
returns-in-None c =
    let bytes = c.args.bytes.now in
    let at = c.in_ok-at.at in
    no_end bytes at c.in_ok-at.ensures (subst (λ (r : List ℕ). IsFirstByte (is_byte 10) r None) (sym (drop_is at bytes)) c.in-None.ensures)

pub returns-in-Some : goal.returns-in-Some
returns-in-Some c =
    let bytes = c.args.bytes.now in
    let at = c.in_ok-at.at in
    let further = c.in-Some.further in
    let g = subst (λ (r : List ℕ). IsFirstByte (is_byte 10) r (Some further)) (sym (drop_is at bytes)) c.in-Some.ensures in
    let e = first_ends bytes at further c.in_ok-at.ensures (ne_eqb _ _ c.if-bytes-at-eq10.false) g in
    let l = first_line bytes (Some (at + further)) e.0 in
    (l.0, l.1, l.2, omega arith, e.1)
