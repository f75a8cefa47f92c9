use Rattle.std.proofs.Common.{◌≡◌, [], ◌++◌, take, length, ◌∙◌, ap, sym, subst, append-nil, eqb-true}
use Rattle.std.specs.Io.KnownBytes.{Appends}
use Rattle.std.proofs.lemmas.List.{nil_from_length}
use Rattle.pla.proofs.Moves.{appends_then, front_more, drop_is}
use Rattle.pla.proofs.writing.write_bytes.Goals as goal

pub loop-rest-preserved : goal.loop-rest-preserved
loop-rest-preserved g c =
    let inv = c.loop-rest.invariant in
    let n = c.in-Ok.count in
    let rest = c.loop-rest.rest.now in
    record {
      bytes = (inv.bytes.0 ++ take n rest, (front_more c.args.bytes.now inv.bytes.0 rest n inv.bytes.1 ∙ ap (λ w. (inv.bytes.0 ++ take n rest) ++ w) (drop_is n rest)), appends_then _ _ _ inv.bytes.0 (take n rest) inv.bytes.2 c.in-Ok.ensures.bytes);
      count = ap (λ calls. calls.counts) c.in-Ok.ensures.count ∙ inv.count;
    }

pub returns-clause-bytes : goal.returns-clause-bytes
returns-clause-bytes g c =
    let inv = c.loop-rest.invariant.bytes in
    let none : c.loop-rest.rest.now ≡ [] = nil_from_length c.loop-rest.rest.now (eqb-true (length c.loop-rest.rest.now) 0 (sym c.is_empty.ensures ∙ c.loop-rest-test.false)) in
    subst (Appends (g.W.Output.taken c.args.out.now) (g.W.Output.taken c.loop-rest.out)) (sym (inv.1 ∙ ap (λ r. inv.0 ++ r) none ∙ append-nil inv.0)) inv.2
