use Rattle.sums.proofs.SumChoice.{one_literal-from_place}
use Rattle.sums.proofs.ends.is_unate.Goals as goal

pub returns : goal.returns
returns c = λ h.
    let place = c.in_ok-have_common_place.ensures c.if-not-branch.false in
    record {
      one_literal = one_literal-from_place c.args.shape c.args.rows.now place.0 c.requires place.1;
      same_outputs = c.have_same_outputs.ensures h;
    }
