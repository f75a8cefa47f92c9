use Rattle.std.proofs.Common.{refl}
use Rattle.cube.proofs.MeetLemmas.{IsDisjoint-from_inputs, IsDisjoint-iff_outputs}
use Rattle.cube.proofs.cube.Cube.disjoint.Goals as goal

pub returns-then-not-pairs_meet_by_lanes : goal.returns-then-not-pairs_meet_by_lanes
returns-then-not-pairs_meet_by_lanes c = (
  λ _. IsDisjoint-from_inputs _ _ c.requires _ _ c.input_part.ensures.packs c.input_part-2.ensures.packs _ c.pairs_meet_by_lanes.ensures c.if-not-pairs_meet_by_lanes.true,
  λ _. refl,
)

pub returns : goal.returns
returns c =
    IsDisjoint-iff_outputs _ _ c.requires _ _ _ _ c.input_part.ensures.packs c.input_part-2.ensures.packs c.output_part.ensures.packs c.output_part-2.ensures.packs
    _ _ c.pairs_meet_by_lanes.ensures c.if-not-pairs_meet_by_lanes.false c.share_bit_by_lanes.ensures
