use Rattle.std.proofs.Common.{◌∙◌, sym}
use Rattle.std.proofs.lemmas.Bool.{and_parts}
use Rattle.cube.specs.Cube.{holds}
use Rattle.cover.proofs.Found.{apart_from_none, same_from_some, part_from_some}
use Rattle.cover.proofs.Lists.{list_any_from}
use Rattle.minimum.proofs.essential_by_neighbours.common_place.part_lies_in_one_of.Goals as goal

pub returns-in-Some : goal.returns-in-Some
returns-in-Some c is p both =
    let w = c.lies_in_one_of.ensures.0 is in
    let held = part_from_some c.args.region.now c.args.row.now c.in-Some.part c.in_ok-part.field-0 c.in_ok-part.ensures.places c.in-Some.is p in
    list_any_from (λ d. holds d p) c.args.nogoods.now w.0 w.1 (w.2 p (held ∙ both))

pub lies_in_one_of-requires : goal.lies_in_one_of-requires
lies_in_one_of-requires c k d lt =
    let same = same_from_some c.args.region.now c.in-Some.part c.in_ok-part.field-0 c.in_ok-part.ensures.size c.in-Some.is in
    let own = c.requires.nogoods k d lt in
    (own.0 ∙ sym same.0, own.1 ∙ sym same.1)

pub returns-in-None : goal.returns-in-None
returns-in-None c _ p both =
    let region = c.args.region.now in
    let row = c.args.row.now in
    let parts = and_parts (holds region p) (holds row p) both in
    absurd (apart_from_none region row c.in_ok-part.field-0 c.in_ok-part.ensures.none c.in-None.is p parts.0 parts.1)
