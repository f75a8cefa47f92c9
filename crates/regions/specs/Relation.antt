-- How the places of one list stand to those of another. No public clause cites this module.
use Rattle.std.specs.Prelude.{Bool, List, IsTrue}
use Rattle.cube.specs.Cube.{Cube, Place}
use Rattle.rows.specs.Places.{places}
use Rattle.regions.specs.declared.pairwise.Relation.{Relation}
use Rattle.regions.specs.declared.pairwise.Relation.TheVariants.{Contained, Disjoint}

-- a place of the one list is in the other, or it is not
abbrev pub Relates : Relation → Bool → Type 0
Relates Contained held = IsTrue held
Relates Disjoint held = IsTrue held → ⊥

-- so for each place of the one
abbrev pub AreRelated : Relation → List Cube → List Cube → Type 0
AreRelated relation rows others = (p : Place) → IsTrue (places rows p)
    → Relates relation (places others p)
