-- Whether three sets part the space: each place is in one of them, and in one alone.
use Rattle.std.specs.Prelude.{ℕ, Bool, not, ◌||◌, List, [], ◌++◌, codes, if◌then◌else◌}
use Rattle.cover.specs.Places.{holds_all, places, share_place}
use Rattle.pla.specs.Sets.{SetLists}
use Rattle.espresso.specs.declared.check.Flaws.{Flaws}

-- which sets share a place, and whether there is a place outside of all
abbrev pub flaws_of : SetLists → Flaws
flaws_of sets = record {
  on_dc = share_place sets.size (places sets.on) (places sets.dc);
  on_off = share_place sets.size (places sets.on) (places sets.off);
  dc_off = share_place sets.size (places sets.dc) (places sets.off);
  gap = not (holds_all sets.size (λ p. places sets.on p || places sets.dc p || places sets.off p));
}

-- there is some flaw
abbrev pub has_flaw : Flaws → Bool
has_flaw flaws = flaws.on_dc || flaws.on_off || flaws.dc_off || flaws.gap

-- the line if the condition holds
abbrev pub line_if : Bool → List ℕ → List ℕ
line_if condition line = if condition then line else []

-- a line for each flaw
abbrev pub flaws_text : Flaws → List ℕ
flaws_text flaws =
    line_if flaws.on_dc (codes "ON-set and DC-set intersect\n")
    ++ line_if flaws.on_off (codes "ON-set and OFF-set intersect\n")
    ++ line_if flaws.dc_off (codes "DC-set and OFF-set intersect\n")
    ++ line_if flaws.gap (codes "ON-set, OFF-set and DC-set do not cover the space\n")

-- what is said if there is none
abbrev pub partition_text : List ℕ
partition_text = codes "ON-set, OFF-set and DC-set partition the space\n"
