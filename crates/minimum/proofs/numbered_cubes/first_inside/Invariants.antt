use Rattle.std.proofs.Common.{◌≡◌, ℕ, true, take}
use Rattle.cover.specs.Marks.{cube_at}
use Rattle.covering.specs.Table.{has}
use Rattle.minimum.specs.PrimeRows.{HasNoneInside}
use Rattle.minimum.proofs.numbered_cubes.first_inside.Given as goal

abbrev pub invariant-loop-number : goal.invariant-loop-number
invariant-loop-number l = (n : ℕ) → has n (take l.number-index l.numbers) ≡ true → HasNoneInside (cube_at l.cubes n) l.region
