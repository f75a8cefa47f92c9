-- What a cut adds to the load of a column, and to the weight of all rows.
use Rattle.std.specs.Prelude.{ℕ, ◌+◌, ◌-◌, ◌*◌, ◌^◌, min}
use Rattle.std.specs.Int.{div_ceil}

-- half of the number, rounded up
abbrev pub half_up : ℕ → ℕ
half_up n = div_ceil n 2

-- the load, with the weight as many times as half of the count, or the largest number if that is larger
abbrev pub raised : ℕ → ℕ → ℕ → ℕ
raised weight load count = min (load + weight * half_up count) (2 ^ 128 - 1)
