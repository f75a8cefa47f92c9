-- Names of inputs or of outputs, as a contract sees them.
use Rattle.std.specs.Prelude.{ℕ, List, Option, Vec, map}
use Rattle.std.specs.Global.{Global}
use Rattle.std.specs.Option.{option_map}
use Rattle.std.specs.Borrow.{Bor}

-- the bytes of each name
abbrev pub name_bytes : List (Vec ℕ Global) → List (List ℕ)
name_bytes names = map (λ name. name.items) names

-- those of names that may be absent
abbrev pub owned_names : Option (Vec (Vec ℕ Global) Global) → Option (List (List ℕ))
owned_names found = option_map (λ names. name_bytes names.items) found

-- those of names that are lent
abbrev pub lent_names : Option (Bor (List (Vec ℕ Global))) → Option (List (List ℕ))
lent_names found = option_map (λ names. name_bytes names.now) found
