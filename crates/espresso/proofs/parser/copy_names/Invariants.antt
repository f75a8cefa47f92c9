use Rattle.std.proofs.Common.{◌≡◌, map, take, string_bytes}
use Rattle.espresso.proofs.parser.copy_names.Given as goal

abbrev pub invariant-loop-name : goal.invariant-loop-name
invariant-loop-name l = map string_bytes l.files.items ≡ map (λ s. s.now) (take l.name-index l.names)
