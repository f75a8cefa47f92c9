use Rattle.std.proofs.Common.{◌≡◌, take}
use Rattle.pla.specs.Keywords.{texts}
use Rattle.pla.specs.Names.{name_bytes}
use Rattle.pla.proofs.header.names_of.Given as goal

abbrev pub invariant-loop-word : goal.invariant-loop-word
invariant-loop-word l = name_bytes l.names.items ≡ texts (take l.word-index l.words)
