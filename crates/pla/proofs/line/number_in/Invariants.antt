use Rattle.std.proofs.Common.{◌≡◌, ◌^◌, ◌-◌, min, take, true}
use Rattle.std.specs.List.{list_all}
use Rattle.std.specs.Char.{is_ascii_digit}
use Rattle.pla.specs.Keywords.{number}
use Rattle.pla.proofs.line.number_in.Given as goal

abbrev pub invariant-loop-b : goal.invariant-loop-b
invariant-loop-b l = record {
  digits : list_all is_ascii_digit (take l.b-index l.b-items) ≡ true;
  value : l.number ≡ min (number (take l.b-index l.b-items)) (2 ^ 64 - 1);
}
