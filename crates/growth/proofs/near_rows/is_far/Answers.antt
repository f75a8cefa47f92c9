use Rattle.std.proofs.Common.{◌≡◌, ℕ, true, arith, length, get_or}
use Rattle.std.proofs.lemmas.Bool.{ltb-true}
use Rattle.cube.specs.declared.symbol.Symbol.TheVariants.{Dash}
use Rattle.cube.specs.Literals.{is_opposite}
use Rattle.cube.proofs.LiteralMarks.{two-counted, opposite_symbols}
use Rattle.growth.specs.Growth.{Conflicts}
use Rattle.growth.proofs.near_rows.is_far.Goals as goal

pub returns : goal.returns
returns c e =
    let cube = c.args.cube.now in
    let row = c.args.row.now in
    let two = two-counted (is_opposite cube row) (length cube.symbols) (omega (arith, c.opposites.ensures, ltb-true 1 c.opposites.result e)) in
    let at : (i : ℕ) → is_opposite cube row i ≡ true → Conflicts cube row i =
    λ i t. opposite_symbols (get_or cube.symbols i Dash) (get_or row.symbols i Dash) t in
    record {
      one = two.0;
      other = two.1;
      apart = λ same. absurd (omega (arith, two.2, same));
      at_one = at two.0 two.3;
      at_other = at two.1 two.4;
    }
