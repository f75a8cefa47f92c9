use Rattle.std.proofs.Common.{◌≡◌, ℕ, suc, ◌-◌, Bool, true, false, cond, List, [], ◌∷◌, ◌++◌, append_assoc, ap, sym, ◌∙◌, arith}
use Rattle.cube.specs.Cube.{Cube}
use Rattle.cube.specs.Sharp.{piece, pieces_below, splits}
use Rattle.cube.proofs.cube.Cube.push_pieces.Goals as goal

-- the pieces below an input, by whether there is one at the input before it
below : (a b : Cube) (k i : ℕ) (t : Bool) → i ≡ suc k → splits a b k ≡ t → pieces_below a b i ≡ cond t (piece a b k ∷ pieces_below a b k) (pieces_below a b k)
below a b k i t next is = ap (pieces_below a b) next ∙ ap (λ s. cond s (piece a b k ∷ pieces_below a b k) (pieces_below a b k)) is

pushed : (a b row : Cube) (rows more all : List Cube) (k i : ℕ) → i ≡ suc k → splits a b k ≡ true → row ≡ piece a b k → more ≡ rows ++ row ∷ [] → rows ++ pieces_below a b i ≡ all → more ++ pieces_below a b k ≡ all
pushed a b row rows more all k i next is same add before =
    ap (λ m. m ++ pieces_below a b k) add ∙ append_assoc rows (row ∷ []) (pieces_below a b k) ∙ ap (λ r. rows ++ r ∷ pieces_below a b k) same
    ∙ ap (λ p. rows ++ p) (sym (below a b k i true next is)) ∙ before

passed : (a b : Cube) (rows all : List Cube) (k i : ℕ) → i ≡ suc k → splits a b k ≡ false → rows ++ pieces_below a b i ≡ all → rows ++ pieces_below a b k ≡ all
passed a b rows all k i next is before = ap (λ p. rows ++ p) (sym (below a b k i false next is)) ∙ before

pub loop-i-preserved-in-Continue-branch-3 : goal.loop-i-preserved-in-Continue-branch-3
loop-i-preserved-in-Continue-branch-3 c =
    let found = rw c.in-Some.is at c.in_ok-row.ensures in
    record {
      within = omega (arith, c.loop-i.invariant.within);
      rows = pushed c.args.self.now c.args.other.now c.in-Some.row c.loop-i.rows.items c.push.new.self.items _ (c.loop-i.i - 1) c.loop-i.i (omega (arith, c.loop-i-test.true)) found.0 found.1 c.in_ok-push.ensures.items c.loop-i.invariant.rows;
    }

pub loop-i-preserved : goal.loop-i-preserved
loop-i-preserved c =
    let none = rw c.in_default.is at c.in_ok-row.ensures in
    record {
      within = omega (arith, c.loop-i.invariant.within);
      rows = passed c.args.self.now c.args.other.now c.loop-i.rows.items _ (c.loop-i.i - 1) c.loop-i.i (omega (arith, c.loop-i-test.true)) none c.loop-i.invariant.rows;
    }
