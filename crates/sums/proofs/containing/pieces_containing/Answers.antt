use Rattle.std.proofs.Common.{◌∙◌, ◌++◌, ◌∷◌, [], ap, sym, subst, arith, get_or}
use Rattle.std.proofs.lemmas.List.{get_or_past}
use Rattle.std.proofs.lemmas.Option.{get_or_from_slice_get}
use Rattle.cube.specs.declared.symbol.Symbol.TheVariants.{Dash}
use Rattle.cube.specs.Cube.{size_of, with_symbol}
use Rattle.cube.specs.Literals.{are_opposite}
use Rattle.sums.specs.Containing.{ArePieces}
use Rattle.sums.proofs.OverRegion.{ArePieces-none, ArePieces-before, ArePiecesBefore-rest, ArePiecesBefore-more}
use Rattle.sums.proofs.containing.pieces_containing.Goals as goal

pub returns-then-not-contains : goal.returns-then-not-contains
returns-then-not-contains c =
    let region = c.args.region.now in
    let row = c.args.row.now in
    let cube = c.args.cube.now in
    subst (ArePieces (size_of region) region row cube) (sym c.new.ensures.items)
    (ArePieces-none (size_of region) region row cube (sym c.contains.ensures ∙ c.if-not-contains.true))

pub loop-from-init : goal.loop-from-init
loop-from-init c = (
  omega arith,
  ArePiecesBefore-rest c.args.region.now c.args.row.now c.args.cube.now c.shape.ensures.is_cube.some_output c.requires.region c.requires.row (sym c.contains.ensures ∙ c.if-not-contains.false)
      c.in_ok-pieces.pieces.items c.in_ok-pieces.ensures,
)

pub loop-from-preserved : goal.loop-from-preserved
loop-from-preserved c =
    let region = c.args.region.now in
    let row = c.args.row.now in
    let cube = c.args.cube.now in
    let i = c.in-Some.i in
    let pieces = c.loop-from.pieces.items in (
      omega (arith, c.in-Some.ensures.within),
      ArePiecesBefore-more region row cube c.shape.ensures.is_cube.some_output c.requires.region c.requires.row (sym c.contains.ensures ∙ c.if-not-contains.false)
          c.loop-from.from i pieces c.push.new.self.items c.in-Some.ensures.found c.in-Some.ensures.within
          (c.in_ok-push.ensures.items
          ∙ ap (λ d. pieces ++ d ∷ []) (c.in_ok-with_symbol.ensures.value ∙ ap (with_symbol cube i) (sym (get_or_from_slice_get region.symbols i c.symbol.result Dash c.symbol.ensures))))
          c.loop-from.invariant.1,
    )

pub returns-in_default : goal.returns-in_default
returns-in_default c =
    ArePieces-before c.args.region.now c.args.row.now c.args.cube.now c.shape.ensures.is_cube.some_output c.requires.region c.requires.row (sym c.contains.ensures ∙ c.if-not-contains.false)
    c.loop-from.from c.loop-from.pieces.items c.in_default.ensures.none c.loop-from.invariant.1

pub returns : goal.returns
returns c =
    let region = c.args.region.now in
    let row = c.args.row.now in
    ArePieces-before region row c.args.cube.now c.shape.ensures.is_cube.some_output c.requires.region c.requires.row (sym c.contains.ensures ∙ c.if-not-contains.false)
    c.loop-from.from c.loop-from.pieces.items
    (λ k past. ap (λ s. are_opposite s (get_or row.symbols k Dash))
    (get_or_past region.symbols k Dash (omega (arith, past, c.loop-from-test.false, c.inputs-inputs.ensures.value, c.shape.ensures.size.0))))
    c.loop-from.invariant.1
