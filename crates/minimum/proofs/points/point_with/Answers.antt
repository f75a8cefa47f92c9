use Rattle.std.proofs.Common.{rules, ◌≡◌, ◌∙◌, ℕ, ap, get_or, length, true, false, List, Bool, Option, Some, None, Result, Ok, Err, IfOk, IfSome, replicate, slice_set, refl, sym}
use Rattle.std.specs.Prelude.{◌↔◌, IsSome}
use Rattle.std.specs.List.{Contains}
use Rattle.std.proofs.lemmas.List.{length-set, length-replicate}
use Rattle.cube.specs.declared.symbol.Symbol.{Symbol}
use Rattle.cube.specs.Size.{Size}
use Rattle.cube.specs.Cube.{Cube, IsCube}
use Rattle.cover.proofs.Found.{made_output}
use Rattle.minimum.specs.PrimeRows.{HasOneOutput}
use Rattle.growth.proofs.GrowthSteps.{set_one}
use Rattle.minimum.proofs.points.point_with.Goals as goal

-- the cube that was made has the size, and one output
is_cube : {E : Type 0} (size : Size) (symbols : List Symbol) (outputs : List Bool) (r : Result (Option Cube) E) → length symbols ≡ size.inputs → length outputs ≡ size.outputs
    → IfOk r (λ found. IsSome found ↔ Contains outputs true) → IfOk r (λ found. IfSome found (λ c. c ≡ record { symbols = symbols; outputs = outputs }))
    → IfOk r (λ found. IfSome found (IsCube size))
is_cube size symbols outputs (Ok None) long wide some value = tt
is_cube size symbols outputs (Ok (Some c)) long wide some value = record {
  has_size = (ap (λ d. length d.symbols) value ∙ long, ap (λ d. length d.outputs) value ∙ wide);
  some_output = made_output symbols outputs c (Some c) refl some value;
}
is_cube size symbols outputs (Err e) long wide some value = tt

has_one : {E : Type 0} (n j : ℕ) (symbols : List Symbol) (outputs : List Bool) (r : Result (Option Cube) E) → outputs ≡ slice_set (replicate n false) j true
    → IfOk r (λ found. IfSome found (λ c. c ≡ record { symbols = symbols; outputs = outputs })) → IfOk r (λ found. IfSome found HasOneOutput)
has_one n j symbols outputs (Ok None) is value = tt
has_one n j symbols outputs (Ok (Some c)) is value = λ k l has_k has_l.
    let e = ap (λ d. d.outputs) value ∙ is in
    set_one n j k (ap (λ o. get_or o k false) (sym e) ∙ has_k) ∙ sym (set_one n j l (ap (λ o. get_or o l false) (sym e) ∙ has_l))
has_one n j symbols outputs (Err e) is value = tt

pub returns-clause-cube : goal.returns-clause-cube
returns-clause-cube c =
    let shape = c.args.shape in
    let j = c.args.j in
    let e : c.deref.result.now ≡ slice_set (replicate shape.outputs false) j true = search rules in
    let wide = ap length e ∙ length-set (replicate shape.outputs false) j true ∙ length-replicate shape.outputs false in
    is_cube shape c.args.symbols.now c.deref.result.now c.from_symbols.result c.requires.length wide c.from_symbols.ensures.found c.from_symbols.ensures.value

pub returns-clause-one : goal.returns-clause-one
returns-clause-one c =
    let e : c.deref.result.now ≡ slice_set (replicate c.args.shape.outputs false) c.args.j true = search rules in
    has_one c.args.shape.outputs c.args.j c.args.symbols.now c.deref.result.now c.from_symbols.result e c.from_symbols.ensures.value
