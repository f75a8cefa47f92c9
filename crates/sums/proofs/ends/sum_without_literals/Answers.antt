use Rattle.std.proofs.Common.{◌≡◌, ◌∙◌, ◌++◌, ◌∷◌, [], ap, sym, subst, replicate, IfSome, IsSome, List, Bool, true, Contains, length}
use Rattle.std.proofs.lemmas.List.{length-replicate}
use Rattle.std.proofs.lemmas.Bool.{false≢true}
use Rattle.cube.specs.declared.symbol.Symbol.{Symbol}
use Rattle.cube.specs.declared.symbol.Symbol.TheVariants.{Dash}
use Rattle.cube.specs.Cube.{Cube}
use Rattle.rows.proofs.Found.{made_output}
use Rattle.sums.proofs.SumEnds.{sum_without_literals-none, sum_without_literals-one}
use Rattle.sums.proofs.ends.sum_without_literals.Goals as goal
use Rattle.sums.proofs.ends.sum_without_literals.Goals.{in-Some+in_ok-push, in_default}

abbrev cube_of : List Symbol → List Bool → Cube
cube_of ss os = record { symbols = ss; outputs = os }

pub returns : goal.returns
returns c =
    let left = c.in_ok-outputs.ensures in
    let inputs = c.args.shape.inputs in
    elim c.match-branch-4.branch [
      | in-Some+in_ok-push w ↦
          let cube = w.in-Some.cube in
          let value = subst (λ o. IfSome o (λ d. d ≡ cube_of c.deref.result.now c.deref-2.result.now)) w.in-Some.is c.in_ok-cube.ensures.value in
          let symbols = c.deref.ensures.value ∙ c.in_ok-symbols.ensures.items_if_clones_equal (λ y e. e) ∙ ap (λ n. replicate n Dash) c.inputs.ensures.value in
          let is = value ∙ ap (λ ss. cube_of ss c.deref-2.result.now) symbols ∙ ap (λ os. cube_of (replicate inputs Dash) os) c.deref-2.ensures.value in
          ap (λ v. v.items) w.rows-is ∙ w.in_ok-push.ensures.items ∙ ap (λ l. l ++ cube ∷ []) c.new-rows.ensures.items
          ∙ sum_without_literals-one c.args.shape c.args.minuend.now c.args.subtrahend.now c.requires.minuend c.requires.subtrahend c.requires.free c.in_ok-outputs.outputs.items left cube is
          (record {
            has_size = (ap (λ d. length d.symbols) is ∙ length-replicate inputs Dash, ap (λ d. length d.outputs) is ∙ left.len);
            some_output = made_output c.deref.result.now c.deref-2.result.now cube c.in_ok-cube.field-0 w.in-Some.is c.in_ok-cube.ensures.found value;
          })
      | in_default w ↦
          ap (λ v. v.items) w.rows-is ∙ c.new-rows.ensures.items
          ∙ sum_without_literals-none c.args.shape c.args.minuend.now c.args.subtrahend.now c.requires.minuend c.requires.subtrahend c.requires.free c.in_ok-outputs.outputs.items left
          (λ h. false≢true (subst IsSome w.in_default.is (c.in_ok-cube.ensures.found.1 (subst (λ (l : List Bool). Contains l true) (sym c.deref-2.ensures.value) h))))
    ]
