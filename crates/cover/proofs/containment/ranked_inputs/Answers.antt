use Rattle.std.proofs.Common.{ℕ, ◌<◌, ◌-◌, ◌∙◌, ◌∷◌, ◌++◌, [], All, ap, sym, subst}
use Rattle.std.proofs.lemmas.List.Elements.{All-nil, All-same, All-push}
use Rattle.rows.specs.Cubes.{AreCubes}
use Rattle.rows.specs.Places.{behind}
use Rattle.rows.proofs.Lists.{lengths_of_cubes}
use Rattle.cover.proofs.containment.ranked_inputs.Goals as goal
use Rattle.cover.proofs.containment.ranked_inputs.Goals.{then-weight-gt0+in_ok-push, else-weight-gt0}

pub of-requires : goal.of-requires
of-requires c =
    lengths_of_cubes c.args.list.now.size c.args.list.now.cubes (subst (AreCubes c.args.list.now.size) c.as_slice.ensures.value c.as_slice.ensures.cubes)
    c.deref.result.now (ap behind c.deref.ensures.value ∙ c.in_ok-rows.ensures ∙ c.as_slice.ensures.value) c.inputs-inputs.result
    (ap (λ z. z.inputs) (sym c.shape.ensures.size) ∙ sym c.inputs-inputs.ensures.value)

pub loop-i-init : goal.loop-i-init
loop-i-init c =
    let within : (ℕ × ℕ) → Type 0 = λ p. p.1 < c.inputs-inputs.result in
    All-same within c.new-weighed.result.items [] c.new-weighed.ensures.items (All-nil within)

pub loop-i-preserved : goal.loop-i-preserved
loop-i-preserved c =
    let within : (ℕ × ℕ) → Type 0 = λ p. p.1 < c.inputs-inputs.result in
    let before = c.loop-i.weighed.items in
    elim c.if-weight-gt0.branch [
      | then-weight-gt0+in_ok-push w ↦
          let added : ℕ × ℕ = (18446744073709551615 - c.split_weight-weight.result, c.loop-i.i) in
          All-same within c.if-weight-gt0.weighed.items (before ++ added ∷ []) (ap (λ v. v.items) w.weighed-is ∙ w.in_ok-push.ensures.items)
          (All-push within before added c.loop-i.invariant c.loop-i-test.true)
      | else-weight-gt0 w ↦ All-same within c.if-weight-gt0.weighed.items before (ap (λ v. v.items) w.weighed-is) c.loop-i.invariant
    ]

pub returns : goal.returns
returns c =
    subst (λ n. All (λ p. p.1 < n) c.loop-i.weighed.items) (c.inputs-inputs.ensures.value ∙ ap (λ z. z.inputs) c.shape.ensures.size) c.loop-i.invariant
