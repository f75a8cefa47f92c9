use Rattle.std.proofs.Common.{◌≡◌, ◌∙◌, ◌++◌, ◌∷◌, [], ap, sym, subst, arith, false, true, get_or, inl, inr, length}
use Rattle.std.proofs.lemmas.Bool.{cases_lt}
use Rattle.std.proofs.lemmas.List.{get_or_default, length-append, length-map}
use Rattle.cover.specs.Cubes.{AreCubes}
use Rattle.cover.specs.Places.{places}
use Rattle.minimum.specs.Points.{lists_of}
use Rattle.minimum.proofs.PickedPoints.{all_held, wanted_in}
use Rattle.minimum.proofs.points.rounds.cubes_left_out.Goals as goal
use Rattle.minimum.proofs.points.rounds.cubes_left_out.Goals.{then-not-index+in_ok-add_copy, else-not-index}

pub returns : goal.returns
returns c = λ empty.
    let given = c.args.on.now in
    let sets = lists_of given c.args.dc.now in
    let list = c.args.list.now in
    let held = c.append.new.self in
    let cubes = c.as_slice-cubes.result.now in
    let on : cubes ≡ sets.on = c.as_slice-cubes.ensures.value in
    let size : held.size ≡ sets.size = c.in_ok-append.ensures.size ∙ ap (λ l. l.size) c.in_ok-held.ensures ∙ c.requires.list in
    let are : AreCubes held.size cubes = subst (λ z. AreCubes z cubes) (sym size) c.as_slice-cubes.ensures.cubes in
    let both : held.cubes ≡ list.cubes ++ sets.dc = c.in_ok-append.ensures.ok ∙ ap (λ l. l.cubes ++ c.args.dc.now.cubes) c.in_ok-held.ensures in
    let all = all_held held.size cubes held.cubes c.in_ok-are_held.are_held.items are c.in_ok-are_held.ensures (λ j lt. c.loop-k.invariant.none empty j (omega (arith, lt, c.loop-k-test.false))) in
    wanted_in sets list.cubes held.cubes both (λ p inside. all p (ap (λ l. places l p) on ∙ inside))

pub loop-k-preserved : goal.loop-k-preserved
loop-k-preserved c =
    let items = c.in_ok-are_held.are_held.items in
    let k = c.loop-k.k in
    let old = c.loop-k.left.cubes in
    let before = c.loop-k.invariant in
    elim c.if-not-index.branch [
      | then-not-index+in_ok-add_copy w ↦ record {
        size = ap (λ l. l.size) w.left-is ∙ w.in_ok-add_copy.ensures.size ∙ before.size;
        none = λ empty. absurd (
            let cube = w.index-cubes-k.result in
            let e = ap length (sym (ap (λ l. l.cubes) w.left-is ∙ w.in_ok-add_copy.ensures.cubes) ∙ empty) in
            let long = length-append old (cube ∷ []) in
            omega (arith, e, long));
      }
      | else-not-index w ↦ record {
        size = ap (λ l. l.size) w.left-is ∙ before.size;
        none = λ empty j lt. elim (cases_lt j k) [
          | inl below ↦ before.none (ap (λ l. l.cubes) (sym w.left-is) ∙ empty) j below
          | inr past ↦
              let same : k ≡ j = omega (arith, past, lt) in
              let long = ap length c.in_ok-are_held.ensures ∙ length-map c.as_slice-cubes.result.now _ in
              let at = c.loop-k-test.true in
              subst (λ n. get_or items n false ≡ true) same (get_or_default items k false c.index.result.now (omega (arith, long, at)) ∙ sym c.index.ensures ∙ w.if-not-index.false)
        ];
      }
    ]

pub index-requires : goal.index-requires
index-requires c =
    let long = ap length c.in_ok-are_held.ensures ∙ length-map c.as_slice-cubes.result.now _ in
    let own = c.in_ok-are_held.are_held.ok.0 in
    let lt = c.loop-k-test.true in
    omega (arith, own, long, lt)
