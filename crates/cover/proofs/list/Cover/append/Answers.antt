use Rattle.std.proofs.Common.{◌∙◌, ap, sym, subst}
use Rattle.rows.specs.Cubes.{AreCubes}
use Rattle.sums.proofs.OffSets.{AreCubes-grown}
use Rattle.cover.proofs.list.Cover.append.Goals as goal

pub invariant_of-self : goal.invariant_of-self
invariant_of-self c =
    let others = c.into_cubes-cubes.result.items in
    let size = ap (λ l. l.size) c.in_ok-try_clone.ensures ∙ c.requires ∙ sym (ap (λ l. l.size) c.self.view_is) in
    AreCubes-grown c.self.inside.shape _ c.self.inside.cubes.items others c.append.new.self.items c.append.ensures.items c.self.invariant
    (subst (λ z. AreCubes z others) size c.into_cubes-cubes.ensures.cubes)
