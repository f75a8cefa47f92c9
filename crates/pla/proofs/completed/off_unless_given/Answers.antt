use Rattle.std.proofs.Common.{◌≡◌, ◌∙◌, sym, subst}
use Rattle.pla.specs.declared.file_type.FileType.TheVariants.{F}
use Rattle.pla.specs.Completed.{off_list, outside}
use Rattle.pla.proofs.completed.off_unless_given.Goals as goal

pub returns-in_ok-complement-in-F-clause-list : goal.returns-in_ok-complement-in-F-clause-list
returns-in_ok-complement-in-F-clause-list c =
    let pla = c.args.pla.now in
    let list = c.in_ok-complement-in-F.field-0 in
    subst (λ type. list ≡ record { size = pla.size; cubes = off_list type c.args.compute pla }) (sym c.in-F.is ∙ c.file_type.ensures)
    (subst (λ asked. list ≡ record { size = pla.size; cubes = off_list F asked pla }) (sym c.if-compute.true)
    (subst (λ on. list ≡ record { size = on.size; cubes = outside on.size on.cubes }) c.on.ensures c.in_ok-complement-in-F.ensures))
