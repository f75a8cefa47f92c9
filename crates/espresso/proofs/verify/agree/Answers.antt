use Rattle.std.proofs.Common.{◌∙◌, ◌++◌, true, false, List, ap, subst}
use Rattle.std.proofs.lemmas.Result.{IfOk-weaker}
use Rattle.cube.specs.Cube.{Cube}
use Rattle.cover.specs.Cubes.{Cubes, AreCubes}
use Rattle.cover.specs.Places.{places}
use Rattle.cover.proofs.MaskedAgreement.{masked_agreement-first, masked_agreement-second}
use Rattle.pla.specs.Completed.{dc_list}
use Rattle.pla.specs.Description.{Description}
use Rattle.espresso.proofs.Comparing.{settles, dcs-free, held-masked}
use Rattle.espresso.proofs.verify.agree.Goals as goal

-- all don't-cares of two files, and those that they list
abbrev all_dc : Description → Description → List Cube
all_dc d e = dc_list d.file_type true d ++ dc_list e.file_type true e

abbrev listed : Description → Description → List Cube
listed d e = dc_list d.file_type false d ++ dc_list e.file_type false e

pub returns-then-not-branch : goal.returns-then-not-branch
returns-then-not-branch c =
    let d = c.args.pla.now in
    let e = c.args.other.now in
    let are : AreCubes d.size d.on =
    subst (AreCubes d.size) (ap (λ (l : Cubes). l.cubes) c.on.ensures)
    (subst (λ z. AreCubes z c.on.result.now.cubes) (c.shape.ensures.size ∙ ap (λ (l : Cubes). l.size) c.on.ensures) c.shape.ensures.cubes) in
    masked_agreement-first d.size d.on e.on (places (listed d e)) (settles d.file_type d.off) (settles e.file_type e.off) (places (all_dc d e)) are (dcs-free d e c.requires)
    c.in_ok-is_held.field-0 c.if-not-branch.true
    (held-masked e.file_type e.off (places d.on) e.on c.in_ok-free.free.cubes (listed d e) (ap (λ (l : Cubes). l.cubes) c.in_ok-free.ensures) c.in_ok-is_held.field-0 c.in_ok-is_held.ensures)

pub returns : goal.returns
returns c =
    let d = c.args.pla.now in
    let e = c.args.other.now in
    let are : AreCubes d.size d.on =
    subst (AreCubes d.size) (ap (λ (l : Cubes). l.cubes) c.on.ensures)
    (subst (λ z. AreCubes z c.on.result.now.cubes) (c.shape.ensures.size ∙ ap (λ (l : Cubes). l.size) c.on.ensures) c.shape.ensures.cubes) in
    let others : AreCubes d.size e.on =
    subst (AreCubes d.size) (ap (λ (l : Cubes). l.cubes) c.on-2.ensures)
    (subst (λ z. AreCubes z c.on-2.result.now.cubes) (c.shape-2.ensures.size ∙ ap (λ (l : Cubes). l.size) c.on-2.ensures ∙ c.requires) c.shape-2.ensures.cubes) in
    let free = ap (λ (l : Cubes). l.cubes) c.in_ok-free.ensures in
    IfOk-weaker c.is_held-2.result _ _
    (λ held h. masked_agreement-second d.size d.on e.on (places (listed d e)) (settles d.file_type d.off) (settles e.file_type e.off) (places (all_dc d e)) are (dcs-free d e c.requires) others
    c.in_ok-is_held.field-0 c.if-not-branch.false
    (held-masked e.file_type e.off (places d.on) e.on c.in_ok-free.free.cubes (listed d e) free c.in_ok-is_held.field-0 c.in_ok-is_held.ensures)
    held (held-masked d.file_type d.off (places e.on) d.on c.in_ok-free.free.cubes (listed d e) free held h))
    c.is_held-2.ensures
