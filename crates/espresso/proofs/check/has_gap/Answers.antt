use Rattle.std.proofs.Common.{◌≡◌, ◌∙◌, ◌++◌, ap, ap₂, not}
use Rattle.cover.specs.Cubes.{Cubes}
use Rattle.cover.specs.Places.{holds_all, places}
use Rattle.espresso.proofs.Checking.{places-of-three}
use Rattle.espresso.proofs.check.has_gap.Goals as goal

pub returns : goal.returns
returns c =
    let d = c.args.pla.now in
    let first = c.in_ok-all.ensures ∙ c.on.ensures in
    let size = c.append-2.ensures.size ∙ c.append.ensures.size ∙ ap (λ (l : Cubes). l.size) first in
    let two : c.append.new.self.cubes ≡ d.on ++ d.dc =
    c.in_ok-append.ensures.ok ∙ ap₂ (λ a b. a ++ b) (ap (λ (l : Cubes). l.cubes) first) (ap (λ (l : Cubes). l.cubes) c.dc.ensures) in
    let three : c.append-2.new.self.cubes ≡ d.on ++ d.dc ++ d.off =
    c.in_ok-append-2.ensures.ok ∙ ap₂ (λ a b. a ++ b) two (ap (λ (l : Cubes). l.cubes) c.off.ensures) in
    ap not (c.in_ok-tautology.ensures ∙ ap₂ (λ s l. holds_all s (places l)) size three ∙ ap (holds_all d.size) (places-of-three d.on d.dc d.off))
