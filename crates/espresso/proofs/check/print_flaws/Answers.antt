use Rattle.std.proofs.Common.{◌≡◌, ◌∙◌, false, sym}
use Rattle.espresso.specs.Check.{has_flaw}
use Rattle.espresso.proofs.check.print_flaws.Goals as goal

pub returns-else-some : goal.returns-else-some
returns-else-some g c =
    let none : has_flaw c.args.flaws ≡ false = sym c.some.ensures ∙ c.if-some.false in
    rw none c.print_text.ensures
