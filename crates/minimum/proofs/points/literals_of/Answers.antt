use Rattle.std.proofs.Common.{rules, ◌≡◌, ◌≢◌, ◌∙◌, All, ap, length, replicate, subst, sym}
use Rattle.std.proofs.lemmas.List.{length-replicate}
use Rattle.std.proofs.lemmas.List.Elements.{All-replicate}
use Rattle.cube.specs.declared.symbol.Symbol.{Symbol}
use Rattle.cube.specs.declared.symbol.Symbol.TheVariants.{Dash, Zero}
use Rattle.minimum.proofs.points.literals_of.Goals as goal

literal : Zero ≡ Dash → ⊥
literal e = cc

pub loop-i-init : goal.loop-i-init
loop-i-init c =
    let P : Symbol → Type 0 = λ s. s ≢ Dash in
    let e : c.in_ok-symbols.symbols.items ≡ replicate c.args.inputs Zero = search rules in
    record {
      long = ap length e ∙ length-replicate c.args.inputs Zero;
      literals = subst (All P) (sym e) (All-replicate P c.args.inputs Zero literal);
    }
