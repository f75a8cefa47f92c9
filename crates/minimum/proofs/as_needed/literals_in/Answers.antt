use Rattle.std.proofs.Common.{rules, ◌≡◌, ◌≢◌, ◌∙◌, All, ap, length, replicate, subst, sym}
use Rattle.std.proofs.lemmas.List.{length-replicate}
use Rattle.std.proofs.lemmas.List.Elements.{All-replicate}
use Rattle.cube.specs.declared.symbol.Symbol.{Symbol}
use Rattle.cube.specs.declared.symbol.Symbol.TheVariants.{Dash, Zero}
use Rattle.minimum.proofs.as_needed.literals_in.Goals as goal

literal : Zero ≡ Dash → ⊥
literal e = cc

pub loop-i-init : goal.loop-i-init
loop-i-init c =
    let P : Symbol → Type 0 = λ s. s ≢ Dash in
    let inputs = c.inputs-inputs.result in
    let e : c.in_ok-symbols.symbols.items ≡ replicate inputs Zero = search rules in
    record {
      long = ap length e ∙ length-replicate inputs Zero;
      literals = subst (All P) (sym e) (All-replicate P inputs Zero literal);
    }
