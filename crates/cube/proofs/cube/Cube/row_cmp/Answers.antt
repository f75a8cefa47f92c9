use Rattle.std.proofs.Common.{◌∙◌, sym, ap, cond}
use Rattle.std.specs.declared.cmp.Ordering.TheVariants.{Less, Greater}
use Rattle.cube.specs.Packing.{input_words}
use Rattle.cube.proofs.OrderLemmas.{row_cmp-equal, row_cmp-found}
use Rattle.cube.proofs.PackingLemmas.{length-symbols}
use Rattle.cube.proofs.cube.Cube.row_cmp.Goals as goal

pub returns-in_default : goal.returns-in_default
returns-in_default c = sym (row_cmp-equal _ _ c.requires _ _ c.words.ensures.packs c.words-2.ensures.packs c.in_default.ensures.none)

pub returns-then-is_set-is_input : goal.returns-then-is_set-is_input
returns-then-is_set-is_input c =
    let start = c.input_words-outputs_start.ensures.value ∙ ap (λ n. input_words n) (sym (length-symbols _ _ _ _ c.self.view_is)) in
    sym (row_cmp-found _ _ c.requires _ _ c.words.ensures.packs c.words-2.ensures.packs _ _ _ c.in-Some.ensures.found start
    ∙ ap (λ b. cond b Less Greater) c.if-is_set-is_input.true)

pub returns-else-is_set-is_input : goal.returns-else-is_set-is_input
returns-else-is_set-is_input c =
    let start = c.input_words-outputs_start.ensures.value ∙ ap (λ n. input_words n) (sym (length-symbols _ _ _ _ c.self.view_is)) in
    sym (row_cmp-found _ _ c.requires _ _ c.words.ensures.packs c.words-2.ensures.packs _ _ _ c.in-Some.ensures.found start
    ∙ ap (λ b. cond b Less Greater) c.if-is_set-is_input.false)
