use Rattle.std.proofs.Common.{◌≡◌, ℕ, ◌+◌, ◌<◌, List, [], ◌∷◌, ◌++◌, Vec, take, length, get_or, ap, sym, ◌∙◌, take_all}
use Rattle.std.specs.Global.{Global}
use Rattle.std.specs.Borrow.{Bor}
use Rattle.std.proofs.lemmas.List.{map_more, map-append}
use Rattle.pla.specs.Keywords.{texts}
use Rattle.pla.specs.Names.{name_bytes}
use Rattle.pla.proofs.header.names_of.Goals as goal

one_more : (names more : List (Vec ℕ Global)) (words : List (Bor (List ℕ))) (i : ℕ) (name : Vec ℕ Global) (d : Bor (List ℕ)) → i < length words → name_bytes names ≡ texts (take i words)
    → more ≡ names ++ name ∷ [] → name.items ≡ (get_or words i d).now → name_bytes more ≡ texts (take (i + 1) words)
one_more names more words i name d lt before is same =
    ap name_bytes is ∙ map-append (λ (v : Vec ℕ Global). v.items) names (name ∷ []) ∙ ap (λ t. t ++ name.items ∷ []) before
    ∙ ap (λ b. texts (take i words) ++ b ∷ []) same ∙ sym (map_more (λ (w : Bor (List ℕ)). w.now) words i d lt)

pub loop-word-preserved : goal.loop-word-preserved
loop-word-preserved c =
    one_more c.loop-word.names.items c.push.new.self.items c.args.words.now c.loop-word.word-index c.in_ok-from_slice.field-0 _ c.loop-word-test.true c.loop-word.invariant c.in_ok-push.ensures.items c.in_ok-from_slice.ensures.items

pub returns : goal.returns
returns c = c.loop-word.invariant ∙ ap texts (take_all c.loop-word.word-index c.args.words.now c.loop-word-test.false)
