use Rattle.std.proofs.Common.{◌≡◌, ℕ, ◌+◌, ◌<◌, List, [], ◌∷◌, ◌++◌, String, length, map, take, get_or, ap, string_bytes, sym, ◌∙◌, take_all}
use Rattle.std.specs.Global.{Global}
use Rattle.std.specs.Borrow.{Bor}
use Rattle.std.proofs.lemmas.List.{map_more, map-append}
use Rattle.espresso.proofs.parser.copy_names.Goals as goal

abbrev texts : List (Bor (List ℕ)) → List (List ℕ)
texts names = map (λ (s : Bor (List ℕ)). s.now) names

one_more : (files more : List (String Global)) (names : List (Bor (List ℕ))) (i : ℕ) (file : String Global) (d : Bor (List ℕ)) → i < length names → map string_bytes files ≡ texts (take i names)
    → more ≡ files ++ file ∷ [] → string_bytes file ≡ (get_or names i d).now → map string_bytes more ≡ texts (take (i + 1) names)
one_more files more names i file d lt before is same =
    ap (map string_bytes) is ∙ map-append string_bytes files (file ∷ []) ∙ ap (λ t. t ++ string_bytes file ∷ []) before
    ∙ ap (λ b. texts (take i names) ++ b ∷ []) same ∙ sym (map_more (λ (s : Bor (List ℕ)). s.now) names i d lt)

pub loop-name-preserved : goal.loop-name-preserved
loop-name-preserved c =
    one_more c.loop-name.files.items c.push.new.self.items c.args.names.now c.loop-name.name-index c.in_ok-from_str.field-0 _ c.loop-name-test.true c.loop-name.invariant c.in_ok-push.ensures.items c.in_ok-from_str.ensures.ok

pub returns : goal.returns
returns c = c.loop-name.invariant ∙ ap texts (take_all c.loop-name.name-index c.args.names.now c.loop-name-test.false)
