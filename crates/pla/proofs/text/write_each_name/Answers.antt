use Rattle.std.proofs.Common.{◌≡◌, ℕ, ◌+◌, ◌<◌, List, [], ◌∷◌, ◌++◌, Vec, flat_map, take, length, get_or, subst, sym, ap, ◌∙◌, append_assoc, append-nil}
use Rattle.std.specs.Global.{Global}
use Rattle.std.proofs.lemmas.List.{take_more, map-append}
use Rattle.std.proofs.lemmas.List.Concat.{flat_map-append}
use Rattle.pla.specs.Device.{Puts}
use Rattle.pla.specs.Names.{name_bytes}
use Rattle.pla.proofs.text.write_each_name.Goals as goal

-- names behind spaces
abbrev spaced : List (List ℕ) → List ℕ
spaced names = flat_map (λ name. 32 ∷ name) names

one_more : (front bytes : List ℕ) (names : List (Vec ℕ Global)) (i : ℕ) (item : Vec ℕ Global) → i < length names → item ≡ get_or names i item → bytes ≡ item.items
    → ((front ++ spaced (name_bytes (take i names))) ++ 32 ∷ []) ++ bytes ≡ front ++ spaced (name_bytes (take (i + 1) names))
one_more front bytes names i item lt is same =
    let before = name_bytes (take i names) in
    append_assoc (front ++ spaced before) (32 ∷ []) bytes ∙ append_assoc front (spaced before) (32 ∷ bytes)
    ∙ ap (λ s. front ++ s) (
    ap (λ b. spaced before ++ 32 ∷ b) (same ∙ ap (λ v. v.items) is ∙ sym (append-nil (get_or names i item).items))
    ∙ sym (flat_map-append (λ name. 32 ∷ name) before ((get_or names i item).items ∷ []))
    ∙ ap spaced (sym (map-append (λ (name : Vec ℕ Global). name.items) (take i names) (get_or names i item ∷ [])) ∙ ap name_bytes (sym (take_more names i item lt)))
    )

pub loop-name-preserved : goal.loop-name-preserved
loop-name-preserved g c = record {
  bytes = λ old front w.
      subst (Puts old _ _ _) (one_more front c.deref.result.now c.args.names.now c.loop-name.name-index c.name-item.result c.loop-name-test.true c.name-item.is c.deref.ensures.value)
      (c.write_next-done-in-loop-name.ensures.bytes _ _ (c.write_next-done.ensures.bytes _ _ (c.loop-name.invariant.bytes old front w)));
  count = λ before h. c.write_next-done-in-loop-name.ensures.count before (c.write_next-done.ensures.count before (c.loop-name.invariant.count before h));
}
