use Rattle.std.proofs.Common.{◌≡◌, ◌∙◌, List, [], ◌∷◌, Option, Some, None, String, ap, codes, map, refl, string_bytes, subst, sym, false, true, not, Bool}
use Rattle.std.specs.Prelude.{if◌then◌else◌, slice_get}
use Rattle.std.specs.Global.{Global}
use Rattle.std.specs.Str.{bytes_eq}
use Rattle.std.proofs.lemmas.Bool.{false≢true}
use Rattle.espresso.specs.declared.sources.Source.TheVariants.{Open, Closed}
use Rattle.espresso.specs.Program.{IsOpenedAs, named_file}
use Rattle.espresso.specs.Words.{Text}
use Rattle.espresso.proofs.source_reading.open_source.Goals as goal
use Rattle.espresso.proofs.source_reading.open_source.Goals.{in-Some+in-Some-open, in_default, in_default-via-in-Some+else-ne, in_default-via-in_default}

abbrev named : Option (String Global) → Option Text
named None = None
named (Some file) = if bytes_eq (string_bytes file) (codes "-") then None else Some (string_bytes file)

named_first : (files : List (String Global)) → named_file (map string_bytes files) ≡ named (slice_get files 0)
named_first [] = refl
named_first (file ∷ files) = refl

-- a word that is no hyphen, and one that is
no_hyphen : (b : Bool) → true ≡ not b → b ≡ false
no_hyphen true e = absurd (false≢true (sym e))
no_hyphen false e = refl

hyphen : (b : Bool) → false ≡ not b → b ≡ true
hyphen true e = refl
hyphen false e = absurd (false≢true e)

module _ (files : List (String Global)) (file : String Global) (first : Some file ≡ slice_get files 0) (word : Text) (same : word ≡ string_bytes file) where
  chosen : (b : Bool) → bytes_eq word (codes "-") ≡ b → named_file (map string_bytes files) ≡ (if b then None else Some (string_bytes file))
  chosen b e = named_first files ∙ ap named (sym first) ∙ ap (λ b. if b then None else Some (string_bytes file)) (ap (λ t. bytes_eq t (codes "-")) (sym same) ∙ e)

  to_file : true ≡ not (bytes_eq word (codes "-")) → named_file (map string_bytes files) ≡ Some (string_bytes file)
  to_file ne = chosen false (no_hyphen _ ne)

  to_input : false ≡ not (bytes_eq word (codes "-")) → named_file (map string_bytes files) ≡ None
  to_input eq = chosen true (hyphen _ eq)

pub returns-in-None-clause-source : goal.returns-in-None-clause-source
returns-in-None-clause-source g c =
    let name = to_file c.args.files.now c.in-Some.file.now c.in-Some.ensures.value c.as_str.result.now c.as_str.ensures.value c.if-ne.ensures in
    subst (λ n. IsOpenedAs g.O.Opener.file g.O.Opener.input n c.args.opener.now (Closed c.in_ok-name.name) c.open.new.self) (sym (name ∙ ap Some (sym c.as_str-in-Some.ensures.value))) c.in-None.ensures

pub returns-clause-source : goal.returns-clause-source
returns-clause-source g c = elim c.match-first.branch [
  | in-Some+in-Some-open w ↦
      let name = to_file c.args.files.now w.in-Some.file.now w.in-Some.ensures.value w.as_str.result.now w.as_str.ensures.value w.if-ne.ensures in
      rw (w.opener-is, w.input-is) (subst (λ n. IsOpenedAs g.O.Opener.file g.O.Opener.input n c.args.opener.now (Open c.in_ok-name.name w.in-Some-open.input) w.open.new.self)
      (sym (name ∙ ap Some (sym w.as_str-in-Some.ensures.value))) w.in-Some-open.ensures)
  | in_default w ↦
      let input = w.standard_input-input in
      let opened : named_file (map string_bytes c.args.files.now) ≡ None → IsOpenedAs g.O.Opener.file g.O.Opener.input (named_file (map string_bytes c.args.files.now)) c.args.opener.now (Open c.in_ok-name.name input.result) input.new.self =
      λ none. subst (λ n. IsOpenedAs g.O.Opener.file g.O.Opener.input n c.args.opener.now (Open c.in_ok-name.name input.result) input.new.self) (sym none) input.ensures in
      rw (w.opener-is, w.input-is) (opened (elim w.in_default.branch [
        | in_default-via-in-Some+else-ne v ↦ to_input c.args.files.now v.in-Some.file.now v.in-Some.ensures.value v.as_str.result.now v.as_str.ensures.value v.if-ne.ensures
        | in_default-via-in_default v ↦ named_first c.args.files.now ∙ ap named (sym v.in_default.ensures.value)
      ]))
]
