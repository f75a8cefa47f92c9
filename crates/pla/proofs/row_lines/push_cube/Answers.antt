use Rattle.std.proofs.Common.{◌≡◌, ◌++◌, Bool, true, List, map, length, Option, Some, None, false, cond, ap, sym, ◌∙◌, append-nil, refl, subst, rules}
use Rattle.std.specs.Prelude.{IsSome, IfSome, IsTrue, option_to_list}
use Rattle.std.specs.List.{list_any}
use Rattle.std.proofs.lemmas.Bool.{cond-true}
use Rattle.std.proofs.lemmas.List.{length-map}
use Rattle.cube.specs.declared.symbol.Symbol.{Symbol}
use Rattle.cube.specs.Cube.{Cube}
use Rattle.cube.specs.Bytes.{byte_symbol, has_mark}
use Rattle.cube.proofs.BytesLemmas.{any_map}
use Rattle.pla.specs.declared.row_lines.TheConstants.{MARKS}
use Rattle.pla.specs.Symbols.{is_byte_of}
use Rattle.pla.specs.Lists.{part_symbols, cube_by}
use Rattle.pla.proofs.Marks.{no_marks, same_marks}
use Rattle.pla.proofs.row_lines.push_cube.Goals as goal

-- no cube is told where no output is set
no_cube : (symbols : List Symbol) (outputs : List Bool) (any : Bool) (found : Option Cube) → any ≡ list_any (λ out. out) outputs → found ≡ None
    → (IsTrue any → IsSome found) → cube_by symbols outputs ≡ None
no_cube symbols outputs any (Some c) a e f = cc
no_cube symbols outputs true None a e f = let some = f refl in cc
no_cube symbols outputs false None a e f = ap (λ b. cond b (Some (record { symbols = symbols; outputs = outputs })) None) (sym a)

-- one is where one is set
one_cube : (symbols : List Symbol) (outputs : List Bool) (any : Bool) (found : Option Cube) (c : Cube) → any ≡ list_any (λ out. out) outputs → found ≡ Some c
    → (IsSome found → IsTrue any) → c ≡ record { symbols = symbols; outputs = outputs } → cube_by symbols outputs ≡ Some c
one_cube symbols outputs any None c a e f is = cc
one_cube symbols outputs any (Some d) c a e f is =
    cond-true (list_any (λ out. out) outputs) (Some (record { symbols = symbols; outputs = outputs })) None (sym a ∙ f refl) ∙ ap (λ x. Some x) (sym is)

pub returns-then-mask-eq0-clause-cubes : goal.returns-then-mask-eq0-clause-cubes
returns-then-mask-eq0-clause-cubes c =
    let letters = part_symbols c.args.file_type c.args.part in
    let outputs = map (is_byte_of letters) c.args.outputs.now in
    let same = same_marks c.marks_of-mask.result letters c.args.outputs.now c.marks_of-mask.ensures (λ i. (c.type_inv.outputs i).fits) in
    let unset : list_any (λ out. out) outputs ≡ false =
    sym (ap (list_any (λ out. out)) same) ∙ ap (λ m. list_any (λ out. out) (map (has_mark MARKS m) c.args.outputs.now)) c.if-mask-eq0.true ∙ no_marks c.args.outputs.now in
    let none : cube_by (map byte_symbol c.args.inputs.now) outputs ≡ None =
    ap (λ b. cond b (Some (record { symbols = map byte_symbol c.args.inputs.now; outputs = outputs })) None) unset in
    sym (ap (λ o. c.args.list.now.cubes ++ option_to_list o) none ∙ append-nil c.args.list.now.cubes)

pub returns-in_default-clause-cubes : goal.returns-in_default-clause-cubes
returns-in_default-clause-cubes c =
    let letters = part_symbols c.args.file_type c.args.part in
    let same = same_marks c.marks_of-mask.result letters c.args.outputs.now c.marks_of-mask.ensures (λ i. (c.type_inv.outputs i).fits) in
    let any : list_any (has_mark MARKS c.marks_of-mask.result) c.args.outputs.now ≡ list_any (λ out. out) (map (is_byte_of letters) c.args.outputs.now) =
    any_map (has_mark MARKS c.marks_of-mask.result) c.args.outputs.now ∙ ap (list_any (λ out. out)) same in
    let none = no_cube (map byte_symbol c.args.inputs.now) (map (is_byte_of letters) c.args.outputs.now) _ c.in_ok-cube.field-0 any c.in_default.is c.in_ok-cube.ensures.found.1 in
    sym (ap (λ o. c.args.list.now.cubes ++ option_to_list o) none ∙ append-nil c.args.list.now.cubes)

pub returns-clause-cubes : goal.returns-clause-cubes
returns-clause-cubes c =
    let letters = part_symbols c.args.file_type c.args.part in
    let outputs = map (is_byte_of letters) c.args.outputs.now in
    let symbols = map byte_symbol c.args.inputs.now in
    let same = same_marks c.marks_of-mask.result letters c.args.outputs.now c.marks_of-mask.ensures (λ i. (c.type_inv.outputs i).fits) in
    let any : list_any (has_mark MARKS c.marks_of-mask.result) c.args.outputs.now ≡ list_any (λ out. out) outputs =
    any_map (has_mark MARKS c.marks_of-mask.result) c.args.outputs.now ∙ ap (list_any (λ out. out)) same in
    let P : Option Cube → Type 0 = λ o. IfSome o (λ x. x ≡ record { symbols = symbols; outputs = map (has_mark MARKS c.marks_of-mask.result) c.args.outputs.now }) in
    let value : c.in-Some.cube ≡ record { symbols = symbols; outputs = outputs } =
    subst P c.in-Some.is c.in_ok-cube.ensures.value ∙ ap (λ (o : List Bool). let r : Cube = record { symbols = symbols; outputs = o } in r) same in
    let one : cube_by symbols outputs ≡ Some c.in-Some.cube = one_cube symbols outputs _ c.in_ok-cube.field-0 c.in-Some.cube any c.in-Some.is c.in_ok-cube.ensures.found.0 value in
    rw one (search rules)

pub push-requires : goal.push-requires
push-requires c =
    let P : Option Cube → Type 0 = λ o. IfSome o (λ x. x ≡ record { symbols = map byte_symbol c.args.inputs.now; outputs = map (has_mark MARKS c.marks_of-mask.result) c.args.outputs.now }) in
    let value = subst P c.in-Some.is c.in_ok-cube.ensures.value in (
      ap (λ x. length x.symbols) value ∙ length-map c.args.inputs.now byte_symbol ∙ c.requires.inputs,
      ap (λ x. length x.outputs) value ∙ length-map c.args.outputs.now (has_mark MARKS c.marks_of-mask.result) ∙ c.requires.outputs,
    )
