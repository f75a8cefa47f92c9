-- What is settled of a text stays so, whatever follows and however reading ends.
use Rattle.std.proofs.Common.{◌≡◌, ℕ, ◌+◌, ◌-◌, Bool, true, false, cond, List, [], ◌∷◌, ◌++◌, take, drop, length, Option, Some, None, refl, ap, sym, ◌∙◌, append_assoc, append-nil, ◌⊎◌, inl, inr}
use Rattle.std.specs.Prelude.{slice_index_or}
use Rattle.std.specs.Option.{option_or}
use Rattle.cube.specs.Limits.{Limits}
use Rattle.pla.specs.declared.fault.ReadKind.TheVariants.{ReadFailed}
use Rattle.pla.specs.declared.fault.ReadFault.{ReadFault}
use Rattle.pla.specs.declared.echo.Echo.{Echo}
use Rattle.pla.specs.declared.ending.Ending.{Ending}
use Rattle.pla.specs.declared.ending.Ending.TheVariants.{End, Failed}
use Rattle.pla.specs.Lines.{pieces, ended_lines, open_rest, is_empty, lines_of}
use Rattle.pla.specs.Keywords.{looked_at, is_ending}
use Rattle.pla.specs.Fault.{sound, line_fault, rest_fault, last_fault, end_fault, has_ending, at_line, fault_of, open_fault}
use Rattle.pla.specs.Echoes.{due, delivered_lines, echo_all}
use Rattle.pla.specs.Steps.{NoFeed}
use Rattle.pla.proofs.Cuts.{Cut, cut_of, fed, delivered_front, rest_front, ended_cut, rest_cut, first_piece, onto, more_pieces}
use Rattle.pla.proofs.LookedAt.{looked_more, looked_grows, looked_stays, looked_all, has_looked}
use Rattle.pla.proofs.FirstFaults.{sound_here, fault_here, no_fault_yet, faulty_front, sound_all}
use Rattle.pla.proofs.Overlong.{Overlong, overlong}

-- this fault, and the echoes before it, whatever follows and however reading ends
pub record Fixed (limits : Limits) (text : List ℕ) (f : ReadFault) : Type 0 where
  pub still : (more : List ℕ) → open_fault limits (text ++ more) ≡ Some f
  pub closed : (ending : Ending) (more : List ℕ) → fault_of limits ending (text ++ more) ≡ Some f
  pub echoes : (echo : Echo) (ending : Option Ending) (more : List ℕ) → due limits echo ending (text ++ more) ≡ due limits echo None text

-- the lines of a text that goes on
pub delivered_on : (text : List ℕ) (c : Cut text) (ending : Option Ending) (more : List ℕ) → delivered_lines ending (text ++ more) ≡ c.lines ++ delivered_lines ending (c.rest ++ more)
delivered_on text c ending more = ap (λ t. delivered_lines ending (t ++ more)) c.whole ∙ ap (delivered_lines ending) (append_assoc (fed c.lines) c.rest more) ∙ delivered_front ending c.lines (c.rest ++ more) c.each

rest_on : (text : List ℕ) (c : Cut text) (more : List ℕ) → open_rest (text ++ more) ≡ open_rest (c.rest ++ more)
rest_on text c more = ap (λ t. open_rest (t ++ more)) c.whole ∙ ap open_rest (append_assoc (fed c.lines) c.rest more) ∙ rest_front c.lines (c.rest ++ more) c.each

-- a line that a line feed ended has a fault
line_fixed : (limits : Limits) (text : List ℕ) (f : ReadFault) → line_fault limits (looked_at (ended_lines text)) ≡ Some f → Fixed limits text f
line_fixed limits text f h =
    let c = cut_of text in
    let lines = looked_at (ended_lines text) in
    let on : (ending : Option Ending) (more : List ℕ) → (new : List (List ℕ)) × (looked_at (delivered_lines ending (text ++ more)) ≡ lines ++ new) =
    λ ending more. let g = looked_grows c.lines (delivered_lines ending (c.rest ++ more)) in
    (g.0, ap looked_at (delivered_on text c ending more) ∙ g.1 ∙ ap (λ ls. looked_at ls ++ g.0) (sym (ended_cut text c))) in
    record {
      still = λ more. let o = on None more in
          ap (λ ls. option_or (line_fault limits ls) (cond (has_ending ls) None (rest_fault limits ls (open_rest (text ++ more))))) o.1
          ∙ ap (λ r. option_or r (cond (has_ending (lines ++ o.0)) None (rest_fault limits (lines ++ o.0) (open_rest (text ++ more))))) (faulty_front limits lines o.0 f h).0;
      closed = λ ending more. let o = on (Some ending) more in
          ap (λ ls. option_or (line_fault limits ls) (last_fault limits ending (open_rest (text ++ more)) ls)) o.1
          ∙ ap (λ r. option_or r (last_fault limits ending (open_rest (text ++ more)) (lines ++ o.0))) (faulty_front limits lines o.0 f h).0;
      echoes = λ echo ending more. let o = on ending more in
          ap (λ ls. echo_all echo (sound limits ls)) o.1 ∙ ap (echo_all echo) (faulty_front limits lines o.0 f h).1;
    }

-- what lines without a fault give, where a faulty line or nothing follows
sound_behind : (limits : Limits) (lines new : List (List ℕ)) (line : List ℕ) (f : ReadFault) (o : Overlong limits lines line f) (x : List ℕ) → sound limits lines ≡ lines → has_ending lines ≡ false
    → (new ≡ []) ⊎ ((rest : List (List ℕ)) × (new ≡ (line ++ x) ∷ rest)) → sound limits (looked_at (lines ++ new)) ≡ lines
sound_behind limits lines new line f o x sane going (inl e) = ap (λ n. sound limits (looked_at (lines ++ n))) e ∙ ap (λ ls. sound limits (looked_at ls)) (append-nil lines) ∙ ap (sound limits) (looked_all lines going) ∙ sane
sound_behind limits lines new line f o x sane going (inr e) =
    ap (λ n. sound limits (looked_at (lines ++ n))) e.1 ∙ ap (sound limits) (looked_more lines ((line ++ x) ∷ e.0) going)
    ∙ sound_here limits lines (cond (is_ending (line ++ x)) [] (looked_at e.0)) (line ++ x) o.kind sane (o.line x)

faulty_behind : (limits : Limits) (lines new : List (List ℕ)) (line : List ℕ) (f : ReadFault) (o : Overlong limits lines line f) (x : List ℕ) (rest : List (List ℕ)) → sound limits lines ≡ lines → has_ending lines ≡ false
    → new ≡ (line ++ x) ∷ rest → line_fault limits (looked_at (lines ++ new)) ≡ Some f
faulty_behind limits lines new line f o x rest sane going e =
    ap (λ n. line_fault limits (looked_at (lines ++ n))) e ∙ ap (line_fault limits) (looked_more lines ((line ++ x) ∷ rest) going)
    ∙ fault_here limits lines (cond (is_ending (line ++ x)) [] (looked_at rest)) (line ++ x) o.kind sane (o.line x) ∙ ap Some (sym o.is)

-- what follows a rest that can be no line: nothing, or the line that it becomes
-- at the end of the input the rest is a line
ended_last : (rest more : List ℕ) (some : (x : List ℕ) → is_empty (rest ++ x) ≡ false) → pieces (rest ++ more) ≡ (rest ++ first_piece more) ∷ [] → delivered_lines (Some End) (rest ++ more) ≡ (rest ++ first_piece more) ∷ []
ended_last rest more some e =
    ap (λ ps. take (length ps - 1) ps ++ cond (is_empty (slice_index_or ps (length ps - 1) [])) [] (slice_index_or ps (length ps - 1) [] ∷ [])) e
    ∙ ap (λ b. cond b [] ((rest ++ first_piece more) ∷ [])) (some (first_piece more))

behind : (rest : List ℕ) (none : NoFeed rest) (more : List ℕ) (some : (x : List ℕ) → is_empty (rest ++ x) ≡ false) (ending : Option Ending) (tail : List (List ℕ)) → pieces (rest ++ more) ≡ (rest ++ first_piece more) ∷ tail
    → (delivered_lines ending (rest ++ more) ≡ []) ⊎ ((lines : List (List ℕ)) × (delivered_lines ending (rest ++ more) ≡ (rest ++ first_piece more) ∷ lines))
behind rest none more some None [] e = inl (ap (λ ps. take (length ps - 1) ps) e)
behind rest none more some (Some Failed) [] e = inl (ap (λ ps. take (length ps - 1) ps) e)
behind rest none more some (Some End) [] e = inr ([], ended_last rest more some e)
behind rest none more some None (p ∷ ps) e = inr (take (length ps) (p ∷ ps), more_pieces (rest ++ more) (rest ++ first_piece more) p ps e)
behind rest none more some (Some Failed) (p ∷ ps) e = inr (take (length ps) (p ∷ ps), more_pieces (rest ++ more) (rest ++ first_piece more) p ps e)
behind rest none more some (Some End) (p ∷ ps) e = inr (take (length ps) (p ∷ ps) ++ cond (is_empty (open_rest (rest ++ more))) [] (open_rest (rest ++ more) ∷ []), ap (λ ls. ls ++ cond (is_empty (open_rest (rest ++ more))) [] (open_rest (rest ++ more) ∷ [])) (more_pieces (rest ++ more) (rest ++ first_piece more) p ps e))

-- the rest can be no line
rest_fixed : (limits : Limits) (text : List ℕ) (f : ReadFault) (c : Cut text) → sound limits c.lines ≡ c.lines → has_ending c.lines ≡ false → rest_fault limits c.lines c.rest ≡ Some f → Fixed limits text f
rest_fixed limits text f c sane going h =
    let lines = c.lines in
    let over = overlong limits lines c.rest f h in
    record {
      still = λ more. still more (drop 1 (pieces more)) (onto c.rest more c.last);
      closed = λ ending more. closed ending more (drop 1 (pieces more)) (onto c.rest more c.last);
      echoes = λ echo ending more.
          ap (λ ls. echo_all echo (sound limits (looked_at ls))) (delivered_on text c ending more)
          ∙ ap (echo_all echo) (sound_behind limits lines (delivered_lines ending (c.rest ++ more)) c.rest f over (first_piece more) sane going (behind c.rest c.last more over.some ending (drop 1 (pieces more)) (onto c.rest more c.last)))
          ∙ sym (ap (λ ls. echo_all echo (sound limits (looked_at ls))) (ended_cut text c) ∙ ap (λ ls. echo_all echo (sound limits ls)) (looked_all lines going) ∙ ap (echo_all echo) sane);
    }
  where
    faulty : (ending : Option Ending) (more : List ℕ) (rest : List (List ℕ)) → delivered_lines ending (c.rest ++ more) ≡ (c.rest ++ first_piece more) ∷ rest → line_fault limits (looked_at (delivered_lines ending (text ++ more))) ≡ Some f
    faulty ending more rest e = ap (λ ls. line_fault limits (looked_at ls)) (delivered_on text c ending more) ∙ faulty_behind limits c.lines (delivered_lines ending (c.rest ++ more)) c.rest f (overlong limits c.lines c.rest f h) (first_piece more) rest sane going e

    lone : (more : List ℕ) → pieces (c.rest ++ more) ≡ (c.rest ++ first_piece more) ∷ [] → looked_at (ended_lines (text ++ more)) ≡ c.lines
    lone more e = ap looked_at (delivered_on text c None more) ∙ ap (λ ps. looked_at (c.lines ++ take (length ps - 1) ps)) e ∙ ap looked_at (append-nil c.lines) ∙ looked_all c.lines going

    rest_lone : (more : List ℕ) → pieces (c.rest ++ more) ≡ (c.rest ++ first_piece more) ∷ [] → rest_fault limits c.lines (open_rest (text ++ more)) ≡ Some f
    rest_lone more e = ap (rest_fault limits c.lines) (rest_on text c more ∙ ap (λ ps. slice_index_or ps (length ps - 1) []) e) ∙ (overlong limits c.lines c.rest f h).unended (first_piece more)

    still : (more : List ℕ) (tail : List (List ℕ)) → pieces (c.rest ++ more) ≡ (c.rest ++ first_piece more) ∷ tail → open_fault limits (text ++ more) ≡ Some f
    still more [] e =
        ap (λ ls. option_or (line_fault limits ls) (cond (has_ending ls) None (rest_fault limits ls (open_rest (text ++ more))))) (lone more e)
        ∙ ap (λ o. option_or o (cond (has_ending c.lines) None (rest_fault limits c.lines (open_rest (text ++ more))))) (no_fault_yet limits c.lines sane)
        ∙ ap (λ b. cond b None (rest_fault limits c.lines (open_rest (text ++ more)))) going ∙ rest_lone more e
    still more (p ∷ ps) e =
        ap (λ o. option_or o (cond (has_ending (looked_at (ended_lines (text ++ more)))) None (rest_fault limits (looked_at (ended_lines (text ++ more))) (open_rest (text ++ more)))))
        (faulty None more (take (length ps) (p ∷ ps)) (more_pieces (c.rest ++ more) (c.rest ++ first_piece more) p ps e))

    by_line : (ending : Ending) (more : List ℕ) (rest : List (List ℕ)) → delivered_lines (Some ending) (c.rest ++ more) ≡ (c.rest ++ first_piece more) ∷ rest → fault_of limits ending (text ++ more) ≡ Some f
    by_line ending more rest e = ap (λ o. option_or o (last_fault limits ending (open_rest (text ++ more)) (looked_at (lines_of ending (text ++ more))))) (faulty (Some ending) more rest e)

    closed : (ending : Ending) (more : List ℕ) (tail : List (List ℕ)) → pieces (c.rest ++ more) ≡ (c.rest ++ first_piece more) ∷ tail → fault_of limits ending (text ++ more) ≡ Some f
    closed End more [] e = by_line End more [] (ended_last c.rest more (overlong limits c.lines c.rest f h).some e)
    closed Failed more [] e =
        ap (λ ls. option_or (line_fault limits ls) (last_fault limits Failed (open_rest (text ++ more)) ls)) (lone more e)
        ∙ ap (λ o. option_or o (last_fault limits Failed (open_rest (text ++ more)) c.lines)) (no_fault_yet limits c.lines sane)
        ∙ ap (λ b. cond b (end_fault limits c.lines) (option_or (rest_fault limits c.lines (open_rest (text ++ more))) (Some (at_line (length c.lines + 1) ReadFailed)))) going
        ∙ ap (λ o. option_or o (Some (at_line (length c.lines + 1) ReadFailed))) (rest_lone more e)
    closed End more (p ∷ ps) e = by_line End more (take (length ps) (p ∷ ps) ++ cond (is_empty (open_rest (c.rest ++ more))) [] (open_rest (c.rest ++ more) ∷ []))
        (ap (λ ls. ls ++ cond (is_empty (open_rest (c.rest ++ more))) [] (open_rest (c.rest ++ more) ∷ [])) (more_pieces (c.rest ++ more) (c.rest ++ first_piece more) p ps e))
    closed Failed more (p ∷ ps) e = by_line Failed more (take (length ps) (p ∷ ps)) (more_pieces (c.rest ++ more) (c.rest ++ first_piece more) p ps e)

-- a fault of a text whose ending is open
pub fault_fixed : (limits : Limits) (text : List ℕ) (f : ReadFault) → open_fault limits text ≡ Some f → Fixed limits text f
fault_fixed limits text f h = by_lines (line_fault limits lines) refl (has_ending lines) refl
  where
    c : Cut text
    c = cut_of text

    lines : List (List ℕ)
    lines = looked_at (ended_lines text)

    by_lines : (o : Option ReadFault) → line_fault limits lines ≡ o → (b : Bool) → has_ending lines ≡ b → Fixed limits text f
    by_lines (Some g) e b going = line_fixed limits text f (e ∙ ap (λ o. option_or o (cond (has_ending lines) None (rest_fault limits lines (open_rest text)))) (sym e) ∙ h)
    by_lines None e true going = let none = ap (λ o. option_or o (cond (has_ending lines) None (rest_fault limits lines (open_rest text)))) e ∙ ap (λ b. cond b None (rest_fault limits lines (open_rest text))) going in cc
    by_lines None e false going =
        let open_lines : has_ending c.lines ≡ false = ap has_ending (sym (ended_cut text c)) ∙ sym (has_looked (ended_lines text)) ∙ going in
        let same : lines ≡ c.lines = ap looked_at (ended_cut text c) ∙ looked_all c.lines open_lines in
        rest_fixed limits text f c (sound_all limits c.lines (ap (line_fault limits) (sym same) ∙ e)) open_lines
        (ap (λ r. rest_fault limits c.lines r) (sym (rest_cut text c)) ∙ ap (λ ls. rest_fault limits ls (open_rest text)) (sym same)
        ∙ sym (ap (λ o. option_or o (cond (has_ending lines) None (rest_fault limits lines (open_rest text)))) e ∙ ap (λ b. cond b None (rest_fault limits lines (open_rest text))) going) ∙ h)

-- ---- after the description has ended

-- nothing that follows is looked at, and the ending changes nothing
pub record Ended (limits : Limits) (text : List ℕ) : Type 0 where
  pub looked : (ending : Option Ending) (more : List ℕ) → looked_at (delivered_lines ending (text ++ more)) ≡ looked_at (ended_lines text)
  pub still : (more : List ℕ) → open_fault limits (text ++ more) ≡ open_fault limits text
  pub closed : (ending : Ending) (more : List ℕ) → fault_of limits ending (text ++ more) ≡ option_or (line_fault limits (looked_at (ended_lines text))) (end_fault limits (looked_at (ended_lines text)))

last_ended : (limits : Limits) (ending : Ending) (rest : List ℕ) (lines : List (List ℕ)) → has_ending lines ≡ true → last_fault limits ending rest lines ≡ end_fault limits lines
last_ended limits End rest lines h = refl
last_ended limits Failed rest lines h = ap (λ b. cond b (end_fault limits lines) (option_or (rest_fault limits lines rest) (Some (at_line (length lines + 1) ReadFailed)))) h

pub ended_fixed : (limits : Limits) (text : List ℕ) → has_ending (looked_at (ended_lines text)) ≡ true → Ended limits text
ended_fixed limits text h = record {
  looked = looked;
  still = λ more.
      ap (λ ls. option_or (line_fault limits ls) (cond (has_ending ls) None (rest_fault limits ls (open_rest (text ++ more))))) (looked None more)
      ∙ ap (λ b. option_or (line_fault limits lines) (cond b None (rest_fault limits lines (open_rest (text ++ more))))) h
      ∙ sym (ap (λ b. option_or (line_fault limits lines) (cond b None (rest_fault limits lines (open_rest text)))) h);
  closed = λ ending more.
      ap (λ ls. option_or (line_fault limits ls) (last_fault limits ending (open_rest (text ++ more)) ls)) (looked (Some ending) more)
      ∙ ap (option_or (line_fault limits lines)) (last_ended limits ending (open_rest (text ++ more)) lines h);
}
  where
    lines : List (List ℕ)
    lines = looked_at (ended_lines text)

    looked : (ending : Option Ending) (more : List ℕ) → looked_at (delivered_lines ending (text ++ more)) ≡ looked_at (ended_lines text)
    looked ending more = let c = cut_of text in
        ap looked_at (delivered_on text c ending more)
        ∙ looked_stays c.lines (delivered_lines ending (c.rest ++ more)) (ap has_ending (sym (ended_cut text c)) ∙ sym (has_looked (ended_lines text)) ∙ h)
        ∙ ap looked_at (sym (ended_cut text c))
