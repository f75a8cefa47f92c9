-- What a step of reading does to a text that goes on.
use Rattle.std.proofs.Common.{◌≡◌, ℕ, suc, ◌+◌, Bool, true, false, cond, List, [], ◌∷◌, ◌++◌, length, Option, Some, None, refl, ap, sym, ◌∙◌, subst, append_assoc, append-nil, length-append, arith, eqb}
use Rattle.std.specs.Prelude.{is_some, option_map}
use Rattle.std.specs.Option.{option_or}
use Rattle.std.proofs.lemmas.Bool.{lt-leb}
use Rattle.std.proofs.lemmas.List.Concat.{flat_map-append}
use Rattle.std.proofs.lemmas.List.Elements.{All-append}
use Rattle.cube.specs.Limits.{Limits}
use Rattle.pla.specs.declared.fault.ReadKind.{ReadKind}
use Rattle.pla.specs.declared.fault.ReadKind.TheVariants.{LineTooLong}
use Rattle.pla.specs.declared.fault.ReadFault.{ReadFault}
use Rattle.pla.specs.declared.echo.Echo.{Echo}
use Rattle.pla.specs.Lines.{ended_lines, open_rest}
use Rattle.pla.specs.Keywords.{looked_at, is_ending}
use Rattle.pla.specs.Fault.{sound, fault_on, line_fault, rest_fault, rest_kind, has_ending, at_line, open_fault}
use Rattle.pla.specs.Echoes.{due, echo_all, echo_of}
use Rattle.pla.specs.Scan.{Parsed, parsed_of, Scan, StandsForLines, StandsFor}
use Rattle.pla.specs.Steps.{NoFeed}
use Rattle.pla.proofs.Cuts.{Cut, cut_of, fed, NoFeeds, ended_cut, rest_cut}
use Rattle.pla.proofs.LookedAt.{looked_more, looked_all, has_looked}
use Rattle.pla.proofs.FirstFaults.{sound_more, sound_here, fault_here, no_fault_yet, sound_all}

-- a state of a text whose description goes on
pub record Going (limits : Limits) (state : Scan) (text : List ℕ) : Type 0 where
  pub cut : Cut text
  pub stands : StandsForLines limits state.parsed cut.lines
  pub going : has_ending cut.lines ≡ false
  pub kept : state.rest ≡ cut.rest
  pub fits : rest_fault limits cut.lines cut.rest ≡ None

pub none_first : {X : Type 0} (a b : Option X) → option_or a b ≡ None → a ≡ None
none_first None b h = refl
none_first (Some x) b h = cc

pub going_of : (limits : Limits) (state : Scan) (text : List ℕ) → StandsFor limits state text → state.parsed.header.ended ≡ false → Going limits state text
going_of limits state text st going =
    let c = cut_of text in
    let lines = ended_lines text in
    let parsed : state.parsed ≡ parsed_of limits (looked_at lines) = ap (λ s. s.parsed) st.given in
    let not_ended : has_ending (looked_at lines) ≡ false = ap (λ p. p.header.ended) (sym parsed) ∙ going in
    let open_lines : has_ending c.lines ≡ false = ap has_ending (sym (ended_cut text c)) ∙ sym (has_looked lines) ∙ not_ended in
    let all : looked_at lines ≡ c.lines = ap looked_at (ended_cut text c) ∙ looked_all c.lines open_lines in
    let none : line_fault limits (looked_at lines) ≡ None = none_first (line_fault limits (looked_at lines)) (cond (has_ending (looked_at lines)) None (rest_fault limits (looked_at lines) (open_rest text))) st.faultless in
    record {
      cut = c;
      stands = record {
        faultless = sound_all limits c.lines (ap (line_fault limits) (sym all) ∙ none);
        within = looked_all c.lines open_lines;
        given = parsed ∙ ap (parsed_of limits) all;
      };
      going = open_lines;
      kept = ap (λ s. s.rest) st.given ∙ ap (λ b. cond b [] (open_rest text)) not_ended ∙ rest_cut text c;
      fits = ap (rest_fault limits c.lines) (sym (rest_cut text c)) ∙ ap (λ ls. rest_fault limits ls (open_rest text)) (sym all)
          ∙ sym (ap (λ o. option_or o (cond (has_ending (looked_at lines)) None (rest_fault limits (looked_at lines) (open_rest text)))) none ∙ ap (λ b. cond b None (rest_fault limits (looked_at lines) (open_rest text))) not_ended) ∙ st.faultless;
    }

none_either : {X : Type 0} (b : Bool) (o : Option X) → o ≡ None → cond b None o ≡ None
none_either true o h = refl
none_either false o h = h

-- a state of a text that is cut
pub stands_cut : (limits : Limits) (text : List ℕ) (c : Cut text) (state : Scan) → StandsForLines limits state.parsed c.lines → rest_fault limits c.lines c.rest ≡ None → state.rest ≡ cond (has_ending c.lines) [] c.rest → StandsFor limits state text
stands_cut limits text c state st fits kept =
    let same : looked_at (ended_lines text) ≡ c.lines = ap looked_at (ended_cut text c) ∙ st.within in
    record {
      faultless =
          ap (λ ls. option_or (line_fault limits ls) (cond (has_ending ls) None (rest_fault limits ls (open_rest text)))) same
          ∙ ap (λ o. option_or o (cond (has_ending c.lines) None (rest_fault limits c.lines (open_rest text)))) (no_fault_yet limits c.lines st.faultless)
          ∙ none_either (has_ending c.lines) (rest_fault limits c.lines (open_rest text)) (ap (rest_fault limits c.lines) (rest_cut text c) ∙ fits);
      given =
          ap (λ p. record { echo = state.echo; parsed = p; rest = state.rest }) (st.given ∙ ap (parsed_of limits) (sym same))
          ∙ ap (λ r. record { echo = state.echo; parsed = parsed_of limits (looked_at (ended_lines text)); rest = r })
          (kept ∙ ap (λ ls. cond (has_ending ls) [] c.rest) (sym same) ∙ ap (λ r. cond (has_ending (looked_at (ended_lines text))) [] r) (sym (rest_cut text c)));
    }

-- the echoes due of a text that is cut
pub due_cut : (limits : Limits) (echo : Echo) (text : List ℕ) (c : Cut text) → looked_at c.lines ≡ c.lines → sound limits c.lines ≡ c.lines → due limits echo None text ≡ echo_all echo c.lines
due_cut limits echo text c all sane = ap (λ ls. echo_all echo (sound limits (looked_at ls))) (ended_cut text c) ∙ ap (λ ls. echo_all echo (sound limits ls)) all ∙ ap (echo_all echo) sane

-- ---- the cuts of a text that goes on

joined : (a b : List ℕ) → NoFeed a → NoFeed b → NoFeed (a ++ b)
joined a b h k = All-append (λ x. eqb x 10 ≡ false) a b h k

more_feeds : (lines : List (List ℕ)) (line : List ℕ) → NoFeeds lines → NoFeed line → NoFeeds (lines ++ line ∷ [])
more_feeds [] line h k = (k, tt)
more_feeds (l ∷ lines) line h k = (h.0, more_feeds lines line h.1 k)

-- by bytes behind the rest
pub cut_bytes : (text bytes : List ℕ) → Cut text → NoFeed bytes → Cut (text ++ bytes)
cut_bytes text bytes c none = record {
  lines = c.lines;
  rest = c.rest ++ bytes;
  whole = ap (λ t. t ++ bytes) c.whole ∙ append_assoc (fed c.lines) c.rest bytes;
  each = c.each;
  last = joined c.rest bytes c.last none;
}

-- by the line feed that ends the rest
pub cut_line : (text bytes : List ℕ) → Cut text → NoFeed bytes → Cut (text ++ (bytes ++ 10 ∷ []))
cut_line text bytes c none = record {
  lines = c.lines ++ (c.rest ++ bytes) ∷ [];
  rest = [];
  whole = ap (λ t. t ++ (bytes ++ 10 ∷ [])) c.whole ∙ append_assoc (fed c.lines) c.rest (bytes ++ 10 ∷ [])
      ∙ ap (λ t. fed c.lines ++ t) (sym (append_assoc c.rest bytes (10 ∷ [])) ∙ sym (append-nil ((c.rest ++ bytes) ++ 10 ∷ [])))
      ∙ sym (flat_map-append (λ line. line ++ 10 ∷ []) c.lines ((c.rest ++ bytes) ∷ [])) ∙ sym (append-nil (fed (c.lines ++ (c.rest ++ bytes) ∷ [])));
  each = more_feeds c.lines (c.rest ++ bytes) c.each (joined c.rest bytes c.last none);
  last = λ k d l. absurd (omega arith);
}

nothing_fits : (limits : Limits) (lines : List (List ℕ)) → rest_fault limits lines [] ≡ None
nothing_fits limits lines = ap (λ b. option_map (at_line (length lines + 1)) (cond b (Some LineTooLong) None)) (lt-leb (suc limits.line_bytes) 0 (omega arith))

cond_same : {X : Type 0} (b : Bool) (x : X) → x ≡ cond b x x
cond_same true x = refl
cond_same false x = refl

-- ---- the steps

-- a line was taken
pub line_taken : (limits : Limits) (old : Scan) (new : Scan) (text bytes line : List ℕ) (g : Going limits old text) → NoFeed bytes → line ≡ old.rest ++ bytes → StandsForLines limits new.parsed (g.cut.lines ++ line ∷ []) → new.rest ≡ []
    → StandsFor limits new (text ++ (bytes ++ 10 ∷ []))
unfolding cut_line
line_taken limits old new text bytes line g none is st empty =
    let c = cut_line text bytes g.cut none in
    stands_cut limits (text ++ (bytes ++ 10 ∷ [])) c new (subst (λ l. StandsForLines limits new.parsed (g.cut.lines ++ l ∷ [])) (is ∙ ap (λ r. r ++ bytes) g.kept) st) (nothing_fits limits c.lines) (empty ∙ cond_same (has_ending c.lines) [])

due_more : (echo : Echo) (lines : List (List ℕ)) (line : List ℕ) → echo_all echo (lines ++ line ∷ []) ≡ echo_all echo lines ++ echo_of echo line
due_more echo lines line = flat_map-append (echo_of echo) lines (line ∷ []) ∙ ap (λ t. echo_all echo lines ++ t) (append-nil (echo_of echo line))

-- a line without a fault adds its echo
pub taken_due : (limits : Limits) (old : Scan) (echo : Echo) (text line : List ℕ) (g : Going limits old text) → fault_on limits g.cut.lines line ≡ None
    → echo_all echo (sound limits (looked_at (g.cut.lines ++ line ∷ []))) ≡ due limits echo None text ++ echo_of echo line
taken_due limits old echo text line g fine =
    let lines = g.cut.lines in
    ap (λ ls. echo_all echo (sound limits ls)) (looked_more lines (line ∷ []) g.going ∙ ap (λ ls. lines ++ line ∷ ls) (sym (cond_same (is_ending line) [])))
    ∙ ap (echo_all echo) (sound_more (fault_on limits) [] lines (line ∷ []) g.stands.faultless ∙ ap (λ o. lines ++ cond (is_some o) [] (line ∷ [])) fine)
    ∙ due_more echo lines line
    ∙ ap (λ t. t ++ echo_of echo line) (sym (due_cut limits echo text g.cut g.stands.within g.stands.faultless))

-- and a line with a fault none
pub refused_due : (limits : Limits) (old : Scan) (echo : Echo) (text line : List ℕ) (kind : ReadKind) (g : Going limits old text) → fault_on limits g.cut.lines line ≡ Some kind
    → echo_all echo (sound limits (looked_at (g.cut.lines ++ line ∷ []))) ≡ due limits echo None text
refused_due limits old echo text line kind g bad =
    let lines = g.cut.lines in
    ap (λ ls. echo_all echo (sound limits ls)) (looked_more lines (line ∷ []) g.going)
    ∙ ap (echo_all echo) (sound_here limits lines (cond (is_ending line) [] (looked_at [])) line kind g.stands.faultless bad)
    ∙ sym (due_cut limits echo text g.cut g.stands.within g.stands.faultless)

-- the lines when a line feed ends the rest
ended_line : (limits : Limits) (old : Scan) (text bytes line : List ℕ) (g : Going limits old text) → NoFeed bytes → line ≡ old.rest ++ bytes → ended_lines (text ++ (bytes ++ 10 ∷ [])) ≡ g.cut.lines ++ line ∷ []
unfolding cut_line
ended_line limits old text bytes line g none is =
    ended_cut (text ++ (bytes ++ 10 ∷ [])) (cut_line text bytes g.cut none) ∙ ap (λ l. g.cut.lines ++ l ∷ []) (sym (is ∙ ap (λ r. r ++ bytes) g.kept))

pub line_due : (limits : Limits) (old : Scan) (echo : Echo) (text bytes line : List ℕ) (g : Going limits old text) → NoFeed bytes → line ≡ old.rest ++ bytes → fault_on limits g.cut.lines line ≡ None
    → due limits echo None (text ++ (bytes ++ 10 ∷ [])) ≡ due limits echo None text ++ echo_of echo line
line_due limits old echo text bytes line g none is fine =
    ap (λ ls. echo_all echo (sound limits (looked_at ls))) (ended_line limits old text bytes line g none is) ∙ taken_due limits old echo text line g fine

pub line_bad_due : (limits : Limits) (old : Scan) (echo : Echo) (text bytes line : List ℕ) (kind : ReadKind) (g : Going limits old text) → NoFeed bytes → line ≡ old.rest ++ bytes → fault_on limits g.cut.lines line ≡ Some kind
    → due limits echo None (text ++ (bytes ++ 10 ∷ [])) ≡ due limits echo None text
line_bad_due limits old echo text bytes line kind g none is bad =
    ap (λ ls. echo_all echo (sound limits (looked_at ls))) (ended_line limits old text bytes line g none is) ∙ refused_due limits old echo text line kind g bad

-- a line with a fault
pub line_refused : (limits : Limits) (old : Scan) (text bytes line : List ℕ) (kind : ReadKind) (g : Going limits old text) → NoFeed bytes → line ≡ old.rest ++ bytes → fault_on limits g.cut.lines line ≡ Some kind
    → open_fault limits (text ++ (bytes ++ 10 ∷ [])) ≡ Some (at_line (length g.cut.lines + 1) kind)
line_refused limits old text bytes line kind g none is bad =
    let lines = g.cut.lines in
    let after = cond (is_ending line) [] (looked_at []) in
    let rest = open_rest (text ++ (bytes ++ 10 ∷ [])) in
    ap (λ ls. option_or (line_fault limits ls) (cond (has_ending ls) None (rest_fault limits ls rest))) (ap looked_at (ended_line limits old text bytes line g none is) ∙ looked_more lines (line ∷ []) g.going)
    ∙ ap (λ o. option_or o (cond (has_ending (lines ++ line ∷ after)) None (rest_fault limits (lines ++ line ∷ after) rest))) (fault_here limits lines after line kind g.stands.faultless bad)

-- bytes behind the rest, which can still be a line
pub rest_taken : (limits : Limits) (old new : Scan) (text bytes : List ℕ) (g : Going limits old text) → NoFeed bytes → new.parsed ≡ old.parsed → new.rest ≡ old.rest ++ bytes → rest_kind limits old.parsed.header.lines (old.rest ++ bytes) ≡ None
    → StandsFor limits new (text ++ bytes)
unfolding cut_bytes
rest_taken limits old new text bytes g none parsed rest fits =
    let c = cut_bytes text bytes g.cut none in
    let count : length c.lines ≡ old.parsed.header.lines = sym (ap (λ p. p.header.lines) g.stands.given) in
    stands_cut limits (text ++ bytes) c new (subst (λ p. StandsForLines limits p c.lines) (sym parsed) g.stands)
    (ap (option_map (at_line (length c.lines + 1))) (ap (λ n. rest_kind limits n c.rest) count ∙ ap (rest_kind limits old.parsed.header.lines) (ap (λ r. r ++ bytes) (sym g.kept)) ∙ fits))
    (rest ∙ ap (λ r. r ++ bytes) g.kept ∙ ap (λ b. cond b [] c.rest) (sym g.going))

-- and which can't
pub rest_refused : (limits : Limits) (old : Scan) (text bytes : List ℕ) (f : ReadFault) (g : Going limits old text) → NoFeed bytes → option_map (at_line (old.parsed.header.lines + 1)) (rest_kind limits old.parsed.header.lines (old.rest ++ bytes)) ≡ Some f
    → open_fault limits (text ++ bytes) ≡ Some f
unfolding cut_bytes
rest_refused limits old text bytes f g none bad =
    let c = cut_bytes text bytes g.cut none in
    let count : length c.lines ≡ old.parsed.header.lines = sym (ap (λ p. p.header.lines) g.stands.given) in
    let same : looked_at (ended_lines (text ++ bytes)) ≡ c.lines = ap looked_at (ended_cut (text ++ bytes) c) ∙ g.stands.within in
    let rest = open_rest (text ++ bytes) in
    ap (λ ls. option_or (line_fault limits ls) (cond (has_ending ls) None (rest_fault limits ls rest))) same
    ∙ ap (λ o. option_or o (cond (has_ending c.lines) None (rest_fault limits c.lines rest))) (no_fault_yet limits c.lines g.stands.faultless)
    ∙ ap (λ b. cond b None (rest_fault limits c.lines rest)) g.going
    ∙ ap (rest_fault limits c.lines) (rest_cut (text ++ bytes) c ∙ ap (λ r. r ++ bytes) (sym g.kept))
    ∙ ap (λ n. option_map (at_line (n + 1)) (rest_kind limits n (old.rest ++ bytes))) count ∙ bad

-- bytes without a line feed add no echo
pub rest_due : (limits : Limits) (old : Scan) (echo : Echo) (text bytes : List ℕ) (g : Going limits old text) → NoFeed bytes → due limits echo None (text ++ bytes) ≡ due limits echo None text
unfolding cut_bytes
rest_due limits old echo text bytes g none =
    due_cut limits echo (text ++ bytes) (cut_bytes text bytes g.cut none) g.stands.within g.stands.faultless ∙ sym (due_cut limits echo text g.cut g.stands.within g.stands.faultless)

-- a line that was taken has no fault
pub taken_fine : (limits : Limits) (before : List (List ℕ)) (line : List ℕ) (old new : Parsed) → StandsForLines limits old before → StandsForLines limits new (before ++ line ∷ []) → fault_on limits before line ≡ None
taken_fine limits before line old new st next = by_fault (fault_on limits before line) refl
  where
    by_fault : (o : Option ReadKind) → fault_on limits before line ≡ o → fault_on limits before line ≡ None
    by_fault None e = e
    by_fault (Some kind) e =
        let short : before ≡ before ++ line ∷ [] = sym (sound_here limits before [] line kind st.faultless e) ∙ next.faultless in
        absurd (omega (arith, ap length short, length-append before (line ∷ [])))
