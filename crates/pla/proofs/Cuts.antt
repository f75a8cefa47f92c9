-- A text, cut into lines and what follows them.
use Rattle.std.proofs.Common.{◌≡◌, ℕ, zero, suc, ◌+◌, ◌-◌, ◌<◌, Bool, true, false, cond, List, [], ◌∷◌, ◌++◌, take, drop, length, flat_map, Option, Some, None, refl, ap, ◌∙◌, append_assoc, append-nil, length-append, arith, eqb}
use Rattle.std.specs.Prelude.{slice_index_or}
use Rattle.std.specs.List.{onto_first}
use Rattle.std.proofs.lemmas.List.Splits.{slice_split_at, slice_split_none, length-slice_split}
use Rattle.std.proofs.Math.Seq.{take-append-add}
use Rattle.std.proofs.lemmas.Bool.{eqb-true}
use Rattle.pla.specs.declared.ending.Ending.{Ending}
use Rattle.pla.specs.declared.ending.Ending.TheVariants.{End, Failed}
use Rattle.pla.specs.Lines.{pieces, ended_lines, open_rest, is_empty}
use Rattle.pla.specs.Echoes.{delivered_lines}
use Rattle.pla.specs.Steps.{NoFeed}

-- lines, each with its line feed
abbrev pub fed : List (List ℕ) → List ℕ
fed lines = flat_map (λ line. line ++ 10 ∷ []) lines

-- no line has a line feed
abbrev pub NoFeeds : List (List ℕ) → Type 0
NoFeeds [] = Unit {0}
NoFeeds (line ∷ lines) = NoFeed line × NoFeeds lines

-- a text is lines, each with its line feed, and a rest without one
pub record Cut (text : List ℕ) : Type 0 where
  pub lines : List (List ℕ)
  pub rest : List ℕ
  pub whole : text ≡ fed lines ++ rest
  pub each : NoFeeds lines
  pub last : NoFeed rest

pub feed_of : (bytes : List ℕ) (b : ℕ) → eqb b 10 ≡ false → NoFeed bytes → NoFeed (b ∷ bytes)
feed_of bytes b h none zero d l = h
feed_of bytes b h none (suc k) d l = none k d (omega arith)

one_more : (b : ℕ) (text : List ℕ) (t : Bool) → eqb b 10 ≡ t → Cut text → Cut (b ∷ text)
one_more b text true h c = record { lines = [] ∷ c.lines; rest = c.rest; whole = ap (λ x. x ∷ text) (eqb-true b 10 h) ∙ ap (λ t. 10 ∷ t) c.whole; each = ((λ k d l. absurd (omega arith)), c.each); last = c.last }
one_more b text false h c = onto c.lines c.whole c.each
  where
    onto : (lines : List (List ℕ)) → text ≡ fed lines ++ c.rest → NoFeeds lines → Cut (b ∷ text)
    onto [] w each = record { lines = []; rest = b ∷ c.rest; whole = ap (λ t. b ∷ t) w; each = tt; last = feed_of c.rest b h c.last }
    onto (line ∷ lines) w each = record { lines = (b ∷ line) ∷ lines; rest = c.rest; whole = ap (λ t. b ∷ t) w; each = (feed_of line b h each.0, each.1); last = c.last }

pub cut_of : (text : List ℕ) → Cut text
cut_of [] = record { lines = []; rest = []; whole = refl; each = tt; last = λ k d l. absurd (omega arith) }
cut_of (b ∷ text) = one_more b text (eqb b 10) refl (cut_of text)

pub some_piece : (more : List ℕ) → 0 < length (pieces more)
some_piece more = omega (arith, length-slice_split (λ b. eqb b 10) more)

-- lines in front stay lines
pub pieces_front : (lines : List (List ℕ)) (more : List ℕ) → NoFeeds lines → pieces (fed lines ++ more) ≡ lines ++ pieces more
pieces_front [] more each = refl
pieces_front (line ∷ lines) more each =
    ap pieces (append_assoc (line ++ 10 ∷ []) (fed lines) more ∙ append_assoc line (10 ∷ []) (fed lines ++ more))
    ∙ slice_split_at (λ b. eqb b 10) line 10 (fed lines ++ more) each.0 refl
    ∙ ap (λ ls. line ∷ ls) (pieces_front lines more each.1)

front_of : (lines ps : List (List ℕ)) → 0 < length ps → take (length (lines ++ ps) - 1) (lines ++ ps) ≡ lines ++ take (length ps - 1) ps
front_of lines ps l = ap (λ n. take n (lines ++ ps)) (omega (arith, l, length-append lines ps)) ∙ take-append-add lines ps (length ps - 1)

past : (lines ps : List (List ℕ)) (n : ℕ) → slice_index_or (lines ++ ps) (length lines + n) [] ≡ slice_index_or ps n []
past [] ps n = ap (λ k. slice_index_or ps k []) (omega arith)
past (x ∷ lines) ps n = ap (λ k. slice_index_or (x ∷ (lines ++ ps)) k []) (step (length lines) n) ∙ past lines ps n
  where
    step : (a n : ℕ) → suc a + n ≡ suc (a + n)
    step a n = omega arith

last_of : (lines ps : List (List ℕ)) → 0 < length ps → slice_index_or (lines ++ ps) (length (lines ++ ps) - 1) [] ≡ slice_index_or ps (length ps - 1) []
last_of lines ps l = ap (λ n. slice_index_or (lines ++ ps) n []) (omega (arith, l, length-append lines ps)) ∙ past lines ps (length ps - 1)

pub ended_front : (lines : List (List ℕ)) (more : List ℕ) → NoFeeds lines → ended_lines (fed lines ++ more) ≡ lines ++ ended_lines more
ended_front lines more each = ap (λ ps. take (length ps - 1) ps) (pieces_front lines more each) ∙ front_of lines (pieces more) (some_piece more)

pub rest_front : (lines : List (List ℕ)) (more : List ℕ) → NoFeeds lines → open_rest (fed lines ++ more) ≡ open_rest more
rest_front lines more each = ap (λ ps. slice_index_or ps (length ps - 1) []) (pieces_front lines more each) ∙ last_of lines (pieces more) (some_piece more)

pub delivered_front : (ending : Option Ending) (lines : List (List ℕ)) (more : List ℕ) → NoFeeds lines → delivered_lines ending (fed lines ++ more) ≡ lines ++ delivered_lines ending more
delivered_front None lines more each = ended_front lines more each
delivered_front (Some Failed) lines more each = ended_front lines more each
delivered_front (Some End) lines more each =
    ap (λ ls. ls ++ cond (is_empty (open_rest (fed lines ++ more))) [] (open_rest (fed lines ++ more) ∷ [])) (ended_front lines more each)
    ∙ ap (λ r. (lines ++ ended_lines more) ++ cond (is_empty r) [] (r ∷ [])) (rest_front lines more each)
    ∙ append_assoc lines (ended_lines more) _

-- ---- a rest without a line feed

pub ended_alone : (rest : List ℕ) → NoFeed rest → ended_lines rest ≡ []
ended_alone rest none = ap (λ ps. take (length ps - 1) ps) (slice_split_none (λ b. eqb b 10) rest none)

pub rest_alone : (rest : List ℕ) → NoFeed rest → open_rest rest ≡ rest
rest_alone rest none = ap (λ ps. slice_index_or ps (length ps - 1) []) (slice_split_none (λ b. eqb b 10) rest none)

-- the lines and the rest of a text that is cut
pub ended_cut : (text : List ℕ) (c : Cut text) → ended_lines text ≡ c.lines
ended_cut text c = ap ended_lines c.whole ∙ ended_front c.lines c.rest c.each ∙ ap (λ ls. c.lines ++ ls) (ended_alone c.rest c.last) ∙ append-nil c.lines

pub rest_cut : (text : List ℕ) (c : Cut text) → open_rest text ≡ c.rest
rest_cut text c = ap open_rest c.whole ∙ rest_front c.lines c.rest c.each ∙ rest_alone c.rest c.last

filled : (ps : List (List ℕ)) → 0 < length ps → ps ≡ slice_index_or ps 0 [] ∷ drop 1 ps
filled [] l = absurd (omega arith)
filled (x ∷ ps) l = refl

-- what the rest becomes when the text goes on
abbrev pub first_piece : List ℕ → List ℕ
first_piece more = slice_index_or (pieces more) 0 []

-- bytes without a line feed go on the first piece
pub onto : (bytes more : List ℕ) → NoFeed bytes → pieces (bytes ++ more) ≡ (bytes ++ first_piece more) ∷ drop 1 (pieces more)
onto [] more none = filled (pieces more) (some_piece more)
onto (b ∷ bytes) more none =
    let here : eqb b 10 ≡ false = none 0 b (omega arith) in
    let rest : NoFeed bytes = λ k d l. none (suc k) d (omega arith) in
    ap (λ t. cond t ([] ∷ pieces (bytes ++ more)) (onto_first b (pieces (bytes ++ more)))) here ∙ ap (onto_first b) (onto bytes more rest)

pub more_pieces : (text r p : List ℕ) (ps : List (List ℕ)) → pieces text ≡ r ∷ p ∷ ps → ended_lines text ≡ r ∷ take (length ps) (p ∷ ps)
more_pieces text r p ps h = ap (λ qs. take (length qs - 1) qs) h ∙ ap (λ n. take n (r ∷ p ∷ ps)) (let two : length (r ∷ p ∷ ps) - 1 ≡ suc (length ps) = omega arith in two)
