-- One word of the walk.
use Rattle.std.proofs.Common.{◌≡◌, ◌==◌, ◌&&◌, ℕ, Bool, cond, true, false, refl, ap, List, [], ◌∷◌, Option, Some, None}
use Rattle.clap.specs.Walk.{Held, Row, Text, Waiting, Walk, idle, is_pending, option, positional, pushed, reacted, settled, takes_several, walked}
use Rattle.clap.specs.Kinds.{Kinds}
use Rattle.clap.specs.Faults.{react_fault, settle_fault, turn_fault}
use Rattle.clap.proofs.OnLiterals.{clap_on_literals}
use Rattle.espresso.specs.Words.{Letter, command_letter, type_letter, eat_letter}
use Rattle.std.specs.Prelude.{codes}
use Rattle.espresso.proofs.Built.{choice_rule, or_else-nil, code_of, files_id, files_rule, id_of, our_rules, our_shape, rule_for}

abbrev pub hold : List Row → Option (Text × List Text) → Held
hold rows p = record { rows = rows; pending = p; skip = 0 }

abbrev pub at : Held → Waiting → Bool → Walk
at h q t = record { held = h; waiting = q; position = 1; is_trailing = t; stopped = None }

abbrev pub is_clean : Kinds → Bool
is_clean [] = true
is_clean (x ∷ xs) = false

-- no option waits for a value
pub data Free : Type 0 where
  nothing : Free
  files : Free

abbrev pub waiting : Free → Waiting
waiting nothing = idle
waiting files = positional

abbrev pub turn : Walk → Text → Kinds
turn = turn_fault our_shape []

abbrev pub walk_on : Walk → Text → Walk
walk_on = walked our_rules []

never_pending : (h : Held) → (is_pending files_rule h.pending && takes_several files_rule) ≡ false
never_pending h = go (is_pending files_rule h.pending)
  where
    go : (b : Bool) → (b && false) ≡ false
    go true = refl
    go false = refl

-- ---- after `--`

pub trailing_fault : (h : Held) (q : Waiting) (w : Text) → turn (at h q true) w ≡ settle_fault our_rules false h
trailing_fault h q w = ap (λ b. cond b [] (settle_fault our_rules false h)) (never_pending h)

pub trailing_walk : (h : Held) (q : Waiting) (w : Text) → walk_on (at h q true) w ≡ at (pushed files_id w (settled our_rules h)) positional true
unfolding clap_on_literals
trailing_walk h q w = ap (λ b. at (pushed files_id w (cond b h (settled our_rules h))) positional true) (never_pending h)

-- ---- an option with its value

module _ (z : ℕ) (rest : Text) (rows : List Row) (p : Option (Text × List Text)) where
  pub attached_fault : (b : Bool) (l : Letter) (f : Free) → (z == 61) ≡ b
      → turn (at (hold rows p) (waiting f) false) (45 ∷ code_of l ∷ z ∷ rest) ≡ react_fault our_rules false (rule_for l) (cond b rest (z ∷ rest) ∷ []) (hold rows p)
  unfolding clap_on_literals
  attached_fault true command_letter nothing e = rw e (or_else-nil _)
  attached_fault true command_letter files e = rw e (or_else-nil _)
  attached_fault true type_letter nothing e = rw e (or_else-nil _)
  attached_fault true type_letter files e = rw e (or_else-nil _)
  attached_fault true eat_letter nothing e = rw e (or_else-nil _)
  attached_fault true eat_letter files e = rw e (or_else-nil _)
  attached_fault false command_letter nothing e = rw e (or_else-nil _)
  attached_fault false command_letter files e = rw e (or_else-nil _)
  attached_fault false type_letter nothing e = rw e (or_else-nil _)
  attached_fault false type_letter files e = rw e (or_else-nil _)
  attached_fault false eat_letter nothing e = rw e (or_else-nil _)
  attached_fault false eat_letter files e = rw e (or_else-nil _)

  pub attached_walk : (b : Bool) (l : Letter) (f : Free) → (z == 61) ≡ b
      → walk_on (at (hold rows p) (waiting f) false) (45 ∷ code_of l ∷ z ∷ rest) ≡ at (reacted our_rules (rule_for l) (cond b rest (z ∷ rest) ∷ []) (hold rows p)) idle false
  unfolding clap_on_literals
  attached_walk true command_letter nothing e = rw e refl
  attached_walk true command_letter files e = rw e refl
  attached_walk true type_letter nothing e = rw e refl
  attached_walk true type_letter files e = rw e refl
  attached_walk true eat_letter nothing e = rw e refl
  attached_walk true eat_letter files e = rw e refl
  attached_walk false command_letter nothing e = rw e refl
  attached_walk false command_letter files e = rw e refl
  attached_walk false type_letter nothing e = rw e refl
  attached_walk false type_letter files e = rw e refl
  attached_walk false eat_letter nothing e = rw e refl
  attached_walk false eat_letter files e = rw e refl

-- ---- an option that waits for its value

module _ (rows : List Row) (p : Option (Text × List Text)) where
  pub bare_fault : (l : Letter) (f : Free) → turn (at (hold rows p) (waiting f) false) (45 ∷ code_of l ∷ []) ≡ settle_fault our_rules false (hold rows p)
  unfolding clap_on_literals
  bare_fault command_letter nothing = or_else-nil _
  bare_fault command_letter files = or_else-nil _
  bare_fault type_letter nothing = or_else-nil _
  bare_fault type_letter files = or_else-nil _
  bare_fault eat_letter nothing = or_else-nil _
  bare_fault eat_letter files = or_else-nil _

  pub bare_walk : (l : Letter) (f : Free)
      → walk_on (at (hold rows p) (waiting f) false) (45 ∷ code_of l ∷ []) ≡ at (hold (settled our_rules (hold rows p)).rows (Some (id_of l, []))) (option (id_of l)) false
  unfolding clap_on_literals
  bare_walk command_letter nothing = refl
  bare_walk command_letter files = refl
  bare_walk type_letter nothing = refl
  bare_walk type_letter files = refl
  bare_walk eat_letter nothing = refl
  bare_walk eat_letter files = refl

-- ---- `--`

pub dashes_fault : (h : Held) (q : Waiting) → turn (at h q false) (45 ∷ 45 ∷ []) ≡ []
unfolding clap_on_literals
dashes_fault h idle = refl
dashes_fault h positional = refl
dashes_fault h (option id) = refl

pub dashes_walk : (h : Held) (q : Waiting) → walk_on (at h q false) (45 ∷ 45 ∷ []) ≡ at h q true
unfolding clap_on_literals
dashes_walk h idle = refl
dashes_walk h positional = refl
dashes_walk h (option id) = refl

-- ---- a word that is no option

-- the first byte is no hyphen, or it is the only one
pub data IsPlain : Text → Type 0 where
  empty : IsPlain []
  hyphen : IsPlain (45 ∷ [])
  other : (x : ℕ) (rest : Text) → (x == 45) ≡ false → IsPlain (x ∷ rest)

pub file_fault : (h : Held) (w : Text) (f : Free) → IsPlain w → turn (at h (waiting f) false) w ≡ settle_fault our_rules false h
unfolding clap_on_literals
file_fault h _ nothing empty = ap (λ b. cond b [] (settle_fault our_rules false h)) (never_pending h)
file_fault h _ nothing hyphen = ap (λ b. cond b [] (settle_fault our_rules false h)) (never_pending h)
file_fault h _ nothing (other x rest e) = simp e (ap (λ b. cond b [] (settle_fault our_rules false h)) (never_pending h))
file_fault h _ files empty = ap (λ b. cond b [] (settle_fault our_rules false h)) (never_pending h)
file_fault h _ files hyphen = ap (λ b. cond b [] (settle_fault our_rules false h)) (never_pending h)
file_fault h _ files (other x rest e) = simp e (ap (λ b. cond b [] (settle_fault our_rules false h)) (never_pending h))

pub file_walk : (h : Held) (w : Text) (f : Free) → IsPlain w → walk_on (at h (waiting f) false) w ≡ at (pushed files_id w (settled our_rules h)) positional false
unfolding clap_on_literals
file_walk h w nothing empty = ap (λ b. at (pushed files_id w (cond b h (settled our_rules h))) positional false) (never_pending h)
file_walk h w nothing hyphen = ap (λ b. at (pushed files_id w (cond b h (settled our_rules h))) positional false) (never_pending h)
file_walk h w nothing (other x rest e) = simp e (ap (λ b. at (pushed files_id w (cond b h (settled our_rules h))) positional false) (never_pending h))
file_walk h w files empty = ap (λ b. at (pushed files_id w (cond b h (settled our_rules h))) positional false) (never_pending h)
file_walk h w files hyphen = ap (λ b. at (pushed files_id w (cond b h (settled our_rules h))) positional false) (never_pending h)
file_walk h w files (other x rest e) = simp e (ap (λ b. at (pushed files_id w (cond b h (settled our_rules h))) positional false) (never_pending h))

-- the value that an option waits for
pub value_fault : (rows : List Row) (w : Text) (l : Letter) → IsPlain w → turn (at (hold rows (Some (id_of l, []))) (option (id_of l)) false) w ≡ []
unfolding clap_on_literals
value_fault rows w command_letter empty = refl
value_fault rows w command_letter hyphen = refl
value_fault rows w command_letter (other x rest e) = simp e refl
value_fault rows w type_letter empty = refl
value_fault rows w type_letter hyphen = refl
value_fault rows w type_letter (other x rest e) = simp e refl
value_fault rows w eat_letter empty = refl
value_fault rows w eat_letter hyphen = refl
value_fault rows w eat_letter (other x rest e) = simp e refl

pub value_walk : (rows : List Row) (w : Text) (l : Letter) → IsPlain w
    → walk_on (at (hold rows (Some (id_of l, []))) (option (id_of l)) false) w ≡ at (hold rows (Some (id_of l, w ∷ []))) idle false
unfolding clap_on_literals
value_walk rows w command_letter empty = refl
value_walk rows w command_letter hyphen = refl
value_walk rows w command_letter (other x rest e) = simp e refl
value_walk rows w type_letter empty = refl
value_walk rows w type_letter hyphen = refl
value_walk rows w type_letter (other x rest e) = simp e refl
value_walk rows w eat_letter empty = refl
value_walk rows w eat_letter hyphen = refl
value_walk rows w eat_letter (other x rest e) = simp e refl

-- ---- `--literals`

pub choice_fault : (rows : List Row) (p : Option (Text × List Text)) (f : Free) → turn (at (hold rows p) (waiting f) false) (codes "--literals") ≡ react_fault our_rules false choice_rule [] (hold rows p)
unfolding clap_on_literals
choice_fault rows p nothing = or_else-nil _
choice_fault rows p files = or_else-nil _

pub choice_walk : (rows : List Row) (p : Option (Text × List Text)) (f : Free) → walk_on (at (hold rows p) (waiting f) false) (codes "--literals") ≡ at (reacted our_rules choice_rule [] (hold rows p)) idle false
unfolding clap_on_literals
choice_walk rows p nothing = refl
choice_walk rows p files = refl
