-- What each command answers on the descriptions of its files.
use Rattle.std.specs.Prelude.{ℕ, Bool, true, false, not, List, ◌++◌, codes}
use Rattle.cube.specs.Cube.{Cube, Place, difference, intersection}
use Rattle.cube.specs.Sum.{complete_sum}
use Rattle.cover.specs.Contained.{contained}
use Rattle.cover.specs.Places.{agree_outside, holds_all, places}
use Rattle.pla.specs.declared.out_type.OutType.{OutType}
use Rattle.pla.specs.declared.out_type.OutType.TheVariants.{F, Fd, Fr, Fdr}
use Rattle.pla.specs.Completed.{three_sets}
use Rattle.pla.specs.Description.{Description}
use Rattle.pla.specs.Text.{text_of}
use Rattle.covering.specs.declared.choice.Choice.{Choice}
use Rattle.minimum.specs.Primes.{essential_of, exact_of, primes_of}
use Rattle.espresso.specs.declared.command.Command.{Command}
use Rattle.espresso.specs.declared.command.Command.TheVariants as command
use Rattle.espresso.specs.declared.check.Flaws.{Flaws}
use Rattle.espresso.specs.declared.status.Status.{Status}
use Rattle.espresso.specs.declared.status.Status.TheVariants.{Done, No}
use Rattle.espresso.specs.Check.{flaws_of, flaws_text, has_flaw, partition_text}

-- what a command prints, and how it ends: it is done, or the answer is a no
pub record Answer : Type 0 where
  pub text : List ℕ
  pub status : Status

-- what a command answers, on the description of its file or on those of its two
pub data Answering : Type 0 where
  of_one : (Description → Answer) → Answering
  of_two : (Description → Description → Answer) → Answering

-- a text, and nothing to judge
abbrev pub printed : List ℕ → Answer
printed text = record { text = text; status = Done }

-- a yes or a no, each in its words
abbrev pub judged : Bool → List ℕ → List ℕ → Answer
judged true affirmed denied = record { text = affirmed; status = Done }
judged false affirmed denied = record { text = denied; status = No }

-- the type prints a DC list
abbrev pub prints_dc : OutType → Bool
prints_dc F = false
prints_dc Fd = true
prints_dc Fr = false
prints_dc Fdr = true

-- the type prints an OFF list
abbrev pub prints_off : OutType → Bool
prints_off F = false
prints_off Fd = false
prints_off Fr = true
prints_off Fdr = true

-- the PLA with this list for its ON-set, and the others that the type prints
abbrev pub printed_with : Description → OutType → List Cube → Answer
printed_with d out on = printed (text_of d out (record (three_sets d) { on = on }))

-- a line for each flaw, which is a no, or that there is none
abbrev pub checked : Flaws → Answer
checked flaws = judged (not (has_flaw flaws)) partition_text (flaws_text flaws)

-- each place that is in neither file's DC-set is in both files' ON-sets or in neither
abbrev pub agree : Description → Description → Bool
agree d e = agree_outside d.size (places d.on) (places e.on)
    (places ((three_sets d).dc ++ (three_sets e).dc))

-- the PLA of type f with the complete sum of these places
abbrev pub printed_sum : Description → (Place → Bool) → Answer
printed_sum d s = printed_with d F (complete_sum d.size s)

-- what each command answers
abbrev pub answer_of : Command → OutType → Choice → Answering
answer_of command.Echo out choice = of_one (λ d. printed_with d out d.on)
answer_of command.Check out choice = of_one (λ d. checked (flaws_of (three_sets d)))
answer_of command.Contain out choice = of_one (λ d. printed_with d out (contained d.size d.on))
answer_of command.Primes out choice = of_one (λ d. printed_with d out (primes_of (three_sets d)))
answer_of command.Essen out choice = of_one (λ d.
    printed_with d out (essential_of (three_sets d) (primes_of (three_sets d))))
answer_of command.Exact out choice = of_one (λ d.
    printed_with d out (exact_of choice (three_sets d)))
answer_of command.Tautology out choice = of_one (λ d. judged (holds_all d.size (places d.on))
    (codes "ON-set is a tautology\n") (codes "ON-set is not a tautology\n"))
answer_of command.Verify out choice = of_two (λ d e. judged (agree d e)
    (codes "PLAs compared equal\n")
    (codes "PLA comparison failed; the PLAs are not equivalent\n"))
answer_of command.Intersect out choice = of_two (λ d e.
    printed_sum d (intersection (places d.on) (places e.on)))
answer_of command.Sharp out choice = of_two (λ d e.
    printed_sum d (difference (places d.on) (places e.on)))
