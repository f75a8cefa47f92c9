-- Answers of the commands to files of one input, computed. A command on one file leaves the second
-- alone, which is closed here.
use Rattle.std.specs.Prelude.{◌≡◌, ℕ, List, [], ◌∷◌, codes, refl}
use Rattle.std.specs.Fmt.{digits}
use Rattle.pla.specs.declared.ending.Ending.TheVariants.{End}
use Rattle.pla.specs.Fault.{fault_in, is_past_limit, is_too_long, is_refused, is_inside_row, is_repeated, is_bad_number, is_name_too_early, is_wrong_count, is_type_too_late, is_bad_type, is_row_too_early, is_bad_symbol}
use Rattle.espresso.specs.declared.status.Status.TheVariants.{Done, No}
use Rattle.espresso.specs.Tool.{Closed, Delivered, Outcome, tool}

-- an answer that was printed
abbrev printed : List ℕ → Outcome
printed output = record { output = output; message = []; status = Done }

-- and one that is a no
abbrev denied : List ℕ → Outcome
denied output = record { output = output; message = []; status = No }

two_is_open_and_three_says_nothing : tool (codes "-Decho" ∷ codes "-o" ∷ codes "fd" ∷ [])
    (Delivered (codes ".i 1\n.o 1\n1 2\n0 3\n") End) Closed
    ≡ printed (codes ".i 1\n.o 1\n.type fd\n.p 1\n1 -\n.e\n")
unfolding digits fault_in is_past_limit is_too_long is_refused is_inside_row
    is_repeated is_bad_number is_name_too_early is_wrong_count is_type_too_late
    is_bad_type is_row_too_early is_bad_symbol
two_is_open_and_three_says_nothing = refl

each_flaw_on_a_line : tool (codes "-Dcheck" ∷ [])
    (Delivered (codes ".i 1\n.o 2\n.type fdr\n1 1~\n1 -~\n1 0~\n") End) Closed
    ≡ denied (codes
    "ON-set and DC-set intersect\nON-set and OFF-set intersect\nDC-set and OFF-set intersect\nON-set, OFF-set and DC-set do not cover the space\n")
unfolding digits fault_in is_past_limit is_too_long is_refused is_inside_row
    is_repeated is_bad_number is_name_too_early is_wrong_count is_type_too_late
    is_bad_type is_row_too_early is_bad_symbol
each_flaw_on_a_line = refl

on_meets_dc_alone : tool (codes "-Dcheck" ∷ [])
    (Delivered (codes ".i 1\n.o 1\n1 1\n- -\n") End) Closed
    ≡ denied (codes "ON-set and DC-set intersect\n")
unfolding digits fault_in is_past_limit is_too_long is_refused is_inside_row
    is_repeated is_bad_number is_name_too_early is_wrong_count is_type_too_late
    is_bad_type is_row_too_early is_bad_symbol
on_meets_dc_alone = refl

on_meets_off_alone : tool (codes "-Dcheck" ∷ [])
    (Delivered (codes ".i 1\n.o 1\n.type fr\n1 1\n- 0\n") End) Closed
    ≡ denied (codes "ON-set and OFF-set intersect\n")
unfolding digits fault_in is_past_limit is_too_long is_refused is_inside_row
    is_repeated is_bad_number is_name_too_early is_wrong_count is_type_too_late
    is_bad_type is_row_too_early is_bad_symbol
on_meets_off_alone = refl

dc_meets_off_alone : tool (codes "-Dcheck" ∷ [])
    (Delivered (codes ".i 1\n.o 1\n.type fdr\n1 -\n- 0\n") End) Closed
    ≡ denied (codes "DC-set and OFF-set intersect\n")
unfolding digits fault_in is_past_limit is_too_long is_refused is_inside_row
    is_repeated is_bad_number is_name_too_early is_wrong_count is_type_too_late
    is_bad_type is_row_too_early is_bad_symbol
dc_meets_off_alone = refl

a_gap_alone : tool (codes "-Dcheck" ∷ [])
    (Delivered (codes ".i 1\n.o 1\n.type fdr\n1 1\n") End) Closed
    ≡ denied (codes "ON-set, OFF-set and DC-set do not cover the space\n")
unfolding digits fault_in is_past_limit is_too_long is_refused is_inside_row
    is_repeated is_bad_number is_name_too_early is_wrong_count is_type_too_late
    is_bad_type is_row_too_early is_bad_symbol
a_gap_alone = refl

no_flaw : tool (codes "-Dcheck" ∷ [])
    (Delivered (codes ".i 1\n.o 1\n.type fdr\n1 1\n0 0\n") End) Closed
    ≡ printed (codes "ON-set, OFF-set and DC-set partition the space\n")
unfolding digits fault_in is_past_limit is_too_long is_refused is_inside_row
    is_repeated is_bad_number is_name_too_early is_wrong_count is_type_too_late
    is_bad_type is_row_too_early is_bad_symbol
no_flaw = refl

an_open_place_makes_nothing_essential : tool (codes "-Dessen" ∷ [])
    (Delivered (codes ".i 1\n.o 1\n1 1\n1 -\n") End) Closed
    ≡ printed (codes ".i 1\n.o 1\n.p 0\n.e\n")
unfolding digits fault_in is_past_limit is_too_long is_refused is_inside_row
    is_repeated is_bad_number is_name_too_early is_wrong_count is_type_too_late
    is_bad_type is_row_too_early is_bad_symbol
an_open_place_makes_nothing_essential = refl

an_essential_prime : tool (codes "-Dessen" ∷ []) (Delivered (codes ".i 1\n.o 1\n1 1\n") End) Closed
    ≡ printed (codes ".i 1\n.o 1\n.p 1\n1 1\n.e\n")
unfolding digits fault_in is_past_limit is_too_long is_refused is_inside_row
    is_repeated is_bad_number is_name_too_early is_wrong_count is_type_too_late
    is_bad_type is_row_too_early is_bad_symbol
an_essential_prime = refl

primes_over_an_open_place : tool (codes "-Dprimes" ∷ [])
    (Delivered (codes ".i 1\n.o 1\n1 1\n0 -\n") End) Closed
    ≡ printed (codes ".i 1\n.o 1\n.p 1\n- 1\n.e\n")
unfolding digits fault_in is_past_limit is_too_long is_refused is_inside_row
    is_repeated is_bad_number is_name_too_early is_wrong_count is_type_too_late
    is_bad_type is_row_too_early is_bad_symbol
primes_over_an_open_place = refl

primes_with_the_open_list : tool (codes "-Dprimes" ∷ codes "-o" ∷ codes "fdr" ∷ [])
    (Delivered (codes ".i 1\n.o 1\n1 1\n0 -\n") End) Closed
    ≡ printed (codes ".i 1\n.o 1\n.type fdr\n.p 2\n- 1\n0 -\n.e\n")
unfolding digits fault_in is_past_limit is_too_long is_refused is_inside_row
    is_repeated is_bad_number is_name_too_early is_wrong_count is_type_too_late
    is_bad_type is_row_too_early is_bad_symbol
primes_with_the_open_list = refl

the_dc_list_that_is_left : tool (codes "-Decho" ∷ codes "-o" ∷ codes "fd" ∷ [])
    (Delivered (codes ".i 1\n.o 1\n.type fr\n1 1\n") End) Closed
    ≡ printed (codes ".i 1\n.o 1\n.type fd\n.p 2\n1 1\n0 -\n.e\n")
unfolding digits fault_in is_past_limit is_too_long is_refused is_inside_row
    is_repeated is_bad_number is_name_too_early is_wrong_count is_type_too_late
    is_bad_type is_row_too_early is_bad_symbol
the_dc_list_that_is_left = refl

the_off_list_that_is_left : tool (codes "-Decho" ∷ codes "-o" ∷ codes "fr" ∷ [])
    (Delivered (codes ".i 1\n.o 1\n1 1\n") End) Closed
    ≡ printed (codes ".i 1\n.o 1\n.type fr\n.p 2\n1 1\n0 0\n.e\n")
unfolding digits fault_in is_past_limit is_too_long is_refused is_inside_row
    is_repeated is_bad_number is_name_too_early is_wrong_count is_type_too_late
    is_bad_type is_row_too_early is_bad_symbol
the_off_list_that_is_left = refl

a_contained_cube : tool (codes "-Dcontain" ∷ [])
    (Delivered (codes ".i 1\n.o 1\n1 1\n- 1\n") End) Closed
    ≡ printed (codes ".i 1\n.o 1\n.p 1\n- 1\n.e\n")
unfolding digits fault_in is_past_limit is_too_long is_refused is_inside_row
    is_repeated is_bad_number is_name_too_early is_wrong_count is_type_too_late
    is_bad_type is_row_too_early is_bad_symbol
a_contained_cube = refl

the_least_cover : tool (codes "-Dexact" ∷ []) (Delivered (codes ".i 1\n.o 1\n1 1\n0 1\n") End) Closed
    ≡ printed (codes ".i 1\n.o 1\n.p 1\n- 1\n.e\n")
unfolding digits fault_in is_past_limit is_too_long is_refused is_inside_row
    is_repeated is_bad_number is_name_too_early is_wrong_count is_type_too_late
    is_bad_type is_row_too_early is_bad_symbol
the_least_cover = refl

everything : tool (codes "-Dtautology" ∷ []) (Delivered (codes ".i 1\n.o 1\n1 1\n0 1\n") End) Closed
    ≡ printed (codes "ON-set is a tautology\n")
unfolding digits fault_in is_past_limit is_too_long is_refused is_inside_row
    is_repeated is_bad_number is_name_too_early is_wrong_count is_type_too_late
    is_bad_type is_row_too_early is_bad_symbol
everything = refl

not_everything : tool (codes "-Dtautology" ∷ [])
    (Delivered (codes ".i 1\n.o 1\n1 1\n0 -\n") End) Closed
    ≡ denied (codes "ON-set is not a tautology\n")
unfolding digits fault_in is_past_limit is_too_long is_refused is_inside_row
    is_repeated is_bad_number is_name_too_early is_wrong_count is_type_too_late
    is_bad_type is_row_too_early is_bad_symbol
not_everything = refl

other_functions : tool (codes "-Dverify" ∷ codes "a" ∷ codes "b" ∷ [])
    (Delivered (codes ".i 1\n.o 1\n1 1\n") End) (Delivered (codes ".i 1\n.o 1\n0 1\n") End)
    ≡ denied (codes "PLA comparison failed; the PLAs are not equivalent\n")
unfolding digits fault_in is_past_limit is_too_long is_refused is_inside_row
    is_repeated is_bad_number is_name_too_early is_wrong_count is_type_too_late
    is_bad_type is_row_too_early is_bad_symbol
other_functions = refl

an_open_place_of_the_second : tool (codes "-Dverify" ∷ codes "a" ∷ codes "b" ∷ [])
    (Delivered (codes ".i 1\n.o 1\n- 1\n") End)
    (Delivered (codes ".i 1\n.o 1\n1 1\n0 -\n") End)
    ≡ printed (codes "PLAs compared equal\n")
unfolding digits fault_in is_past_limit is_too_long is_refused is_inside_row
    is_repeated is_bad_number is_name_too_early is_wrong_count is_type_too_late
    is_bad_type is_row_too_early is_bad_symbol
an_open_place_of_the_second = refl

what_both_hold : tool (codes "-Dintersect" ∷ codes "a" ∷ codes "b" ∷ [])
    (Delivered (codes ".i 1\n.o 1\n- 1\n") End) (Delivered (codes ".i 1\n.o 1\n1 1\n") End)
    ≡ printed (codes ".i 1\n.o 1\n.p 1\n1 1\n.e\n")
unfolding digits fault_in is_past_limit is_too_long is_refused is_inside_row
    is_repeated is_bad_number is_name_too_early is_wrong_count is_type_too_late
    is_bad_type is_row_too_early is_bad_symbol
what_both_hold = refl
