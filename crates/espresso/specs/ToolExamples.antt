-- Answers of the tool to small files, computed. A command on one file leaves the second alone, which
-- is closed here.
use Rattle.std.specs.Prelude.{◌≡◌, ℕ, List, [], ◌∷◌, codes, refl}
use Rattle.std.specs.Fmt.{digits}
use Rattle.pla.specs.declared.ending.Ending.TheVariants.{End, Failed}
use Rattle.pla.specs.Fault.{fault_in, is_past_limit, is_too_long, is_refused, is_inside_row, is_repeated, is_bad_number, is_name_too_early, is_wrong_count, is_type_too_late, is_bad_type, is_row_too_early, is_bad_symbol}
use Rattle.espresso.specs.declared.status.Status.TheVariants.{Done, Fault}
use Rattle.espresso.specs.Tool.{Closed, Delivered, File, Outcome, tool}

-- an answer that was printed
abbrev printed : List ℕ → Outcome
printed output = record { output = output; message = []; status = Done }

-- what a fault leaves
abbrev faulty : List ℕ → List ℕ → Outcome
faulty output message = record { output = output; message = message; status = Fault }

one_row : tool (codes "-Decho" ∷ []) (Delivered (codes ".i 2\n.o 1\n11 1\n.e\n") End) Closed
    ≡ printed (codes ".i 2\n.o 1\n.p 1\n11 1\n.e\n")
unfolding digits fault_in is_past_limit is_too_long is_refused is_inside_row
    is_repeated is_bad_number is_name_too_early is_wrong_count is_type_too_late
    is_bad_type is_row_too_early is_bad_symbol
one_row = refl

nothing_to_read : tool (codes "-Decho" ∷ []) (Delivered [] End) Closed
    ≡ faulty [] (codes "espresso: (stdin):0: .i or .o missing\n")
unfolding digits
nothing_to_read = refl

nothing_to_read_by_name : tool (codes "-Decho" ∷ codes "-" ∷ []) (Delivered [] End) Closed
    ≡ faulty [] (codes "espresso: (stdin):0: .i or .o missing\n")
unfolding digits
nothing_to_read_by_name = refl

-- a comment, an unknown keyword, and a symbol that is none on line 6
abbrev commented : File
commented = Delivered (codes "# a\n.i 1\n.o 1\n.foo x\n# b\nz 1\n") End

echoes_before_a_fault : tool (codes "-Decho" ∷ []) commented Closed
    ≡ faulty (codes "# a\n.foo x\n# b\n") (codes "espresso: (stdin):6: bad symbol\n")
unfolding digits fault_in is_past_limit is_too_long is_refused is_inside_row
    is_repeated is_bad_number is_name_too_early is_wrong_count is_type_too_late
    is_bad_type is_row_too_early is_bad_symbol
echoes_before_a_fault = refl

comments_left_out : tool (codes "-Decho" ∷ codes "-e" ∷ codes "eat" ∷ []) commented Closed
    ≡ faulty (codes ".foo x\n") (codes "espresso: (stdin):6: bad symbol\n")
unfolding digits fault_in is_past_limit is_too_long is_refused is_inside_row
    is_repeated is_bad_number is_name_too_early is_wrong_count is_type_too_late
    is_bad_type is_row_too_early is_bad_symbol
comments_left_out = refl

a_read_that_failed : tool (codes "-Decho" ∷ codes "f" ∷ [])
    (Delivered (codes ".i 1\n.o ") Failed) Closed
    ≡ faulty [] (codes "espresso: f:2: read failed\n")
unfolding digits fault_in is_past_limit is_too_long is_refused is_inside_row
    is_repeated is_bad_number is_name_too_early is_wrong_count is_type_too_late
    is_bad_type is_row_too_early is_bad_symbol
a_read_that_failed = refl

a_closed_file : tool (codes "-Decho" ∷ codes "b" ∷ []) Closed Closed
    ≡ faulty [] (codes "espresso: cannot open b\n")
a_closed_file = refl

no_words : tool [] Closed Closed
    ≡ faulty [] (codes "usage: espresso -Dcommand [-o type] [-e eat] [file [file]]\n")
no_words = refl

-- ---- two files

-- the words of a command on the files a and b
abbrev on_two : List ℕ → List (List ℕ)
on_two word = word ∷ codes "a" ∷ codes "b" ∷ []

-- one input, one output, a row, after a comment
abbrev one_input : File
one_input = Delivered (codes "# x\n.i 1\n.o 1\n1 1\n.e\n") End

a_second_file_closed : tool (on_two (codes "-Dverify")) one_input Closed
    ≡ faulty (codes "# x\n") (codes "espresso: cannot open b\n")
unfolding digits fault_in is_past_limit is_too_long is_refused is_inside_row
    is_repeated is_bad_number is_name_too_early is_wrong_count is_type_too_late
    is_bad_type is_row_too_early is_bad_symbol
a_second_file_closed = refl

a_first_file_closed : tool (on_two (codes "-Dverify")) Closed one_input
    ≡ faulty [] (codes "espresso: cannot open a\n")
unfolding digits fault_in is_past_limit is_too_long is_refused is_inside_row
    is_repeated is_bad_number is_name_too_early is_wrong_count is_type_too_late
    is_bad_type is_row_too_early is_bad_symbol
a_first_file_closed = refl

a_second_file_at_fault : tool (on_two (codes "-Dsharp")) one_input commented
    ≡ faulty (codes "# x\n# a\n.foo x\n# b\n") (codes "espresso: b:6: bad symbol\n")
unfolding digits fault_in is_past_limit is_too_long is_refused is_inside_row
    is_repeated is_bad_number is_name_too_early is_wrong_count is_type_too_late
    is_bad_type is_row_too_early is_bad_symbol
a_second_file_at_fault = refl

other_sizes : tool (on_two (codes "-Dverify")) one_input
    (Delivered (codes "# y\n.i 2\n.o 1\n") End)
    ≡ faulty (codes "# x\n# y\n") (codes "espresso: sizes differ\n")
unfolding digits fault_in is_past_limit is_too_long is_refused is_inside_row
    is_repeated is_bad_number is_name_too_early is_wrong_count is_type_too_late
    is_bad_type is_row_too_early is_bad_symbol
other_sizes = refl

-- the place 01 is left open by the first file
open_place : tool (on_two (codes "-Dverify")) (Delivered (codes ".i 2\n.o 1\n11 1\n01 -\n.e\n") End)
    (Delivered (codes ".i 2\n.o 1\n-1 1\n.e\n") End)
    ≡ printed (codes "PLAs compared equal\n")
unfolding digits fault_in is_past_limit is_too_long is_refused is_inside_row
    is_repeated is_bad_number is_name_too_early is_wrong_count is_type_too_late
    is_bad_type is_row_too_early is_bad_symbol
open_place = refl

the_first_alone : tool (on_two (codes "-Dsharp")) (Delivered (codes ".i 2\n.o 1\n-- 1\n.e\n") End)
    (Delivered (codes ".i 2\n.o 1\n11 1\n.e\n") End)
    ≡ printed (codes ".i 2\n.o 1\n.p 2\n-0 1\n0- 1\n.e\n")
unfolding digits fault_in is_past_limit is_too_long is_refused is_inside_row
    is_repeated is_bad_number is_name_too_early is_wrong_count is_type_too_late
    is_bad_type is_row_too_early is_bad_symbol
the_first_alone = refl
