-- Lists of words whose meaning is computed: what is taken, and what is refused.
use Rattle.std.specs.Prelude.{◌≡◌, refl, [], ◌∷◌, Some, None, codes, true, false}
use Rattle.espresso.specs.declared.command.Command.TheVariants.{Echo, Check, Contain, Primes, Essen, Exact, Tautology, Verify, Intersect, Sharp}
use Rattle.covering.specs.declared.choice.Choice.TheVariants.{First, Literals}
use Rattle.pla.specs.declared.out_type.OutType.TheVariants.{F, Fd, Fr, Fdr}
use Rattle.espresso.specs.Words.{line_of, request_by}

takes_a_command_in_one_word : line_of (codes "-Decho" ∷ [])
    ≡ Some (request_by Echo F false First ([]))
takes_a_command_in_one_word = refl

takes_a_command_in_the_next_word : line_of (codes "-D" ∷ codes "echo" ∷ codes "f" ∷ [])
    ≡ Some (request_by Echo F false First (codes "f" ∷ []))
takes_a_command_in_the_next_word = refl

takes_a_command_after_an_equals_sign : line_of (codes "-D=echo" ∷ codes "f" ∷ [])
    ≡ Some (request_by Echo F false First (codes "f" ∷ []))
takes_a_command_after_an_equals_sign = refl

takes_an_option_after_the_file : line_of (codes "f" ∷ codes "-Decho" ∷ [])
    ≡ Some (request_by Echo F false First (codes "f" ∷ []))
takes_an_option_after_the_file = refl

takes_comments_left_out : line_of (codes "-Decho" ∷ codes "-e" ∷ codes "eat" ∷ codes "f" ∷ [])
    ≡ Some (request_by Echo F true First (codes "f" ∷ []))
takes_comments_left_out = refl

takes_options_in_any_order : line_of (codes "-eeat" ∷ codes "-Decho" ∷ codes "f" ∷ [])
    ≡ Some (request_by Echo F true First (codes "f" ∷ []))
takes_options_in_any_order = refl

takes_an_equals_sign_before_the_value_of_each_option : line_of
    (codes "-e=eat" ∷ codes "-o=f" ∷ codes "-D=echo" ∷ [])
    ≡ Some (request_by Echo F true First ([]))
takes_an_equals_sign_before_the_value_of_each_option = refl

takes_an_output_type_in_one_word : line_of (codes "-of" ∷ codes "-Decho" ∷ [])
    ≡ Some (request_by Echo F false First ([]))
takes_an_output_type_in_one_word = refl

takes_an_output_type_in_the_next_word : line_of
    (codes "-Decho" ∷ codes "-o" ∷ codes "f" ∷ codes "a" ∷ [])
    ≡ Some (request_by Echo F false First (codes "a" ∷ []))
takes_an_output_type_in_the_next_word = refl

takes_the_type_with_a_dc_list : line_of (codes "-Decho" ∷ codes "-ofd" ∷ [])
    ≡ Some (request_by Echo Fd false First [])
takes_the_type_with_a_dc_list = refl

takes_the_type_with_an_off_list : line_of (codes "-o" ∷ codes "fr" ∷ codes "-Dcontain" ∷ [])
    ≡ Some (request_by Contain Fr false First [])
takes_the_type_with_an_off_list = refl

takes_the_type_with_all_lists : line_of (codes "-o=fdr" ∷ codes "-Dtautology" ∷ [])
    ≡ Some (request_by Tautology Fdr false First [])
takes_the_type_with_all_lists = refl

takes_a_file_with_a_hyphen_after_two_hyphens : line_of
    (codes "-Decho" ∷ codes "--" ∷ codes "-x" ∷ [])
    ≡ Some (request_by Echo F false First (codes "-x" ∷ []))
takes_a_file_with_a_hyphen_after_two_hyphens = refl

takes_two_hyphens_as_a_file : line_of (codes "-Decho" ∷ codes "--" ∷ codes "--" ∷ [])
    ≡ Some (request_by Echo F false First (codes "--" ∷ []))
takes_two_hyphens_as_a_file = refl

takes_two_hyphens_and_no_file : line_of (codes "-Decho" ∷ codes "--" ∷ [])
    ≡ Some (request_by Echo F false First ([]))
takes_two_hyphens_and_no_file = refl

takes_standard_input_by_name : line_of (codes "-Decho" ∷ codes "-" ∷ [])
    ≡ Some (request_by Echo F false First (codes "-" ∷ []))
takes_standard_input_by_name = refl

takes_standard_input_by_name_after_two_hyphens : line_of
    (codes "-Decho" ∷ codes "--" ∷ codes "-" ∷ [])
    ≡ Some (request_by Echo F false First (codes "-" ∷ []))
takes_standard_input_by_name_after_two_hyphens = refl

takes_a_file_whose_name_is_empty : line_of (codes "-Decho" ∷ codes "" ∷ [])
    ≡ Some (request_by Echo F false First (codes "" ∷ []))
takes_a_file_whose_name_is_empty = refl

takes_check : line_of (codes "-Dcheck" ∷ codes "-o" ∷ codes "fr" ∷ [])
    ≡ Some (request_by Check Fr false First [])
takes_check = refl

takes_contain : line_of (codes "-Dcontain" ∷ []) ≡ Some (request_by Contain F false First [])
takes_contain = refl

takes_primes : line_of (codes "-Dprimes" ∷ codes "-ofdr" ∷ [])
    ≡ Some (request_by Primes Fdr false First [])
takes_primes = refl

takes_essen : line_of (codes "-Dessen" ∷ []) ≡ Some (request_by Essen F false First [])
takes_essen = refl

takes_exact : line_of (codes "-D" ∷ codes "exact" ∷ codes "f" ∷ [])
    ≡ Some (request_by Exact F false First (codes "f" ∷ []))
takes_exact = refl

takes_a_choice_before_the_command : line_of (codes "--literals" ∷ codes "-Dexact" ∷ [])
    ≡ Some (request_by Exact F false Literals [])
takes_a_choice_before_the_command = refl

takes_a_choice_between_files_and_options : line_of
    (codes "-Dexact" ∷ codes "f" ∷ codes "--literals" ∷ codes "-ofd" ∷ [])
    ≡ Some (request_by Exact Fd false Literals (codes "f" ∷ []))
takes_a_choice_between_files_and_options = refl

takes_tautology : line_of (codes "-D" ∷ codes "tautology" ∷ codes "f" ∷ [])
    ≡ Some (request_by Tautology F false First (codes "f" ∷ []))
takes_tautology = refl

refuses_no_words : line_of ([]) ≡ None
refuses_no_words = refl

refuses_no_command : line_of (codes "-e" ∷ codes "eat" ∷ []) ≡ None
refuses_no_command = refl

refuses_a_file_alone : line_of (codes "f" ∷ []) ≡ None
refuses_a_file_alone = refl

refuses_a_command_without_a_name : line_of (codes "-D" ∷ []) ≡ None
refuses_a_command_without_a_name = refl

refuses_a_command_with_an_empty_name : line_of (codes "-D=" ∷ []) ≡ None
refuses_a_command_with_an_empty_name = refl

refuses_two_equals_signs : line_of (codes "-D==echo" ∷ []) ≡ None
refuses_two_equals_signs = refl

refuses_a_name_that_is_no_command : line_of (codes "-Dminimise" ∷ []) ≡ None
refuses_a_name_that_is_no_command = refl

refuses_a_name_in_capitals : line_of (codes "-DECHO" ∷ []) ≡ None
refuses_a_name_in_capitals = refl

refuses_a_command_with_more_behind_it : line_of (codes "-Dechoes" ∷ []) ≡ None
refuses_a_command_with_more_behind_it = refl

refuses_a_command_twice : line_of (codes "-Decho" ∷ codes "-D" ∷ codes "echo" ∷ []) ≡ None
refuses_a_command_twice = refl

refuses_an_option_as_the_value_of_a_command : line_of (codes "-D" ∷ codes "-Decho" ∷ []) ≡ None
refuses_an_option_as_the_value_of_a_command = refl

refuses_two_hyphens_as_the_value_of_a_command : line_of
    (codes "-D" ∷ codes "--" ∷ codes "echo" ∷ []) ≡ None
refuses_two_hyphens_as_the_value_of_a_command = refl

refuses_a_word_with_a_hyphen_as_the_value_of_a_command : line_of (codes "-D" ∷ codes "-x" ∷ [])
    ≡ None
refuses_a_word_with_a_hyphen_as_the_value_of_a_command = refl

refuses_a_command_after_two_hyphens : line_of (codes "--" ∷ codes "-Decho" ∷ []) ≡ None
refuses_a_command_after_two_hyphens = refl

refuses_comments_left_out_twice : line_of
    (codes "-Decho" ∷ codes "-e" ∷ codes "eat" ∷ codes "-e" ∷ codes "eat" ∷ []) ≡ None
refuses_comments_left_out_twice = refl

refuses_another_word_than_eat : line_of (codes "-Decho" ∷ codes "-e" ∷ codes "x" ∷ []) ≡ None
refuses_another_word_than_eat = refl

refuses_no_word_behind_e : line_of (codes "-Decho" ∷ codes "-e" ∷ []) ≡ None
refuses_no_word_behind_e = refl

refuses_an_output_type_that_is_none : line_of (codes "-Decho" ∷ codes "-o" ∷ codes "dr" ∷ []) ≡ None
refuses_an_output_type_that_is_none = refl

refuses_an_output_type_of_inputs_alone : line_of (codes "-Decho" ∷ codes "-o" ∷ codes "r" ∷ [])
    ≡ None
refuses_an_output_type_of_inputs_alone = refl

refuses_an_output_type_twice : line_of (codes "-Decho" ∷ codes "-of" ∷ codes "-o" ∷ codes "f" ∷ [])
    ≡ None
refuses_an_output_type_twice = refl

refuses_no_output_type_behind_o : line_of (codes "-Decho" ∷ codes "-o" ∷ []) ≡ None
refuses_no_output_type_behind_o = refl

refuses_an_option_that_is_not_known : line_of (codes "-Decho" ∷ codes "-s" ∷ []) ≡ None
refuses_an_option_that_is_not_known = refl

refuses_a_number_as_an_option : line_of (codes "-Decho" ∷ codes "-1" ∷ []) ≡ None
refuses_a_number_as_an_option = refl

refuses_help_by_a_letter : line_of (codes "-h" ∷ []) ≡ None
refuses_help_by_a_letter = refl

refuses_help_by_its_name : line_of (codes "--help" ∷ []) ≡ None
refuses_help_by_its_name = refl

refuses_help_beside_a_command : line_of (codes "-Decho" ∷ codes "--help" ∷ []) ≡ None
refuses_help_beside_a_command = refl

refuses_a_long_option : line_of (codes "-Decho" ∷ codes "--=x" ∷ []) ≡ None
refuses_a_long_option = refl

refuses_two_files : line_of (codes "-Decho" ∷ codes "a" ∷ codes "b" ∷ []) ≡ None
refuses_two_files = refl

refuses_standard_input_twice : line_of (codes "-Decho" ∷ codes "-" ∷ codes "-" ∷ []) ≡ None
refuses_standard_input_twice = refl

refuses_two_files_after_two_hyphens : line_of
    (codes "-Decho" ∷ codes "--" ∷ codes "a" ∷ codes "-x" ∷ []) ≡ None
refuses_two_files_after_two_hyphens = refl

refuses_a_choice_where_there_is_none : line_of (codes "-Dprimes" ∷ codes "--literals" ∷ []) ≡ None
refuses_a_choice_where_there_is_none = refl

refuses_a_choice_with_essen : line_of (codes "--literals" ∷ codes "-Dessen" ∷ []) ≡ None
refuses_a_choice_with_essen = refl

refuses_a_choice_twice : line_of (codes "-Dexact" ∷ codes "--literals" ∷ codes "--literals" ∷ [])
    ≡ None
refuses_a_choice_twice = refl

refuses_a_value_for_a_choice : line_of (codes "-Dexact" ∷ codes "--literals=1" ∷ []) ≡ None
refuses_a_value_for_a_choice = refl

refuses_a_part_of_the_name_of_a_choice : line_of (codes "-Dexact" ∷ codes "--lit" ∷ []) ≡ None
refuses_a_part_of_the_name_of_a_choice = refl

refuses_a_choice_as_the_value_of_an_option : line_of
    (codes "-Dexact" ∷ codes "-o" ∷ codes "--literals" ∷ []) ≡ None
refuses_a_choice_as_the_value_of_an_option = refl

refuses_a_part_of_a_long_option : line_of (codes "-Decho" ∷ codes "--lit" ∷ []) ≡ None
refuses_a_part_of_a_long_option = refl

takes_a_long_option_as_a_file_after_two_hyphens : line_of
    (codes "-Decho" ∷ codes "--" ∷ codes "--literals" ∷ [])
    ≡ Some (request_by Echo F false First (codes "--literals" ∷ []))
takes_a_long_option_as_a_file_after_two_hyphens = refl

takes_verify : line_of (codes "-Dverify" ∷ codes "a" ∷ codes "b" ∷ [])
    ≡ Some (request_by Verify F false First (codes "a" ∷ codes "b" ∷ []))
takes_verify = refl

takes_intersect : line_of (codes "-Dintersect" ∷ codes "-" ∷ codes "b" ∷ [])
    ≡ Some (request_by Intersect F false First (codes "-" ∷ codes "b" ∷ []))
takes_intersect = refl

takes_sharp : line_of (codes "-Dsharp" ∷ codes "a" ∷ codes "-" ∷ [])
    ≡ Some (request_by Sharp F false First (codes "a" ∷ codes "-" ∷ []))
takes_sharp = refl

takes_a_type_with_verify : line_of (codes "-Dverify" ∷ codes "-ofd" ∷ codes "a" ∷ codes "b" ∷ [])
    ≡ Some (request_by Verify Fd false First (codes "a" ∷ codes "b" ∷ []))
takes_a_type_with_verify = refl

refuses_a_type_with_intersect : line_of
    (codes "-Dintersect" ∷ codes "-ofd" ∷ codes "a" ∷ codes "b" ∷ []) ≡ None
refuses_a_type_with_intersect = refl

refuses_a_type_with_sharp : line_of (codes "-Dsharp" ∷ codes "-ofr" ∷ codes "a" ∷ codes "b" ∷ [])
    ≡ None
refuses_a_type_with_sharp = refl

refuses_one_file_for_two : line_of (codes "-Dverify" ∷ codes "a" ∷ []) ≡ None
refuses_one_file_for_two = refl

refuses_three_files : line_of (codes "-Dverify" ∷ codes "a" ∷ codes "b" ∷ codes "c" ∷ []) ≡ None
refuses_three_files = refl

refuses_standard_input_twice_for_two : line_of (codes "-Dsharp" ∷ codes "-" ∷ codes "-" ∷ []) ≡ None
refuses_standard_input_twice_for_two = refl

refuses_a_choice_with_verify : line_of
    (codes "-Dverify" ∷ codes "--literals" ∷ codes "a" ∷ codes "b" ∷ []) ≡ None
refuses_a_choice_with_verify = refl
