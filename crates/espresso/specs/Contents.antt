-- What the content of a source has left to read.
use Rattle.std.specs.Prelude.{ℕ, List, Option}
use Rattle.espresso.specs.declared.sources.Content.{Content}
use Rattle.espresso.specs.declared.sources.Content.TheVariants.{File, Input}

-- what a file or standard input has left, by what either reports
abbrev pub remaining_of : {F I : Type 0} → (F → Option (List ℕ)) → (I → Option (List ℕ))
    → Content F I → Option (List ℕ)
remaining_of file input (File inner) = file inner
remaining_of file input (Input inner) = input inner
