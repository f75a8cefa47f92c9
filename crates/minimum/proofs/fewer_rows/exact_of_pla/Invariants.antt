use Rattle.std.proofs.Common.{true}
use Rattle.pla.specs.Completed.{sets_of}
use Rattle.minimum.proofs.fewer_rows.exact_of_pla.Given as goal

abbrev pub ghost-exact_of_samples : goal.ghost-exact_of_samples
ghost-exact_of_samples a = sets_of a.pla.now true true
