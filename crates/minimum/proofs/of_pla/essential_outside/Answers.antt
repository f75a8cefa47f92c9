use Rattle.std.proofs.Common.{refl, subst, true}
use Rattle.std.proofs.lemmas.Result.{IfOk-weaker}
use Rattle.pla.specs.Completed.{sets_of}
use Rattle.minimum.specs.Blocking.{IsSampled}
use Rattle.minimum.proofs.OfPla.{open_sets, sampled_alone, samples_of}
use Rattle.minimum.proofs.of_pla.essential_outside.Goals as goal

pub returns : goal.returns
returns c =
    let pla = c.args.pla.now in
    let samples = samples_of pla in
    let off = c.args.off.now in
    let sampled = sampled_alone samples refl off c.on.result.now c.on.ensures c.requires.places in
    IfOk-weaker c.find_essential_outside.result _ _
    (λ list h. h (sets_of pla true true) (subst (λ sets. IsSampled sets c.on.result.now off) (open_sets pla samples refl c.requires.file_type) sampled))
    c.find_essential_outside.ensures
