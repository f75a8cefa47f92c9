use Rattle.std.proofs.Common.{◌∙◌, ap, sym, subst}
use Rattle.rows.specs.Places.{behind}
use Rattle.regions.specs.Reason.{AreKnown}
use Rattle.regions.proofs.Halves.{known_copies}
use Rattle.regions.proofs.region.learned.Learned.prepare_search.Goals as goal
use Rattle.regions.proofs.region.learned.Learned.prepare_search.Goals.{then-is_empty+in_ok-self, else-is_empty}

pub returns : goal.returns
returns c =
    elim c.if-is_empty.branch [
      | then-is_empty+in_ok-self w ↦
          known_copies c.args.shape c.if-is_empty.self.known.items c.args.rows.now c.requires.sizes
          (ap (λ s. s.known.items) w.self-is ∙ w.in_ok-self.ensures)
      | else-is_empty w ↦
          subst (λ s. AreKnown c.args.shape s.known.items (behind c.args.rows.now)) (sym w.self-is) c.requires.known
    ]
