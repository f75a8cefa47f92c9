use Rattle.std.proofs.Common.{sym, subst}
use Rattle.std.specs.List.{Contains}
use Rattle.rows.specs.Places.{behind}
use Rattle.regions.specs.Reason.{AreAmong}
use Rattle.regions.proofs.Reasons.{among_more, among_last, among_added, among_none}
use Rattle.regions.proofs.region.Survey.add.Goals as goal
use Rattle.regions.proofs.region.Survey.add.Goals.{then-open-self-2, else-open-self-2}

pub returns-then-not-is_empty-clause-nearest : goal.returns-then-not-is_empty-clause-nearest
returns-then-not-is_empty-clause-nearest c =
    subst (λ l. AreAmong c.args.self.now.nearest.items l) (sym c.in_ok-push.ensures.items)
    (among_more c.args.self.now.nearest.items c.args.self.now.meeting.items c.args.row c.requires)

pub returns-clause-nearest : goal.returns-clause-nearest
returns-clause-nearest c =
    let before : AreAmong c.args.self.now.nearest.items c.push.new.self.items =
    subst (λ l. AreAmong c.args.self.now.nearest.items l) (sym c.in_ok-push.ensures.items)
    (among_more c.args.self.now.nearest.items c.args.self.now.meeting.items c.args.row c.requires) in
    let last : Contains (behind c.push.new.self.items) c.args.row.now =
    subst (λ l. Contains (behind l) c.args.row.now) (sym c.in_ok-push.ensures.items) (among_last c.args.self.now.meeting.items c.args.row) in
    let known : AreAmong c.if-open-self-2.self.nearest.items c.if-open-self-2.self.meeting.items × Contains (behind c.if-open-self-2.self.meeting.items) c.args.row.now =
    elim c.if-open-self-2.branch [
      | then-open-self-2 w ↦
          subst (λ s. AreAmong s.nearest.items s.meeting.items × Contains (behind s.meeting.items) c.args.row.now) (sym w.self-is)
          (subst (λ l. AreAmong l c.push.new.self.items) (sym w.clear.ensures.items) (among_none c.push.new.self.items), last)
      | else-open-self-2 w ↦
          subst (λ s. AreAmong s.nearest.items s.meeting.items × Contains (behind s.meeting.items) c.args.row.now) (sym w.self-is) (before, last)
    ] in
    subst (λ l. AreAmong l c.if-open-self-2.self.meeting.items) (sym c.in_ok-push-2.ensures.items)
    (among_added c.if-open-self-2.self.nearest.items c.if-open-self-2.self.meeting.items c.args.row known.0 known.1)
