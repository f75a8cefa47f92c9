use Rattle.std.proofs.Common.{◌∙◌, ◌↔◌, All, IsTrue, arith, sym, subst}
use Rattle.std.specs.Borrow.{Bor}
use Rattle.std.proofs.lemmas.Result.{IfOk-weaker}
use Rattle.std.proofs.lemmas.List.Elements.{All-filter}
use Rattle.cube.specs.declared.symbol.Symbol.TheVariants.{Zero, One}
use Rattle.cube.specs.Cube.{Cube, HasSize}
use Rattle.rows.specs.Places.{behind}
use Rattle.regions.specs.Relation.{AreRelated}
use Rattle.regions.proofs.Relations.{AreRelated-open, AreRelated-failed, AreRelated-last, at_symbol, open_to}
use Rattle.regions.proofs.pairwise.+are_related.Goals as goal

pub are_related_at-are_related-requires : goal.are_related_at-are_related-requires
are_related_at-are_related-requires t c =
    let P : Bor Cube → Type 0 = λ d. HasSize d.now c.args.shape in (
      omega arith,
      (
        subst (All P) (sym (c.deref.ensures.value ∙ c.in_ok-having.ensures)) (All-filter (λ d. at_symbol c.args.at.0 c.args.at.1 d.now) P c.args.rows.now c.requires.rows),
        subst (All P) (sym (c.deref-2.ensures.value ∙ c.in_ok-compatible.ensures)) (All-filter (λ d. open_to c.args.at.0 c.args.at.1 d.now) P c.args.others.now c.requires.others),
      ),
    )

pub are_related_at-returns : goal.are_related_at-returns
are_related_at-returns t c =
    IfOk-weaker c.are_related.result _ _
    (λ r h. AreRelated-open c.args.shape c.args.at.0 c.requires.input c.args.relation c.args.at.1 c.args.rows.now c.args.others.now c.deref.result.now c.deref-2.result.now
    c.requires.rows c.requires.others (c.deref.ensures.value ∙ c.in_ok-having.ensures) (c.deref-2.ensures.value ∙ c.in_ok-compatible.ensures) r h)
    c.are_related.ensures

pub are_related-returns-then-not-branch : goal.are_related-returns-then-not-branch
are_related-returns-then-not-branch t c =
    AreRelated-failed c.in-Some.i c.args.relation c.args.rows.now (behind c.args.others.now) Zero c.in_ok-are_related_at.field-0 c.if-not-branch.true
    c.in_ok-are_related_at.ensures

pub are_related-returns-then-not-branch-2 : goal.are_related-returns-then-not-branch-2
are_related-returns-then-not-branch-2 t c =
    AreRelated-failed c.in-Some.i c.args.relation c.args.rows.now (behind c.args.others.now) One c.in_ok-are_related_at-2.field-0 c.if-not-branch-2.true
    c.in_ok-are_related_at-2.ensures

pub are_related-returns : goal.are_related-returns
are_related-returns t c =
    IfOk-weaker c.are_related_at-3.result _ _
    (λ r h. AreRelated-last c.in-Some.i c.args.relation c.args.rows.now (behind c.args.others.now) c.in_ok-are_related_at.field-0 c.in_ok-are_related_at-2.field-0
    c.if-not-branch.false c.if-not-branch-2.false c.in_ok-are_related_at.ensures c.in_ok-are_related_at-2.ensures r h)
    c.are_related_at-3.ensures

pub are_related-returns-in-Contained : goal.are_related-returns-in-Contained
are_related-returns-in-Contained t c =
    IfOk-weaker c.are_held_one_by_one.result _ _
    (λ held h. subst (λ r. IsTrue held ↔ AreRelated r (behind c.args.rows.now) (behind c.args.others.now)) (sym c.in-Contained.is) h)
    c.are_held_one_by_one.ensures

pub are_related-returns-in-Disjoint : goal.are_related-returns-in-Disjoint
are_related-returns-in-Disjoint t c =
    subst (λ r. IsTrue c.are_disjoint_by_pairs.result ↔ AreRelated r (behind c.args.rows.now) (behind c.args.others.now)) (sym c.in-Disjoint.is) c.are_disjoint_by_pairs.ensures

pub are_related-are_disjoint_by_pairs-requires : goal.are_related-are_disjoint_by_pairs-requires
are_related-are_disjoint_by_pairs-requires t c = (c.args.shape, c.requires.rows, c.requires.others)
