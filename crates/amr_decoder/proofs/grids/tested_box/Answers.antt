use Rattle.std.proofs.Common.{◌∙◌, sym, subst}
use Rattle.amr_box.specs.Cells.{Extent}
use Rattle.std.proofs.Common.{ap, ◌&&◌}
use Rattle.std.specs.Prelude.{nat_lt}
use Rattle.std.specs.List.{list_any}
use Rattle.amr_payload.specs.Tests.{meets}
use Rattle.amr_decoder.specs.Apart.{IsOverParents, newest_first}
use Rattle.amr_decoder.specs.Boxes.{box_at}
use Rattle.amr_decoder.proofs.ParentSets.{over_parents}
use Rattle.amr_decoder.proofs.GridReadings.{clear, in_the_way, unfit}
use Rattle.amr_decoder.proofs.grids.tested_box.Goals as goal

pub is_in_the_way-requires-clause-new : goal.is_in_the_way-requires-clause-new
is_in_the_way-requires-clause-new c some =
    let fit = sym c.is_fit.ensures.value ∙ c.if-not-is_fit.false in
    subst (λ (b : Extent). IsOverParents c.args.earlier.now.below b) (sym c.as_box-tested.ensures.value)
    (subst (λ (e : Extent). IsOverParents e (box_at c.args.b)) (sym (c.requires.earlier.below some)) (over_parents c.args.p.now c.args.l (box_at c.args.b) some fit))

pub is_in_the_way-requires-clause-earlier : goal.is_in_the_way-requires-clause-earlier
is_in_the_way-requires-clause-earlier c = c.requires.earlier.over

pub returns-clause-over : goal.returns-clause-over
returns-clause-over c some =
    let fit = sym c.is_fit.ensures.value ∙ c.if-not-is_fit.false in
    subst (λ (b : Extent). IsOverParents c.args.earlier.now.below b) (sym c.as_box-tested.ensures.value)
    (subst (λ (e : Extent). IsOverParents e (box_at c.args.b)) (sym (c.requires.earlier.below some)) (over_parents c.args.p.now c.args.l (box_at c.args.b) some fit))

pub returns-then-not-is_fit-clause-none : goal.returns-then-not-is_fit-clause-none
returns-then-not-is_fit-clause-none c = unfit c.args.p.now c.args.l (newest_first c.args.earlier.now.grids) (box_at c.args.b) (sym c.is_fit.ensures.value ∙ c.if-not-is_fit.true)

pub returns-then-is_in_the_way-clause-none : goal.returns-then-is_in_the_way-clause-none
returns-then-is_in_the_way-clause-none c =
    let met = sym c.is_in_the_way.ensures ∙ c.if-is_in_the_way.true in
    let same = ap (λ (b : Extent). nat_lt 0 c.args.l && list_any (meets b) (newest_first c.args.earlier.now.grids)) c.as_box-tested.ensures.value in
    in_the_way c.args.p.now c.args.l (newest_first c.args.earlier.now.grids) (box_at c.args.b) (sym same ∙ met)

pub returns-clause-some : goal.returns-clause-some
returns-clause-some c =
    let free = sym c.is_in_the_way.ensures ∙ c.if-is_in_the_way.false in
    let same = ap (λ (b : Extent). nat_lt 0 c.args.l && list_any (meets b) (newest_first c.args.earlier.now.grids)) c.as_box-tested.ensures.value in
    (c.as_box-tested.ensures.value, clear c.args.p.now c.args.l (newest_first c.args.earlier.now.grids) (box_at c.args.b) (sym c.is_fit.ensures.value ∙ c.if-not-is_fit.false) (sym same ∙ free))
