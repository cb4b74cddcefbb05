use Rattle.std.proofs.Common.{◌∙◌, Bool, ◌&&◌, refl, sym, ap, subst, IsTrue}
use Rattle.amr_box.specs.Cells.{Extent, IsBoxOf, IsNear, has_child_where, holds}
use Rattle.amr_patch.specs.Patches.{box}
use Rattle.amr_transfer.specs.Sums.{children_in}
use Rattle.amr_transfer.proofs.BoxRows.{in_both, in_second, near_common}
use Rattle.amr_transfer.proofs.Fours.{has_four}
use Rattle.amr_transfer.proofs.GivenCells.{given_as, given_none}
use Rattle.amr_transfer.proofs.covered.cover_by.Goals as goal

pub cover_box-requires-clause-near : goal.cover_box-requires-clause-near
cover_box-requires-clause-near c =
    let near = subst (λ (b : Extent). IsNear b) (sym c.bx.ensures.value) c.bx.ensures.near in
    subst (λ (b : Extent). IsNear b) (sym c.in-Some.ensures.corners) (near_common c.bx.result c.coarsen2.result near (c.in-Some.ensures.some.0 refl))

pub cover_box-requires-clause-children : goal.cover_box-requires-clause-children
cover_box-requires-clause-children c d h =
    let parents = subst (λ (a : Extent). IsBoxOf c.coarsen2.result (has_child_where (holds a))) c.bx-2.ensures.value c.coarsen2.ensures.cells in
    (has_four c.args.fine.now d c.requires.aligned (sym (parents.at d) ∙ (in_both c.bx.result c.coarsen2.result c.in-Some.b d c.in-Some.ensures.cells h).1)).first

pub cover_box-requires-clause-inside : goal.cover_box-requires-clause-inside
cover_box-requires-clause-inside c d h = subst (λ (b : Extent). IsTrue (holds b d)) c.bx.ensures.value (in_both c.bx.result c.coarsen2.result c.in-Some.b d c.in-Some.ensures.cells h).0

pub returns-in-Some : goal.returns-in-Some
returns-in-Some c =
    let f = c.args.fine.now in
    let parents = subst (λ (a : Extent). IsBoxOf c.coarsen2.result (has_child_where (holds a))) c.bx-2.ensures.value c.coarsen2.ensures.cells in
    given_as (holds c.in-Some.b) (has_child_where (holds (box f))) (children_in f) (children_in f) c.args.patch.now c.cover_box.new.patch
    (λ d h.
    let there = subst (λ (b : Extent). IsTrue (holds b d)) (sym c.bx.ensures.value) h in
    sym (parents.at d) ∙ in_second c.bx.result c.coarsen2.result c.in-Some.b d c.in-Some.ensures.cells there)
    (λ d h on. refl)
    c.cover_box.ensures

pub returns-in_default : goal.returns-in_default
returns-in_default c =
    let f = c.args.fine.now in
    let parents = subst (λ (a : Extent). IsBoxOf c.coarsen2.result (has_child_where (holds a))) c.bx-2.ensures.value c.coarsen2.ensures.cells in
    given_none (has_child_where (holds (box f))) (children_in f) c.args.patch.now
    (λ d h.
    let there = subst (λ (b : Extent). IsTrue (holds b d)) (sym c.bx.ensures.value) h in
    sym (parents.at d) ∙ ap (λ (t : Bool). t && holds c.coarsen2.result d) (sym there) ∙ c.in_default.ensures.none.0 refl d)
