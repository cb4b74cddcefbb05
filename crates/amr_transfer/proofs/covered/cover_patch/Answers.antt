use Rattle.std.proofs.Common.{◌≡◌, ◌∙◌, ℕ, ◌+◌, ◌<◌, ◌^◌, length, take, refl, sym, ap, subst, arith}
use Rattle.std.proofs.lemmas.Int.{ints}
use Rattle.amr_box.specs.Cells.{Extent, IsNear, has_child_where, holds}
use Rattle.amr_def.specs.Facts.{IsAligned}
use Rattle.amr_def.specs.State.{children_mass, is_covered}
use Rattle.amr_patch.specs.declared.patches.Patch.{Patch}
use Rattle.amr_patch.specs.Patches.{box, in_patches, masses_in}
use Rattle.amr_transfer.specs.Sums.{children_in}
use Rattle.amr_transfer.proofs.Covers.{child_in_reach, no_child_before}
use Rattle.amr_transfer.proofs.Fours.{child_more, children_are, covered_in, four_of_first, has_four}
use Rattle.amr_transfer.proofs.GivenCells.{given_as, given_more, given_none}
use Rattle.amr_transfer.proofs.covered.cover_patch.Goals as goal

pub refine2-b-requires : goal.refine2-b-requires
refine2-b-requires c = subst (λ (b : Extent). IsNear b) (sym c.bx.ensures.value) c.bx.ensures.near

pub loop-k-init : goal.loop-k-init
loop-k-init c =
    let fine = c.args.fine.now in
    given_none (has_child_where (in_patches (take c.reach_of-from.result.0 fine))) (children_mass (masses_in fine)) c.args.patch.now
    (λ d h. no_child_before (box c.args.patch.now) fine c.reach_of-from.result.0 _ d c.reach_of-from.ensures.below (omega (arith, c.reach_of-from.ensures.range, c.reach_of-from.ensures.within)) (omega (arith, ints, c.lo.ensures.y, c.refine2-b.ensures.corners.south_is, ap (λ (b : Extent). b.lo.y) c.bx.ensures.value)) h)

pub cover_by-requires-clause-aligned : goal.cover_by-requires-clause-aligned
cover_by-requires-clause-aligned c =
    let there : c.loop-k.k < length c.args.fine.now = omega (arith, c.loop-k-test.true, c.reach_of-from.ensures.within) in
    subst (λ (p : Patch). IsAligned 2 (box p)) (sym c.index-fine-k.is) (c.requires.coarsenable c.loop-k.k c.index-fine-k.result there)

pub cover_by-requires-clause-small : goal.cover_by-requires-clause-small
cover_by-requires-clause-small c d h =
    let fine = c.args.fine.now in
    let k = c.loop-k.k in
    let q = c.index-fine-k.result in
    let there : k < length fine = omega (arith, c.loop-k-test.true, c.reach_of-from.ensures.within) in
    let aligned = subst (λ (p : Patch). IsAligned 2 (box p)) (sym c.index-fine-k.is) (c.requires.coarsenable k q there) in
    let is = children_are fine k q d c.requires.apart there c.index-fine-k.is (four_of_first q d aligned h) in
    subst (λ (m : ℕ). m < 2 ^ 32) (sym is) (c.requires.small d)

pub loop-k-preserved : goal.loop-k-preserved
loop-k-preserved c =
    let fine = c.args.fine.now in
    let k = c.loop-k.k in
    let q = c.index-fine-k.result in
    let m = children_mass (masses_in fine) in
    let there : k < length fine = omega (arith, c.loop-k-test.true, c.reach_of-from.ensures.within) in
    let aligned = subst (λ (p : Patch). IsAligned 2 (box p)) (sym c.index-fine-k.is) (c.requires.coarsenable k q there) in
    given_more (has_child_where (in_patches (take k fine))) (has_child_where (holds (box q))) (has_child_where (in_patches (take (k + 1) fine))) m c.args.patch.now c.loop-k.patch c.cover_by.new.patch c.loop-k.invariant
    (given_as (has_child_where (holds (box q))) (has_child_where (holds (box q))) (children_in q) m c.loop-k.patch c.cover_by.new.patch (λ d h. refl) (λ d h on. children_are fine k q d c.requires.apart there c.index-fine-k.is (has_four q d aligned on)) c.cover_by.ensures)
    (λ d. child_more fine k q d there c.index-fine-k.is)

pub returns : goal.returns
returns c =
    let fine = c.args.fine.now in
    let k = c.loop-k.k in
    let m = children_mass (masses_in fine) in
    let whole : k ≡ c.reach_of-from.result.1 = omega (arith, c.loop-k.auto.k-end, c.loop-k-test.false, c.reach_of-from.ensures.range) in
    given_as (has_child_where (in_patches (take k fine))) (is_covered (masses_in fine)) m m c.args.patch.now c.loop-k.patch
    (λ d h. covered_in fine d ∙ sym (child_in_reach (box c.args.patch.now) fine k _ d (λ j p le lt. c.reach_of-from.ensures.above j p (omega (arith, le, whole)) lt) (omega (arith, ints, c.hi.ensures.y, c.refine2-b.ensures.corners.north_is, ap (λ (b : Extent). b.hi.y) c.bx.ensures.value)) h))
    (λ d h on. refl)
    c.loop-k.invariant
