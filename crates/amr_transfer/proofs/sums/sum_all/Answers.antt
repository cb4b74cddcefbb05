use Rattle.std.proofs.Common.{◌∙◌, ℕ, ◌+◌, ◌<◌, ◌^◌, List, take, refl, sym, ap, subst}
use Rattle.std.proofs.lemmas.List.{take_all}
use Rattle.std.proofs.lemmas.List.Folds.{list_any_at}
use Rattle.amr_box.specs.Cells.{has_child_where, holds}
use Rattle.amr_def.specs.Facts.{IsAligned}
use Rattle.amr_def.specs.State.{children_mass}
use Rattle.amr_patch.specs.declared.patches.Patch.{Patch}
use Rattle.amr_patch.specs.Pairwise.{Pairwise}
use Rattle.amr_patch.specs.Patches.{box, in_patches, masses_in}
use Rattle.amr_patch.proofs.Keeping.{kept_apart, kept_order}
use Rattle.amr_transfer.specs.Given.{IsGiven}
use Rattle.amr_transfer.specs.Sums.{children_in}
use Rattle.amr_transfer.proofs.Fours.{child_more, children_are, four_of_first, has_four}
use Rattle.amr_transfer.proofs.PatchLists.{all_as, all_kept, all_more, all_none, kept_in}
use Rattle.amr_transfer.proofs.sums.sum_all.Goals as goal

pub loop-q-init : goal.loop-q-init
loop-q-init c = all_none (has_child_where (in_patches (take 0 c.args.fine.now))) (children_mass (masses_in c.args.fine.now)) c.args.patches.now (λ d. refl)

pub sum_patch-requires-clause-order : goal.sum_patch-requires-clause-order
sum_patch-requires-clause-order c = kept_order c.args.order c.args.patches.now c.loop-q.patches (all_kept (has_child_where (in_patches (take c.loop-q.q-index c.args.fine.now))) (children_mass (masses_in c.args.fine.now)) c.args.patches.now c.loop-q.patches c.loop-q.invariant) c.requires.order

pub sum_patch-requires-clause-apart : goal.sum_patch-requires-clause-apart
sum_patch-requires-clause-apart c = kept_apart c.args.patches.now c.loop-q.patches (all_kept (has_child_where (in_patches (take c.loop-q.q-index c.args.fine.now))) (children_mass (masses_in c.args.fine.now)) c.args.patches.now c.loop-q.patches c.loop-q.invariant) c.requires.apart

pub sum_patch-requires-clause-aligned : goal.sum_patch-requires-clause-aligned
sum_patch-requires-clause-aligned c = subst (λ (p : Patch). IsAligned 2 (box p)) (sym c.q-item.is) (c.requires.coarsenable c.loop-q.q-index c.q-item.result c.loop-q-test.true)

pub sum_patch-requires-clause-parents : goal.sum_patch-requires-clause-parents
sum_patch-requires-clause-parents c d h =
    let fine = c.args.fine.now in
    kept_in c.args.patches.now c.loop-q.patches _ (all_kept (has_child_where (in_patches (take c.loop-q.q-index fine))) (children_mass (masses_in fine)) c.args.patches.now c.loop-q.patches c.loop-q.invariant)
    ∙ c.requires.parents d (list_any_at (λ (p : Patch). holds (box p) d) fine c.loop-q.q-index c.q-item.result c.loop-q-test.true (ap (λ (p : Patch). holds (box p) d) (sym c.q-item.is) ∙ h))

pub sum_patch-requires-clause-small : goal.sum_patch-requires-clause-small
sum_patch-requires-clause-small c d h =
    let aligned = subst (λ (p : Patch). IsAligned 2 (box p)) (sym c.q-item.is) (c.requires.coarsenable c.loop-q.q-index c.q-item.result c.loop-q-test.true) in
    let is = children_are c.args.fine.now c.loop-q.q-index c.q-item.result d c.requires.fine_apart c.loop-q-test.true c.q-item.is (four_of_first c.q-item.result d aligned h) in
    subst (λ (m : ℕ). m < 2 ^ 32) (sym is) (c.requires.small d)

pub loop-q-preserved : goal.loop-q-preserved
loop-q-preserved c =
    let fine = c.args.fine.now in
    let k = c.loop-q.q-index in
    let q = c.q-item.result in
    let m = children_mass (masses_in fine) in
    let aligned = subst (λ (p : Patch). IsAligned 2 (box p)) (sym c.q-item.is) (c.requires.coarsenable k q c.loop-q-test.true) in
    all_more (has_child_where (in_patches (take k fine))) (has_child_where (holds (box q))) (has_child_where (in_patches (take (k + 1) fine))) m c.args.patches.now c.loop-q.patches c.sum_patch.new.patches c.loop-q.invariant
    (all_as (has_child_where (holds (box q))) (has_child_where (holds (box q))) (children_in q) m c.loop-q.patches c.sum_patch.new.patches (λ d. refl) (λ d on. children_are fine k q d c.requires.fine_apart c.loop-q-test.true c.q-item.is (has_four q d aligned on)) c.sum_patch.ensures)
    (λ d. child_more fine k q d c.loop-q-test.true c.q-item.is)

pub returns : goal.returns
returns c =
    let fine = c.args.fine.now in
    subst (λ (qs : List Patch). Pairwise (IsGiven (has_child_where (in_patches qs)) (children_mass (masses_in fine))) c.args.patches.now c.loop-q.patches) (take_all c.loop-q.q-index fine c.loop-q-test.false) c.loop-q.invariant
