use Rattle.std.proofs.Common.{◌≡◌, ◌∙◌, ◌-◌, ◌≤◌, refl, sym, ap, arith, below_more}
use Rattle.std.specs.Prelude.{slice_index_or}
use Rattle.amr_box.specs.Cells.{Extent, height}
use Rattle.amr_patch.specs.declared.patches.Patch.{Patch}
use Rattle.amr_patch.specs.Patches.{box}
use Rattle.amr_patch.proofs.Lookups.{rows_more, same_default}
use Rattle.amr_patch.proofs.lookup.order_of.Goals as goal
use Rattle.amr_patch.proofs.lookup.order_of.Goals.{then-sorted, else-sorted}

pub loop-k-init : goal.loop-k-init
loop-k-init c = record {
  rows = (λ t i j d g l. absurd (omega arith), λ r. refl);
  tallest = λ i d lt. absurd (omega arith);
  least = λ n h. omega arith;
}

pub loop-k-preserved : goal.loop-k-preserved
loop-k-preserved c =
    let ps = c.args.patches.now in
    let k = c.loop-k.k in
    let p = c.index-patches-k.result in
    let here : (d : Patch) → height (box (slice_index_or ps k d)) ≡ c.height.result =
    λ d. ap (λ (q : Patch). height (box q)) (same_default ps k d p (omega arith) ∙ sym c.index-patches-k.is) ∙ ap (λ (b : Extent). height b) (sym c.bx.ensures.value) ∙ sym c.height.ensures.value in
    let tall = below_more (λ i. (d : Patch) → height (box (slice_index_or ps i d)) ≤ c.max-tallest.result) k (λ i lt d. omega (arith, c.loop-k.invariant.tallest i d lt, c.max-tallest.ensures)) (λ d. omega (arith, here d, c.max-tallest.ensures)) in
    elim c.if-sorted.branch [
      | then-sorted w ↦ record {
        rows = (λ e. rows_more ps k (c.loop-k.invariant.rows.0 w.if-sorted.true) (w.is_in_order-sorted.ensures.0 (sym w.sorted-is ∙ e)), λ r. w.sorted-is ∙ w.is_in_order-sorted.ensures.1 (λ d lt. r (k - 1) k d (omega arith) (omega arith)));
        tallest = λ i d lt. tall i lt d;
        least = λ n h. omega (arith, c.loop-k.invariant.least n (λ i d lt. h i d (omega arith)), here p, h k p (omega arith), c.max-tallest.ensures);
      }
      | else-sorted w ↦ record {
        rows = (λ e. absurd (cc (w.sorted-is, w.if-sorted.false, e)), λ r. let t = c.loop-k.invariant.rows.1 (λ i j d g l. r i j d g (omega arith)) in absurd (cc (t, w.if-sorted.false)));
        tallest = λ i d lt. tall i lt d;
        least = λ n h. omega (arith, c.loop-k.invariant.least n (λ i d lt. h i d (omega arith)), here p, h k p (omega arith), c.max-tallest.ensures);
      }
    ]

pub returns : goal.returns
returns c = record {
  sorted = (λ s i j d g l. c.loop-k.invariant.rows.0 s i j d g (omega arith), λ r. c.loop-k.invariant.rows.1 (λ i j d g l. r i j d g (omega arith)));
  tallest = λ i d lt. c.loop-k.invariant.tallest i d (omega arith);
  least = λ n h. c.loop-k.invariant.least n (λ i d lt. h i d (omega arith));
}
