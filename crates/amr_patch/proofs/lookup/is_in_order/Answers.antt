use Rattle.std.proofs.Common.{◌≡◌, ◌∙◌, ◌-◌, refl, sym, ap, arith}
use Rattle.std.specs.Prelude.{slice_index_or}
use Rattle.amr_box.specs.Cells.{Extent}
use Rattle.amr_patch.specs.declared.patches.Patch.{Patch}
use Rattle.amr_patch.specs.Patches.{box}
use Rattle.amr_patch.specs.Orders.{comes_first}
use Rattle.amr_patch.proofs.Lookups.{same_default}
use Rattle.amr_patch.proofs.lookup.is_in_order.Goals as goal

pub returns-then-k-eq0 : goal.returns-then-k-eq0
returns-then-k-eq0 c = (λ t d lt. absurd (omega arith), λ f. refl)

pub returns : goal.returns
returns c =
    let ps = c.args.patches.now in
    let k = c.args.k in
    let some = c.if-k-eq0.false in
    let before : (d : Patch) → c.lo.result ≡ (box (slice_index_or ps (k - 1) d)).lo =
    λ d. c.lo.ensures.value ∙ ap (λ (b : Extent). b.lo) c.bx.ensures.value ∙ ap (λ (p : Patch). (box p).lo) (c.index-patches-k.is ∙ same_default ps (k - 1) c.index-patches-k.result d (omega arith)) in
    let after : (d : Patch) → c.lo-2.result ≡ (box (slice_index_or ps k d)).lo =
    λ d. c.lo-2.ensures.value ∙ ap (λ (b : Extent). b.lo) c.bx-2.ensures.value ∙ ap (λ (p : Patch). (box p).lo) (c.index-patches-k-2.is ∙ same_default ps k c.index-patches-k-2.result d (omega arith)) in
    let told : (d : Patch) → c.comes_first.result ≡ comes_first (box (slice_index_or ps (k - 1) d)).lo (box (slice_index_or ps k d)).lo =
    λ d. c.comes_first.ensures ∙ (λ i. comes_first (before d i) (after d i)) in
    (λ t d lt. sym (told d) ∙ t, λ f. told c.index-patches-k.result ∙ f c.index-patches-k.result (omega arith))
