use Rattle.std.proofs.Common.{◌≡◌, ◌∙◌, List, length, map, sym, ap, subst}
use Rattle.std.specs.Vec.{with_items}
use Rattle.std.proofs.lemmas.List.{with_items_is}
use Rattle.amr_alike.proofs.Copying.{zip_boxes, zip_masses}
use Rattle.amr_patch.specs.declared.patches.Patch.{Patch}
use Rattle.amr_patch.specs.Orders.{IsOrderOf}
use Rattle.amr_patch.specs.Patches.{ArePatchesApart, box, masses_in}
use Rattle.amr_patch.proofs.SameBoxes.{apart_alike}
use Rattle.amr_patch.proofs.Standing.{order_of_boxes}
use Rattle.amr_advance.proofs.KeptMasses.{as_many}
use Rattle.amr_advance.proofs.before.keep_by_lots.Given as given
use Rattle.amr_advance.proofs.before.keep_by_lots.Goals.{After-keep_in_lots}
use Rattle.amr_advance.proofs.before.keep_by_lots.Goals as goal

-- ---- the patches of the level are those of before

same : (g : given.Over) (c : After-keep_in_lots g) → (with_items c.take_patches-patches.result c.keep_in_lots.new.patches).items ≡ c.take_patches-patches.result.items
same g c =
    let v = c.take_patches-patches.result in
    let back : c.keep_in_lots.new.patches ≡ v.items = c.keep_in_lots.ensures.patches ∙ c.deref_mut.ensures.value in
    with_items_is v c.keep_in_lots.new.patches (ap length back ∙ sym v.ok.0) ∙ back

-- ---- those that keep its masses

boxes : (g : given.Over) (c : After-keep_in_lots g) → map box c.keep_in_lots.new.before ≡ map box c.take_patches-copies.result.items
boxes g c = zip_boxes c.deref_mut.result.now c.keep_in_lots.new.before c.keep_in_lots.ensures.copied ∙ ap (map box) (c.deref_mut.ensures.value ∙ c.take_patches-patches.ensures.all) ∙ sym c.requires.boxes ∙ ap (map box) (sym c.take_patches-copies.ensures.all)

listed : (g : given.Over) (c : After-keep_in_lots g) → (with_items c.take_patches-copies.result c.keep_in_lots.new.before).items ≡ c.keep_in_lots.new.before
listed g c =
    let v = c.take_patches-copies.result in
    with_items_is v c.keep_in_lots.new.before (as_many v.items c.keep_in_lots.new.before (boxes g c) ∙ sym v.ok.0)

-- ---- the goals

pub keep_in_lots-requires-clause-boxes : goal.keep_in_lots-requires-clause-boxes
keep_in_lots-requires-clause-boxes g c κs within = ap (map box) (c.deref_mut-2.ensures.value ∙ c.take_patches-copies.ensures.all) ∙ c.requires.boxes ∙ ap (map box) (sym (c.deref_mut.ensures.value ∙ c.take_patches-patches.ensures.all))

pub put_patches_in_order-requires-clause-apart : goal.put_patches_in_order-requires-clause-apart
put_patches_in_order-requires-clause-apart g c =
    let at = goal.at.put_patches_in_order-requires-clause-apart g c in
    subst ArePatchesApart (sym (listed g at.After-keep_in_lots)) (apart_alike c.take_patches-copies.result.items c.keep_in_lots.new.before (boxes g at.After-keep_in_lots) c.take_patches-copies.ensures.apart)

pub put_patches_in_order-requires-clause-order : goal.put_patches_in_order-requires-clause-order
put_patches_in_order-requires-clause-order g c =
    let at = goal.at.put_patches_in_order-requires-clause-order g c in
    subst (IsOrderOf c.order-before_order.result) (sym (listed g at.After-keep_in_lots))
    (order_of_boxes c.order-before_order.result c.take_patches-copies.result.items c.keep_in_lots.new.before (boxes g at.After-keep_in_lots) (subst (IsOrderOf c.order-before_order.result) (sym c.take_patches-copies.ensures.all) c.order-before_order.ensures))

pub put_patches_in_order-requires-2-clause-apart : goal.put_patches_in_order-requires-2-clause-apart
put_patches_in_order-requires-2-clause-apart g c =
    let at = goal.at.put_patches_in_order-requires-2-clause-apart g c in
    subst ArePatchesApart (sym (same g at.After-keep_in_lots)) c.take_patches-patches.ensures.apart

pub put_patches_in_order-requires-2-clause-order : goal.put_patches_in_order-requires-2-clause-order
put_patches_in_order-requires-2-clause-order g c =
    let at = goal.at.put_patches_in_order-requires-2-clause-order g c in
    subst (IsOrderOf c.order-order.result) (sym (same g at.After-keep_in_lots ∙ c.take_patches-patches.ensures.all)) c.order-order.ensures

pub returns-clause-masses : goal.returns-clause-masses
returns-clause-masses g c =
    let at = goal.at.returns-clause-masses g c in
    c.put_patches_in_order.ensures.masses
    ∙ ap (λ (qs : List Patch). masses_in qs) (listed g at.After-keep_in_lots)
    ∙ zip_masses c.deref_mut.result.now c.keep_in_lots.new.before c.keep_in_lots.ensures.copied
    ∙ ap (λ (qs : List Patch). masses_in qs) c.deref_mut.ensures.value
    ∙ sym c.take_patches-patches.ensures.masses

pub returns-clause-patches : goal.returns-clause-patches
returns-clause-patches g c =
    let at = goal.at.returns-clause-patches g c in
    ap (map box) (c.put_patches_in_order.ensures.all ∙ listed g at.After-keep_in_lots) ∙ boxes g at.After-keep_in_lots ∙ ap (map box) c.take_patches-copies.ensures.all
