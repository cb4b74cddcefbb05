use Rattle.std.proofs.Common.{◌≡◌, ◌∙◌, map, sym, ap, subst, arith}
use Rattle.std.specs.Vec.{with_items}
use Rattle.std.proofs.lemmas.List.{with_items_is}
use Rattle.amr_patch.specs.Orders.{IsOrderOf}
use Rattle.amr_patch.specs.Patches.{ArePatchesApart, box, masses_in}
use Rattle.amr_patch.proofs.Standing.{order_of_boxes}
use Rattle.amr_patch.proofs.SameBoxes.{apart_alike, same_length}
use Rattle.amr_alike.proofs.copies.copy_masses.Goals as goal

-- the list after the patches were written
listed : (c : goal.After-put_patches_in_order-arg-1) → (with_items c.take_patches-patches.result c.copy_patches.new.to).items ≡ c.copy_patches.new.to
listed c = with_items_is c.take_patches-patches.result c.copy_patches.new.to (omega (arith, same_length c.copy_patches.new.to c.as_mut_slice.result.now c.copy_patches.ensures.boxes, c.as_mut_slice.ensures.len))

boxes : (c : goal.After-put_patches_in_order-arg-1) → map box c.copy_patches.new.to ≡ map box c.take_patches-patches.result.items
boxes c = c.copy_patches.ensures.boxes ∙ ap (map box) c.as_mut_slice.ensures.value

pub put_patches_in_order-requires-clause-apart : goal.put_patches_in_order-requires-clause-apart
put_patches_in_order-requires-clause-apart c = subst ArePatchesApart (sym (listed c)) (apart_alike c.take_patches-patches.result.items c.copy_patches.new.to (boxes c) c.take_patches-patches.ensures.apart)

pub put_patches_in_order-requires-clause-order : goal.put_patches_in_order-requires-clause-order
put_patches_in_order-requires-clause-order c =
    subst (IsOrderOf c.order-order.result) (sym (listed c)) (order_of_boxes c.order-order.result c.take_patches-patches.result.items c.copy_patches.new.to (boxes c) (subst (IsOrderOf c.order-order.result) (sym c.take_patches-patches.ensures.all) c.order-order.ensures))

pub copy_patches-requires : goal.copy_patches-requires
copy_patches-requires c = ap (map box) (c.as_mut_slice.ensures.value ∙ c.take_patches-patches.ensures.all) ∙ c.requires ∙ ap (map box) (sym c.patches.ensures.all)

pub returns-clause-masses : goal.returns-clause-masses
returns-clause-masses c =
    let items = with_items_is c.take_patches-patches.result c.copy_patches.new.to (c.copy_patches.auto.to ∙ c.as_mut_slice.ensures.len) in
    c.put_patches_in_order.ensures.masses ∙ ap masses_in items ∙ c.copy_patches.ensures.masses ∙ sym c.patches.ensures.masses

pub returns-clause-boxes : goal.returns-clause-boxes
returns-clause-boxes c = c.put_patches_in_order.ensures.boxes ∙ c.take_patches-patches.ensures.boxes

pub returns-clause-patches : goal.returns-clause-patches
returns-clause-patches c =
    let items = with_items_is c.take_patches-patches.result c.copy_patches.new.to (c.copy_patches.auto.to ∙ c.as_mut_slice.ensures.len) in
    ap (map box) (c.put_patches_in_order.ensures.all ∙ items) ∙ c.copy_patches.ensures.boxes ∙ ap (map box) (c.as_mut_slice.ensures.value ∙ c.take_patches-patches.ensures.all)
