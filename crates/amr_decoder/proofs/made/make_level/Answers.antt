use Rattle.std.proofs.Common.{◌≡◌, ◌∙◌, Bool, List, cond, map, ap, sym, subst}
use Rattle.std.specs.Prelude.{IsTrue, is_some}
use Rattle.std.specs.List.{flat_map}
use Rattle.std.specs.List.Sorted.{IsPermutation}
use Rattle.std.specs.declared.option.Option.{Option}
use Rattle.std.specs.declared.option.Option.TheVariants.{None, Some}
use Rattle.std.proofs.lemmas.List.{with_items_is}
use Rattle.std.proofs.Common.{ℕ}
use Rattle.amr_box.specs.declared.Cell.{Cell}
use Rattle.amr_box.specs.Cells.{Extent, in_boxes}
use Rattle.amr_boxlist.specs.Chopped.{chopped}
use Rattle.amr_def.specs.State.{Masses}
use Rattle.amr_patch.specs.declared.patches.Patch.{Patch}
use Rattle.amr_patch.specs.Levels.{level_of, patches_of}
use Rattle.amr_patch.specs.Orders.{IsOrderOf}
use Rattle.amr_patch.specs.Patches.{ArePatchesApart, box, in_patches, masses_in}
use Rattle.amr_patch.proofs.Standing.{order_of_boxes}
use Rattle.amr_decoder.specs.Filled.{AreGridsSet}
use Rattle.amr_decoder.specs.Grids.{boxes_of, grid_of}
use Rattle.amr_patch.proofs.SameBoxes.{apart_alike}
use Rattle.amr_decoder.proofs.GridBoxes.{in_from_some, made_level}
use Rattle.amr_decoder.proofs.made.make_level.Goals as goal

pub fill_boxes-requires-clause-order : goal.fill_boxes-requires-clause-order
fill_boxes-requires-clause-order c =
    subst (λ (ps : List Patch). IsOrderOf c.order-order.result ps) (sym (c.deref_mut.ensures.value ∙ c.take_patches-patches.ensures.all)) c.order-order.ensures

pub fill_boxes-requires-clause-apart : goal.fill_boxes-requires-clause-apart
fill_boxes-requires-clause-apart c = subst (λ (ps : List Patch). ArePatchesApart ps) (sym c.deref_mut.ensures.value) c.take_patches-patches.ensures.apart

pub fill_boxes-requires-clause-cells : goal.fill_boxes-requires-clause-cells
fill_boxes-requires-clause-cells c d h =
    let ps = c.take_patches-patches.result.items in
    let is = ap (λ (m : Masses). m d) (sym c.take_patches-patches.ensures.masses) ∙ c.in_ok-level.ensures.masses d in
    subst (λ (qs : List Patch). IsTrue (in_patches qs d)) (sym c.deref_mut.ensures.value) (in_from_some ps d (ap (λ (o : Option ℕ). is_some o) is ∙ ap (λ (t : Bool). is_some (cond {A = Option ℕ} t (Some 0) None)) h))

pub put_patches_in_order-requires-clause-apart : goal.put_patches_in_order-requires-clause-apart
put_patches_in_order-requires-clause-apart c =
    let ps = c.take_patches-patches.result.items in
    let new = c.fill_boxes.new.patches in
    let items = with_items_is c.take_patches-patches.result new (c.fill_boxes.auto.patches ∙ c.deref_mut.ensures.len) in
    let boxes = c.in_ok-fill_boxes.ensures.boxes ∙ ap (map box) c.deref_mut.ensures.value in
    subst (λ (qs : List Patch). ArePatchesApart qs) (sym items) (apart_alike ps new boxes c.take_patches-patches.ensures.apart)

pub put_patches_in_order-requires-clause-order : goal.put_patches_in_order-requires-clause-order
put_patches_in_order-requires-clause-order c =
    let ps = c.take_patches-patches.result.items in
    let new = c.fill_boxes.new.patches in
    let items = with_items_is c.take_patches-patches.result new (c.fill_boxes.auto.patches ∙ c.deref_mut.ensures.len) in
    let boxes = c.in_ok-fill_boxes.ensures.boxes ∙ ap (map box) c.deref_mut.ensures.value in
    let order = subst (λ (qs : List Patch). IsOrderOf c.order-order.result qs) (sym c.take_patches-patches.ensures.all) c.order-order.ensures in
    subst (λ (qs : List Patch). IsOrderOf c.order-order.result qs) (sym items) (order_of_boxes c.order-order.result ps new boxes order)

pub returns-clause-level : goal.returns-clause-level
returns-clause-level c =
    let gs = c.args.grids.now in
    let bytes = c.args.bytes.now in
    let ps = c.take_patches-patches.result.items in
    let new = c.fill_boxes.new.patches in
    let items = with_items_is c.take_patches-patches.result new (c.fill_boxes.auto.patches ∙ c.deref_mut.ensures.len) in
    let filled : AreGridsSet (map (grid_of bytes) gs) ps new = subst (λ (qs : List Patch). AreGridsSet (map (grid_of bytes) gs) qs new) c.deref_mut.ensures.value c.in_ok-fill_boxes.ensures in
    let blank : (d : Cell) → masses_in ps d ≡ cond {A = Option ℕ} (in_boxes (boxes_of gs) d) (Some 0) None = λ d. ap (λ (m : Masses). m d) (sym c.take_patches-patches.ensures.masses) ∙ c.in_ok-level.ensures.masses d in
    let boxes = c.put_patches_in_order.ensures.boxes ∙ c.take_patches-patches.ensures.boxes ∙ c.in_ok-level.ensures.boxes in
    made_level bytes gs ps new (level_of c.put_patches_in_order.new.self) boxes (c.put_patches_in_order.ensures.masses ∙ ap masses_in items) blank filled

pub returns-clause-chopped : goal.returns-clause-chopped
returns-clause-chopped c =
    let ps = c.take_patches-patches.result.items in
    let new = c.fill_boxes.new.patches in
    let items = with_items_is c.take_patches-patches.result new (c.fill_boxes.auto.patches ∙ c.deref_mut.ensures.len) in
    let same = ap (map box) c.put_patches_in_order.ensures.all ∙ ap (map box) items ∙ c.in_ok-fill_boxes.ensures.boxes ∙ ap (map box) c.deref_mut.ensures.value ∙ ap (map box) c.take_patches-patches.ensures.all in
    let boxes = c.put_patches_in_order.ensures.boxes ∙ c.take_patches-patches.ensures.boxes in
    record {
      patches = subst (λ (bs : List Extent). IsPermutation (flat_map (chopped c.args.max) bs) (map box (patches_of c.put_patches_in_order.new.self))) (sym boxes)
          (subst (λ (bs : List Extent). IsPermutation (flat_map (chopped c.args.max) (level_of c.in_ok-level.level).boxes) bs) (sym same) c.in_ok-level.ensures.chopped.patches);
    }
