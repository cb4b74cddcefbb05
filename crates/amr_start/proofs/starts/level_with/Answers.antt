use Rattle.std.proofs.Common.{◌≡◌, ◌∙◌, ◌∷◌, [], List, ℕ, cond, map, ap, sym, subst}
use Rattle.std.specs.List.{All, AllZip}
use Rattle.std.specs.List.Sorted.{IsPermutation}
use Rattle.std.specs.declared.option.Option.{Option}
use Rattle.std.specs.declared.option.Option.TheVariants.{None, Some}
use Rattle.std.proofs.lemmas.List.{with_items_is}
use Rattle.amr_box.specs.declared.Cell.{Cell}
use Rattle.amr_box.specs.Cells.{Extent, holds}
use Rattle.amr_boxlist.specs.Chopped.{chopped}
use Rattle.amr_def.specs.State.{Masses}
use Rattle.amr_patch.specs.declared.patches.Patch.{Patch}
use Rattle.amr_patch.specs.Patches.{ArePatchesApart, box, masses_in}
use Rattle.amr_start.specs.Placed.{HasBoxOf, LiesInBox}
use Rattle.amr_start.specs.PatchBoxes.{IsBoxChopped}
use Rattle.amr_start.specs.Rows.{box_of, masses_on}
use Rattle.amr_start.proofs.Placing.{all_lie_in, all_masses, off_box, zip_apart, zip_boxes}
use Rattle.amr_start.proofs.starts.level_with.Goals as goal

pub place_all-requires-clause-inside : goal.place_all-requires-clause-inside
place_all-requires-clause-inside c =
    let b = box_of c.args.columns c.args.rows in
    let ps = c.take_patches-patches.result.items in
    let blank : (d : Cell) → masses_in ps d ≡ cond {A = Option ℕ} (holds b d) (Some 0) None = λ d. ap (λ (m : Masses). m d) (sym c.take_patches-patches.ensures.masses) ∙ c.in_ok-level.ensures.masses d ∙ ap (λ (e : Extent). cond {A = Option ℕ} (holds e d) (Some 0) None) c.whole_box.ensures.value in
    subst (λ (qs : List Patch). All (LiesInBox b) qs) (sym c.deref_mut.ensures.value) (all_lie_in b ps blank)

pub put_patches-requires : goal.put_patches-requires
put_patches-requires c =
    let ps = c.take_patches-patches.result.items in
    let new = c.place_all.new.patches in
    let items = with_items_is c.take_patches-patches.result new (c.place_all.auto.patches ∙ c.deref_mut.ensures.len) in
    let zip : AllZip HasBoxOf ps new = subst (λ (qs : List Patch). AllZip HasBoxOf qs new) c.deref_mut.ensures.value c.place_all.ensures.boxes in
    subst (λ (qs : List Patch). ArePatchesApart qs) (sym items) (zip_apart ps new zip c.take_patches-patches.ensures.apart)

pub returns-clause-boxes : goal.returns-clause-boxes
returns-clause-boxes c = c.put_patches.ensures.boxes ∙ c.take_patches-patches.ensures.boxes ∙ c.in_ok-level.ensures.boxes ∙ ap (λ (b : Extent). b ∷ []) c.whole_box.ensures.value

pub returns-clause-masses : goal.returns-clause-masses
returns-clause-masses c =
    let b = box_of c.args.columns c.args.rows in
    let ps = c.take_patches-patches.result.items in
    let new = c.place_all.new.patches in
    let items = with_items_is c.take_patches-patches.result new (c.place_all.auto.patches ∙ c.deref_mut.ensures.len) in
    let zip : AllZip HasBoxOf ps new = subst (λ (qs : List Patch). AllZip HasBoxOf qs new) c.deref_mut.ensures.value c.place_all.ensures.boxes in
    let blank : (d : Cell) → masses_in ps d ≡ cond {A = Option ℕ} (holds b d) (Some 0) None = λ d. ap (λ (m : Masses). m d) (sym c.take_patches-patches.ensures.masses) ∙ c.in_ok-level.ensures.masses d ∙ ap (λ (e : Extent). cond {A = Option ℕ} (holds e d) (Some 0) None) c.whole_box.ensures.value in
    c.put_patches.ensures.masses
    ∙ ap (λ (qs : List Patch). masses_in qs) items
    ∙ all_masses b ps blank (masses_on c.args.columns c.args.rows c.args.masses.now) new zip c.place_all.ensures.masses (off_box c.args.columns c.args.rows c.args.masses.now)

pub returns-clause-patches : goal.returns-clause-patches
returns-clause-patches c =
    let ps = c.take_patches-patches.result.items in
    let new = c.place_all.new.patches in
    let items = with_items_is c.take_patches-patches.result new (c.place_all.auto.patches ∙ c.deref_mut.ensures.len) in
    let zip : AllZip HasBoxOf ps new = subst (λ (qs : List Patch). AllZip HasBoxOf qs new) c.deref_mut.ensures.value c.place_all.ensures.boxes in
    let boxes = ap (map box) c.put_patches.ensures.all ∙ ap (map box) items ∙ zip_boxes ps new zip ∙ ap (map box) c.take_patches-patches.ensures.all in
    let blank = subst (λ (b : Extent). IsBoxChopped c.args.max b c.in_ok-level.level) c.whole_box.ensures.value c.in_ok-level.ensures.patches in
    record { patches = subst (λ (bs : List Extent). IsPermutation (chopped c.args.max (box_of c.args.columns c.args.rows)) bs) (sym boxes) blank.patches }
