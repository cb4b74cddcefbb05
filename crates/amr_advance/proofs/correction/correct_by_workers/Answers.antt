use Rattle.std.proofs.Common.{◌≡◌, ◌∙◌, ◌^◌, true, pos, ◌+ℤ◌, ◌≤ℤ◌, ◌<ℤ◌, List, map, sym, ap, subst}
use Rattle.std.specs.Prelude.{if◌then◌else◌, is_some}
use Rattle.std.specs.List.{All, Contains}
use Rattle.std.specs.Vec.{with_items}
use Rattle.std.proofs.lemmas.List.{with_items_is}
use Rattle.amr_box.specs.declared.Cell.{Cell}
use Rattle.amr_box.specs.Cells.{parent}
use Rattle.amr_def.specs.State.{Masses, mass_of}
use Rattle.amr_patch.specs.declared.patches.Patch.{Patch}
use Rattle.amr_patch.specs.Levels.{level_of}
use Rattle.amr_patch.specs.Orders.{IsOrderOf}
use Rattle.amr_patch.specs.Pairwise.{Pairwise}
use Rattle.amr_patch.specs.Patches.{ArePatchesApart, KeepsFrameAndFluxes, box, masses_in}
use Rattle.amr_patch.proofs.Keeping.{kept_apart, kept_boxes, kept_order}
use Rattle.amr_register.specs.declared.register.Register.{Register}
use Rattle.amr_register.specs.Entries.{with_entries}
use Rattle.amr_register.specs.Fields.{HasEdgesOf, cells_in, entry_in}
use Rattle.amr_transfer.specs.Sums.{summed}
use Rattle.amr_lots.specs.Corrections.{FitsEntries, finer_in, register_in}
use Rattle.amr_advance.specs.Lots.{StillServe}
use Rattle.amr_advance.proofs.Corrected.{corrected_level, fits_each, tried_kept}
use Rattle.amr_advance.proofs.correction.correct_by_workers.Given as given
use Rattle.amr_advance.proofs.correction.correct_by_workers.Goals.{After-correct_in_lots-done, After-deref_mut}
use Rattle.amr_advance.proofs.correction.correct_by_workers.Goals as goal

-- ---- the patches that were taken, and those that are put

taken : (g : given.Over) (c : After-deref_mut g) → (level_of c.args.level.now).masses ≡ masses_in c.deref_mut.result.now
taken g c = c.take_patches-patches.ensures.masses ∙ ap (λ (qs : List Patch). masses_in qs) (sym c.deref_mut.ensures.value)

put : (g : given.Over) (c : After-correct_in_lots-done g) → (with_items c.take_patches-patches.result c.correct_in_lots-done.new.patches).items ≡ c.correct_in_lots-done.new.patches
put g c = with_items_is c.take_patches-patches.result c.correct_in_lots-done.new.patches (c.correct_in_lots-done.auto.patches ∙ c.deref_mut.ensures.len)

kept : (g : given.Over) (c : After-correct_in_lots-done g) → Pairwise KeepsFrameAndFluxes c.take_patches-patches.result.items (with_items c.take_patches-patches.result c.correct_in_lots-done.new.patches).items
kept g c =
    let call = c.correct_in_lots-done.ensures in
    subst (Pairwise KeepsFrameAndFluxes c.take_patches-patches.result.items) (sym (put g c))
    (subst (λ (ps : List Patch). Pairwise KeepsFrameAndFluxes ps c.correct_in_lots-done.new.patches) c.deref_mut.ensures.value (tried_kept c.correct_in_lots-done.result c.in_ok-whole.whole c.deref_mut.result.now c.correct_in_lots-done.new.patches call.corrected call.same))

-- ---- the goals

pub correction_by-requires-clause-placed : goal.correction_by-requires-clause-placed
correction_by-requires-clause-placed g c = c.requires.may.placed

pub correction_by-requires-clause-coarsenable : goal.correction_by-requires-clause-coarsenable
correction_by-requires-clause-coarsenable g c = c.requires.may.coarsenable

pub correction_by-requires-clause-small : goal.correction_by-requires-clause-small
correction_by-requires-clause-small g c = c.requires.may.small

pub correct_in_lots-done-requires-clause-edges : goal.correct_in_lots-done-requires-clause-edges
correct_in_lots-done-requires-clause-edges g c κs within =
    subst (HasEdgesOf (map box c.deref_mut.result.now)) (sym c.in_ok-whole.ensures.register)
    (subst (λ (qs : List Patch). HasEdgesOf (map box qs) c.args.register) (sym (c.deref_mut.ensures.value ∙ c.take_patches-patches.ensures.all)) c.requires.may.edges)

pub correct_in_lots-done-requires-clause-fits : goal.correct_in_lots-done-requires-clause-fits
correct_in_lots-done-requires-clause-fits g c κs within =
    let r = c.args.register in
    let ps = c.deref_mut.result.now in
    let m = taken g (goal.at.correct_in_lots-done-requires-clause-fits g c).After-deref_mut in
    subst (λ (s : Register). All (FitsEntries s) ps) (sym c.in_ok-whole.ensures.register)
    (fits_each r ps (subst ArePatchesApart (sym c.deref_mut.ensures.value) c.take_patches-patches.ensures.apart)
    (subst (λ (n : Masses). (d : Cell) → Contains (cells_in r) d → pos 0 ≤ℤ (pos (mass_of n d) +ℤ entry_in r d)) m c.requires.may.not_negative)
    (subst (λ (n : Masses). (d : Cell) → Contains (cells_in r) d → (pos (mass_of n d) +ℤ entry_in r d) <ℤ pos (2 ^ 32)) m c.requires.may.fits))

pub put_patches_in_order-requires-clause-apart : goal.put_patches_in_order-requires-clause-apart
put_patches_in_order-requires-clause-apart g c =
    let v = c.take_patches-patches.result in
    kept_apart v.items (with_items v c.correct_in_lots-done.new.patches).items (kept g (goal.at.put_patches_in_order-requires-clause-apart g c).After-correct_in_lots-done) c.take_patches-patches.ensures.apart

pub put_patches_in_order-requires-clause-order : goal.put_patches_in_order-requires-clause-order
put_patches_in_order-requires-clause-order g c =
    let v = c.take_patches-patches.result in
    kept_order c.order-order.result v.items (with_items v c.correct_in_lots-done.new.patches).items (kept g (goal.at.put_patches_in_order-requires-clause-order g c).After-correct_in_lots-done)
    (subst (IsOrderOf c.order-order.result) (sym c.take_patches-patches.ensures.all) c.order-order.ensures)

pub returns-clause-tried : goal.returns-clause-tried
returns-clause-tried g c =
    let at = goal.at.returns-clause-tried g c in
    let whole = c.in_ok-whole.whole in
    let v = c.take_patches-patches.result in
    let ps = c.deref_mut.result.now in
    let m = taken g at.After-deref_mut in
    let fine : masses_in (finer_in whole) ≡ (level_of c.args.finer.now).masses = c.in_ok-whole.ensures.masses in
    let register : register_in whole ≡ c.args.register = c.in_ok-whole.ensures.register in
    let parents : (d : Cell) → is_some (masses_in (finer_in whole) d) ≡ true → is_some (masses_in ps (parent d)) ≡ true = subst (λ (n : Masses). (d : Cell) → is_some (masses_in (finer_in whole) d) ≡ true → is_some (n (parent d)) ≡ true) m
    (subst (λ (n : Masses). (d : Cell) → is_some (n d) ≡ true → is_some ((level_of c.args.level.now).masses (parent d)) ≡ true) (sym fine) c.requires.may.parents) in
    record {
      corrected = λ is_done.
          c.put_patches_in_order.ensures.masses
          ∙ ap (λ (qs : List Patch). masses_in qs) (put g at.After-correct_in_lots-done)
          ∙ corrected_level (masses_in (finer_in whole)) (entry_in (register_in whole)) ps c.correct_in_lots-done.new.patches parents (c.correct_in_lots-done.ensures.corrected is_done)
          ∙ (λ i. summed (fine i) (with_entries (entry_in (register i)) (sym m i)));
      same = λ undone.
          c.put_patches_in_order.ensures.masses
          ∙ ap (λ (qs : List Patch). masses_in qs) (put g at.After-correct_in_lots-done ∙ c.correct_in_lots-done.ensures.same undone)
          ∙ sym m;
      boxes = c.put_patches_in_order.ensures.boxes ∙ c.take_patches-patches.ensures.boxes;
      patches = ap (map box) c.put_patches_in_order.ensures.all
          ∙ kept_boxes v.items (with_items v c.correct_in_lots-done.new.patches).items (kept g at.After-correct_in_lots-done)
          ∙ ap (map box) c.take_patches-patches.ensures.all;
    }

pub returns-clause-lots : goal.returns-clause-lots
returns-clause-lots g c =
    let same = c.put_patches_in_order.ensures.masses ∙ ap (λ (qs : List Patch). masses_in qs) (put g (goal.at.returns-clause-lots g c).After-correct_in_lots-done) in
    subst (λ (m : Masses). StillServe (λ own. (if c.correct_in_lots-done.result then m else own)) c.args.lots.now c.correct_in_lots-done.new.lots) (sym same) c.correct_in_lots-done.ensures.lots
