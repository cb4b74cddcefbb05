use Rattle.std.proofs.Common.{◌∙◌, ◌^◌, pos, ◌+ℤ◌, ◌≤ℤ◌, ◌<ℤ◌, List, ap, map, sym, subst}
use Rattle.std.specs.List.{Contains}
use Rattle.std.proofs.lemmas.List.{with_items_is}
use Rattle.amr_box.specs.declared.Cell.{Cell}
use Rattle.amr_def.specs.State.{Masses, mass_of}
use Rattle.amr_patch.specs.declared.patches.Patch.{Patch}
use Rattle.amr_patch.specs.Levels.{patches_of}
use Rattle.amr_patch.specs.Orders.{IsOrderOf}
use Rattle.amr_patch.specs.Pairwise.{Pairwise}
use Rattle.amr_patch.specs.Patches.{ArePatchesApart, KeepsFrameAndFluxes, box, masses_in}
use Rattle.amr_patch.proofs.Keeping.{kept_apart, kept_order}
use Rattle.amr_register.specs.Fields.{HasEdgesOf, cells_in, entry_in}
use Rattle.amr_register.specs.Entries.{with_entries}
use Rattle.amr_register.proofs.register.Register.reflux.Goals as goal

pub reflux_all-requires-clause-fits : goal.reflux_all-requires-clause-fits
reflux_all-requires-clause-fits c =
    let self = c.args.self.now in
    subst (λ (m : Masses). (q : Cell) → Contains (cells_in self) q → (pos (mass_of m q) +ℤ entry_in self q) <ℤ pos (2 ^ 32)) (c.take_patches-patches.ensures.masses ∙ ap masses_in (sym c.deref_mut.ensures.value)) c.requires.fits

pub put_patches_in_order-requires-clause-apart : goal.put_patches_in_order-requires-clause-apart
put_patches_in_order-requires-clause-apart c =
    let new = c.reflux_all.new.patches in
    let items = with_items_is c.take_patches-patches.result new (c.reflux_all.auto.patches ∙ c.deref_mut.ensures.len) in
    let kept = subst (λ (qs : List Patch). Pairwise KeepsFrameAndFluxes qs new) c.deref_mut.ensures.value c.reflux_all.ensures.kept in
    subst (λ (qs : List Patch). ArePatchesApart qs) (sym items) (kept_apart c.take_patches-patches.result.items new kept c.take_patches-patches.ensures.apart)

pub put_patches_in_order-requires-clause-order : goal.put_patches_in_order-requires-clause-order
put_patches_in_order-requires-clause-order c =
    let new = c.reflux_all.new.patches in
    let items = with_items_is c.take_patches-patches.result new (c.reflux_all.auto.patches ∙ c.deref_mut.ensures.len) in
    let kept = subst (λ (qs : List Patch). Pairwise KeepsFrameAndFluxes qs new) (c.deref_mut.ensures.value ∙ c.take_patches-patches.ensures.all) c.reflux_all.ensures.kept in
    subst (λ (qs : List Patch). IsOrderOf c.order-order.result qs) (sym items) (kept_order c.order-order.result (patches_of c.args.level.now) new kept c.order-order.ensures)

pub reflux_all-requires-clause-edges : goal.reflux_all-requires-clause-edges
reflux_all-requires-clause-edges c =
    subst (λ (qs : List Patch). HasEdgesOf (map box qs) c.args.self.now) (sym (c.deref_mut.ensures.value ∙ c.take_patches-patches.ensures.all)) c.requires.edges

pub reflux_all-requires-clause-apart : goal.reflux_all-requires-clause-apart
reflux_all-requires-clause-apart c = subst (λ (qs : List Patch). ArePatchesApart qs) (sym c.deref_mut.ensures.value) c.take_patches-patches.ensures.apart

pub reflux_all-requires-clause-kept : goal.reflux_all-requires-clause-kept
reflux_all-requires-clause-kept c =
    let self = c.args.self.now in
    subst (λ (m : Masses). (q : Cell) → Contains (cells_in self) q → pos 0 ≤ℤ (pos (mass_of m q) +ℤ entry_in self q)) (c.take_patches-patches.ensures.masses ∙ ap masses_in (sym c.deref_mut.ensures.value)) c.requires.kept

pub returns-clause-masses : goal.returns-clause-masses
returns-clause-masses c =
    let items = with_items_is c.take_patches-patches.result c.reflux_all.new.patches (c.reflux_all.auto.patches ∙ c.deref_mut.ensures.len) in
    c.put_patches_in_order.ensures.masses ∙ ap masses_in items ∙ c.reflux_all.ensures.masses ∙ ap (with_entries (entry_in c.args.self.now)) (ap masses_in c.deref_mut.ensures.value ∙ sym c.take_patches-patches.ensures.masses)

pub returns-clause-boxes : goal.returns-clause-boxes
returns-clause-boxes c = c.put_patches_in_order.ensures.boxes ∙ c.take_patches-patches.ensures.boxes

pub returns-clause-patches : goal.returns-clause-patches
returns-clause-patches c =
    let new = c.reflux_all.new.patches in
    let items = with_items_is c.take_patches-patches.result new (c.reflux_all.auto.patches ∙ c.deref_mut.ensures.len) in
    subst (λ (qs : List Patch). Pairwise KeepsFrameAndFluxes (patches_of c.args.level.now) qs) (sym (c.put_patches_in_order.ensures.all ∙ items))
    (subst (λ (qs : List Patch). Pairwise KeepsFrameAndFluxes qs new) (c.deref_mut.ensures.value ∙ c.take_patches-patches.ensures.all) c.reflux_all.ensures.kept)
