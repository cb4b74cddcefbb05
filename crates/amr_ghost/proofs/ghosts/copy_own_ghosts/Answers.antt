use Rattle.std.proofs.Common.{List, false, refl, ap, ◌∙◌, ℕ}
use Rattle.std.specs.Prelude.{slice_index}
use Rattle.amr_patch.specs.declared.patches.PatchData.{PatchData}
use Rattle.amr_patch.specs.Patches.{box}
use Rattle.amr_patch.proofs.Entries.{in_grown}
use Rattle.amr_ghost.specs.Strips.{nth_place, step}
use Rattle.amr_ghost.proofs.StripPlaces.{entry_is, nth_is, within_values}
use Rattle.amr_ghost.proofs.SetGhosts.{box_elsewhere, in_lent_marks, in_lent_values, lent_places, lent_written}
use Rattle.amr_ghost.proofs.Spans.{begins_in_box, begins_in_frame}
use Rattle.amr_ghost.proofs.ghosts.copy_own_ghosts.Goals as goal

pub entries_of-taken-requires-clause-inside : goal.entries_of-taken-requires-clause-inside
entries_of-taken-requires-clause-inside c = begins_in_box (box c.args.patch.now) c.bx-bx.result c.args.strip.axis c.args.from c.bx-bx.ensures.value (c.requires.masses 0 c.requires.some)

pub entries_of-target-requires-clause-inside : goal.entries_of-target-requires-clause-inside
entries_of-target-requires-clause-inside c = begins_in_frame (box c.args.patch.now) c.bx-bx.result c.args.strip.axis c.args.strip.from c.bx-bx.ensures.value (c.requires.ghost_cells 0 c.requires.some)

pub copy_within_list-requires-clause-from_within : goal.copy_within_list-requires-clause-from_within
copy_within_list-requires-clause-from_within c =
    let b = box c.args.patch.now in
    let axis = c.args.strip.axis in
    let places = nth_is b c.bx-bx.result c.entries_of-taken.result axis c.args.from c.bx-bx.ensures.value c.entries_of-taken.ensures.places in
    within_values c.args.patch.now c.entries_of-taken.result axis c.args.from c.args.strip.count places
    (λ j u. in_grown b (step axis c.args.from j) (c.requires.masses j u))
    c.deref_mut.result.now (c.deref_mut.ensures.value ∙ ap (λ (d : PatchData). d.values.items) c.deref_mut-data.ensures.value)

pub copy_within_list-requires-clause-within : goal.copy_within_list-requires-clause-within
copy_within_list-requires-clause-within c = in_lent_values c.args.patch.now c.args.strip c.entries_of-target.result c.deref_mut-data.ensures.value c.bx-bx.ensures.value c.entries_of-target.ensures.places c.requires.ghost_cells c.deref_mut.ensures.value

pub copy_within_list-requires-clause-elsewhere : goal.copy_within_list-requires-clause-elsewhere
copy_within_list-requires-clause-elsewhere c j k t u =
    let q = c.args.patch.now in
    let strip = c.args.strip in
    let places = lent_places c.args.patch.now c.args.strip c.entries_of-target.result c.deref_mut-data.ensures.value c.bx-bx.ensures.value c.entries_of-target.ensures.places c.requires.ghost_cells in
    let sources = nth_is (box q) c.bx-bx.result c.entries_of-taken.result strip.axis c.args.from c.bx-bx.ensures.value c.entries_of-taken.ensures.places in
    box_elsewhere q c.entries_of-target.result strip.axis strip.from strip.count places c.requires.ghost_cells (step strip.axis c.args.from j) (nth_place c.entries_of-taken.result j) (sources j) (c.requires.masses j t) k u

pub fill_entries-requires-clause-within : goal.fill_entries-requires-clause-within
fill_entries-requires-clause-within c = in_lent_marks c.args.patch.now c.args.strip c.entries_of-target.result c.deref_mut-data.ensures.value c.bx-bx.ensures.value c.entries_of-target.ensures.places c.requires.ghost_cells c.deref_mut-2.ensures.value

pub returns : goal.returns
returns c =
    let d = c.args.patch.now in
    let e = c.entries_of-taken.result in
    let sources = nth_is (box d) c.bx-bx.result e c.args.strip.axis c.args.from c.bx-bx.ensures.value c.entries_of-taken.ensures.places in
    let read = λ (k : ℕ). entry_is d (box d) (step c.args.strip.axis c.args.from k) (nth_place e k) (slice_index c.deref_mut.result.now (nth_place e k)) refl (sources k) (ap (λ (xs : List ℕ). slice_index xs (nth_place e k)) (c.deref_mut.ensures.value ∙ ap (λ (d : PatchData). d.values.items) c.deref_mut-data.ensures.value)) in
    lent_written c.args.patch.now c.args.strip c.entries_of-target.result c.deref_mut-data.ensures.value c.bx-bx.ensures.value c.entries_of-target.ensures.places c.requires.ghost_cells _
    refl refl c.deref_mut.ensures.value c.deref_mut.ensures.len c.deref_mut-2.ensures.value c.deref_mut-2.ensures.len refl (λ k t. read k) c.copy_within_list.ensures (c.fill_entries.ensures false)
