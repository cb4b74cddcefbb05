use Rattle.std.proofs.Common.{ℕ, ◌+◌, ◌/◌, ◌<◌, List, length, IsTrue, sym, ap, subst, refl, ◌∙◌, arith}
use Rattle.std.specs.Prelude.{slice_index}
use Rattle.amr_box.specs.declared.Cell.{Cell}
use Rattle.amr_box.specs.Cells.{holds, parent}
use Rattle.amr_patch.specs.declared.patches.PatchData.{PatchData}
use Rattle.amr_patch.specs.Patches.{box}
use Rattle.amr_patch.proofs.Entries.{in_grown}
use Rattle.amr_ghost.specs.Strips.{nth_place, step}
use Rattle.amr_ghost.proofs.StripPlaces.{entry_in_list, entry_is}
use Rattle.amr_ghost.proofs.Parents.{parent_place}
use Rattle.amr_ghost.proofs.Spans.{first_ghost}
use Rattle.amr_ghost.proofs.outer.quarter_held.Goals as goal

pub entries_of-parents-requires-clause-inside : goal.entries_of-parents-requires-clause-inside
entries_of-parents-requires-clause-inside c =
    let b = box c.args.source.now in
    let held : IsTrue (holds b (parent c.args.from)) = first_ghost (λ (s : Cell). IsTrue (holds b (parent s))) c.args.axis c.args.from (c.requires.masses 0 c.requires.some) in
    rw (c.bx.ensures.value, c.parent.ensures.value) (in_grown b (parent c.args.from) held)

pub quarter_entries-requires-clause-from_within : goal.quarter_entries-requires-clause-from_within
quarter_entries-requires-clause-from_within c k t =
    let d = c.args.source.now in
    let f = parent (step c.args.axis c.args.from k) in
    let e = c.entries_of-parents.result in
    let at = nth_place e ((c.odd_along-skipped.result + k) / 2) in
    let place_at = parent_place d c.bx.result e c.args.axis c.args.from c.parent.result c.odd_along-skipped.result k c.bx.ensures.value c.parent.ensures.value c.odd_along-skipped.ensures c.entries_of-parents.ensures.places in
    subst (λ (xs : List ℕ). at < length xs) (sym (c.deref.ensures.value ∙ ap (λ (d : PatchData). d.values.items) c.deref-held.ensures)) (entry_in_list d f at place_at (in_grown (box d) f (c.requires.masses k t)))

pub returns-clause-quarters : goal.returns-clause-quarters
returns-clause-quarters c k t =
    let d = c.args.source.now in
    let e = c.entries_of-parents.result in
    let at = nth_place e ((c.odd_along-skipped.result + k) / 2) in
    let place_at = parent_place d c.bx.result e c.args.axis c.args.from c.parent.result c.odd_along-skipped.result k c.bx.ensures.value c.parent.ensures.value c.odd_along-skipped.ensures c.entries_of-parents.ensures.places in
    let read = entry_is d (box d) (parent (step c.args.axis c.args.from k)) at (slice_index c.deref.result.now at) refl place_at (ap (λ (xs : List ℕ). slice_index xs at) (c.deref.ensures.value ∙ ap (λ (d : PatchData). d.values.items) c.deref-held.ensures)) in
    ap (λ (i : ℕ). slice_index c.quarter_entries.new.values i) (omega arith) ∙ c.quarter_entries.ensures.written k t ∙ ap (λ (m : ℕ). m / 4) read
