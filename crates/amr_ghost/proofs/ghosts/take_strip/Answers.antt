use Rattle.std.proofs.Common.{◌≡◌, ℕ, ◌<◌, List, length, sym, ap, ◌∙◌, arith, rules}
use Rattle.std.specs.Prelude.{slice_index}
use Rattle.amr_patch.specs.declared.patches.PatchData.{PatchData}
use Rattle.amr_patch.specs.Patches.{box}
use Rattle.amr_patch.proofs.Entries.{in_grown}
use Rattle.amr_ghost.specs.Strips.{nth_place, step}
use Rattle.amr_ghost.proofs.StripPlaces.{entry_is, nth_is, within_values}
use Rattle.amr_ghost.proofs.Spans.{begins_in_box}
use Rattle.amr_ghost.proofs.ghosts.take_strip.Goals as goal

pub entries_of-source-requires-clause-inside : goal.entries_of-source-requires-clause-inside
entries_of-source-requires-clause-inside c =
    let some : 0 < length c.args.masses.now = search (arith, rules) in
    begins_in_box (box c.args.patch.now) c.bx.result c.args.axis c.args.from c.bx.ensures.value (c.requires.held 0 some)

pub take_entries-requires-clause-within : goal.take_entries-requires-clause-within
take_entries-requires-clause-within c =
    let q = c.args.patch.now in
    let e = c.entries_of-source.result in
    within_values q e c.args.axis c.args.from (length c.args.masses.now)
    (nth_is (box q) c.bx.result e c.args.axis c.args.from c.bx.ensures.value c.entries_of-source.ensures.places)
    (λ j u. in_grown (box q) (step c.args.axis c.args.from j) (c.requires.held j u))
    c.deref.result.now (c.deref.ensures.value ∙ ap (λ (d : PatchData). d.values.items) c.deref-data.ensures)

pub returns-clause-taken : goal.returns-clause-taken
returns-clause-taken c k t =
    let q = c.args.patch.now in
    let e = c.entries_of-source.result in
    let values : c.deref.result.now ≡ q.data.value.values.items = c.deref.ensures.value ∙ ap (λ (d : PatchData). d.values.items) c.deref-data.ensures in
    entry_is q c.bx.result (step c.args.axis c.args.from k) (nth_place e k) (slice_index c.take_entries.new.masses k) (sym c.bx.ensures.value) (c.entries_of-source.ensures.places k)
    (c.take_entries.ensures.taken k t ∙ ap (λ (xs : List ℕ). slice_index xs (nth_place e k)) values)
