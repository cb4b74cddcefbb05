use Rattle.std.proofs.Common.{◌≡◌, ◌∙◌, ◌<◌, ◌^◌, ℕ, ℤ, [], List, pos, ◌≤ℤ◌, ◌<ℤ◌, ap, arith, get_or, length, subst, sym}
use Rattle.std.specs.List.{All}
use Rattle.std.specs.Global.{Vec}
use Rattle.std.proofs.lemmas.List.{length-map}
use Rattle.amr_patch.specs.Patches.{box}
use Rattle.amr_register.specs.declared.edges.EdgeCell.{EdgeCell}
use Rattle.amr_register.specs.EdgeCells.{AreEdgesIn, cell_of, lists_of}
use Rattle.amr_register.specs.Fields.{cells_in, edges_in, entry_in}
use Rattle.amr_register.specs.Written.{AreKeysApart, AreWritten, own_mass, with_entry}
use Rattle.amr_register.proofs.CellLists.{is_or_not}
use Rattle.amr_register.proofs.EdgesTaken.{all_numbers}
use Rattle.amr_register.proofs.NetLists.{list_of}
use Rattle.amr_register.proofs.Numbers.{cells_once}
use Rattle.amr_register.proofs.PatchRefluxes.{patch_refluxed, each_sum}
use Rattle.amr_register.proofs.Writes.{keys_apart}
use Rattle.amr_register.proofs.register.Register.reflux_patch.Goals as goal

-- the list of a vector at a place
list_at : (vs : List (Vec EdgeCell)) (k : ℕ) (v : Vec EdgeCell) → k < length (lists_of vs) → v ≡ get_or vs k v → v.items ≡ get_or (lists_of vs) k []
list_at vs k v lt is = list_of vs k v (omega (arith, lt, length-map vs (λ (w : Vec EdgeCell). w.items))) is

pub add_in_patch-requires-clause-of_patch : goal.add_in_patch-requires-clause-of_patch
unfolding edges_in
add_in_patch-requires-clause-of_patch c =
    let list = c.deref.ensures.value ∙ list_at c.args.self.now.edges.items c.args.k c.index.result.now c.requires.place.inside c.index.ensures in
    subst (AreEdgesIn (box c.args.patch.now)) (sym list) c.requires.place.cells

pub add_in_patch-requires-clause-numbers : goal.add_in_patch-requires-clause-numbers
unfolding cells_in edges_in
add_in_patch-requires-clause-numbers c =
    let self = c.args.self.now in
    let list = c.deref.ensures.value ∙ list_at self.edges.items c.args.k c.index.result.now c.requires.place.inside c.index.ensures in
    let count = ap length c.deref-2.ensures.value ∙ self.entry_count in
    subst (All (λ (e : EdgeCell). e.number < length c.deref-2.result.now)) (sym list)
    (all_numbers self.cells.items c.deref-2.result.now (lists_of self.edges.items) count c.requires.placed c.args.k [] c.requires.place.inside)

pub add_in_patch-requires-clause-once : goal.add_in_patch-requires-clause-once
unfolding cells_in edges_in
add_in_patch-requires-clause-once c =
    let self = c.args.self.now in
    let xs = lists_of self.edges.items in
    let list = c.deref.ensures.value ∙ list_at self.edges.items c.args.k c.index.result.now c.requires.place.inside c.index.ensures in
    subst (AreKeysApart cell_of) (sym list) (keys_apart cell_of xs c.args.k (cells_once self.cells.items xs self.rising c.requires.placed) c.requires.place.inside)

pub add_in_patch-requires-clause-kept : goal.add_in_patch-requires-clause-kept
unfolding cells_in edges_in entry_in
add_in_patch-requires-clause-kept c =
    let self = c.args.self.now in
    let list = c.deref.ensures.value ∙ list_at self.edges.items c.args.k c.index.result.now c.requires.place.inside c.index.ensures in
    let of_patch = subst (AreEdgesIn (box c.args.patch.now)) (sym list) c.requires.place.cells in
    each_sum self.cells.items self.entries.items (lists_of self.edges.items) c.args.k self.rising self.entry_count c.requires.placed c.requires.place.inside (λ z. pos 0 ≤ℤ z) c.args.patch.now c.deref.result.now c.deref-2.result.now
    list c.deref-2.ensures.value c.requires.kept of_patch

pub add_in_patch-requires-clause-fits : goal.add_in_patch-requires-clause-fits
unfolding cells_in edges_in entry_in
add_in_patch-requires-clause-fits c =
    let self = c.args.self.now in
    let list = c.deref.ensures.value ∙ list_at self.edges.items c.args.k c.index.result.now c.requires.place.inside c.index.ensures in
    let of_patch = subst (AreEdgesIn (box c.args.patch.now)) (sym list) c.requires.place.cells in
    each_sum self.cells.items self.entries.items (lists_of self.edges.items) c.args.k self.rising self.entry_count c.requires.placed c.requires.place.inside (λ z. z <ℤ pos (2 ^ 32)) c.args.patch.now c.deref.result.now c.deref-2.result.now
    list c.deref-2.ensures.value c.requires.fits of_patch

pub returns-clause-masses : goal.returns-clause-masses
unfolding cells_in edges_in entry_in
returns-clause-masses c = λ q held.
    let self = c.args.self.now in
    let xs = lists_of self.edges.items in
    let k = c.args.k in
    let old = own_mass c.args.patch.now in
    let new = own_mass c.add_in_patch.new.patch in
    let list = c.deref.ensures.value ∙ list_at self.edges.items k c.index.result.now c.requires.place.inside c.index.ensures in
    let by_entries : AreWritten cell_of (with_entry self.entries.items) c.deref.result.now old new (length c.deref.result.now) = subst (λ (es : List ℤ). AreWritten cell_of (with_entry es) c.deref.result.now old new (length c.deref.result.now)) c.deref-2.ensures.value c.add_in_patch.ensures.masses in
    let wrote : AreWritten cell_of (with_entry self.entries.items) (get_or xs k []) old new (length (get_or xs k [])) = subst (λ (es : List EdgeCell). AreWritten cell_of (with_entry self.entries.items) es old new (length es)) list by_entries in
    patch_refluxed self.cells.items self.entries.items xs k self.rising self.entry_count c.requires.placed c.requires.place.inside c.args.patch.now c.add_in_patch.new.patch c.requires.place.others c.add_in_patch.ensures.kept.of_box wrote q held (is_or_not q self.cells.items)
