use Rattle.std.proofs.Common.{◌≡◌, ◌∙◌, ◌<◌, ◌^◌, ℤ, List, length, ap, refl, subst, sym, arith}
use Rattle.std.specs.Prelude.{unsigned_abs}
use Rattle.std.specs.List.{All}
use Rattle.std.specs.Global.{Vec}
use Rattle.std.specs.Prelude.{slice_index_or}
use Rattle.std.proofs.lemmas.List.{with_items_is}
use Rattle.amr_register.specs.declared.edges.EdgeCell.{EdgeCell}
use Rattle.amr_register.specs.EdgeCells.{AreOnceBy, lists_of, number_of}
use Rattle.amr_register.specs.Entries.{entry_at}
use Rattle.amr_register.specs.Fields.{cells_in, edges_in, entry_in, sides_in}
use Rattle.amr_register.specs.Written.{AreAllWritten, by_number, without_net}
use Rattle.amr_register.proofs.EdgeLists.{same_edges_itself}
use Rattle.amr_register.proofs.EdgesTaken.{all_numbers, entry_taken}
use Rattle.amr_register.proofs.EntryLaws.{entry_of_place}
use Rattle.amr_register.proofs.Taken.{no_cell}
use Rattle.amr_register.proofs.Writes.{of_lists}
use Rattle.amr_register.proofs.register.Register.take_nets.Goals as goal

pub take_nets-requires-clause-numbers : goal.take_nets-requires-clause-numbers
unfolding cells_in edges_in
take_nets-requires-clause-numbers c =
    let self = c.args.self.now in
    subst (λ (vs : List (Vec EdgeCell)). All (All (λ e. e.number < length c.deref_mut.result.now)) (lists_of vs)) (sym c.deref.ensures.value)
    (all_numbers self.cells.items c.deref_mut.result.now (lists_of self.edges.items) (ap length c.deref_mut.ensures.value ∙ self.entry_count) c.requires.placed)

pub take_nets-requires-clause-once : goal.take_nets-requires-clause-once
unfolding cells_in edges_in
take_nets-requires-clause-once c = subst (λ (vs : List (Vec EdgeCell)). AreOnceBy number_of (lists_of vs)) (sym c.deref.ensures.value) c.requires.placed.once

pub take_nets-requires-clause-room : goal.take_nets-requires-clause-room
unfolding entry_in
take_nets-requires-clause-room c = λ k lt.
    let self = c.args.self.now in
    let inside : k < length self.cells.items = omega (arith, lt, ap length c.deref_mut.ensures.value, self.entry_count) in
    let is = entry_of_place self.cells.items self.entries.items k no_cell self.rising self.entry_count inside ∙ ap (λ (xs : List ℤ). by_number xs k) (sym c.deref_mut.ensures.value) in
    subst (λ (z : ℤ). unsigned_abs z < 2 ^ 62) is (c.requires.room (slice_index_or self.cells.items k no_cell))

pub returns-clause-taken : goal.returns-clause-taken
unfolding cells_in edges_in entry_in
returns-clause-taken c = λ flow flows q has.
    let self = c.args.self.now in
    let new = c.take_nets.new.entries in
    let xs = lists_of self.edges.items in
    let count : length new ≡ length self.cells.items = omega (arith, c.take_nets.auto.entries, ap length c.deref_mut.ensures.value, self.entry_count) in
    let whole = with_items_is self.entries new (omega (arith, c.take_nets.auto.entries, c.deref_mut.ensures.len)) in
    let wrote : AreAllWritten number_of without_net xs (by_number self.entries.items) (by_number new) (length xs) = subst (λ (es : List ℤ). AreAllWritten number_of without_net xs (by_number es) (by_number new) (length xs)) c.deref_mut.ensures.value
    (of_lists number_of without_net c.deref.result.now self.edges.items (by_number c.deref_mut.result.now) (by_number new) c.deref.ensures.value c.take_nets.ensures) in
    ap (λ (es : List ℤ). entry_at self.cells.items es q) whole
    ∙ entry_taken self.cells.items self.entries.items new xs flow self.rising self.entry_count count c.requires.placed flows wrote q has

pub returns-clause-cells : goal.returns-clause-cells
unfolding cells_in sides_in edges_in
returns-clause-cells c = record { cells = refl; sides = refl; edges = same_edges_itself _ }
