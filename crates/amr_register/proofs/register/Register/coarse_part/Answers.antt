use Rattle.std.proofs.Common.{◌≡◌, ◌∙◌, ◌<◌, ◌^◌, ℤ, pos, List, length, ap, refl, subst, sym, arith}
use Rattle.std.specs.Prelude.{slice_index_or, unsigned_abs}
use Rattle.amr_box.specs.declared.Cell.{Cell}
use Rattle.std.proofs.lemmas.List.{with_items_is}
use Rattle.amr_register.specs.CoarseFlows.{net_owned}
use Rattle.amr_register.specs.Entries.{entry_at}
use Rattle.amr_register.specs.Fields.{cells_in, edges_in, entry_in, sides_in}
use Rattle.amr_register.proofs.EdgeLists.{same_edges_itself}
use Rattle.amr_register.proofs.EntryLaws.{entry_of_place}
use Rattle.amr_register.proofs.NetOver.{along, parts_taken}
use Rattle.amr_register.proofs.Taken.{no_cell}
use Rattle.amr_register.proofs.register.Register.coarse_part.Goals as goal

pub take_away-requires-clause-room : goal.take_away-requires-clause-room
unfolding entry_in
take_away-requires-clause-room c = λ k lt.
    let self = c.args.self.now in
    let inside : k < length self.cells.items = subst (λ (xs : List Cell). k < length xs) c.deref.ensures.value lt in
    let is = entry_of_place self.cells.items self.entries.items k no_cell self.rising self.entry_count inside ∙ ap (λ (xs : List ℤ). slice_index_or xs k (pos 0)) (sym c.deref_mut.ensures.value) in
    subst (λ (z : ℤ). unsigned_abs z < 2 ^ 62) is (c.requires.room (slice_index_or self.cells.items k no_cell))

pub returns-clause-taken : goal.returns-clause-taken
unfolding cells_in entry_in sides_in
returns-clause-taken c = λ m fine of q has.
    let self = c.args.self.now in
    let count : length c.take_away.new.entries ≡ length self.cells.items = omega (arith, c.take_away.auto.entries, ap length c.deref_mut.ensures.value, self.entry_count) in
    let whole = with_items_is self.entries c.take_away.new.entries (omega (arith, c.take_away.auto.entries, c.deref_mut.ensures.len)) in
    ap (λ (xs : List ℤ). entry_at self.cells.items xs q) whole
    ∙ parts_taken c.args.p.now c.args.l m fine c.args.patch.now self self.entries.items c.take_away.new.entries of self.rising self.entry_count count
    (along (net_owned c.args.p.now c.args.l c.args.patch.now) self.cells.items _ self.sides.items _ self.entries.items _ c.take_away.new.entries c.deref.ensures.value c.deref-2.ensures.value c.deref_mut.ensures.value c.take_away.ensures)
    q has

pub returns-clause-cells : goal.returns-clause-cells
unfolding cells_in sides_in edges_in
returns-clause-cells c = record { cells = refl; sides = refl; edges = same_edges_itself _ }
