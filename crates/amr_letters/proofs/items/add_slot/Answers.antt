use Rattle.std.proofs.Common.{◌∙◌, ◌∷◌, [], ◌==◌, cond, sym, ap}
use Rattle.amr_letters.specs.Shared.{sharing}
use Rattle.amr_letters.specs.Sources.{source, value_of}
use Rattle.amr_letters.specs.Between.{told_at}
use Rattle.amr_letters.proofs.Added.{added_none, added_same, on_ok, slot_silent, slot_told}
use Rattle.amr_letters.proofs.Holders.{source_below}
use Rattle.amr_letters.proofs.items.add_slot.Goals as goal

pub add_cell-requires-clause-from : goal.add_cell-requires-clause-from
add_cell-requires-clause-from c =
    source_below _ (sharing c.args.s) c.ghost_at.result c.in-Some.told.from c.requires.own c.requires.coarser (sym c.in-Some.ensures.from)

pub returns-in-Some : goal.returns-in-Some
returns-in-Some c =
    let s = sharing c.args.s in
    let rank = c.in-Some.told.from in
    let mass = c.in-Some.told.mass in
    on_ok c.add_cell.result c.add_cell.ensures
    (added_same (λ from. cond (rank == from) (record { patch = c.args.number; slot = c.args.slot; mass = mass } ∷ []) []) (λ from. told_at s from c.args.number c.args.slot) _ _
    (slot_told s c.args.number c.args.slot rank mass (c.in-Some.ensures.from ∙ ap (source s) c.ghost_at.ensures) (c.in-Some.ensures.mass ∙ ap (value_of s) c.ghost_at.ensures)))

pub returns-in-None : goal.returns-in-None
returns-in-None c =
    let s = sharing c.args.s in
    added_none (λ from. told_at s from c.args.number c.args.slot) _ (slot_silent s c.args.number c.args.slot (c.in-None.ensures.from ∙ ap (source s) c.ghost_at.ensures))
