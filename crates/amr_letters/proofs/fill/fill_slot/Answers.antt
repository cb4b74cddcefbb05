use Rattle.std.proofs.Common.{◌≡◌, ◌∙◌, ap}
use Rattle.amr_box.specs.declared.Cell.{Cell}
use Rattle.amr_box.specs.Cells.{Extent}
use Rattle.amr_def.specs.Domain.{domain, home_cell}
use Rattle.amr_patch.specs.Patches.{box}
use Rattle.amr_ranks.specs.Items.{mass_at}
use Rattle.amr_letters.specs.Beside.{beside_cell}
use Rattle.amr_letters.specs.Told.{value_told}
use Rattle.amr_letters.proofs.Fills.{slot_in_frame, value_set}
use Rattle.amr_letters.proofs.fill.fill_slot.Goals as goal

pub ghost_cell-mark-requires : goal.ghost_cell-mark-requires
ghost_cell-mark-requires c = slot_in_frame (box c.args.patch.now) c.bx.result c.beside_cell-c.result c.args.slot c.bx.ensures.value c.bx.ensures.near c.requires.there c.beside_cell-c.ensures

pub set_ghost-requires-clause-ghost_cell : goal.set_ghost-requires-clause-ghost_cell
set_ghost-requires-clause-ghost_cell c = slot_in_frame (box c.args.patch.now) c.bx.result c.beside_cell-c.result c.args.slot c.bx.ensures.value c.bx.ensures.near c.requires.there c.beside_cell-c.ensures

pub returns : goal.returns
returns c =
    let q = c.args.patch.now in
    let p = c.args.p.now in
    let at : c.beside_cell-c.result ≡ beside_cell (box q) c.args.slot = c.beside_cell-c.ensures ∙ ap (λ (b : Extent). beside_cell b c.args.slot) c.bx.ensures.value in
    let value = c.value_by-value.ensures.value ∙ ap (λ (d : Cell). value_told p c.args.l (home_cell (domain p c.args.l) d) (mass_at c.args.number c.args.slot c.args.node.now.cells)) at in
    let s = c.set_ghost.ensures in
    value_set q c.set_ghost.new.self c.beside_cell-c.result (beside_cell (box q) c.args.slot) c.value_by-value.result _ c.ghost_cell-mark.result.1 at value c.ghost_cell-mark.ensures.mark s.set s.marked s.others s.marks s.fluxes s.of_box
