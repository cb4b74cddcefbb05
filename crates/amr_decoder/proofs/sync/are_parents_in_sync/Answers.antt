use Rattle.std.proofs.Common.{◌∙◌, sym}
use Rattle.amr_decoder.proofs.Fours.{aligned_over}
use Rattle.amr_decoder.proofs.Stacked.{parents_placed}
use Rattle.amr_decoder.proofs.sync.are_parents_in_sync.Goals as goal

pub is_box_in_sync-requires : goal.is_box_in_sync-requires
is_box_in_sync-requires c =
    let b = c.args.b.now in
    let parents = c.coarsen2-parents.result in
    aligned_over c.args.p.now.blocking c.args.coarse.now c.args.fine.now b parents c.args.p.now.limits.blocking_factor c.requires.aligned c.coarsen2-parents.ensures.corners c.requires.placed
    (parents_placed b parents c.coarsen2-parents.ensures.corners c.requires.placed) c.requires.cells
    (record { at = λ d held. c.requires.parents d (sym (c.coarsen2-parents.ensures.cells.at d) ∙ held) })

pub returns : goal.returns
returns c = (
  λ h d held. c.is_box_in_sync.ensures.0 h d (c.coarsen2-parents.ensures.cells.at d ∙ held),
  λ all. c.is_box_in_sync.ensures.1 (λ d held. all d (sym (c.coarsen2-parents.ensures.cells.at d) ∙ held)),
)
