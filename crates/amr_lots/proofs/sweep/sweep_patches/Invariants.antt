use Rattle.std.proofs.Common.{◌≡◌, get_or, length}
use Rattle.amr_flux.specs.Rooms.{widest}
use Rattle.amr_flux.specs.declared.fluxes.PatchSides.{PatchSides}
use Rattle.amr_layout.specs.LevelFlowLists.{flow_lists}
use Rattle.amr_lots.specs.Lots.{IsSweptOn}
use Rattle.amr_lots.proofs.InTurn.{AreUpTo}
use Rattle.amr_lots.proofs.sweep.sweep_patches.Given as goal

-- the patches before this one are swept, and the room is as wide as before
abbrev pub invariant-loop-k : goal.invariant-loop-k
invariant-loop-k l = record {
  swept : AreUpTo (λ k q r. (d : PatchSides) → IsSweptOn l.p l.l (get_or l.sides k d) q r) l.p l.l l.initial.patches (flow_lists l.flows (length l.initial.patches)) l.patches l.totals l.k;
  room : widest l.room ≡ widest l.initial.room;
  count : length l.totals ≡ length l.initial.totals;
}
