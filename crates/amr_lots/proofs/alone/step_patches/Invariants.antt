use Rattle.std.proofs.Common.{◌≡◌, length}
use Rattle.amr_flux.specs.Rooms.{widest}
use Rattle.amr_layout.specs.LevelFlowLists.{flow_lists}
use Rattle.amr_lots.specs.Lots.{HasStepped}
use Rattle.amr_lots.proofs.InTurn.{AreUpTo}
use Rattle.amr_lots.proofs.alone.step_patches.Given as goal

-- the patches before this one have stepped, and the room is as wide as before
abbrev pub invariant-loop-k : goal.invariant-loop-k
invariant-loop-k l = record {
  stepped : AreUpTo (λ _. HasStepped l.p l.l) l.p l.l l.initial.patches (flow_lists l.flows (length l.initial.patches)) l.patches l.totals l.k;
  room : widest l.room ≡ widest l.initial.room;
  count : length l.totals ≡ length l.initial.totals;
}
