use Rattle.std.proofs.Common.{◌≡◌}
use Rattle.amr_flux.specs.Rooms.{widest}
use Rattle.amr_lots.specs.LotSteps.{ReadsNone, ReadsSome}
use Rattle.amr_lots.proofs.InPlaces.{AreChangedTo}
use Rattle.amr_lots.proofs.Where.{IsSteppedWhere}
use Rattle.amr_lots.proofs.sweep.step_inner.Given as goal

-- the patches before this one made their step where they read no place
abbrev pub invariant-loop-k : goal.invariant-loop-k
invariant-loop-k l = record {
  changed : AreChangedTo (IsSteppedWhere l.p l.l ReadsNone ReadsSome l.layouts) l.k l.initial.patches l.patches;
  room : widest l.room ≡ widest l.initial.room;
}
