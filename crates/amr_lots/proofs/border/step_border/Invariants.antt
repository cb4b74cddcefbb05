use Rattle.std.proofs.Common.{◌≡◌, length, take}
use Rattle.amr_flux.specs.Rooms.{widest}
use Rattle.amr_lots.specs.LotSteps.{ReadsNone, ReadsSome}
use Rattle.amr_lots.specs.Works.{places_read}
use Rattle.amr_lots.proofs.InPlaces.{AreChangedTo}
use Rattle.amr_lots.proofs.Where.{IsSteppedWhere}
use Rattle.amr_lots.proofs.border.step_border.Given as goal

-- the patches before this one made their step where they read places, and so many sizes were taken
abbrev pub invariant-loop-k : goal.invariant-loop-k
invariant-loop-k l = record {
  changed : AreChangedTo (IsSteppedWhere l.p l.l ReadsSome ReadsNone l.layouts) l.k l.initial.patches l.patches;
  room : widest l.room ≡ widest l.initial.room;
  done : l.done ≡ length (places_read (take l.k l.layouts));
}
