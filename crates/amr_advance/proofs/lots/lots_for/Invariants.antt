use Rattle.std.proofs.Common.{◌≡◌, ℕ, ◌*◌, ◌<◌, ◌≤◌, length}
use Rattle.std.specs.Prelude.{slice_index_or, vec_capacity}
use Rattle.std.specs.Global.{Box}
use Rattle.amr_layout.specs.Arounds.{around_of}
use Rattle.amr_lots.specs.declared.lot.Lot.{Lot}
use Rattle.amr_advance.specs.Cuts.{AreLayoutsFrom}
use Rattle.amr_advance.specs.Lots.{IsLotOf}
use Rattle.amr_advance.proofs.lots.lots_for.Given as goal

-- the first runs have their lots, and the layouts from the next one on stand
abbrev pub invariant-loop-k : goal.invariant-loop-k
invariant-loop-k l = record {
  count : length l.lots.items ≡ l.k;
  room : l.cut.runs ≤ vec_capacity l.lots;
  layouts : AreLayoutsFrom (around_of l.s) l.cut.each (l.k * l.cut.each) l.layouts;
  done : (j : ℕ) (x : Box Lot) → j < l.k → IsLotOf (around_of l.s) l.cut.each j l.cut.runs l.cut.parts.now (slice_index_or l.lots.items j x).value;
}
