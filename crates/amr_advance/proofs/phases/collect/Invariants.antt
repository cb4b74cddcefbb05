use Rattle.std.proofs.Common.{◌≡◌, ℕ, ◌<◌, ◌≤◌, length}
use Rattle.std.specs.Prelude.{slice_index_or}
use Rattle.std.specs.Vec.{vec_capacity}
use Rattle.std.specs.Global.{Box}
use lib.ListN.{get_elem?}
use Rattle.amr_lots.specs.declared.lot.Lot.{Lot}
use Rattle.amr_lots.specs.declared.lot.Work.{Work}
use Rattle.amr_advance.specs.Phases.{IsCollected, IsPieceOf}
use Rattle.amr_advance.proofs.phases.collect.Given as goal

-- the words stay, the pieces from task on too, and the lots of those before it are taken out
abbrev pub invariant-loop-task : goal.invariant-loop-task
invariant-loop-task l = record {
  places : l.ended.places ≡ l.initial.ended.places;
  registers : l.ended.registers ≡ l.initial.ended.registers;
  words : l.ended.words ≡ l.initial.ended.words;
  rest : (t : ℕ) → l.task ≤ t → get_elem? l.ended.pieces t ≡ get_elem? l.initial.ended.pieces t;
  done : (t : ℕ) (w : Work) (x : Box Lot) → t < l.task → IsPieceOf l.initial.ended t w → IsCollected w (slice_index_or l.lots.items t x);
  count : length l.lots.items ≡ l.task;
  room : vec_capacity l.lots ≡ vec_capacity l.initial.lots;
}
