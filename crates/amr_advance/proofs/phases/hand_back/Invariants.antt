use Rattle.std.proofs.Common.{◌≡◌, ℕ, ◌≤◌, List, map, take, length}
use Rattle.std.specs.declared.option.Option.TheVariants.{Some}
use Rattle.std.specs.Vec.{vec_capacity}
use lib.ListN.{get_elem?}
use Rattle.amr_lots.specs.declared.lot.Work.{Work}
use Rattle.amr_advance.proofs.phases.hand_back.Given as goal

-- the pieces from task on stay, and the lots of those before it are taken out
abbrev pub invariant-loop-task : goal.invariant-loop-task
invariant-loop-task l = record {
  rest : (t : ℕ) → l.task ≤ t → get_elem? l.ended.pieces t ≡ get_elem? l.initial.ended.pieces t;
  done : (ws : List Work) → l.initial.ended.pieces ≡ map Some ws → length ws ≡ l.count → l.lots.items ≡ map (λ (w : Work). w.lot) (take l.task ws);
  room : vec_capacity l.lots ≡ vec_capacity l.initial.lots;
  count : length l.lots.items ≡ l.task;
}
