use Rattle.std.proofs.Common.{◌≡◌, ◌≤◌, length, drop}
use Rattle.std.specs.Prelude.{vec_capacity}
use Rattle.std.specs.Vec.Iter.{into_iter_items, into_iter_len}
use Rattle.amr_regrid.specs.Remade.{remade_levels}
use Rattle.amr_regrid.proofs.plans.planned.Given as goal

abbrev pub invariant-loop-r : goal.invariant-loop-r
invariant-loop-r l = record {
  levels : l.all.items ≡ remade_levels l.fn.levels.items l.yielded;
  rest : into_iter_items l.olds ≡ drop (length l.yielded) l.fn.levels.items;
  count : into_iter_len l.olds ≡ length (into_iter_items l.olds);
  few : length l.all.items ≤ length l.yielded;
  room : length l.fn.plan.remade.items ≤ vec_capacity l.all;
}
