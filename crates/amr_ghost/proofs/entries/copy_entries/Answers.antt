use Rattle.std.proofs.Common.{arith}
use Rattle.std.proofs.Common.{ℕ, refl}
use Rattle.std.specs.Prelude.{slice_index}
use Rattle.amr_ghost.specs.Strips.{nth_place}
use Rattle.amr_ghost.proofs.WrittenEntries.{one_more_written}
use Rattle.amr_ghost.proofs.entries.copy_entries.Goals as goal

pub loop-k-preserved : goal.loop-k-preserved
loop-k-preserved c =
    let given : ℕ → ℕ = λ j. slice_index c.args.from.now (nth_place c.args.source j) in
    one_more_written 0 c.args.target given c.loop-k.k (given c.loop-k.k) c.args.values.now c.loop-k.values c.requires.apart (c.requires.within c.loop-k.k c.loop-k-test.true) refl c.loop-k.invariant

pub slice_bounds-give_entries-count : goal.slice_bounds-give_entries-count
slice_bounds-give_entries-count c = omega arith

pub give_entries-requires-clause-some : goal.give_entries-requires-clause-some
give_entries-requires-clause-some c = omega arith

pub give_entries-requires-clause-apart : goal.give_entries-requires-clause-apart
give_entries-requires-clause-apart c = omega arith

pub overflow_mul-values : goal.overflow_mul-values
overflow_mul-values c = omega arith

pub overflow_add-values : goal.overflow_add-values
overflow_add-values c = omega arith

pub offset_bounds-from-source-in-loop-k : goal.offset_bounds-from-source-in-loop-k
offset_bounds-from-source-in-loop-k c = omega arith

pub bounds-from-source : goal.bounds-from-source
bounds-from-source c = omega arith

pub overflow_mul-values-in-loop-k : goal.overflow_mul-values-in-loop-k
overflow_mul-values-in-loop-k c = omega arith

pub overflow_add-values-in-loop-k : goal.overflow_add-values-in-loop-k
overflow_add-values-in-loop-k c = omega arith

pub offset_bounds-values-target : goal.offset_bounds-values-target
offset_bounds-values-target c = omega arith

pub bounds-values-target : goal.bounds-values-target
bounds-values-target c = omega arith
