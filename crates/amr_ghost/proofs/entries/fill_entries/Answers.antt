use Rattle.std.proofs.Common.{◌<◌, length, refl, ◌∙◌, subst, sym, arith}
use Rattle.amr_ghost.specs.Strips.{AreWritten}
use Rattle.amr_ghost.proofs.WrittenEntries.{one_more_written, room_for, side_by_side, span_length}
use Rattle.amr_ghost.proofs.entries.fill_entries.Goals as goal

pub returns-then-target-eq1 : goal.returns-then-target-eq1
returns-then-target-eq1 g c absent =
    let xs = c.args.values.now in
    let n = c.args.count in
    let room = room_for c.args.target n (length xs) c.if-target-eq1.true c.requires.some c.requires.within in
    let span = span_length c.args.target.first n xs room in
    side_by_side absent c.args.target (λ k. c.args.value) n _ xs c.fill_all.new.values c.if-target-eq1.true room (omega arith) (c.fill_all.ensures.count ∙ span)
    (λ k t. c.fill_all.ensures.filled k absent (subst (λ m. k < m) (sym span) t))

pub loop-k-preserved : goal.loop-k-preserved
loop-k-preserved g c absent = one_more_written absent c.args.target (λ k. c.args.value) c.loop-k.k c.args.value c.args.values.now c.loop-k.values c.requires.apart (c.requires.within c.loop-k.k c.loop-k-test.true) refl (c.loop-k.invariant absent)

pub returns : goal.returns
returns g c absent = subst (λ n. AreWritten absent c.args.target n (λ k. c.args.value) c.args.values.now c.loop-k.values) (omega (arith, c.loop-k.auto.k-end, c.loop-k-test.false)) (c.loop-k.invariant absent)

pub slice_bounds-fill_all-count : goal.slice_bounds-fill_all-count
slice_bounds-fill_all-count g c = omega arith

pub overflow_mul-value : goal.overflow_mul-value
overflow_mul-value g c = omega arith

pub overflow_add-value : goal.overflow_add-value
overflow_add-value g c = omega arith

pub bounds-values-target : goal.bounds-values-target
bounds-values-target g c = omega arith
