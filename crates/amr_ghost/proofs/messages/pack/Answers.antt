use Rattle.std.proofs.Common.{◌∙◌, ◌<◌, length, arith}
use Rattle.amr_ghost.proofs.Counts.{copies_counted, counted_next, end_part, end_small, end_within, start_within, whole_length}
use Rattle.amr_ghost.proofs.Packing.{packed_next}
use Rattle.amr_ghost.proofs.messages.pack.Goals as goal

pub overflow_add-end : goal.overflow_add-end
overflow_add-end c = end_small copies_counted c.args.copies.now c.loop-k.k _ c.loop-k.done (length c.args.masses.now) c.loop-k-test.true c.loop-k.invariant.done c.requires.places (omega arith)

pub offset_bounds-masses-done : goal.offset_bounds-masses-done
offset_bounds-masses-done c =
    let within = start_within copies_counted c.args.copies.now c.loop-k.k c.loop-k.done (length c.args.masses.now) c.loop-k.invariant.done c.requires.places in
    omega (arith, within)

pub slice_bounds-taken-end : goal.slice_bounds-taken-end
slice_bounds-taken-end c = end_within copies_counted c.args.copies.now c.loop-k.k _ c.loop-k.done (length c.loop-k.masses) c.loop-k-test.true c.loop-k.invariant.done (c.loop-k.invariant.count ∙ c.requires.places)

pub loop-k-preserved : goal.loop-k-preserved
loop-k-preserved c =
    let cs = c.args.copies.now in
    let ms = c.loop-k.masses in
    let k = c.loop-k.k in
    let lt : k < length cs = c.loop-k-test.true in
    record {
      done = counted_next copies_counted cs k _ c.loop-k.done lt c.loop-k.invariant.done;
      count = whole_length ms c.take_strip.new.masses c.loop-k.done _ (end_part copies_counted cs k _ c.loop-k.done (length ms) lt c.loop-k.invariant.done (c.loop-k.invariant.count ∙ c.requires.places)) c.take_strip.ensures.count ∙ c.loop-k.invariant.count;
      packed = packed_next c.args.patches.now cs k _ ms c.take_strip.new.masses c.loop-k.done c.index-patches-copy.result lt c.loop-k.invariant.done (c.loop-k.invariant.count ∙ c.requires.places) (c.requires.copies k _ lt).there c.index-patches-copy.is c.loop-k.invariant.packed c.take_strip.ensures.count c.take_strip.ensures.taken;
    }
