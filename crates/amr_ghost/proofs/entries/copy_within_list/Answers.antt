use Rattle.std.proofs.Common.{arith}
use Rattle.std.specs.Prelude.{slice_index}
use Rattle.amr_ghost.specs.Strips.{nth_place}
use Rattle.amr_ghost.proofs.WrittenEntries.{one_more_written}
use Rattle.amr_ghost.proofs.entries.copy_within_list.Goals as goal

pub loop-k-preserved : goal.loop-k-preserved
loop-k-preserved c =
    let k = c.loop-k.k in
    let from = c.args.source in
    one_more_written 0 c.args.target (λ j. slice_index c.args.values.now (nth_place from j)) k (slice_index c.loop-k.values (nth_place from k)) c.args.values.now c.loop-k.values c.requires.apart (c.requires.within k c.loop-k-test.true)
    (c.loop-k.invariant.others (nth_place from k) (λ j lt. c.requires.elsewhere k j c.loop-k-test.true (omega (arith, lt, c.loop-k-test.true))))
    c.loop-k.invariant
