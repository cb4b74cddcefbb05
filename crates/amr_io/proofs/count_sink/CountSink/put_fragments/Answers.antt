use Rattle.std.proofs.Common.{sym, take}
use Rattle.amr_io.specs.Buffered.{fragments_text}
use Rattle.amr_io.proofs.Counting.{counts_none, counts_same, counts_then}
use Rattle.amr_io.proofs.Sending.{fragments_one_more}
use Rattle.amr_io.proofs.count_sink.CountSink.put_fragments.Goals as goal

pub loop-fragment-init : goal.loop-fragment-init
loop-fragment-init c = counts_none c.args.self.now

pub loop-fragment-preserved : goal.loop-fragment-preserved
loop-fragment-preserved c =
    let ps = c.args.fragments.now in
    let i = c.loop-fragment.fragment-index in
    let done = fragments_text (take i ps) in
    counts_same c.args.self.now c.put_fragment.new.self _ _ (sym (fragments_one_more ps i _ c.loop-fragment-test.true))
    (counts_then c.args.self.now c.loop-fragment.self c.put_fragment.new.self done _ c.loop-fragment.invariant c.put_fragment.ensures)
