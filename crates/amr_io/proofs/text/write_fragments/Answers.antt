use Rattle.std.proofs.Common.{rules}
use Rattle.amr_io.specs.Buffered.{fragments_text}
use Rattle.amr_io.proofs.Sending.{flush_stops}
use Rattle.amr_io.proofs.Shorter.{flush_short}
use Rattle.amr_io.proofs.text.write_fragments.Goals as goal

pub returns-in_err-flush-clause-part : goal.returns-in_err-flush-clause-part
returns-in_err-flush-clause-part g c =
    flush_stops g.O.Sink.holds c.args.sink.now c.put_fragments.new.sink c.flush.new.sink c.make-text.result c.put_fragments.new.self (fragments_text c.args.fragments.now) c.make-text.ensures c.in_ok-put_fragments.ensures.sent c.in_err-flush.ensures.part

pub returns-in_err-flush-clause-short : goal.returns-in_err-flush-clause-short
returns-in_err-flush-clause-short g c =
    let short = flush_short g.O.Sink.holds c.args.sink.now c.put_fragments.new.sink c.flush.new.sink c.make-text.result c.put_fragments.new.self (fragments_text c.args.fragments.now) c.make-text.ensures c.in_ok-put_fragments.ensures.sent c.in_err-flush.ensures.short in
    search (rules, short)
