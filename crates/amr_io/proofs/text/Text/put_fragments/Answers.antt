use Rattle.std.proofs.Common.{rules, ◌<◌, ◌++◌, length, arith}
use Rattle.amr_io.specs.Buffered.{fragments_text}
use Rattle.amr_causes.specs.Bytes.{TakesPrefix}
use Rattle.amr_io.specs.Short.{FallsShort}
use Rattle.amr_io.proofs.Sending.{fragment_sent, fragment_stops}
use Rattle.amr_io.proofs.Shorter.{fragment_short}
use Rattle.amr_io.proofs.text.Text.put_fragments.Goals as goal

pub returns-in_err-put_fragment-clause-part : goal.returns-in_err-put_fragment-clause-part
returns-in_err-put_fragment-clause-part g c =
    let within : c.loop-fragment.fragment-index < length c.args.fragments.now = omega arith in
    let part : TakesPrefix g.O.Sink.holds c.args.sink.now c.put_fragment.new.sink (c.args.self.now ++ fragments_text c.args.fragments.now) =
    fragment_stops g.O.Sink.holds c.args.sink.now c.loop-fragment.sink c.put_fragment.new.sink c.args.self.now c.loop-fragment.self c.args.fragments.now c.loop-fragment.fragment-index _ within
    c.loop-fragment.invariant.sent c.in_err-put_fragment.ensures.part in
    search (rules, part)

pub loop-fragment-preserved : goal.loop-fragment-preserved
loop-fragment-preserved g c = record {
  sent = fragment_sent g.O.Sink.holds c.args.sink.now c.loop-fragment.sink c.put_fragment.new.sink c.args.self.now c.loop-fragment.self c.put_fragment.new.self c.args.fragments.now c.loop-fragment.fragment-index _ (omega arith)
      c.loop-fragment.invariant.sent c.in_ok-put_fragment.ensures.sent;
  same = omega (arith, c.loop-fragment.invariant.same, c.in_ok-put_fragment.ensures.no_fault);
}

pub returns-in_err-put_fragment-clause-short : goal.returns-in_err-put_fragment-clause-short
returns-in_err-put_fragment-clause-short g c =
    let within : c.loop-fragment.fragment-index < length c.args.fragments.now = omega arith in
    let short : FallsShort g.O.Sink.holds c.args.sink.now c.put_fragment.new.sink (c.args.self.now ++ fragments_text c.args.fragments.now) =
    fragment_short g.O.Sink.holds c.args.sink.now c.loop-fragment.sink c.put_fragment.new.sink c.args.self.now c.loop-fragment.self c.args.fragments.now c.loop-fragment.fragment-index _ within
    c.loop-fragment.invariant.sent c.in_err-put_fragment.ensures.short in
    search (rules, short)
