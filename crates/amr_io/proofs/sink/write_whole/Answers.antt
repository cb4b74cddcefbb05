use Rattle.std.proofs.Common.{arith, rules}
use Rattle.amr_causes.proofs.ByteLaws.{takes_first, grows_slice, grows_refused}
use Rattle.amr_io.proofs.Shorter.{short_first}
use Rattle.amr_io.proofs.sink.write_whole.Goals as goal

pub returns-in_err-at-clause-part : goal.returns-in_err-at-clause-part
returns-in_err-at-clause-part g c =
    takes_first g.O.Sink.holds c.args.sink.now c.write.new.self c.loop-at.at c.args.bytes.now
    (grows_refused g.O.Sink.holds c.args.sink.now c.loop-at.sink c.write.new.self _ c.loop-at.invariant.out c.in_err-at.ensures.bytes)

pub loop-at-preserved : goal.loop-at-preserved
loop-at-preserved g c = record {
  within = omega (arith, c.in_ok-at.ensures.bound);
  out = grows_slice g.O.Sink.holds c.args.sink.now c.loop-at.sink c.write.new.self c.loop-at.at c.in_ok-at.field-0 c.args.bytes.now c.loop-at.invariant.out c.in_ok-at.ensures.bytes;
  same = omega (arith, c.loop-at.invariant.same, c.in_ok-at.ensures.no_fault);
}

pub returns-clause-part : goal.returns-clause-part
returns-clause-part g c =
    takes_first g.O.Sink.holds c.args.sink.now c.loop-at.sink c.loop-at.at c.args.bytes.now c.loop-at.invariant.out

pub returns-in_err-at-clause-short : goal.returns-in_err-at-clause-short
returns-in_err-at-clause-short g c =
    let short = short_first g.O.Sink.holds c.args.sink.now c.write.new.self c.loop-at.at c.args.bytes.now c.loop-at-test.true
    (grows_refused g.O.Sink.holds c.args.sink.now c.loop-at.sink c.write.new.self _ c.loop-at.invariant.out c.in_err-at.ensures.bytes) in
    search (rules, short)
