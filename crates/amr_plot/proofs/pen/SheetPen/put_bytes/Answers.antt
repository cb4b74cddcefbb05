use Rattle.std.proofs.Common.{refl}
use Rattle.amr_io.proofs.Shorter.{short_longer}
use Rattle.amr_plot.proofs.Pens.{puts_failed}
use Rattle.amr_plot.proofs.SheetTexts.{and_err, and_ok, past, past_short}
use Rattle.amr_plot.proofs.pen.SheetPen.put_bytes.Goals as goal

pub returns-in_err-flush : goal.returns-in_err-flush
returns-in_err-flush g c =
    let e = c.in_err-flush.ensures in
    let old = c.args.self.now in
    puts_failed _ _ c.args.bytes.now c.from_residual.result c.from_residual.ensures.0 (
      refl,
      record {
        short = short_longer g.O.Sink.holds old.sink.now c.flush.new.sink old.text c.args.bytes.now e.short;
        later = e.cause.later;
        rose = e.cause.failed;
      },
    )

pub returns : goal.returns
returns g c =
    let e = c.in_ok-flush.ensures in
    let w = c.write_whole.ensures in
    let old = c.args.self.now in
    record {
      whole = and_ok c.write_whole.result _ _ refl
          (past g.O.Sink.holds g.O.Sink.faults old.sink.now c.flush.new.sink c.write_whole.new.sink old.text c.flush.new.self c.args.bytes.now e.sent e.empty e.no_fault c.write_whole.result w.whole w.no_fault);
      part = and_err c.write_whole.result _ _ refl
          (past_short g.O.Sink.holds g.O.Sink.faults old.sink.now c.flush.new.sink c.write_whole.new.sink old.text c.flush.new.self c.args.bytes.now e.sent e.empty e.no_fault c.write_whole.result w.short w.cause);
    }
