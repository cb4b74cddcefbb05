use Rattle.amr_plot.proofs.SheetTexts.{ended, ended_part, ended_short}
use Rattle.amr_view.proofs.boxes.write_rows.Goals as goal

pub returns-clause-whole : goal.returns-clause-whole
returns-clause-whole g c =
    let old = c.args.sheet.now in
    let mid = c.put_rows.new.pen in
    let new = c.finish.new.self in
    ended g.O.Sink.holds g.O.Sink.faults old.sink.now mid.sink.now new.sink.now old.text mid.text new.text _ c.requires.empty c.in_ok-put_rows.ensures.whole.1 c.finish.result c.finish.ensures.sent c.finish.ensures.empty

pub returns-clause-part : goal.returns-clause-part
returns-clause-part g c =
    let old = c.args.sheet.now in
    let mid = c.put_rows.new.pen in
    let new = c.finish.new.self in
    ended_part g.O.Sink.holds g.O.Sink.faults old.sink.now mid.sink.now new.sink.now old.text mid.text new.text _ c.requires.empty c.in_ok-put_rows.ensures.whole.1 c.finish.result c.finish.ensures.sent c.finish.ensures.empty c.finish.ensures.short

pub returns-clause-short : goal.returns-clause-short
returns-clause-short g c =
    let old = c.args.sheet.now in
    let mid = c.put_rows.new.pen in
    let new = c.finish.new.self in
    ended_short g.O.Sink.holds g.O.Sink.faults old.sink.now mid.sink.now new.sink.now old.text mid.text new.text _ c.requires.empty c.in_ok-put_rows.ensures.whole.1 c.finish.result c.finish.ensures.short
