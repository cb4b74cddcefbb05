use Rattle.std.proofs.Common.{rules, ◌++◌, List, ℕ, ap, ◌∙◌}
use Rattle.std.proofs.lemmas.List.{append-nil}
use Rattle.amr_causes.specs.Bytes.{TakesPrefix}
use Rattle.amr_io.specs.Short.{FallsShort}
use Rattle.amr_causes.proofs.ByteLaws.{grows_more, takes_after, takes_longer}
use Rattle.amr_io.proofs.Sending.{all_out}
use Rattle.amr_io.proofs.Shorter.{short_after, short_longer}
use Rattle.amr_io.proofs.text.Text.put.Goals as goal

pub returns-in_err-write_whole-clause-part : goal.returns-in_err-write_whole-clause-part
returns-in_err-write_whole-clause-part g c =
    let sent = c.in_ok-flush.ensures.sent in
    let first = all_out g.O.Sink.holds c.args.sink.now c.flush.new.sink c.args.self.now c.flush.new.self sent.0 sent.1 sent.2 c.in_ok-flush.ensures.empty in
    let part : TakesPrefix g.O.Sink.holds c.args.sink.now c.write_whole.new.sink (c.args.self.now ++ c.args.bytes.now) =
    takes_after g.O.Sink.holds c.args.sink.now c.flush.new.sink c.write_whole.new.sink c.args.self.now c.args.bytes.now first c.in_err-write_whole.ensures.part in
    search (rules, part)

pub returns-clause-sent : goal.returns-clause-sent
returns-clause-sent g c =
    let sent = c.in_ok-flush.ensures.sent in
    let first = all_out g.O.Sink.holds c.args.sink.now c.flush.new.sink c.args.self.now c.flush.new.self sent.0 sent.1 sent.2 c.in_ok-flush.ensures.empty in (
      c.args.self.now ++ c.args.bytes.now,
      grows_more g.O.Sink.holds c.args.sink.now c.flush.new.sink c.write_whole.new.sink _ _ first c.in_ok-write_whole.ensures.whole,
      ap (λ (l : List ℕ). (c.args.self.now ++ c.args.bytes.now) ++ l) c.in_ok-flush.ensures.empty ∙ append-nil _,
    )

pub returns-in_err-flush-clause-part : goal.returns-in_err-flush-clause-part
returns-in_err-flush-clause-part g c =
    let part : TakesPrefix g.O.Sink.holds c.args.sink.now c.flush.new.sink (c.args.self.now ++ c.args.bytes.now) =
    takes_longer g.O.Sink.holds c.args.sink.now c.flush.new.sink c.args.self.now c.args.bytes.now c.in_err-flush.ensures.part in
    search (rules, part)

pub returns-in_err-write_whole-clause-short : goal.returns-in_err-write_whole-clause-short
returns-in_err-write_whole-clause-short g c =
    let sent = c.in_ok-flush.ensures.sent in
    let first = all_out g.O.Sink.holds c.args.sink.now c.flush.new.sink c.args.self.now c.flush.new.self sent.0 sent.1 sent.2 c.in_ok-flush.ensures.empty in
    let short : FallsShort g.O.Sink.holds c.args.sink.now c.write_whole.new.sink (c.args.self.now ++ c.args.bytes.now) =
    short_after g.O.Sink.holds c.args.sink.now c.flush.new.sink c.write_whole.new.sink c.args.self.now c.args.bytes.now first c.in_err-write_whole.ensures.short in
    search (rules, short)

pub returns-in_err-flush-clause-short : goal.returns-in_err-flush-clause-short
returns-in_err-flush-clause-short g c =
    let short : FallsShort g.O.Sink.holds c.args.sink.now c.flush.new.sink (c.args.self.now ++ c.args.bytes.now) =
    short_longer g.O.Sink.holds c.args.sink.now c.flush.new.sink c.args.self.now c.args.bytes.now c.in_err-flush.ensures.short in
    search (rules, short)
