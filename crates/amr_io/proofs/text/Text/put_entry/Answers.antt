use Rattle.std.proofs.Common.{◌++◌, rules}
use Rattle.amr_io.specs.Buffered.{entry_text}
use Rattle.amr_io.specs.Short.{FallsShort}
use Rattle.amr_io.proofs.Shorter.{short_longer}
use Rattle.amr_io.proofs.text.Text.put_entry.Goals as goal

pub returns-in_err-make_room-clause-short : goal.returns-in_err-make_room-clause-short
returns-in_err-make_room-clause-short g c =
    let short : FallsShort g.O.Sink.holds c.args.sink.now c.make_room.new.sink (c.args.self.now ++ entry_text c.args.first c.args.n) =
    short_longer g.O.Sink.holds c.args.sink.now c.make_room.new.sink c.args.self.now (entry_text c.args.first c.args.n) c.in_err-make_room.ensures.short in
    search (rules, short)
