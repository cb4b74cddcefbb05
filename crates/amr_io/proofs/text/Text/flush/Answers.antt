use Rattle.std.proofs.Common.{◌≡◌, take, refl}
use Rattle.amr_causes.specs.Bytes.{Grows}
use Rattle.amr_causes.proofs.ByteLaws.{grows_to}
use Rattle.amr_io.proofs.text.Text.flush.Goals as goal

pub returns-clause-sent : goal.returns-clause-sent
returns-clause-sent g c =
    let view : take c.self.inside.len c.self.inside.kept ≡ c.args.self.now = cc in
    let out : Grows g.O.Sink.holds c.args.sink.now c.write_whole.new.sink c.args.self.now =
    grows_to g.O.Sink.holds c.args.sink.now c.write_whole.new.sink _ _ view c.in_ok-write_whole.ensures.whole in
    (c.args.self.now, out, refl)
