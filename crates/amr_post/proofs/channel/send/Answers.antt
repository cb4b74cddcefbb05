use Rattle.crossbeam_channel.specs.Claims.{view}
use Rattle.crossbeam_channel.specs.Ends.{ruled_capacity, sends_on}
use Rattle.amr_post.proofs.Rules.{sends, never_full}
use Rattle.amr_post.proofs.channel.send.Goals as goal

pub try_send_as-requires-clause-rule : goal.try_send_as-requires-clause-rule
try_send_as-requires-clause-rule g c = (
  sends (ruled_capacity (sends_on c.args.outlet.now)) c.args.pass.now.id (view c.args.pass.now) c.args.letter c.requires.room,
  never_full c.args.pass.now.id (view c.args.pass.now) c.requires.room,
)
