use Rattle.crossbeam_channel.specs.Claims.{view}
use Rattle.amr_post.proofs.Rules.{merges}
use Rattle.amr_post.proofs.channel.absorb.Goals as goal

pub absorb-requires-clause-rule : goal.absorb-requires-clause-rule
absorb-requires-clause-rule c = merges c.args.pass.now.id (view c.args.pass.now) c.args.other.id (view c.args.other) c.requires.had
