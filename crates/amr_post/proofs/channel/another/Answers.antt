use Rattle.crossbeam_channel.specs.Claims.{view}
use Rattle.amr_post.proofs.Rules.{forks}
use Rattle.amr_post.proofs.channel.another.Goals as goal

pub another-requires-clause-rule : goal.another-requires-clause-rule
another-requires-clause-rule c = forks c.args.pass.now.id (view c.args.pass.now) c.requires.room c.requires.more
