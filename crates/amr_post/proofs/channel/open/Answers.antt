use Rattle.amr_post.proofs.Rules.{begins}
use Rattle.amr_post.proofs.channel.open.Goals as goal

pub bounded_with-requires-clause-rule : goal.bounded_with-requires-clause-rule
bounded_with-requires-clause-rule c = begins
