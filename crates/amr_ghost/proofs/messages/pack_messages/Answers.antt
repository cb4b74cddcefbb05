use Rattle.std.proofs.Common.{arith}
use Rattle.amr_ghost.specs.Messages.{HasPacked}
use Rattle.amr_ghost.proofs.Unpacking.{zip_messages}
use Rattle.amr_ghost.proofs.messages.pack_messages.Goals as goal

pub returns : goal.returns
returns c = zip_messages (HasPacked c.args.patches.now) c.args.messages.now c.loop-k.messages c.loop-k.invariant.count (λ k d lt. c.loop-k.invariant.done k d (omega (arith, lt, c.loop-k-test.false)))
