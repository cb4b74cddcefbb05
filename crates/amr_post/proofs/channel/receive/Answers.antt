use Rattle.std.proofs.Common.{arith}
use Rattle.amr_ranks.specs.Letters.{LetterOf}
use Rattle.amr_ranks.proofs.Sums.{total_ones}
use Rattle.crossbeam_channel.specs.Claims.{view}
use Rattle.amr_post.proofs.Rules.{gets, left}
use Rattle.amr_post.proofs.channel.receive.Goals as goal

pub try_recv_as-requires-clause-rule : goal.try_recv_as-requires-clause-rule
try_recv_as-requires-clause-rule g c = (
  gets c.args.pass.now.id (view c.args.pass.now) c.requires.all,
  left c.args.pass.now.id (view c.args.pass.now) c.requires.all,
)

pub unreachable-requires : goal.unreachable-requires
unreachable-requires g c =
    let held = c.in-Err.ensures.rule.1 in
    let f = held.2 (λ (x : LetterOf). 1) in
    let a = total_ones (view c.args.pass.now).sent in
    let b = total_ones (view c.args.pass.now).got in
    let d = total_ones held.0 in
    let e = held.1 in
    let s = c.requires.some in
    omega arith
