use Rattle.std.proofs.Common.{◌≡◌, arith}
use Rattle.amr_letters.specs.Shared.{sharing}
use Rattle.amr_letters.proofs.Made.{all_ranks, one_rank}
use Rattle.amr_letters.proofs.bring.ranks_for.Goals as goal

pub loop-to-preserved : goal.loop-to-preserved
loop-to-preserved c = one_rank (sharing c.args.s) c.args.ranks c.loop-to.to c.loop-to.all.items c.push.new.self.items _ c.loop-to.invariant c.in_ok-rank_for.ensures c.in_ok-push.ensures.items

pub returns : goal.returns
returns c =
    let all : c.loop-to.to ≡ c.args.ranks = (let f = c.loop-to-test.false in let e = c.loop-to.auto.to-end in omega arith) in
    all_ranks (sharing c.args.s) c.args.ranks c.loop-to.to c.loop-to.all.items all c.loop-to.invariant
