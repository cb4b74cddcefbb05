use Rattle.std.proofs.Common.{◌<◌, length, get_or, arith}
use Rattle.std.proofs.lemmas.List.Elements.{All-get_or}
use Rattle.amr_owners.proofs.Noting.{none_noted, one_noted, all_noted, others_noted}
use Rattle.amr_owners.proofs.ranks.note.Goals as goal

pub loop-k-init : goal.loop-k-init
loop-k-init c = none_noted c.args.numbers.now c.args.rank c.args.ranks.now

pub loop-k-preserved : goal.loop-k-preserved
loop-k-preserved c =
    let ns = c.args.numbers.now in
    let k = c.loop-k.k in
    let within : get_or ns k 0 < length c.args.ranks.now = All-get_or (λ n. n < length c.args.ranks.now) ns k 0 c.loop-k-test.true c.requires.within in
    one_noted ns k c.args.rank c.args.ranks.now c.loop-k.ranks (omega (arith, within, c.loop-k.invariant.long)) c.loop-k.invariant

pub returns-clause-noted : goal.returns-clause-noted
returns-clause-noted c = all_noted c.args.numbers.now c.loop-k.k c.args.rank c.args.ranks.now c.loop-k.ranks c.loop-k-test.false c.loop-k.invariant

pub returns-clause-others : goal.returns-clause-others
returns-clause-others c = others_noted c.args.numbers.now c.loop-k.k c.args.rank c.args.ranks.now c.loop-k.ranks c.loop-k.auto.k-end c.loop-k.invariant
