use Rattle.std.proofs.Common.{◌≡◌, ◌+◌, ◌-◌, ◌<◌, length, sym, arith}
use Rattle.amr_register.proofs.BarLookups.{last_alone, none_first}
use Rattle.amr_register.proofs.bars.bar_with.Goals as goal

pub returns-then-count-eq0-clause-some : goal.returns-then-count-eq0-clause-some
returns-then-count-eq0-clause-some c = sym (none_first c.args.bars.now c.args.c c.args.count c.requires.bars c.requires.parts c.if-count-eq0.true)

pub returns-clause-some : goal.returns-clause-some
returns-clause-some c =
    let last = c.index-bars-count.result in
    let is_last : c.args.count ≡ c.args.count - 1 + 1 = omega (arith, c.if-count-eq0.false) in
    let there : c.args.count - 1 < length c.args.bars.now = omega (arith, is_last, c.requires.within) in
    sym (last_alone c.args.bars.now c.args.c c.args.count c.requires.bars c.requires.parts (c.args.count - 1) last is_last there c.index-bars-count.is (sym c.if-holds.ensures))
