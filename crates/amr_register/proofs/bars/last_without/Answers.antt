use Rattle.std.proofs.Common.{◌<◌, ◌-ℤ◌, ◌≤ℤ◌, ◌<ℤ◌, ℤ, pos, length, of_z, to_z, w32, arith}
use Rattle.std.proofs.lemmas.Int.{ints}
use Rattle.amr_register.proofs.BarLookups.{next_above, next_in_row, next_right, none_along, none_later}
use Rattle.amr_register.proofs.bars.last_without.Goals as goal

pub returns-then-count-bars-clause-without : goal.returns-then-count-bars-clause-without
returns-then-count-bars-clause-without c =
    let rs = c.args.bars.now in
    let last : ℤ = pos 2147483647 in
    none_along rs c.args.c c.args.count c.requires.bars c.requires.parts last (none_later rs c.args.c c.args.count c.requires.bars c.requires.parts last c.if-count-bars.true) c.requires.none

pub returns-then-c-next-clause-without : goal.returns-then-c-next-clause-without
returns-then-c-next-clause-without c =
    let rs = c.args.bars.now in
    let next = c.index-bars-count.result in
    let there : c.args.count < length rs = omega (arith, c.requires.within, c.if-count-bars.false) in
    let above : c.args.c.y <ℤ next.lo.y = omega (arith, ints, c.if-c-next.true, c.lo-next.ensures.y) in
    let last : ℤ = pos 2147483647 in
    none_along rs c.args.c c.args.count c.requires.bars c.requires.parts last (next_above rs c.args.c c.args.count c.requires.bars c.requires.parts next there c.index-bars-count.is last above) c.requires.none

pub returns-clause-from : goal.returns-clause-from
returns-clause-from c =
    let rs = c.args.bars.now in
    let next = c.index-bars-count.result in
    let there : c.args.count < length rs = omega (arith, c.requires.within, c.if-count-bars.false) in
    let low : next.lo.y ≤ℤ c.args.c.y = omega (arith, ints, c.if-c-next.false, c.lo-next.ensures.y) in
    let right = next_right rs c.args.c c.args.count c.requires.bars c.requires.parts next there c.index-bars-count.is low in
    omega (arith, ints, right, c.lo-next.ensures.x)

pub returns-clause-without : goal.returns-clause-without
returns-clause-without c =
    let rs = c.args.bars.now in
    let next = c.index-bars-count.result in
    let there : c.args.count < length rs = omega (arith, c.requires.within, c.if-count-bars.false) in
    let low : next.lo.y ≤ℤ c.args.c.y = omega (arith, ints, c.if-c-next.false, c.lo-next.ensures.y) in
    let right = next_right rs c.args.c c.args.count c.requires.bars c.requires.parts next there c.index-bars-count.is low in
    let last = to_z w32 (of_z w32 (to_z w32 (of_z w32 c.lo-next.result.x) -ℤ pos 1)) in
    let before : last <ℤ next.lo.x = omega (arith, ints, right, c.lo-next.ensures.x) in
    none_along rs c.args.c c.args.count c.requires.bars c.requires.parts last (next_in_row rs c.args.c c.args.count c.requires.bars c.requires.parts next there c.index-bars-count.is last before low) c.requires.none
