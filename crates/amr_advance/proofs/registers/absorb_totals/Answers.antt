use Rattle.std.proofs.Common.{◌*◌, ◌+◌, ◌<◌, length, refl, ap, arith}
use Rattle.std.specs.Prelude.{slice_index}
use Rattle.amr_register.specs.Fields.{cells_in}
use Rattle.amr_advance.proofs.Absorbed.{above, below, none_absorbed, one_absorbed}
use Rattle.amr_advance.proofs.registers.absorb_totals.Goals as goal

pub loop-k-init : goal.loop-k-init
loop-k-init c = none_absorbed _ _

pub absorb-requires-clause-low : goal.absorb-requires-clause-low
absorb-requires-clause-low c =
    let ws = c.args.totals.now in
    let k = c.loop-k.k in
    let there : k < length (cells_in c.args.register.now) = omega (arith, ap length c.cells.ensures, c.loop-k-test.true) in
    λ q. above ws c.args.register.now c.loop-k.register k c.loop-k.invariant there c.requires.room (slice_index ws (2 + 2 * k)) (slice_index ws (3 + 2 * k)) (c.requires.net k there) q

pub absorb-requires-clause-high : goal.absorb-requires-clause-high
absorb-requires-clause-high c =
    let ws = c.args.totals.now in
    let k = c.loop-k.k in
    let there : k < length (cells_in c.args.register.now) = omega (arith, ap length c.cells.ensures, c.loop-k-test.true) in
    λ q. below ws c.args.register.now c.loop-k.register k c.loop-k.invariant there c.requires.room (slice_index ws (2 + 2 * k)) (slice_index ws (3 + 2 * k)) (c.requires.net k there) q

pub loop-k-preserved : goal.loop-k-preserved
loop-k-preserved c =
    let ws = c.args.totals.now in
    let k = c.loop-k.k in
    let there : k < length (cells_in c.args.register.now) = omega (arith, ap length c.cells.ensures, c.loop-k-test.true) in
    one_absorbed ws c.args.register.now c.loop-k.register k c.loop-k.invariant there c.absorb.new.self (slice_index ws (2 + 2 * k)) (slice_index ws (3 + 2 * k)) c.requires.made refl refl c.absorb.ensures.added c.absorb.ensures.others c.absorb.ensures.cells

pub returns-clause-gained : goal.returns-clause-gained
returns-clause-gained c = λ k q lt at. c.loop-k.invariant.done k q (omega (arith, lt, ap length c.cells.ensures, c.loop-k-test.false)) lt at

pub returns-clause-cells : goal.returns-clause-cells
returns-clause-cells c = c.loop-k.invariant.cells
