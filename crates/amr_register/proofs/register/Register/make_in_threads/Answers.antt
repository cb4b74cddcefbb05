use Rattle.std.proofs.Common.{arith}
use Rattle.amr_patch.specs.Levels.{level_of}
use Rattle.amr_register.proofs.FineBoxes.{all_near}
use Rattle.amr_register.proofs.WholeBands as bands
use Rattle.amr_register.proofs.register.Register.make_in_threads.Goals as goal

pub make-requires-clause-near : goal.make-requires-clause-near
make-requires-clause-near g c = all_near c.args.p.now c.args.l (level_of c.args.coarse.now) (level_of c.args.fine.now) c.requires.coarse c.requires.fine c.requires.nested c.requires.level

pub over-requires-clause-there : goal.over-requires-clause-there
over-requires-clause-there g c = bands.there c.args.p.now c.args.l c.args.coarse.now (level_of c.args.fine.now).masses c.in_ok-band.band.cells.items c.in_ok-band.ensures.cells

pub over-requires-clause-few : goal.over-requires-clause-few
over-requires-clause-few g c = bands.few c.args.p.now c.args.l c.args.coarse.now (level_of c.args.fine.now).masses c.in_ok-band.band.cells.items c.in_ok-band.ensures.cells (omega (arith, c.requires.level))

pub over-requires-clause-rising : goal.over-requires-clause-rising
over-requires-clause-rising g c = bands.rises c.args.p.now c.args.l c.args.coarse.now (level_of c.args.fine.now).masses c.in_ok-band.band.cells.items c.in_ok-band.ensures.cells

pub over-requires-clause-near : goal.over-requires-clause-near
over-requires-clause-near g c = bands.near c.args.p.now c.args.l c.args.coarse.now (level_of c.args.fine.now).masses c.in_ok-band.band.cells.items c.in_ok-band.ensures.cells (omega (arith, c.requires.level))

pub over-requires-clause-side_count : goal.over-requires-clause-side_count
over-requires-clause-side_count g c = c.in_ok-band.ensures.side_count

pub returns-clause-cells : goal.returns-clause-cells
returns-clause-cells g c = c.over.ensures.cells c.args.p.now c.args.l (level_of c.args.coarse.now).masses (level_of c.args.fine.now).masses c.in_ok-band.ensures
