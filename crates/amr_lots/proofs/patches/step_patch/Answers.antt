use Rattle.std.proofs.Common.{ap, arith}
use Rattle.amr_box.specs.Cells.{width}
use Rattle.amr_lots.proofs.SweptPatch.{may_on, stepped_on}
use Rattle.amr_lots.proofs.patches.step_patch.Goals as goal

pub update_alone-requires : goal.update_alone-requires
update_alone-requires c =
    let s = c.sweep_patch.ensures.swept in
    let may = may_on c.args.p.now c.args.l c.args.patch.now c.sweep_patch.new.patch s.of_box s.values c.requires.step in
    record {
      level = may.level;
      inside = may.inside;
      small = may.small;
      kept = may.kept;
      fits = may.fits;
      room = omega (arith, c.requires.room, c.sweep_patch.ensures.room, ap width s.of_box);
    }

pub returns-clause-stepped : goal.returns-clause-stepped
returns-clause-stepped c =
    let s = c.sweep_patch.ensures.swept in
    stepped_on c.args.p.now c.args.l c.args.patch.now c.sweep_patch.new.patch s.of_box s.values c.update_alone.new.patch (record { of_box = c.update_alone.ensures.of_box; masses = c.update_alone.ensures.masses })
