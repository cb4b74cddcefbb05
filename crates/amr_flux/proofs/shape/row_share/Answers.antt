use Rattle.std.proofs.Common.{◌≤◌, arith}
use Rattle.amr_def.specs.Domain.{rows}
use Rattle.amr_def.proofs.Sizes.{doubled_small}
use Rattle.amr_flux.proofs.shape.row_share.Goals as goal

pub overflow_cast-j : goal.overflow_cast-j
overflow_cast-j c =
    let few : rows c.args.p.now c.args.shape.level ≤ 4096 = doubled_small c.args.p.now.ny c.args.shape.level c.args.p.now.limits.greatest_ny c.requires.level in
    record { fits = omega (arith, few, c.requires.inside, c.requires.row) }

pub overflow_add-shape : goal.overflow_add-shape
overflow_add-shape c =
    let few : rows c.args.p.now c.args.shape.level ≤ 4096 = doubled_small c.args.p.now.ny c.args.shape.level c.args.p.now.limits.greatest_ny c.requires.level in
    record { fits = omega (arith, few, c.requires.inside, c.requires.row) }

pub x_share-requires : goal.x_share-requires
x_share-requires c = record { level = c.requires.level; inside = omega (arith, c.requires.inside, c.requires.row) }
