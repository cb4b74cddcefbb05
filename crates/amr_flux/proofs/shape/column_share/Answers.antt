use Rattle.std.proofs.Common.{◌≤◌, arith}
use Rattle.amr_def.specs.Domain.{columns}
use Rattle.amr_def.proofs.Sizes.{doubled_small}
use Rattle.amr_flux.proofs.shape.column_share.Goals as goal

pub overflow_cast-i : goal.overflow_cast-i
overflow_cast-i c =
    let few : columns c.args.p.now c.args.shape.level ≤ 4096 = doubled_small c.args.p.now.nx c.args.shape.level c.args.p.now.limits.greatest_nx c.requires.level in
    record { fits = omega (arith, few, c.requires.inside, c.requires.column) }

pub overflow_add-shape : goal.overflow_add-shape
overflow_add-shape c =
    let few : columns c.args.p.now c.args.shape.level ≤ 4096 = doubled_small c.args.p.now.nx c.args.shape.level c.args.p.now.limits.greatest_nx c.requires.level in
    record { fits = omega (arith, few, c.requires.inside, c.requires.column) }

pub y_share-requires : goal.y_share-requires
y_share-requires c = record { level = c.requires.level; inside = omega (arith, c.requires.inside, c.requires.column) }
