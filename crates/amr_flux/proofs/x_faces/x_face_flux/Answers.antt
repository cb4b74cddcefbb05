use Rattle.std.proofs.Common.{◌+◌, arith}
use Rattle.amr_flux.proofs.x_faces.x_face_flux.Goals as goal

pub flow-requires : goal.flow-requires
flow-requires c = record {
  low_small = let small = c.requires.small.at c.args.i c.args.j (omega (arith, c.requires.column)) c.requires.row in omega (arith, small, c.value_at-low.ensures);
  high_small = let small = c.requires.small.at (c.args.i + 1) c.args.j (omega (arith, c.requires.column)) c.requires.row in omega (arith, small, c.value_at-high.ensures);
}
