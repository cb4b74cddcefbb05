use Rattle.std.proofs.Common.{◌∙◌, arith}
use Rattle.amr_regrid.proofs.Gathered.{wanted_are}
use Rattle.amr_regrid.proofs.blocks.wanted.Goals as goal

pub join_projection-requires-clause-over : goal.join_projection-requires-clause-over
join_projection-requires-clause-over c = record {
  bx = c.grow.ensures.shape.bx ∙ c.requires.over.bx;
  x = c.grow.ensures.shape.x ∙ c.requires.over.x;
  y = c.grow.ensures.shape.y ∙ c.requires.over.y;
}

pub in_blocks-requires-clause-known : goal.in_blocks-requires-clause-known
in_blocks-requires-clause-known c = omega (arith, c.requires.below, c.args.p.now.limits.greatest_max_level)

pub in_blocks-requires-clause-over : goal.in_blocks-requires-clause-over
in_blocks-requires-clause-over c = c.in_ok-join_projection.ensures.over.bx

pub returns-clause-cells : goal.returns-clause-cells
returns-clause-cells c =
    let t = c.in_ok-blocks.blocks in
    wanted_are c.args.p.now c.args.l c.args.finer.now c.args.tags c.grow.new.self c.join_projection.new.tags t c.requires.over c.grow.ensures.cells c.in_ok-join_projection.ensures.cells c.in_ok-blocks.ensures.in_box c.in_ok-blocks.ensures.cells
