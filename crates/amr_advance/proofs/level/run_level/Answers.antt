use Rattle.std.specs.Option.{option_copied}
use Rattle.amr_ghost.specs.Frames.{old_masses}
use Rattle.amr_register.specs.EdgeCells.{lists_of}
use Rattle.amr_advance.proofs.Settled.{has_made}
use Rattle.amr_advance.proofs.level.run_level.Goals as goal
use Rattle.amr_advance.specs.Steps.{around_of}

pub returns-clause-made : goal.returns-clause-made
returns-clause-made g c =
    has_made (around_of c.args.given c.args.patches.now) (old_masses (option_copied c.args.given.old)) c.make_step.new.patches (lists_of c.args.edges.now) (lists_of c.make_step.new.edges)
    c.args.layout.now c.ready_lots.new.lots c.make_step.new.lots c.settle_lots.new.lots c.requires.layout.laid_out c.in_ok-make_step.ensures.made c.settle_lots.ensures
