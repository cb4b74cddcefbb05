use Rattle.amr_ghost.proofs.SetGhosts.{one_given}
use Rattle.amr_ghost.proofs.ghosts.give_strip.Goals as goal

pub returns : goal.returns
returns c = one_given c.args.patches.now c.args.i c.index-patches-i.result c.requires.there c.requires.ghost_cells c.requires.beside c.give_ghosts.ensures
