use Rattle.amr_lots.proofs.Filled.{edges_filled, inside_filled}
use Rattle.amr_lots.proofs.frames.begin.Goals as goal

pub find_nets-requires-clause-inside : goal.find_nets-requires-clause-inside
find_nets-requires-clause-inside c = inside_filled c.args.p.now c.args.l c.args.patches.now c.fill_lot.new.patches c.fill_lot.ensures.filled.kept c.requires.inside

pub find_nets-requires-clause-edges : goal.find_nets-requires-clause-edges
find_nets-requires-clause-edges c = edges_filled c.args.patches.now c.fill_lot.new.patches c.args.edges.now c.fill_lot.ensures.filled.kept c.requires.edges
