use Rattle.std.proofs.Common.{◌≡◌, take, None}
use Rattle.amr_ranks.specs.Items.{mass_at}
use Rattle.amr_ranks.specs.Stored.{start_of}
use Rattle.amr_ranks.proofs.node.Node.cell.Given as goal

abbrev pub invariant-loop-run : goal.invariant-loop-run
invariant-loop-run l = record {
  start : l.start ≡ start_of l.self-inside.runs.items l.run-index;
  none : None ≡ mass_at l.patch l.slot (take l.start l.self-inside.cells.items);
}
