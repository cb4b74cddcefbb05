use Rattle.std.proofs.Common.{◌≡◌, length, take}
use Rattle.amr_lots.specs.Works.{places_read}
use Rattle.amr_advance.proofs.workspaces.count_reads.Given as goal

-- the reads so far are counted
abbrev pub invariant-loop-layout : goal.invariant-loop-layout
invariant-loop-layout l = l.reads ≡ length (places_read (take l.layout-index l.layouts))
