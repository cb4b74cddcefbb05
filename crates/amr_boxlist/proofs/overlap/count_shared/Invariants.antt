use Rattle.std.proofs.Common.{◌≡◌, take}
use Rattle.std.specs.List.{sum_by}
use Rattle.amr_boxlist.specs.Shared.{shared}
use Rattle.amr_boxlist.proofs.overlap.count_shared.Given as goal

abbrev pub invariant-loop-a : goal.invariant-loop-a
invariant-loop-a l = l.count ≡ sum_by (shared l.b) (take l.a-index l.boxes)
