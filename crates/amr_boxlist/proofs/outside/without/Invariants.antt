use Rattle.std.proofs.Common.{◌≡◌, take}
use Rattle.std.specs.List.{flat_map}
use Rattle.amr_boxlist.specs.Remnants.{whole_or_frame}
use Rattle.amr_boxlist.proofs.outside.without.Given as goal

abbrev pub invariant-loop-a : goal.invariant-loop-a
invariant-loop-a l = l.left.items ≡ flat_map (whole_or_frame l.b) (take l.a-index l.boxes)
