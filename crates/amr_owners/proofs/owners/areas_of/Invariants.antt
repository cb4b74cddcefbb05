use Rattle.std.proofs.Common.{◌≡◌, ◌<◌, ◌^◌, map, take, sum}
use Rattle.amr_owners.specs.Owners.{area_of}
use Rattle.amr_owners.proofs.owners.areas_of.Given as goal

abbrev pub invariant-loop-patch : goal.invariant-loop-patch
invariant-loop-patch l = (l.areas.items ≡ map area_of (take l.patch-index l.patches)) × (sum l.areas.items ≡ l.total) × (l.total < 2 ^ 48)
