use Rattle.std.proofs.Common.{◌≡◌, ◌++◌, take, drop}
use Rattle.std.specs.Prelude.{map}
use Rattle.amr_post.specs.Amounts.{parcel_with}
use Rattle.amr_post.proofs.amounts.set_all.Given as goal

abbrev pub invariant-loop-parcel : goal.invariant-loop-parcel
invariant-loop-parcel l = l.parcels ≡ map (parcel_with l.number l.amounts) (take l.parcel-index l.initial.parcels) ++ drop l.parcel-index l.initial.parcels
