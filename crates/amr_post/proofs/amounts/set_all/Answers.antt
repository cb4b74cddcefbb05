use Rattle.std.proofs.Common.{◌≡◌, ◌∙◌, ◌+◌, ◌++◌, ◌<◌, ℕ, List, length, take, drop, get_or, set, ap, arith}
use Rattle.std.specs.Prelude.{map}
use Rattle.std.proofs.lemmas.List.{get_or_default}
use Rattle.std.proofs.lemmas.List.Edits.{map_over_more}
use Rattle.amr_post.specs.declared.post.Parcel.{Parcel}
use Rattle.amr_post.specs.Amounts.{parcel_with}
use Rattle.amr_post.proofs.amounts.set_all.Goals as goal

pub loop-parcel-preserved : goal.loop-parcel-preserved
loop-parcel-preserved c =
    let k : ℕ = c.loop-parcel.parcel-index in
    let f : Parcel → Parcel = parcel_with c.args.number c.args.amounts.now in
    let xs : List Parcel = c.args.parcels.now in
    let ys : List Parcel = c.loop-parcel.parcels in
    let x : Parcel = get_or ys k c.parcel-item.result in
    let below : k < length xs = omega arith in
    let inside : k < length ys = omega arith in
    let read : x ≡ get_or ys k x = get_or_default ys k c.parcel-item.result x inside in
    let r : set ys k c.set_own.new.parcel ≡ map f (take (k + 1) xs) ++ drop (k + 1) xs = ap (set ys k) c.set_own.ensures ∙ map_over_more f xs ys k x below c.loop-parcel.invariant read in r
