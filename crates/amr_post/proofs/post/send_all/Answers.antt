use Rattle.std.proofs.Common.{◌≡◌, subst, arith}
use Rattle.std.specs.Prelude.{slice_index_or}
use Rattle.crossbeam_channel.specs.Claims.{IsSeatAt}
use Rattle.crossbeam_channel.specs.Ends.{sends_on}
use Rattle.amr_post.specs.declared.post.Parcel.{Parcel}
use Rattle.amr_post.specs.Letters.{letter_of}
use Rattle.amr_post.proofs.Parcels.{same_letters}
use Rattle.amr_post.proofs.post.send_all.Goals as goal

pub returns-clause-channel : goal.returns-clause-channel
returns-clause-channel g c = λ k d lt.
    let made = (c.for_each_mut.ensures k d (omega arith)).1 in
    subst (λ (q : Parcel). IsSeatAt (sends_on c.args.outlet.now) q.pass) made.left made.call.0

pub returns-clause-letters : goal.returns-clause-letters
returns-clause-letters g c = same_letters c.args.parcels.now c.for_each_mut.new.s (omega arith) (λ k d lt.
    let made = (c.for_each_mut.ensures k d lt).1 in
    subst (λ (q : Parcel). letter_of q ≡ letter_of (slice_index_or c.args.parcels.now k d)) made.left
    (subst (λ (p : Parcel). letter_of made.after_call.now ≡ letter_of p) made.argument_is made.call.2))
