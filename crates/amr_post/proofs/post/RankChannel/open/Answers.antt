use Rattle.std.proofs.Common.{◌≡◌, ◌∙◌, ◌-◌, ◌∷◌, ◌++◌, [], List, length, ap, arith}
use Rattle.std.specs.Prelude.{IsSome}
use Rattle.std.proofs.lemmas.List.{length_push}
use Rattle.std.proofs.lemmas.List.Elements.{All-push, All-same}
use Rattle.crossbeam_channel.specs.Claims.{IsSeatAt}
use Rattle.crossbeam_channel.specs.Ends.{sends_on}
use Rattle.amr_ranks.specs.Items.{total}
use Rattle.amr_post.specs.declared.channel.Hand.{Hand}
use Rattle.amr_post.specs.declared.post.Parcel.{Parcel}
use Rattle.amr_post.specs.Rounds.{hand}
use Rattle.amr_post.specs.Letters.{IsParcel, letters_in}
use Rattle.amr_post.proofs.Parcels.{packed}
use Rattle.amr_post.proofs.post.RankChannel.open.Goals as goal

pub loop-letter-preserved : goal.loop-letter-preserved
loop-letter-preserved c =
    let inv = c.loop-letter.invariant in
    let ps = c.loop-letter.parcels.items in
    let q = c.pack-parcel.result in
    let old = c.loop-letter.letters.items in
    let new = c.pop.new.self.items in
    let outlet = c.in-Ok-open.outlet in
    let items : c.add.new.parcels.items ≡ ps ++ q ∷ [] = c.add.ensures.items in
    let popped : old ≡ new ++ c.in-Some.letter ∷ [] = c.in-Some.ensures.items in
    let more = ap length items ∙ length_push ps q in
    let fewer = ap length popped ∙ length_push new c.in-Some.letter in
    let left : 9 - length ps - 1 ≡ 9 - length c.add.new.parcels.items = omega (arith, more) in
    record {
      weights = λ w.
          (let h = packed ps q c.in-Some.letter old new c.args.letters.items c.pack-parcel.ensures.letter popped inv.weights w in
          let e = ap (λ (xs : List Parcel). total w (letters_in xs)) items in
          omega (arith, h, e));
      parcels = All-same IsParcel c.add.new.parcels.items (ps ++ q ∷ []) items (All-push IsParcel ps q inv.parcels c.pack-parcel.ensures.parcel);
      unsent = All-same (λ (p : Parcel). IsSome p.letter) c.add.new.parcels.items (ps ++ q ∷ []) items
          (All-push (λ (p : Parcel). IsSome p.letter) ps q inv.unsent c.pack-parcel.ensures.there);
      seat = c.pack-parcel.ensures.channel.0;
      seats = All-same (λ (p : Parcel). IsSeatAt (sends_on outlet) p.pass) c.add.new.parcels.items (ps ++ q ∷ []) items
          (All-push (λ (p : Parcel). IsSeatAt (sends_on outlet) p.pass) ps q inv.seats c.pack-parcel.ensures.channel.1);
      unused = c.pack-parcel.ensures.left ∙ ap (λ (v : Hand). hand (v.room - 1) v.sent v.got) inv.unused ∙ ap (λ n. hand n [] []) left;
      count = omega (arith, inv.count, more, fewer);
      room = omega (arith, inv.room, c.add.ensures.capacity);
    }
