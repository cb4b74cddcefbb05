use Rattle.std.proofs.Common.{◌≡◌, ◌≤◌, ◌+◌, ℕ, [], List, length}
use Rattle.std.specs.List.{All}
use Rattle.crossbeam_channel.specs.Claims.{view, IsSeatAt}
use Rattle.crossbeam_channel.specs.Ends.{receives_on, sends_on}
use Rattle.amr_ranks.specs.Items.{total}
use Rattle.amr_ranks.specs.Letters.{LetterOf}
use Rattle.amr_post.specs.declared.post.Parcel.{Parcel}
use Rattle.amr_post.specs.Rounds.{rooms}
use Rattle.amr_post.specs.Letters.{IsParcel, IsUnderWay, letters_in}
use Rattle.amr_post.proofs.post.deliver_all.Given as goal

-- parcels are taken back
abbrev pub invariant-loop-parcel : goal.invariant-loop-parcel
invariant-loop-parcel g l = record {
  under_way : IsUnderWay l.fn.node (letters_in l.fn.parcels.items) (letters_in l.parcels.items) (view l.pass).sent [] l.node;
  parcels : All IsParcel l.parcels.items;
  seat : IsSeatAt (sends_on l.outlet) l.pass;
  seats : All (λ (q : Parcel). IsSeatAt (sends_on l.outlet) q.pass) l.parcels.items;
  rooms_are : rooms (view l.pass) + length l.parcels.items ≡ 9;
  some : length l.parcels.items ≤ 8;
  none_got : (view l.pass).got ≡ [];
  sent_is : l.sent ≡ length (view l.pass).sent;
}

abbrev pub decreases-loop-parcel : goal.decreases-loop-parcel
decreases-loop-parcel g l = length l.parcels.items

-- letters are got
abbrev pub invariant-loop-letter : goal.invariant-loop-letter
invariant-loop-letter g l = record {
  under_way : IsUnderWay l.fn.node (letters_in l.fn.parcels.items) [] (view l.pass).sent (view l.pass).got l.node;
  seat : IsSeatAt (receives_on l.inlet) l.pass;
  rooms_are : rooms (view l.pass) ≡ 9;
  sent_is : l.sent ≡ length (view l.pass).sent;
  got_is : length (view l.pass).got ≡ l._letter;
  left : (items : List LetterOf) × ((weight : LetterOf → ℕ) → total weight (view l.pass).sent ≡ total weight (view l.pass).got + total weight items);
}
