use Rattle.std.proofs.Common.{◌≡◌, ◌≤◌, ◌+◌, ◌-◌, ℕ, [], length, vec_capacity}
use Rattle.std.specs.Prelude.{IsSome}
use Rattle.std.specs.List.{All}
use Rattle.crossbeam_channel.specs.Claims.{view, IsSeatAt}
use Rattle.crossbeam_channel.specs.Ends.{sends_on}
use Rattle.amr_ranks.specs.Items.{total}
use Rattle.amr_ranks.specs.Letters.{LetterOf}
use Rattle.amr_post.specs.declared.post.Parcel.{Parcel}
use Rattle.amr_post.specs.Rounds.{hand}
use Rattle.amr_post.specs.Letters.{IsParcel, letters_in}
use Rattle.amr_post.proofs.post.RankChannel.open.Given as goal

-- each letter is in a parcel or still to be packed
abbrev pub invariant-loop-letter : goal.invariant-loop-letter
invariant-loop-letter l = record {
  weights : (weight : LetterOf → ℕ) → total weight (letters_in l.parcels.items) + total weight l.letters.items ≡ total weight l.initial.letters.items;
  parcels : All IsParcel l.parcels.items;
  unsent : All (λ (q : Parcel). IsSome q.letter) l.parcels.items;
  seat : IsSeatAt (sends_on l.outlet) l.pass;
  seats : All (λ (q : Parcel). IsSeatAt (sends_on l.outlet) q.pass) l.parcels.items;
  unused : view l.pass ≡ hand (9 - length l.parcels.items) [] [];
  count : length l.parcels.items + length l.letters.items ≡ length l.initial.letters.items;
  room : length l.initial.letters.items ≤ vec_capacity l.parcels;
}

abbrev pub decreases-loop-letter : goal.decreases-loop-letter
decreases-loop-letter l = length l.letters.items
