-- Amounts of shares, set anew in letters that were not sent yet.
use Rattle.std.specs.Prelude.{◌≡◌, ◌==◌, ℕ, if◌then◌else◌, IsSome, IsTrue, List, [], ◌∷◌, length, option_map}
use Rattle.std.specs.List.{All}
use Rattle.amr_ranks.specs.declared.item.Item.{Item}
use Rattle.amr_ranks.specs.Items.{is_share, with_amount}
use Rattle.amr_ranks.specs.Letters.{LetterOf}
use Rattle.amr_post.specs.declared.post.Parcel.{Parcel}
use Rattle.amr_post.specs.declared.post.RankChannel.{RankChannel}

-- so many shares, and nothing else
pub record AreShares (items : List Item) (count : ℕ) : Type 0 where
  pub shares : All (λ (i : Item). IsTrue (is_share i)) items
  pub counted : length items ≡ count

-- the items with these amounts in turn
abbrev pub items_with : List Item → List ℕ → List Item
items_with [] amounts = []
items_with (i ∷ items) [] = i ∷ items
items_with (i ∷ items) (a ∷ amounts) = with_amount i a ∷ items_with items amounts

-- the letter with this number has these amounts, item for item; any other letter stays
abbrev pub with_amounts : ℕ → List ℕ → LetterOf → LetterOf
with_amounts number amounts l = if l.number == number then record l { items = items_with l.items amounts } else l

abbrev pub parcel_with : ℕ → List ℕ → Parcel → Parcel
parcel_with number amounts q = record q { letter = option_map (with_amounts number amounts) q.letter }

-- where it is the letter with this number, it is so many shares
abbrev pub HasShares : ℕ → ℕ → LetterOf → Type 0
HasShares number count l = l.number ≡ number → AreShares l.items count

-- nothing was sent yet: each letter is still there
abbrev pub IsUnsent : RankChannel → Type 0
IsUnsent p = All (λ (q : Parcel). IsSome q.letter) p.parcels.items
