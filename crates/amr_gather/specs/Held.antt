-- How totals of ranks are held: as shares in a letter from each rank to rank 0.
use Rattle.std.specs.Prelude.{ℕ, ◌≡◌, ◌+◌, ◌==◌, if◌then◌else◌, List, [], ◌∷◌, length, map}
use Rattle.std.specs.List.{All, range_with_len}
use Rattle.amr_ranks.specs.declared.item.Item.{Item}
use Rattle.amr_ranks.specs.declared.item.Item.TheVariants.{Share}
use Rattle.amr_ranks.specs.Items.{share_in, total}
use Rattle.amr_ranks.specs.Letters.{LetterOf, numbers_of}
use Rattle.amr_ranks.specs.Nodes.{fresh_node}
use Rattle.amr_post.specs.declared.ranks.Rank.{Rank}
use Rattle.amr_post.specs.Amounts.{IsUnsent}
use Rattle.amr_post.specs.Letters.{AreSame, IsRankChannel, letters_in}
use Rattle.amr_gather.specs.Totals.{Totals}

-- a share for each total, of the words from this one on
abbrev pub shares_from : ℕ → List ℕ → List Item
shares_from word [] = []
shares_from word (t ∷ totals) = Share word t ∷ shares_from (word + 1) totals

abbrev pub letter_from : ℕ → List ℕ → LetterOf
letter_from from totals = record { number = from; to = 0; items = shares_from 0 totals }

-- a letter from each rank, from this one on
abbrev pub letters_from : ℕ → List (List ℕ) → List LetterOf
letters_from from [] = []
letters_from from (totals ∷ lists) = letter_from from totals ∷ letters_from (from + 1) lists

-- what the letters from a rank say of a word
abbrev pub told : ℕ → ℕ → List LetterOf → ℕ
told from word ls = total (λ (l : LetterOf). if l.number == from then share_in word l.items else 0) ls

-- the totals that letters to a rank say
abbrev pub totals_told : Rank → Totals
totals_told r =
    record {
      words = length r.node.totals;
      lists = map (λ from. map (λ word. told from word (letters_in r.post.parcels.items)) (range_with_len 0 (length r.node.totals)))
          (range_with_len 0 (length r.node.numbers));
    }

-- the letters to a rank are those of these totals, none was sent, and its node waits for them
pub record Holds (r : Rank) (t : Totals) : Type 0 where
  pub channel : IsRankChannel r.post
  pub unsent : IsUnsent r.post
  pub counted : All (λ (totals : List ℕ). length totals ≡ t.words) t.lists
  pub letters : AreSame (letters_in r.post.parcels.items) (letters_from 0 t.lists)
  pub node : r.node ≡ fresh_node 0 (numbers_of (letters_from 0 t.lists)) t.words 0
