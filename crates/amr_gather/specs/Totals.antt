-- Totals of ranks, word by word, and their sums. (A reduction of a vector to one rank: Message Passing Interface Forum, MPI: A
-- Message-Passing Interface Standard, version 4.1 (2023), chapter 6, global reduction operations)
use Rattle.std.specs.Prelude.{ℕ, ◌≡◌, ◌+◌, ◌<◌, ◌^◌, List, [], ◌∷◌, length, slice_index}
use Rattle.std.specs.List.{All}
use Rattle.amr_ranks.specs.Items.{total}

-- so many words, and for each rank in turn its totals, one for each word
pub record Totals : Type 0 where
  pub words : ℕ
  pub lists : List (List ℕ)

-- the sum over the ranks of what they have for a word
abbrev pub sum_at : List (List ℕ) → ℕ → ℕ
sum_at lists word = total (λ (totals : List ℕ). slice_index totals word) lists

-- no sum is too large
abbrev pub AreSumsSmall : Totals → Type 0
AreSumsSmall t = (word : ℕ) → word < t.words → sum_at t.lists word < 2 ^ 63
