-- Letters between ranks, and which of them go to one. (A message has a destination and a tag: Message Passing Interface Forum,
-- MPI: A Message-Passing Interface Standard, version 4.1 (2023), chapter 3)
use Rattle.std.specs.Prelude.{ℕ, ◌==◌, ◌≡◌, ◌<◌, ◌≤◌, ◌^◌, IsTrue, List, [], length, map, filter, slice_index_or}
use Rattle.std.specs.List.{All, flat_map}
use Rattle.amr_ranks.specs.declared.item.Item.{Item}
use Rattle.amr_ranks.specs.declared.item.FrameCell.{FrameCell}
use Rattle.amr_ranks.specs.Items.{total, cells_in, share_in, has_word, count_at}

-- a letter: its number, the rank that it is sent to, and its items in order
pub record LetterOf : Type 0 where
  pub number : ℕ
  pub to : ℕ
  pub items : List Item

abbrev pub no_letter : LetterOf
no_letter = record { number = 0; to = 0; items = [] }

abbrev pub letter_at : List LetterOf → ℕ → LetterOf
letter_at ls k = slice_index_or ls k no_letter

-- the letters to this rank, in order
abbrev pub letters_to : ℕ → List LetterOf → List LetterOf
letters_to rank ls = filter (λ (l : LetterOf). l.to == rank) ls

abbrev pub numbers_of : List LetterOf → List ℕ
numbers_of ls = map (λ (l : LetterOf). l.number) ls

abbrev pub numbers_to : ℕ → List LetterOf → List ℕ
numbers_to rank ls = numbers_of (letters_to rank ls)

-- the cells of the letters, one letter after another
abbrev pub cells_of : List LetterOf → List FrameCell
cells_of ls = flat_map (λ (l : LetterOf). cells_in l.items) ls

-- what the letters add to the total of a word
abbrev pub shares_of : ℕ → List LetterOf → ℕ
shares_of word ls = total (λ (l : LetterOf). share_in word l.items) ls

-- the letters to one rank have numbers of their own
abbrev pub NumbersDiffer : List LetterOf → Type 0
NumbersDiffer ls =
    (j k : ℕ) → j < length ls → k < length ls → (letter_at ls j).to ≡ (letter_at ls k).to → (letter_at ls j).number ≡ (letter_at ls k).number → j ≡ k

-- Letters that so many ranks may send each other, with totals of so many words and so many cells for each rank
pub record IsNet (ls : List LetterOf) (ranks words room : ℕ) : Type 0 where
  pub ranks_fit : All (λ (l : LetterOf). l.to < ranks) ls
  pub words_fit : All (λ (l : LetterOf). All (λ (i : Item). IsTrue (has_word words i)) l.items) ls
  pub numbers_differ : NumbersDiffer ls
  pub cells_once : (rank patch slot : ℕ) → count_at patch slot (cells_of (letters_to rank ls)) ≤ 1
  pub totals_fit : (rank word : ℕ) → shares_of word (letters_to rank ls) < 2 ^ 63
  pub cells_fit : (rank : ℕ) → length (cells_of (letters_to rank ls)) ≤ room
