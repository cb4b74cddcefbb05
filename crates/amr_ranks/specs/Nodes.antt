-- What a rank has of the letters to it. A number counts once, however often its letter comes, and in whatever order. (Delivery at
-- least once, with duplicates suppressed by numbers at the end: Saltzer, J., Reed, D. and Clark, D., End-to-End Arguments in System
-- Design, ACM Transactions on Computer Systems 2 (1984))
use Rattle.std.specs.Prelude.{ℕ, ◌+◌, ◌==◌, ◌≤◌, ◌<◌, ◌^◌, Bool, if◌then◌else◌, IsTrue, List, [], ◌∷◌, ◌++◌, length, map, replicate, slice_index}
use Rattle.std.specs.List.{All, list_all, list_any, range_with_len}
use Rattle.amr_ranks.specs.declared.item.Item.{Item}
use Rattle.amr_ranks.specs.declared.item.FrameCell.{FrameCell}
use Rattle.amr_ranks.specs.declared.node.Taken.{Taken}
use Rattle.amr_ranks.specs.declared.node.Taken.TheVariants.{New, Again, Stranger}
use Rattle.amr_ranks.specs.Items.{cells_in, share_in, has_word, count_at}
use Rattle.amr_ranks.specs.Letters.{LetterOf}

-- The numbers of the letters to this rank, how many cells it has room for, which numbers were taken, in that order, the cells
-- of those letters, and for each word the sum of their shares
pub record NodeOf : Type 0 where
  pub rank : ℕ
  pub numbers : List ℕ
  pub room : ℕ
  pub taken : List ℕ
  pub cells : List FrameCell
  pub totals : List ℕ

-- the start: no letter was taken
abbrev pub fresh_node : ℕ → List ℕ → ℕ → ℕ → NodeOf
fresh_node rank numbers words room = record { rank = rank; numbers = numbers; room = room; taken = []; cells = []; totals = replicate words 0 }

abbrev pub is_in : ℕ → List ℕ → Bool
is_in n ms = list_any (λ m. m == n) ms

-- what becomes of a letter that is handed to a node
abbrev pub answer : NodeOf → LetterOf → Taken
answer n l = if is_in l.number n.numbers then (if is_in l.number n.taken then Again else New) else Stranger

-- its number is taken, its cells are there, and its shares are added
abbrev pub with_letter : NodeOf → LetterOf → NodeOf
with_letter n l =
    record n {
      taken = n.taken ++ l.number ∷ [];
      cells = n.cells ++ cells_in l.items;
      totals = map (λ w. slice_index n.totals w + share_in w l.items) (range_with_len 0 (length n.totals));
    }

-- only a new letter changes the node
abbrev pub taking : Taken → NodeOf → LetterOf → NodeOf
taking New n l = with_letter n l
taking Again n l = n
taking Stranger n l = n

-- all its numbers were taken
abbrev pub is_ready : NodeOf → Bool
is_ready n = list_all (λ m. is_in m n.taken) n.numbers

-- A letter fits beside what a node has: its words are the node's, no total reaches 2^63, no cell comes twice, and there is
-- room for its cells
pub record Fits (n : NodeOf) (l : LetterOf) : Type 0 where
  pub words_fit : All (λ (i : Item). IsTrue (has_word (length n.totals) i)) l.items
  pub totals_fit : (word : ℕ) → slice_index n.totals word + share_in word l.items < 2 ^ 63
  pub cells_once : (patch slot : ℕ) → count_at patch slot n.cells + count_at patch slot (cells_in l.items) ≤ 1
  pub cells_fit : length n.cells + length (cells_in l.items) ≤ n.room
