-- How a node keeps what it has: the cells of one letter after those of another, and for each letter where its cells end.
use Rattle.std.specs.Prelude.{ℕ, zero, suc, ◌≡◌, ◌<◌, ◌≤◌, true, List, length, map, take, slice_index_or, slice_range}
use Rattle.amr_ranks.specs.declared.item.FrameCell.{FrameCell}
use Rattle.amr_ranks.specs.declared.node.Run.{Run}
use Rattle.amr_ranks.specs.Items.{place_of, times}

abbrev pub no_cell : FrameCell
no_cell = record { patch = 0; slot = 0; mass = 0 }

abbrev pub no_run : Run
no_run = record { number = 0; end = 0; rises = true }

-- the cells rise by patches, then by slots
abbrev pub Rises : List FrameCell → Type 0
Rises cells = (a b : ℕ) → a < b → b < length cells → place_of (slice_index_or cells a no_cell) < place_of (slice_index_or cells b no_cell)

-- where the cells of letter i begin: where those of the letter before end
abbrev pub start_of : List Run → ℕ → ℕ
start_of runs zero = 0
start_of runs (suc i) = (slice_index_or runs i no_run).end

abbrev pub run_at : List Run → ℕ → Run
run_at runs i = slice_index_or runs i no_run

pub record IsStored (numbers : List ℕ) (cells : List FrameCell) (filled : ℕ) (runs : List Run) (count : ℕ) : Type 0 where
  pub room : length runs ≡ length numbers
  pub counted : count ≤ length runs
  pub inside : filled ≤ length cells
  pub once : (n : ℕ) → times n (map (λ (r : Run). r.number) (take count runs)) ≤ times n numbers
  pub ordered : (i : ℕ) → i < count → start_of runs i ≤ (run_at runs i).end
  pub ended : (i : ℕ) → i < count → (run_at runs i).end ≤ filled
  pub last : start_of runs count ≡ filled
  pub rising : (i : ℕ) → i < count → (run_at runs i).rises ≡ true → Rises (slice_range cells (start_of runs i) (run_at runs i).end)
