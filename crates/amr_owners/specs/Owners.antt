-- Patches of a level owned by ranks: each by one rank, and those of a rank in the level's order (list scheduling; Graham 1966).
use Rattle.std.specs.Prelude.{◌≡◌, ◌≢◌, ℕ, ◌*◌, ◌<◌, List, [], length, map, slice_index, slice_index_or}
use Rattle.std.specs.List.{All}
use Rattle.amr_box.specs.Cells.{height, width}
use Rattle.amr_balance.specs.Shares.{Owner, tasks_of}
use Rattle.amr_patch.specs.declared.patches.Patch.{Patch}
use Rattle.amr_patch.specs.Patches.{box}

-- how many cells the box of a patch has
abbrev pub area_of : Patch → ℕ
area_of p = width (box p) * height (box p)

-- each number below the count has a rank, and the list of a rank has just the numbers that are its, in order
pub record AreOwners (numbers : List (List ℕ)) (ranks count : ℕ) : Type 0 where
  pub rank_of : Owner
  pub lists : length numbers ≡ ranks
  pub ranked : (n : ℕ) → n < count → rank_of n < ranks
  pub owned_by : (r : ℕ) → r < ranks → slice_index_or numbers r [] ≡ tasks_of rank_of r count

-- the items with these numbers
abbrev pub owned : {X : Type 0} → X → List X → List ℕ → List X
owned x xs ns = map (λ n. slice_index_or xs n x) ns

-- the numbers rise
abbrev pub Rises : List ℕ → Type 0
Rises ns = (j k : ℕ) → j < k → k < length ns → slice_index ns j < slice_index ns k

-- the number is none of these
abbrev pub IsNoneOf : List ℕ → ℕ → Type 0
IsNoneOf ns n = (k : ℕ) → k < length ns → slice_index ns k ≢ n

-- the items with these numbers and those of a list changed places, and no other item moved
pub record HaveTraded {X : Type 0} (ns : List ℕ) (items parts new_items new_parts : List X) : Type 0 where
  pub item_count : length new_items ≡ length items
  pub part_count : length new_parts ≡ length parts
  pub handed : (k : ℕ) (x : X) → k < length ns → slice_index_or new_parts k x ≡ slice_index_or items (slice_index ns k) x
  pub back : (k : ℕ) (x : X) → k < length ns → slice_index_or new_items (slice_index ns k) x ≡ slice_index_or parts k x
  pub others : (n : ℕ) (x : X) → IsNoneOf ns n → slice_index_or new_items n x ≡ slice_index_or items n x

-- what each rank owns and what its list has changed places
pub record HaveExchanged {X : Type 0} (numbers : List (List ℕ)) (items : List X) (lists : List (List X)) (new_items : List X)
    (new_lists : List (List X)) : Type 0 where
  pub item_count : length new_items ≡ length items
  pub list_counts : map length new_lists ≡ map length lists
  pub handed : (r : ℕ) (x : X) → r < length lists → slice_index_or new_lists r [] ≡ owned x items (slice_index_or numbers r [])
  pub back : (r : ℕ) (x : X) → r < length lists → owned x new_items (slice_index_or numbers r []) ≡ slice_index_or lists r []

-- at the place of each number in the list of a rank stands that rank
abbrev pub AreRanksOf : List (List ℕ) → List ℕ → Type 0
AreRanksOf numbers ranks = (r : ℕ) → r < length numbers → All (λ n. slice_index ranks n ≡ r) (slice_index_or numbers r [])
