-- What holds of all owners. (list scheduling; Graham 1966)
use Rattle.std.specs.Prelude.{◌≡◌, ℕ, ◌<◌, List, [], length, slice_index_or, Bool, Contains, IsTrue}
use Rattle.std.specs.List.{All, AllZip}
use Rattle.amr_patch.specs.declared.patches.Patch.{Patch}
use Rattle.amr_patch.specs.Patches.{ArePatchesApart}
use Rattle.amr_phase.specs.Plans.{total}
use Rattle.amr_owners.specs.Owners.{AreOwners, HaveExchanged, Rises, owned}

-- each number in the list of a rank is below the count, and its rank is that rank: so no number is in the lists of two
abbrev pub AreOfRank : Type 0
AreOfRank =
    (numbers : List (List ℕ)) (ranks count : ℕ) (h : AreOwners numbers ranks count) (r : ℕ) → r < ranks
    → All (λ n. (n < count) × (h.rank_of n ≡ r)) (slice_index_or numbers r [])

-- each patch that a rank owns is one of the level's
abbrev pub AreOfLevel : Type 0
AreOfLevel =
    (numbers : List (List ℕ)) (ranks : ℕ) (ps : List Patch) (p : Patch) → AreOwners numbers ranks (length ps) → (r : ℕ) → r < ranks
    → All (Contains ps) (owned p ps (slice_index_or numbers r []))

-- each number below the count is in the list of its rank
abbrev pub AreEachOwned : Type 0
AreEachOwned =
    (numbers : List (List ℕ)) (ranks count : ℕ) (h : AreOwners numbers ranks count) (n : ℕ) → n < count
    → Contains (slice_index_or numbers (h.rank_of n) []) n

-- the numbers in the list of a rank rise
abbrev pub AreInOrder : Type 0
AreInOrder = (numbers : List (List ℕ)) (ranks count : ℕ) → AreOwners numbers ranks count → (r : ℕ) → r < ranks → Rises (slice_index_or numbers r [])

-- no cell is in two patches of a rank where none is in two of the level
abbrev pub AreApart : Type 0
AreApart =
    (numbers : List (List ℕ)) (ranks : ℕ) (ps : List Patch) (p : Patch) → AreOwners numbers ranks (length ps) → (r : ℕ) → r < ranks
    → ArePatchesApart ps → ArePatchesApart (owned p ps (slice_index_or numbers r []))

-- what each rank has of something, added up over the ranks, is what all patches have of it
abbrev pub AreTogether : Type 0
AreTogether =
    (numbers : List (List ℕ)) (ranks : ℕ) (ps : List Patch) (p : Patch) (f : Patch → ℕ) → AreOwners numbers ranks (length ps)
    → total (λ ns. total f (owned p ps ns)) numbers ≡ total f ps

-- where the items are handed to the ranks' lists, each place of each list is served, and they are taken back, each item is served:
-- no item is lost, served twice or put in another's place
abbrev pub AreServed : Type 0
AreServed =
    (numbers : List (List ℕ)) (ps left new_ps : List Patch) (lists out served back : List (List Patch)) (is_served : Patch → Patch → Bool)
    → AreOwners numbers (length lists) (length ps) → length served ≡ length lists → HaveExchanged numbers ps lists left out
    → ((r : ℕ) → r < length lists → AllZip (λ a b. IsTrue (is_served a b)) (slice_index_or out r []) (slice_index_or served r []))
    → HaveExchanged numbers left served new_ps back → AllZip (λ a b. IsTrue (is_served a b)) ps new_ps
