-- The first block whose species is none of so many.
use Rattle.std.proofs.Common.{◌≡◌, refl, ℕ, ◌+◌, ◌<◌, ◌≤◌, true, false, not, ℤ, ◌≤ℤ◌, ◌<ℤ◌, int_lt, arith, List, map, length, get_or, drop, find, Option, Some, None}
use Rattle.std.specs.List.{enumerate_from}
use Rattle.std.proofs.lemmas.Int.{ints}
use Rattle.std.proofs.lemmas.List.{drop_all, drop_more}
use Rattle.amr_problem.specs.Faults.{species_of}

-- of blocks that are numbered from k on
abbrev pub first_unknown : ℤ → ℕ → List (List ℤ) → Option (ℕ × ℤ)
first_unknown many k blocks = find (λ e. not (int_lt e.1 many)) (enumerate_from k (map species_of blocks))

is_below : (a b : ℤ) → a <ℤ b → int_lt a b ≡ true
is_below a b h = grind (arith, ints)

is_above : (a b : ℤ) → b ≤ℤ a → int_lt a b ≡ false
is_above a b h = grind (arith, ints)

pub known_here : (many : ℤ) (blocks : List (List ℤ)) (k : ℕ) (d : List ℤ) → k < length blocks → species_of (get_or blocks k d) <ℤ many
    → first_unknown many k (drop k blocks) ≡ first_unknown many (k + 1) (drop (k + 1) blocks)
known_here many blocks k d within known = rw (drop_more blocks k d within, is_below (species_of (get_or blocks k d)) many known) refl

pub unknown_here : (many : ℤ) (blocks : List (List ℤ)) (k : ℕ) (d : List ℤ) → k < length blocks → many ≤ℤ species_of (get_or blocks k d)
    → first_unknown many k (drop k blocks) ≡ Some (k, species_of (get_or blocks k d))
unknown_here many blocks k d within unknown = rw (drop_more blocks k d within, is_above (species_of (get_or blocks k d)) many unknown) refl

pub none_unknown : (many : ℤ) (blocks : List (List ℤ)) (k : ℕ) → length blocks ≤ k → first_unknown many k (drop k blocks) ≡ None
none_unknown many blocks k past = rw (drop_all k blocks past) refl
