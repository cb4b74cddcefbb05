-- The bytes of a disk, and what a stop leaves of a write. As in crash Hoare logic (Chen et al. 2015) a write is pending until a sync;
-- here one that is pending may be torn at each byte. (profile)
use Rattle.std.specs.Prelude.{ℕ, zero, suc, ◌+◌, ◌-◌, ◌≡◌, ◌≤◌, ◌<◌, slice_index, min, max, List, [], ◌∷◌, ◌++◌, length, take, drop, replicate, Option, IfSome}

-- the place past a write of n bytes; a write of none reaches nothing
abbrev pub reach : ℕ → ℕ → ℕ
reach at zero = 0
reach at (suc n) = at + suc n

-- these bytes at this place; a gap before them is filled up, and an empty chunk writes nothing
abbrev pub placed : ℕ → ℕ → List ℕ → List ℕ → List ℕ
placed gap at [] old = old
placed gap at (b ∷ bs) old = take at old ++ replicate (at - length old) gap ++ (b ∷ bs) ++ drop (at + length (b ∷ bs)) old

-- a write that is done: a gap before it is zeros
abbrev pub written_at : ℕ → List ℕ → List ℕ → List ℕ
written_at at bytes old = placed 0 at bytes old

-- What a stop may leave of a write of n bytes over old: any bytes in its range and past the old end, the same elsewhere, and a length between
pub record Torn (at n : ℕ) (old new : List ℕ) : Type 0 where
  pub no_shorter : length old ≤ length new
  pub no_longer : length new ≤ max (length old) (reach at n)
  pub below : (i : ℕ) → i < length old → i < at → slice_index new i ≡ slice_index old i
  pub above : (i : ℕ) → i < length old → at + n ≤ i → slice_index new i ≡ slice_index old i

-- nothing changed
abbrev pub Same : List ℕ → List ℕ → Type 0
Same old new = new ≡ old

-- a read at a place gives as many bytes as there are
abbrev pub ReadsAt : Option (List ℕ) → ℕ → List ℕ → ℕ → Type 0
ReadsAt seen at into n = IfSome seen (λ s. (n ≡ min (length into) (length s - at)) × (take n into ≡ take n (drop at s)))

-- a stop leaves what a read gives, and nothing else
abbrev pub Only : Option (List ℕ) → (List ℕ → Type 0) → Type 0
Only seen images = IfSome seen (λ s. (c : List ℕ) → images c → c ≡ s)
