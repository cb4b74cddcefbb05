-- What a disk reads and what a stop may leave, by the writes and syncs that it took. (profile)
use Rattle.std.specs.Prelude.{ℕ, ◌≡◌, List, [], ◌∷◌, length, take}
use Rattle.amr_disk.specs.Image.{Torn, written_at}

pub data Call : Type 0 where
  Wrote : (at : ℕ) (bytes : List ℕ) → Call
  Synced : Call

-- what a read gives after these calls
abbrev pub seen_after : List ℕ → List Call → List ℕ
seen_after seen [] = seen
seen_after seen (Wrote at bytes ∷ rest) = seen_after (written_at at bytes seen) rest
seen_after seen (Synced ∷ rest) = seen_after seen rest

-- from a disk that reads as `seen` and may leave the images `now`
abbrev pub Leaves : (List ℕ → Type 0) → List ℕ → List Call → List ℕ → Type 0
Leaves now seen [] c = now c
Leaves now seen (Wrote at bytes ∷ rest) c = Leaves (λ x. (d : List ℕ) × now d × Torn at (length bytes) d x) (written_at at bytes seen) rest c
Leaves now seen (Synced ∷ rest) c = Leaves (λ x. x ≡ seen) seen rest c

-- after the first t of the calls
abbrev pub LeavesAt : List ℕ → List Call → ℕ → List ℕ → Type 0
LeavesAt made calls t c = Leaves (λ x. x ≡ made) made (take t calls) c

-- the image where each write since the last sync was left as `part` says
abbrev pub left_after : (ℕ → List ℕ → List ℕ → List ℕ) → List ℕ → List ℕ → List Call → List ℕ
left_after part image seen [] = image
left_after part image seen (Wrote at bytes ∷ rest) = left_after part (part at bytes image) (written_at at bytes seen) rest
left_after part image seen (Synced ∷ rest) = left_after part seen seen rest
