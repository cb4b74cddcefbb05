-- The images while chunks are written to a disk.
use Rattle.std.specs.Prelude.{ℕ, ◌≡◌, List, Option, Some}
use Rattle.amr_disk.specs.Image.{Torn}
use Rattle.amr_disk.specs.Moments.{StopsIn, Rests}

-- at each moment of a run from a disk that reads as s, a stop leaves an image that has P s
abbrev pub StopsFrom : {D : Type 0} → (D → Option (List ℕ)) → (D → ℕ) → (D → ℕ → List ℕ → Type 0) → D → D → (List ℕ → List ℕ → Type 0) → Type 0
StopsFrom seen moment leaves old new P = (s : List ℕ) → seen old ≡ Some s → StopsIn moment leaves old new (P s)

-- two writes, each torn or whole
abbrev pub TornTwice : ℕ → ℕ → ℕ → ℕ → List ℕ → List ℕ → Type 0
TornTwice at n beyond m s c = (d : List ℕ) × Torn at n s d × Torn beyond m d c

-- three writes, each torn or whole
abbrev pub TornThrice : ℕ → ℕ → ℕ → ℕ → ℕ → ℕ → List ℕ → List ℕ → Type 0
TornThrice at n beyond m last k s c = (d : List ℕ) × TornTwice at n beyond m s d × Torn last k d c

-- Calls that read and no more: a read gives what it gave, and at each moment a stop leaves one of the images of before. From a moment on at
-- which a stop leaves only what a read gives, as where a sync returns, it leaves only that.
pub record OnlyReads {D : Type 0} (seen : D → Option (List ℕ)) (moment : D → ℕ) (leaves : D → ℕ → List ℕ → Type 0) (old new : D) : Type 0 where
  pub same : seen new ≡ seen old
  pub images : Rests (seen old) (moment old) (moment new) (leaves old) (leaves new)

-- what is told of the bytes that a read gives, where a read tells
abbrev pub Told : Option (List ℕ) → (List ℕ → Type 0) → Type 0
Told seen P = (s : List ℕ) → seen ≡ Some s → P s
