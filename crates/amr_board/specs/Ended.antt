-- What a closed board holds.
use Rattle.std.specs.Prelude.{ℕ, ◌+◌, List, Option, slice_index}

-- the words as they stood: the face words (0 where nothing was put, else the amount plus 1) and the register words,
-- after word 0; and for each task the piece given back, until it is handed out
pub record EndedOf (P : Type 0) : Type 0 where
  pub places : ℕ
  pub registers : ℕ
  pub words : List ℕ
  pub pieces : List (Option P)

abbrev pub total_of : {P : Type 0} → EndedOf P → ℕ → ℕ
total_of o word = slice_index o.words (1 + o.places + word)

abbrev pub face_of : {P : Type 0} → EndedOf P → ℕ → ℕ
face_of o place = slice_index o.words (1 + place)
