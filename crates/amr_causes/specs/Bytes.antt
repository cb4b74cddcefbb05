-- The bytes that go into a sink and that come out of a source. A sink is known by a relation between itself and the bytes that
-- it holds, so that one that keeps a digest alone can tell them too; one that does not tell holds none. A source is known by the bytes
-- that it has left, where it tells them. (profile)
use Rattle.std.specs.Prelude.{ℕ, ◌≡◌, List, [], ◌++◌, take, Option, IfSome, Result, Ok, Err}
use Rattle.std.specs.Io.KnownBytes.{Consumes}

-- whatever the sink held, it holds these bytes after them
abbrev pub Grows : {S : Type 0} → (S → List ℕ → Type 0) → S → S → List ℕ → Type 0
Grows holds old new bytes = (held : List ℕ) → holds old held → holds new (held ++ bytes)

-- the bytes of the chunk that a write took: as many as it says, none where it failed
abbrev pub written : {E : Type 0} → Result ℕ E → List ℕ → List ℕ
written (Ok n) chunk = take n chunk
written (Err e) chunk = []

-- the first bytes of a whole
pub record IsPrefix (part whole : List ℕ) : Type 0 where
  pub rest : List ℕ
  pub split : part ++ rest ≡ whole

-- the sink took a prefix of these bytes
abbrev pub TakesPrefix : {S : Type 0} → (S → List ℕ → Type 0) → S → S → List ℕ → Type 0
TakesPrefix holds old new whole = (part : List ℕ) × IsPrefix part whole × Grows holds old new part

-- the source had these bytes left, where it tells
abbrev pub WereLeft : Option (List ℕ) → List ℕ → Type 0
WereLeft told bytes = IfSome told (λ left. left ≡ bytes)

-- the source gave some bytes from the front, and what is left is the rest
abbrev pub LeavesSuffix : Option (List ℕ) → Option (List ℕ) → Type 0
LeavesSuffix old new = (taken : List ℕ) × Consumes old new taken
