-- Copies of masses within a run of patches and between runs, and the messages that take them from one run to another.
use Rattle.std.specs.Prelude.{◌≡◌, ◌≢◌, ℕ, ◌+◌, ◌*◌, ◌<◌, ◌≤◌, Bool, true, ⊤, length, slice_index, slice_index_or, drop, List, [], ◌∷◌, IsTrue, Some}
use Rattle.std.specs.List.{All, AllZip}
use Rattle.std.specs.Global.{Vec}
use Rattle.amr_box.specs.declared.Cell.{Cell}
use Rattle.amr_box.specs.Cells.{holds}
use Rattle.amr_def.specs.State.{Masses}
use Rattle.amr_patch.specs.declared.patches.Patch.{Patch}
use Rattle.amr_patch.specs.Places.{in_frame}
use Rattle.amr_patch.specs.Patches.{box, mass_in}
use Rattle.amr_ghost.specs.Strips.{HasRoom, step}
use Rattle.amr_ghost.specs.Frames.{is_beside}
use Rattle.amr_ghost.specs.GhostCells.{AreCopied, AreGiven, HasGhosts, KeepsCells, KeepsGhosts}
use Rattle.amr_ghost.specs.Parts.{IsRun}
use Rattle.amr_ghost.specs.Outer.{AreOuterFor, HasOuter}
use Rattle.amr_ghost.specs.declared.outer.OuterGhosts.{OuterGhosts}
use Rattle.amr_ghost.specs.declared.parts.FrameCopy.{FrameCopy}
use Rattle.amr_ghost.specs.declared.parts.FrameParts.{FrameParts}
use Rattle.amr_ghost.specs.declared.messages.Message.{Message}

-- ---- copies. They go by boxes alone.

-- a copy takes masses of cells of one of these patches
pub record IsTaken (rs : List Patch) (c : FrameCopy) : Type 0 where
  pub there : c.source < length rs
  pub small : c.strip.count ≤ 8192
  pub room : HasRoom c.from
  pub held : (q : Patch) (k : ℕ) → k < c.strip.count → IsTrue (holds (box (slice_index_or rs c.source q)) (step c.strip.axis c.from k))

-- it gives them to ghost cells beside one of these patches
pub record IsReceived (rs : List Patch) (c : FrameCopy) : Type 0 where
  pub there : c.patch < length rs
  pub some : 0 < c.strip.count
  pub small : c.strip.count ≤ 8192
  pub room : HasRoom c.strip.from
  pub ghosts : (q : Patch) (k : ℕ) → k < c.strip.count → IsTrue (in_frame (box (slice_index_or rs c.patch q)) (step c.strip.axis c.strip.from k))
  pub beside : (q : Patch) (k : ℕ) → k < c.strip.count → IsTrue (is_beside (box (slice_index_or rs c.patch q)) (step c.strip.axis c.strip.from k))

-- both, within a run
abbrev pub IsFrameCopy : List Patch → FrameCopy → Type 0
IsFrameCopy rs c = IsTaken rs c × IsReceived rs c

-- a copy's ghost cells are to have the value V and the mark M of their cell, which are masses of the run's patches
abbrev pub IsCopyFor : (Cell → ℕ) → (Cell → Bool) → List Patch → FrameCopy → Type 0
IsCopyFor V M rs c = (q : Patch) → AreCopied V M (slice_index_or rs c.source q) c.strip.axis c.strip.from c.from c.strip.count

-- a copy's ghost cells have them
abbrev pub HasCopy : (Cell → ℕ) → (Cell → Bool) → List Patch → FrameCopy → Type 0
HasCopy V M fs c = (q : Patch) → HasGhosts V M (slice_index_or fs c.patch q) c.strip.axis c.strip.from c.strip.count

-- ---- messages

-- how many masses copies take
abbrev pub mass_count : List FrameCopy → ℕ
mass_count [] = 0
mass_count (c ∷ cs) = c.strip.count + mass_count cs

-- there is a place for each mass
abbrev pub HasPlaces : Message → Type 0
HasPlaces x = length x.masses.items ≡ mass_count x.copies.items

-- a message from a run, and one to a run
abbrev pub IsMessageFrom : List Patch → Message → Type 0
IsMessageFrom rs x = All (IsTaken rs) x.copies.items × HasPlaces x

abbrev pub IsMessageTo : List Patch → Message → Type 0
IsMessageTo rs x = All (IsReceived rs) x.copies.items × HasPlaces x

-- masses are those that copies take from a run's patches, one copy after another
abbrev pub ArePacked : List Patch → List FrameCopy → List ℕ → Type 0
ArePacked rs [] masses = ⊤
ArePacked rs (c ∷ cs) masses =
    ((q : Patch) (k : ℕ) → k < c.strip.count → slice_index masses k ≡ mass_in (slice_index_or rs c.source q) (step c.strip.axis c.from k))
    × ArePacked rs cs (drop c.strip.count masses)

-- a message was given the masses of a run's patches
pub record HasPacked (rs : List Patch) (x y : Message) : Type 0 where
  pub copies : y.copies ≡ x.copies
  pub count : length y.masses.items ≡ length x.masses.items
  pub packed : ArePacked rs y.copies.items y.masses.items

-- masses are the values V of the ghost cells that copies give them to, one copy after another, and those have the mark M
abbrev pub AreMassesFor : (Cell → ℕ) → (Cell → Bool) → List FrameCopy → List ℕ → Type 0
AreMassesFor V M [] masses = ⊤
AreMassesFor V M (c ∷ cs) masses =
    AreGiven V M c.strip.axis c.strip.from c.strip.count (λ k. slice_index masses k) true × AreMassesFor V M cs (drop c.strip.count masses)

abbrev pub IsMessageFor : (Cell → ℕ) → (Cell → Bool) → Message → Type 0
IsMessageFor V M x = AreMassesFor V M x.copies.items x.masses.items

-- the patches rs became fs where masses were given to the ghost cells of copies
pub record HasUnpacked (copies : List FrameCopy) (masses : List ℕ) (rs fs : List Patch) : Type 0 where
  pub kept : AllZip KeepsCells rs fs
  pub ghosts : (V : Cell → ℕ) (M : Cell → Bool) → AreMassesFor V M copies masses → AllZip (KeepsGhosts V M) rs fs
  pub set : (V : Cell → ℕ) (M : Cell → Bool) → AreMassesFor V M copies masses → All (HasCopy V M fs) copies

-- masses are those, M, of the cells that copies take, one copy after another
abbrev pub AreMassesOf : Masses → List FrameCopy → List ℕ → Type 0
AreMassesOf M [] masses = ⊤
AreMassesOf M (c ∷ cs) masses =
    ((k : ℕ) → k < c.strip.count → M (step c.strip.axis c.from k) ≡ Some (slice_index masses k)) × AreMassesOf M cs (drop c.strip.count masses)

-- a message carries the masses M of the cells that its copies take
abbrev pub CarriesMasses : Masses → Message → Type 0
CarriesMasses M x = AreMassesOf M x.copies.items x.masses.items

-- ---- the frames of a run

-- the patches rs became fs where copies within them were made
pub record HasMadeCopies (copies : List FrameCopy) (rs fs : List Patch) : Type 0 where
  pub kept : AllZip KeepsCells rs fs
  pub ghosts : (V : Cell → ℕ) (M : Cell → Bool) → All (IsCopyFor V M rs) copies → AllZip (KeepsGhosts V M) rs fs
  pub set : (V : Cell → ℕ) (M : Cell → Bool) → All (IsCopyFor V M rs) copies → All (HasCopy V M fs) copies

-- the patches rs became fs where outer ghost cells were given their values, copies within the patches were made, and messages unpacked
pub record HasFilled (given : OuterGhosts) (copies : List FrameCopy) (messages : List Message) (rs fs : List Patch) : Type 0 where
  pub kept : AllZip KeepsCells rs fs
  pub ghosts : (V : Cell → ℕ) (M : Cell → Bool) → AreOuterFor V M given → All (IsCopyFor V M rs) copies → All (IsMessageFor V M) messages
      → AllZip (KeepsGhosts V M) rs fs
  pub outer : (V : Cell → ℕ) (M : Cell → Bool) → AreOuterFor V M given → All (IsCopyFor V M rs) copies → All (IsMessageFor V M) messages
      → All (HasOuter V M fs) given.spans.items
  pub set : (V : Cell → ℕ) (M : Cell → Bool) → AreOuterFor V M given → All (IsCopyFor V M rs) copies → All (IsMessageFor V M) messages
      → All (HasCopy V M fs) copies
  pub received : (V : Cell → ℕ) (M : Cell → Bool) → AreOuterFor V M given → All (IsCopyFor V M rs) copies → All (IsMessageFor V M) messages
      → All (λ x. All (HasCopy V M fs) x.copies.items) messages

-- messages to run t of a level's patches, one from each run, have the masses that their copies take there. That from the run itself is
-- empty.
pub record AreMessagesTo (parts : FrameParts) (width runs t : ℕ) (qs : List Patch) (xs : List Message) : Type 0 where
  pub count : length xs ≡ runs
  pub copies : (u : ℕ) (x : Message) (v : Vec FrameCopy) → u < runs → u ≢ t
      → (slice_index_or xs u x).copies.items ≡ (slice_index_or parts.copies.items (u * runs + t) v).items
  pub own : (x : Message) → (slice_index_or xs t x).copies.items ≡ []
  pub packed : (u : ℕ) (x : Message) (us : List Patch) → u < runs → IsRun width u qs us
      → ArePacked us (slice_index_or xs u x).copies.items (slice_index_or xs u x).masses.items
