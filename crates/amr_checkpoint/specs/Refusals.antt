-- Why a run does not go on from what is stored, and why nothing is shown: the causes in the order in which they are looked for, and
-- their texts. (profile)
use Rattle.std.specs.Prelude.{ℕ, ◌≡◌, ◌≢◌, ◌≤◌, ◌<◌, ⊤, ◌⊎◌, List, [], ◌∷◌, ◌++◌, length, take, codes, decimal, slice_get}
use Rattle.amr_def.specs.Plot.{line, spaced}
use Rattle.amr_store.specs.declared.part.Part.{Part}
use Rattle.amr_store.specs.declared.part.Part.TheVariants as part
use Rattle.amr_checkpoint.specs.declared.refusal.Refusal.{Refusal}
use Rattle.amr_checkpoint.specs.declared.refusal.Refusal.TheVariants as refused
use Rattle.amr_checkpoint.specs.Contents.{Content, Empty, Damaged, Fresh, At}

-- the first place, from 0, where two lists differ: an entry of one, or the end of one alone
pub record IsFirstDifference (a b : List ℕ) (place : ℕ) : Type 0 where
  pub alike : take place a ≡ take place b
  pub differs : slice_get a place ≢ slice_get b place

-- the store holds other bytes than those given
pub record IsOtherProblem (kept given : List ℕ) (refusal : Refusal) : Type 0 where
  pub place : ℕ
  pub first : IsFirstDifference kept given place
  pub told : refusal ≡ refused.WrongProblem (length kept) (length given) place

-- the store is past the step that a run is to go to
pub record IsPast (kept given : List ℕ) (step target : ℕ) (refusal : Refusal) : Type 0 where
  pub same : kept ≡ given
  pub past : target < step
  pub told : refusal ≡ refused.Ahead step target

-- a run of these bytes to the target is refused by what is stored
abbrev pub RefusesRun : List ℕ → ℕ → Content → Refusal → Type 0
RefusesRun bytes target Empty refusal = ⊥
RefusesRun bytes target (Damaged damage) refusal = refusal ≡ refused.Damaged damage
RefusesRun bytes target (Fresh kept p) refusal = IsOtherProblem kept bytes refusal
RefusesRun bytes target (At kept p s sequence) refusal = IsOtherProblem kept bytes refusal ⊎ IsPast kept bytes s.step target refusal

-- and goes on where it is not: nothing is stored, or the same problem, at a step up to the target
abbrev pub GoesOn : List ℕ → ℕ → Content → Type 0
GoesOn bytes target Empty = ⊤
GoesOn bytes target (Damaged damage) = ⊥
GoesOn bytes target (Fresh kept p) = kept ≡ bytes
GoesOn bytes target (At kept p s sequence) = (kept ≡ bytes) × (s.step ≤ target)

-- `show` is refused where no state is stored
abbrev pub RefusesShow : Content → Refusal → Type 0
RefusesShow Empty refusal = refusal ≡ refused.Empty
RefusesShow (Damaged damage) refusal = refusal ≡ refused.Damaged damage
RefusesShow (Fresh kept p) refusal = refusal ≡ refused.Empty
RefusesShow (At kept p s sequence) refusal = ⊥

-- and shows the state that is
abbrev pub CanShow : Content → Type 0
CanShow Empty = ⊥
CanShow (Damaged damage) = ⊥
CanShow (Fresh kept p) = ⊥
CanShow (At kept p s sequence) = ⊤

-- ---- texts

abbrev pub part_text : Part → List ℕ
part_text part.Head = codes "head"
part_text part.Text = codes "text"
part_text part.Deltas = codes "deltas"
part_text part.Size = codes "size"
part_text (part.Slot k) = spaced (codes "slot" ∷ decimal k ∷ [])
part_text part.Tie = codes "tie"
part_text part.Problem = codes "problem"
part_text (part.State place) = spaced (codes "state" ∷ decimal place ∷ [])
part_text part.Sequence = codes "sequence"
part_text (part.Chain j) = spaced (codes "record" ∷ decimal j ∷ [])
part_text part.Renewal = codes "renewal"

abbrev pub refusal_text : Refusal → List ℕ
refusal_text (refused.Damaged damage) = codes "store damaged: " ++ part_text damage
refusal_text (refused.WrongProblem kept given place) =
    spaced (codes "store holds another problem:" ∷ decimal kept ∷ decimal given ∷ codes "at" ∷ decimal place ∷ [])
refusal_text (refused.Ahead stored target) = spaced (codes "store is ahead:" ∷ decimal stored ∷ decimal target ∷ [])
refusal_text refused.Empty = codes "store is empty"

-- where the disk failed
abbrev pub disk_text : List ℕ
disk_text = codes "disk failed"

-- the line of a refusal
abbrev pub refusal_line : Refusal → List ℕ
refusal_line refusal = line (codes "amr: " ++ refusal_text refusal)
