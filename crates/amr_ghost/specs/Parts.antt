-- A plan of a level's frames in parts: runs of as many patches each, in order, what is copied from run to run, and all else.
use Rattle.std.specs.Prelude.{◌≡◌, ℕ, ◌+◌, ◌*◌, ◌<◌, ◌≤◌, ⊤, ◌⊎◌, length, slice_index_or, List}
use Rattle.std.specs.List.{All, Any}
use Rattle.std.specs.Global.{Vec}
use Rattle.amr_patch.specs.declared.patches.Patch.{Patch}
use Rattle.amr_ghost.specs.declared.sources.Source.{Source}
use Rattle.amr_ghost.specs.declared.sources.Source.TheVariants.{Beside, Coarser, Outside}
use Rattle.amr_ghost.specs.declared.sources.GhostSpan.{GhostSpan}
use Rattle.amr_ghost.specs.declared.plan.FramePlan.{FramePlan}
use Rattle.amr_ghost.specs.declared.parts.FrameCopy.{FrameCopy}
use Rattle.amr_ghost.specs.declared.parts.FrameParts.{FrameParts}

-- ghost cells get no mass of a patch of the level
abbrev pub IsElsewhere : Source → Type 0
IsElsewhere Outside = ⊤
IsElsewhere (Beside j h) = ⊥
IsElsewhere (Coarser h) = ⊤

-- a source is none of the patches from number n on
abbrev pub IsSourceBelow : ℕ → Source → Type 0
IsSourceBelow n Outside = ⊤
IsSourceBelow n (Beside j h) = j < n
IsSourceBelow n (Coarser h) = ⊤

-- a span is between the first n patches of a level
abbrev pub IsSpanBelow : ℕ → GhostSpan → Type 0
IsSpanBelow n s = (s.patch < n) × IsSourceBelow n s.source

-- a copy to the run that begins with patch `first`, from the one that begins with `first_source`, as a span of the level
abbrev pub span_of : ℕ → ℕ → FrameCopy → GhostSpan
span_of first first_source c = record { patch = first + c.patch; strip = c.strip; source = Beside (first_source + c.source) c.from }

-- a copy from run u to run t is one of these spans
abbrev pub IsSpanIn : List GhostSpan → ℕ → ℕ → ℕ → FrameCopy → Type 0
IsSpanIn spans width u t c = (c.patch < width) × (c.source < width) × Any (λ x. x ≡ span_of (t * width) (u * width) c) spans

-- a span of the run that begins with patch `first`, as a span of the level
abbrev pub level_span : ℕ → GhostSpan → GhostSpan
level_span first s = record { patch = first + s.patch; strip = s.strip; source = s.source }

-- a span of run t is one of these, and gets no mass of a patch of the level
abbrev pub IsOuterIn : List GhostSpan → ℕ → ℕ → GhostSpan → Type 0
IsOuterIn spans width t s = (s.patch < width) × IsElsewhere s.source × Any (λ x. x ≡ level_span (t * width) s) spans

-- a span is a copy from one run to another, or to the same
pub record IsCopied (width runs : ℕ) (parts : FrameParts) (s : GhostSpan) : Type 0 where
  pub from : ℕ
  pub to : ℕ
  pub from_there : from < runs
  pub there : to < runs
  pub is : (v : Vec FrameCopy) → Any (λ c. span_of (to * width) (from * width) c ≡ s) (slice_index_or parts.copies.items (from * runs + to) v).items

-- a span is an outer one of a run
pub record IsOuterPart (width runs : ℕ) (parts : FrameParts) (s : GhostSpan) : Type 0 where
  pub to : ℕ
  pub there : to < runs
  pub is : (v : Vec GhostSpan) → Any (λ x. level_span (to * width) x ≡ s) (slice_index_or parts.outer.items to v).items

-- a span is an outer one of a run, or a copy
abbrev pub IsInParts : ℕ → ℕ → FrameParts → GhostSpan → Type 0
IsInParts width runs parts s = IsOuterPart width runs parts s ⊎ IsCopied width runs parts s

-- the first k spans are in parts, and there is nothing in the parts but spans of the list
pub record ArePartedTo (spans : List GhostSpan) (k width runs : ℕ) (parts : FrameParts) : Type 0 where
  pub count : length parts.copies.items ≡ runs * runs
  pub outer_count : length parts.outer.items ≡ runs
  pub outer : (t : ℕ) (v : Vec GhostSpan) → t < runs → All (IsOuterIn spans width t) (slice_index_or parts.outer.items t v).items
  pub copies : (u t : ℕ) (v : Vec FrameCopy) → u < runs → t < runs → All (IsSpanIn spans width u t) (slice_index_or parts.copies.items (u * runs + t) v).items
  pub whole : (j : ℕ) (s : GhostSpan) → j < k → IsInParts width runs parts (slice_index_or spans j s)

-- a plan in parts: each of its spans is in them, and there is nothing else
abbrev pub IsParted : FramePlan → ℕ → ℕ → FrameParts → Type 0
IsParted plan width runs parts = ArePartedTo plan.spans.items (length plan.spans.items) width runs parts

-- patches are run t of those of a level, in runs of `width` patches
pub record IsRun (width t : ℕ) (qs rs : List Patch) : Type 0 where
  pub small : length rs ≤ width
  pub same : (k : ℕ) (q : Patch) → k < length rs → slice_index_or rs k q ≡ slice_index_or qs (t * width + k) q
  pub there : (k : ℕ) → k < length rs → t * width + k < length qs
  pub whole : (k : ℕ) → k < width → t * width + k < length qs → k < length rs
