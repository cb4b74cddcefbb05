-- Levels as they are read.
use Rattle.std.specs.Prelude.{◌≡◌, ℕ, ◌+◌, ◌*◌, ◌^◌, ◌<◌, ◌≤◌, List, [], ◌∷◌, length, slice_index_or}
use Rattle.std.specs.List.{All}
use Rattle.std.specs.Int.{w8}
use Rattle.amr_def.specs.declared.problem.Problem.{Problem}
use Rattle.amr_def.specs.Domain.{domain, domain_box}
use Rattle.amr_box.specs.declared.Cell.{Cell}
use Rattle.amr_def.specs.Facts.{IsAligned, IsLevel, growth}
use Rattle.amr_def.specs.State.{mass_of}
use Rattle.amr_def.specs.Limits.{between}
use Rattle.amr_def.specs.State as defined
use Rattle.amr_payload.specs.Payload.{Form, whole, changed, IsMassWidth}
use Rattle.amr_payload.specs.Tests.{Grid, Left, Reading, level_of, read_all_finer, read_also, read_number, tested, then_read}

-- the boxes passed the tests: it is a level of the problem, level 0 is the domain in one box, and above it boxes are aligned
pub record IsReadLevel (p : Problem) (l : ℕ) (gs : List Grid) : Type 0 where
  pub level : IsLevel p l (level_of gs)
  pub base : l ≡ 0 → (level_of gs).boxes ≡ domain_box (domain p 0) ∷ []
  pub aligned : 0 < l → All (IsAligned p.blocking) (level_of gs).boxes

-- a form that masses of level l at step n can be read by: those that an older level has are within their bound
abbrev pub IsReadable : Problem → ℕ → ℕ → Form → Type 0
IsReadable p n l (whole w) = IsMassWidth w
IsReadable p n l (changed old) = (c : Cell) → 4 ^ l * mass_of old c ≤ 2 ^ 30 + growth p.max_level * (n + 1)

-- the number of levels, and the test on it
abbrev pub read_level_count : Problem → Left → Reading ℕ
read_level_count p r = then_read (read_number w8 r) (λ t a. tested (between 1 (p.max_level + 1) t) r.place t a)

-- level 0, which is `base`, and then t finer levels
abbrev pub read_over : (ℕ → Form) → Problem → ℕ → ℕ → defined.Level → Left → Reading (List defined.Level)
read_over fs p n t base r = read_also base (read_all_finer fs p n t 0 base r)

-- the first of the levels is level 0, the domain in one box
pub record HasBase (p : Problem) (ks : List defined.Level) : Type 0 where
  pub some : 0 < length ks
  pub level : IsLevel p 0 (slice_index_or ks 0 defined.no_level)
  pub boxes : (slice_index_or ks 0 defined.no_level).boxes ≡ domain_box (domain p 0) ∷ []
