-- When a disk in memory fails. (profile)
use Rattle.std.specs.Prelude.{ℕ, ◌+◌, ◌==◌, nat_le, nat_lt, Bool, true, false, ◌||◌, ◌&&◌, List, [], ◌∷◌, ◌++◌, length, Option, Some, None, if◌then◌else◌}
use Rattle.std.specs.List.{list_any}
use Rattle.amr_disk.specs.Calls.{Call, Wrote, Synced}

pub record Limits : Type 0 where
  -- the greatest length, and how many bytes may be written in all
  pub capacity : ℕ
  -- how many writes and syncs it takes
  pub calls : ℕ
  -- the numbers of the calls that fail, counted from 1
  pub fails : List ℕ
  -- the call at which it stops, if any
  pub stop : Option ℕ

abbrev pub has_stopped : Option ℕ → ℕ → Bool
has_stopped None number = false
has_stopped (Some stop) number = nat_le stop number

-- the call of this number fails, whatever it asks
abbrev pub is_refused : Limits → ℕ → Bool
is_refused limits number = list_any (λ n. n == number) limits.fails || has_stopped limits.stop number

-- how many bytes these calls wrote
abbrev pub bytes_in : List Call → ℕ
bytes_in [] = 0
bytes_in (Wrote at bytes ∷ rest) = length bytes + bytes_in rest
bytes_in (Synced ∷ rest) = bytes_in rest

-- after these calls there is room for one more
abbrev pub has_call : Limits → List Call → Bool
has_call limits calls = nat_lt (length calls) limits.calls

-- after these calls there is room for a write; an empty chunk needs none
abbrev pub has_room : Limits → List Call → ℕ → List ℕ → Bool
has_room limits calls at [] = true
has_room limits calls at (b ∷ bs) =
    nat_le (at + length (b ∷ bs)) limits.capacity && nat_le (bytes_in calls + length (b ∷ bs)) limits.capacity && has_call limits calls

-- the calls after a write, which takes place where there is room
abbrev pub with_write : Limits → List Call → ℕ → List ℕ → List Call
with_write limits calls at [] = calls
with_write limits calls at (b ∷ bs) = if has_room limits calls at (b ∷ bs) then calls ++ Wrote at (b ∷ bs) ∷ [] else calls
