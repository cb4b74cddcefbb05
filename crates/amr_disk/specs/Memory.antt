-- What a disk in memory shows. (profile)
use Rattle.std.specs.Prelude.{ℕ, ◌≡◌, ◌+◌, ◌&&◌, nat_le, nat_lt, Bool, List, length, Option, Some, vec_len}
use Rattle.amr_disk.specs.Calls.{Call, LeavesAt}
use Rattle.amr_disk.specs.Limits.{Limits}
use Rattle.amr_disk.specs.Log.{calls_of}
use Rattle.amr_disk.specs.declared.memory.MemDisk.{MemDisk}

abbrev pub limits_of : MemDisk → Limits
limits_of disk = record { capacity = disk.capacity; calls = disk.calls; fails = disk.fails.items; stop = disk.stop }

-- how many calls it was asked for
abbrev pub asked_of : MemDisk → ℕ
asked_of disk = disk.asked

-- what it was made with
abbrev pub made_of : MemDisk → List ℕ
made_of disk = disk.made.items

-- what it was made with stays: its limits and its first bytes
pub record StaysAsMade (old new : MemDisk) : Type 0 where
  pub limits : limits_of new ≡ limits_of old
  pub made : made_of new ≡ made_of old

-- the writes and syncs that it took
abbrev pub calls_in : MemDisk → List Call
calls_in disk = calls_of disk.steps.items disk.written.items

-- there is room for a write of so many bytes: where it ends, in the log's bytes, and in the log's steps
abbrev pub fits_in : MemDisk → ℕ → ℕ → Bool
fits_in disk at len = nat_le (at + len) disk.capacity && nat_le (vec_len disk.written + len) disk.capacity && nat_lt (vec_len disk.steps) disk.calls

-- what a read gives
abbrev pub seen_of : MemDisk → Option (List ℕ)
seen_of disk = Some disk.bytes.items

-- the clock counts the writes and syncs
abbrev pub moment_of : MemDisk → ℕ
moment_of disk = length (calls_in disk)

abbrev pub leaves_of : MemDisk → ℕ → List ℕ → Type 0
leaves_of disk moment image = LeavesAt (made_of disk) (calls_in disk) moment image

abbrev pub faults_of : MemDisk → ℕ
faults_of disk = disk.faults
