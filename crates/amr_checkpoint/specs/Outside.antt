-- A disk and a stream of errors at one moment, by what they show: so contracts of runs speak of the two objects. (profile)
use Rattle.std.specs.Prelude.{ℕ, ◌++◌, List, Option}
use Rattle.amr_disk.specs.Image.{Only}

pub record DiskAt : Type 1 where
  -- what a read gives, where the disk tells it
  pub seen : Option (List ℕ)
  -- its clock
  pub moment : ℕ
  -- the images that a stop at a moment, up to this one, may leave
  pub leaves : ℕ → List ℕ → Type 0

pub record OutsideAt : Type 1 where
  pub disk : DiskAt
  -- how often the disk has failed
  pub disk_faults : ℕ
  -- the bytes that the stream holds
  pub holds : List ℕ → Type 0
  -- how often the stream has failed
  pub err_faults : ℕ

abbrev pub disk_at : {D : Type 0} → (D → Option (List ℕ)) → (D → ℕ) → (D → ℕ → List ℕ → Type 0) → D → DiskAt
disk_at seen moment leaves disk = record { seen = seen disk; moment = moment disk; leaves = leaves disk }

abbrev pub outside_at : {D E : Type 0} → (D → Option (List ℕ)) → (D → ℕ) → (D → ℕ → List ℕ → Type 0) → (D → ℕ) → (E → List ℕ → Type 0) → (E → ℕ) → D → E
    → OutsideAt
outside_at seen moment leaves disk_faults holds err_faults disk err = record {
  disk = disk_at seen moment leaves disk;
  disk_faults = disk_faults disk;
  holds = holds err;
  err_faults = err_faults err;
}

-- nothing is pending: a stop leaves what a read gives
abbrev pub IsDurable : DiskAt → Type 0
IsDurable disk = Only disk.seen (disk.leaves disk.moment)

-- whatever the stream held, it holds these bytes after them
abbrev pub SaysMore : OutsideAt → OutsideAt → List ℕ → Type 0
SaysMore before after said = (held : List ℕ) → before.holds held → after.holds (held ++ said)
