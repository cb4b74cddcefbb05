-- Why a call ended by a fault of the outside: that object failed in it, and no other did. (profile)
use Rattle.std.specs.Prelude.{ℕ, ◌≡◌, ◌≢◌, ◌⊎◌}
use Rattle.amr_causes.specs.Causes.{Rose}
use Rattle.amr_run.specs.declared.status.Status.{Status}
use Rattle.amr_run.specs.declared.status.Status.TheVariants.{ReadFault, DiskFault, WriteFault}

-- how often the objects of a call have failed
pub record Faults : Type 0 where
  pub source : ℕ
  pub out : ℕ
  pub err : ℕ
  pub disk : ℕ

abbrev pub faults_at : {S O E D : Type 0} → (S → ℕ) → (O → ℕ) → (E → ℕ) → (D → ℕ) → S → O → E → D → Faults
faults_at source out err disk s o e d = record { source = source s; out = out o; err = err e; disk = disk d }

-- An object failed where the status says so: of `out` and `err` the first that did. With any other status it didn't.
pub record HasCauses (status : Status) (before after : Faults) : Type 0 where
  pub read_fault : status ≡ ReadFault → Rose before.source after.source
  pub disk_fault : status ≡ DiskFault → Rose before.disk after.disk
  pub write_fault : status ≡ WriteFault → (Rose before.out after.out × (after.err ≡ before.err)) ⊎ Rose before.err after.err
  pub no_read_fault : status ≢ ReadFault → after.source ≡ before.source
  pub no_disk_fault : status ≢ DiskFault → after.disk ≡ before.disk
  pub no_write_fault : status ≢ WriteFault → (after.out ≡ before.out) × (after.err ≡ before.err)
