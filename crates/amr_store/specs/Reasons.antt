-- Why a call on a store is refused. (profile)
use Rattle.std.specs.Prelude.{ℕ, ◌≡◌, ◌≤◌, Bool, true, false, ◌||◌, Result, Ok, Err}
use Rattle.amr_causes.specs.Causes.{Rose}
use Rattle.amr_store.specs.declared.part.StoreFault.{StoreFault}
use Rattle.amr_store.specs.declared.part.StoreFault.TheVariants.{DiskFault, Shut, NoMemory}

abbrev pub is_disk_fault : {T : Type 0} → Result T StoreFault → Bool
is_disk_fault (Err DiskFault) = true
is_disk_fault (Err Shut) = false
is_disk_fault (Err NoMemory) = false
is_disk_fault (Ok value) = false

abbrev pub is_shut_fault : {T : Type 0} → Result T StoreFault → Bool
is_shut_fault (Err DiskFault) = false
is_shut_fault (Err Shut) = true
is_shut_fault (Err NoMemory) = false
is_shut_fault (Ok value) = false

abbrev pub is_no_memory : {T : Type 0} → Result T StoreFault → Bool
is_no_memory (Err DiskFault) = false
is_no_memory (Err Shut) = false
is_no_memory (Err NoMemory) = true
is_no_memory (Ok value) = false

-- DiskFault comes only where the disk's count of faults rose. With any other answer it is as it was.
pub record HasReason {T : Type 0} (before now : ℕ) (result : Result T StoreFault) : Type 0 where
  pub later : before ≤ now
  pub failed : is_disk_fault result ≡ true → Rose before now
  pub no_fault : is_disk_fault result ≡ false → now ≡ before

-- Shut comes exactly where the store was shut, and a DiskFault alone shuts it
pub record Shuts {T : Type 0} (was is : Bool) (result : Result T StoreFault) : Type 0 where
  pub refused : is_shut_fault result ≡ was
  pub shut : is ≡ (was || is_disk_fault result)
