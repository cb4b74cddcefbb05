-- Why a call on a store was refused.
use Rattle.std.proofs.Common.{◌≡◌, Bool, true, false, Err, refl}
use Rattle.amr_store.specs.declared.part.StoreFault.{StoreFault}
use Rattle.amr_store.specs.declared.part.StoreFault.TheVariants as call
use Rattle.amr_store.specs.Reasons.{is_disk_fault, is_no_memory, is_shut_fault}
use Rattle.amr_checkpoint.specs.declared.faults.CheckpointFault.TheVariants.{DiskFault, NoMemory}
use Rattle.amr_checkpoint.specs.Reasons.{fault_of_call}

pub no_memory_of : (T : Type 0) (fault : StoreFault) → fault_of_call fault ≡ NoMemory → is_no_memory {T = T} (Err fault) ≡ true
no_memory_of T call.DiskFault is = let clash : DiskFault ≡ NoMemory = is in cc
no_memory_of T call.Shut is = let clash : DiskFault ≡ NoMemory = is in cc
no_memory_of T call.NoMemory is = refl

pub disk_fault_of : (T : Type 0) (fault : StoreFault) → fault_of_call fault ≡ DiskFault → is_shut_fault {T = T} (Err fault) ≡ false → is_disk_fault {T = T} (Err fault) ≡ true
disk_fault_of T call.DiskFault is unshut = refl
disk_fault_of T call.Shut is unshut = let clash : true ≡ false = unshut in cc
disk_fault_of T call.NoMemory is unshut = let clash : NoMemory ≡ DiskFault = is in cc

pub other_fault_of : (T : Type 0) (fault : StoreFault) → (fault_of_call fault ≡ DiskFault → ⊥) → is_disk_fault {T = T} (Err fault) ≡ false
other_fault_of T call.DiskFault other = absurd (other refl)
other_fault_of T call.Shut other = refl
other_fault_of T call.NoMemory other = refl
