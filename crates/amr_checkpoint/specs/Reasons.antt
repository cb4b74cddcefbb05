-- Why a call that reads or writes a store is refused, by why the store's own call is.
use Rattle.amr_store.specs.declared.part.StoreFault.{StoreFault}
use Rattle.amr_store.specs.declared.part.StoreFault.TheVariants as call
use Rattle.amr_checkpoint.specs.declared.faults.CheckpointFault.{CheckpointFault}
use Rattle.amr_checkpoint.specs.declared.faults.CheckpointFault.TheVariants.{DiskFault, NoMemory}

-- a store is shut by a fault of the disk alone
abbrev pub fault_of_call : StoreFault → CheckpointFault
fault_of_call call.DiskFault = DiskFault
fault_of_call call.Shut = DiskFault
fault_of_call call.NoMemory = NoMemory
