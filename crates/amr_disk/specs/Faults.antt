-- How often a disk over a file has failed. (profile)
use Rattle.std.specs.Prelude.{ℕ}
use Rattle.amr_disk.specs.declared.file.FileDisk.{FileDisk}

-- its count of faults
abbrev pub faults_in : {R : Type 0} → FileDisk R → ℕ
faults_in disk = disk.faults
