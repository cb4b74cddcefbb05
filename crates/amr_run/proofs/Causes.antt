-- Why a call ended by a fault, at each exit.
use Rattle.std.proofs.Common.{◌≡◌, ◌≢◌, inl, inr, ℕ, List, Option, Result, Ok, Err, refl, sym, ap, subst}
use Rattle.std.specs.Prelude.{IsErrAnd}
use Rattle.amr_causes.specs.Causes.{Rose}
use Rattle.amr_run.specs.Faults.{Faults, HasCauses}
use Rattle.amr_run.specs.Outcome.{status_of}
use Rattle.amr_run.specs.Sources.{RefusesBy}
use Rattle.amr_run.specs.declared.status.Status.{Status}
use Rattle.amr_run.specs.declared.status.Status.TheVariants as status

-- nothing failed
pub no_causes : (s : Status) (at : Faults) → s ≢ status.ReadFault → s ≢ status.DiskFault → s ≢ status.WriteFault → HasCauses s at at
no_causes s at read disk write = record {
  read_fault = λ is. absurd (read is);
  disk_fault = λ is. absurd (disk is);
  write_fault = λ is. absurd (write is);
  no_read_fault = λ other. refl;
  no_disk_fault = λ other. refl;
  no_write_fault = λ other. (refl, refl);
}

-- by what a command says of its own result
pub causes_of : (r : Result Unit Status) (before after : Faults) → (r ≡ Err status.ReadFault → Rose before.source after.source) → (r ≢ Err status.ReadFault → after.source ≡ before.source)
    → (r ≡ Err status.DiskFault → Rose before.disk after.disk) → (r ≢ Err status.DiskFault → after.disk ≡ before.disk)
    → (r ≡ Err status.WriteFault → Rose before.out after.out) → (r ≢ Err status.WriteFault → after.out ≡ before.out) → after.err ≡ before.err → HasCauses (status_of r) before after
causes_of (Ok done) before after read no_read disk no_disk write no_write same = record {
  read_fault = λ is. absurd (cc);
  disk_fault = λ is. absurd (cc);
  write_fault = λ is. absurd (cc);
  no_read_fault = λ other. no_read (λ is. cc);
  no_disk_fault = λ other. no_disk (λ is. cc);
  no_write_fault = λ other. (no_write (λ is. cc), same);
}
causes_of (Err s) before after read no_read disk no_disk write no_write same = record {
  read_fault = λ is. read (ap Err is);
  disk_fault = λ is. disk (ap Err is);
  write_fault = λ is. inl (write (ap Err is), same);
  no_read_fault = λ other. no_read (λ is. other (cc));
  no_disk_fault = λ other. no_disk (λ is. other (cc));
  no_write_fault = λ other. (no_write (λ is. other (cc)), same);
}

-- by the status that an error became
pub caused_by : (r : Result Unit Status) (s : Status) (before after : Faults) → IsErrAnd r (λ x. x ≡ s) → HasCauses s before after → HasCauses (status_of r) before after
caused_by (Ok done) s before after is causes = absurd is
caused_by (Err x) s before after is causes = subst (λ (t : Status). HasCauses t before after) (sym is) causes

-- of a problem that was not read
pub unread_causes : (judges : List ℕ → Option Status → Type 0) (s : Status) (bytes : List ℕ) (before : Faults) (source : ℕ) → RefusesBy judges s bytes → (s ≡ status.ReadFault → Rose before.source source) → (s ≢ status.ReadFault → source ≡ before.source)
    → HasCauses s before (record before { source = source })
unread_causes judges s bytes before source refuses read no_read = record {
  read_fault = read;
  disk_fault = λ is. absurd (subst (λ (t : Status). RefusesBy judges t bytes) is refuses);
  write_fault = λ is. absurd (subst (λ (t : Status). RefusesBy judges t bytes) is refuses);
  no_read_fault = no_read;
  no_disk_fault = λ other. refl;
  no_write_fault = λ other. (refl, refl);
}

-- of a run that kept its checkpoints, or did not
pub kept_causes : (s : Status) (before after : Faults) → s ≢ status.ReadFault → after.source ≡ before.source → after.out ≡ before.out → (s ≡ status.DiskFault → Rose before.disk after.disk)
    → (s ≢ status.DiskFault → after.disk ≡ before.disk) → (s ≡ status.WriteFault → Rose before.err after.err) → (s ≢ status.WriteFault → after.err ≡ before.err) → HasCauses s before after
kept_causes s before after unread source out disk no_disk write no_write = record {
  read_fault = λ is. absurd (unread is);
  disk_fault = disk;
  write_fault = λ is. inr (write is);
  no_read_fault = λ other. source;
  no_disk_fault = no_disk;
  no_write_fault = λ other. (out, no_write other);
}

-- of a plot that did not go out
pub plot_causes : (before after : Faults) → after.source ≡ before.source → Rose before.out after.out → after.err ≡ before.err → after.disk ≡ before.disk → HasCauses status.WriteFault before after
plot_causes before after source out err disk = record {
  read_fault = λ is. absurd (cc);
  disk_fault = λ is. absurd (cc);
  write_fault = λ is. inl (out, err);
  no_read_fault = λ other. source;
  no_disk_fault = λ other. disk;
  no_write_fault = λ other. absurd (other refl);
}
