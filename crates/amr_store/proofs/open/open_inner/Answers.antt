use Rattle.std.proofs.Common.{◌∙◌, List, ℕ, subst}
use Rattle.amr_store.proofs.Openings.{ProblemsRead, renewed_finds}
use Rattle.amr_store.specs.Opened.{IsRenewedFound}
use Rattle.amr_store.proofs.Readings.{reads_on}
use Rattle.amr_store.proofs.open.open_inner.Goals as goal

pub returns-in-Ok-read_bytes-clause-told : goal.returns-in-Ok-read_bytes-clause-told
returns-in-Ok-read_bytes-clause-told g c s is at of =
    let problem = c.in-Ok-read_bytes.problem.items in
    let found = c.same_problem.result in
    let made = subst (λ (x : List ℕ). IsRenewedFound c.args.base c.args.inner problem x found) c.deref.ensures.value c.same_problem.ensures.told in
    let read : ProblemsRead c.args.text c.args.base c.args.inner problem c.in-Ok.old.items s = record { new_told = c.in-Ok-read_bytes.ensures.told s (c.read_bytes.ensures.reads.same ∙ is); old_told = c.in-Ok.ensures.told s is } in
    renewed_finds found c.args.text c.args.base c.args.inner s problem c.in-Ok.old.items made at of read

pub returns-in-Ok-read_bytes-clause-reads : goal.returns-in-Ok-read_bytes-clause-reads
returns-in-Ok-read_bytes-clause-reads g c = reads_on g.D.Disk.seen g.D.Disk.moment g.D.Disk.leaves c.args.disk.now c.read_bytes.new.disk c.read_bytes-in-Ok.new.disk c.read_bytes.ensures.reads c.read_bytes-in-Ok.ensures.reads

pub returns-in-Err-read_bytes-clause-reads : goal.returns-in-Err-read_bytes-clause-reads
returns-in-Err-read_bytes-clause-reads g c = reads_on g.D.Disk.seen g.D.Disk.moment g.D.Disk.leaves c.args.disk.now c.read_bytes.new.disk c.read_bytes-in-Ok.new.disk c.read_bytes.ensures.reads c.read_bytes-in-Ok.ensures.reads
