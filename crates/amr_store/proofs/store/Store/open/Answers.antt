use Rattle.std.proofs.Common.{◌∙◌, sym}
use Rattle.amr_store.proofs.Openings.{finds_of, ready_found}
use Rattle.std.proofs.lemmas.Result.{IfOk-weaker}
use Rattle.amr_store.proofs.PartsRead.{if_ok_both}
use Rattle.amr_store.proofs.Readings.{reads_settled}
use Rattle.amr_store.proofs.Readings.{reads_on}
use Rattle.amr_store.proofs.store.Store.open.Goals as goal

pub returns-in-Ok-clause-finds : goal.returns-in-Ok-clause-finds
returns-in-Ok-clause-finds g c = IfOk-weaker c.find.result _ _ (λ found told s is. finds_of found s (told s (c.settle.ensures.reads.same ∙ is))) c.find.ensures.told

pub returns-in-Ok-clause-ready : goal.returns-in-Ok-clause-ready
returns-in-Ok-clause-ready g c =
    let m = g.D.Disk.moment in
    let l = g.D.Disk.leaves in
    if_ok_both c.find.result _ _ _ c.find.ensures.told c.find.ensures.open
    (λ found told open_is. ready_found g.D.Disk.seen m l found c.find.new.disk open_is (λ s is. told s (sym c.find.ensures.reads.same ∙ is)) (reads_settled g.D.Disk.seen m l c.settle.new.disk c.find.new.disk c.find.ensures.reads c.in-Ok.ensures.settled))

pub returns-in-Ok-clause-reads : goal.returns-in-Ok-clause-reads
returns-in-Ok-clause-reads g c = reads_on g.D.Disk.seen g.D.Disk.moment g.D.Disk.leaves c.args.disk.now c.settle.new.disk c.find.new.disk c.settle.ensures.reads c.find.ensures.reads
