use Rattle.std.proofs.Common.{◌≡◌, ◌∙◌, ◌≤◌, ◌∷◌, [], sym, ap, length}
use Rattle.std.proofs.lemmas.Bool.{ltb-false}
use Rattle.amr_disk.specs.Image.{Torn, Same, written_at}
use Rattle.amr_store.proofs.Creation.{empty_stored, short_stop}
use Rattle.std.proofs.lemmas.Result.{on_ok_weaker}
use Rattle.amr_store.proofs.Readings.{reads_settled, reads_stops}
use Rattle.amr_store.proofs.Runs.{joins, weaker}
use Rattle.amr_store.proofs.Seen.{unchanged, written_as, first_stays, first_written}
use Rattle.amr_store.specs.Created.{shut_first}
use Rattle.amr_store.specs.Stored.{stored, Empty}
use Rattle.amr_store.proofs.create.close_first.Goals as goal

pub write_synced-requires-clause-settled : goal.write_synced-requires-clause-settled
write_synced-requires-clause-settled g c = reads_settled g.D.Disk.seen g.D.Disk.moment g.D.Disk.leaves c.args.disk.now c.has_byte.new.disk c.has_byte.ensures.reads c.requires.settled

pub returns-in-Ok-true-clause-settled : goal.returns-in-Ok-true-clause-settled
returns-in-Ok-true-clause-settled g c = reads_settled g.D.Disk.seen g.D.Disk.moment g.D.Disk.leaves c.args.disk.now c.has_byte.new.disk c.has_byte.ensures.reads c.requires.settled

pub returns-in-Ok-true-clause-stops : goal.returns-in-Ok-true-clause-stops
returns-in-Ok-true-clause-stops g c s is =
    weaker g.D.Disk.moment g.D.Disk.leaves c.args.disk.now c.has_byte.new.disk (Same s) (λ i. stored i ≡ Empty) (λ i same. ap stored same ∙ empty_stored s (c.requires.empty s is))
    (reads_stops g.D.Disk.seen g.D.Disk.moment g.D.Disk.leaves c.args.disk.now c.has_byte.new.disk s c.has_byte.ensures.reads c.requires.settled is)

pub returns-in-Ok-false-clause-stops : goal.returns-in-Ok-false-clause-stops
returns-in-Ok-false-clause-stops g c s is =
    let m = g.D.Disk.moment in
    let l = g.D.Disk.leaves in
    let short : length s ≤ 1 = ltb-false 1 (length s) (sym (c.in-Ok-false.ensures.told s is) ∙ c.in-Ok-false.field-0-test) in
    joins m l c.args.disk.now c.has_byte.new.disk c.write_synced.new.disk (Same s) (Torn 0 1 s) (λ i. stored i ≡ Empty)
    (reads_stops g.D.Disk.seen m l c.args.disk.now c.has_byte.new.disk s c.has_byte.ensures.reads c.requires.settled is) (c.write_synced.ensures.stops s (c.has_byte.ensures.reads.same ∙ is))
    (λ i same. ap stored same ∙ empty_stored s (c.requires.empty s is)) (λ i torn. short_stop s i short torn)

pub returns-in-Err-clause-stops : goal.returns-in-Err-clause-stops
returns-in-Err-clause-stops g c s is =
    weaker g.D.Disk.moment g.D.Disk.leaves c.args.disk.now c.has_byte.new.disk (Same s) (λ i. stored i ≡ Empty) (λ i same. ap stored same ∙ empty_stored s (c.requires.empty s is))
    (reads_stops g.D.Disk.seen g.D.Disk.moment g.D.Disk.leaves c.args.disk.now c.has_byte.new.disk s c.has_byte.ensures.reads c.requires.settled is)

pub returns-in-Ok-true-clause-seen : goal.returns-in-Ok-true-clause-seen
returns-in-Ok-true-clause-seen g c =
    written_as (λ s. s) shut_first (g.D.Disk.seen c.args.disk.now) (g.D.Disk.seen c.has_byte.new.disk) (g.D.Disk.seen c.has_byte.new.disk) c.has_byte.ensures.reads.same (unchanged _)
    (λ s is. first_stays s (sym (c.in-Ok-true.ensures.told s is) ∙ c.in-Ok-true.field-0-test))

pub returns-in-Ok-false-clause-seen : goal.returns-in-Ok-false-clause-seen
returns-in-Ok-false-clause-seen g c =
    on_ok_weaker c.write_synced.result (λ seen. written_as (written_at 0 (0 ∷ [])) shut_first (g.D.Disk.seen c.args.disk.now) (g.D.Disk.seen c.has_byte.new.disk) (g.D.Disk.seen c.write_synced.new.disk) c.has_byte.ensures.reads.same seen
    (λ s is. first_written s (sym (c.in-Ok-false.ensures.told s is) ∙ c.in-Ok-false.field-0-test))) c.write_synced.ensures.seen
