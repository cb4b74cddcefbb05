use Rattle.std.proofs.Common.{◌≡◌, ◌∙◌, ◌∷◌, [], sym, subst, ap, ℕ, List}
use Rattle.amr_disk.specs.Image.{Torn, Same, written_at}
use Rattle.amr_store.proofs.Calls.{mapped_some}
use Rattle.std.proofs.lemmas.Result.{on_ok_weaker}
use Rattle.amr_store.proofs.Readings.{reads_stops}
use Rattle.amr_store.proofs.Renewals.{shut_already, shut_after, shut_same}
use Rattle.amr_store.proofs.Runs.{joins, weaker}
use Rattle.amr_store.proofs.Seen.{unchanged, written_as, past_stays, past_written}
use Rattle.amr_store.specs.Renewed.{IsOldShut, shut_past}
use Rattle.amr_store.specs.Stored.{stored}
use Rattle.amr_store.proofs.renew.shut_end.Goals as goal

pub returns-in-Ok-true-clause-shut : goal.returns-in-Ok-true-clause-shut
returns-in-Ok-true-clause-shut g c t problem is old =
    let was = sym c.has_byte.ensures.reads.same ∙ is in
    shut_already c.args.end problem t (old t was) (sym (c.in-Ok-true.ensures.told t was) ∙ c.in-Ok-true.field-0-test)

pub returns-in-Ok-false-clause-shut : goal.returns-in-Ok-false-clause-shut
returns-in-Ok-false-clause-shut g c =
    on_ok_weaker c.write_synced.result (λ seen t problem is old.
    let from = mapped_some (written_at c.args.end (0 ∷ [])) (g.D.Disk.seen c.has_byte.new.disk) t (sym seen ∙ is) in
    let was = sym c.has_byte.ensures.reads.same ∙ from.1 in
    subst (λ (i : List ℕ). IsOldShut c.args.end problem i) from.2 (shut_after c.args.end problem from.0 (old from.0 was) (sym (c.in-Ok-false.ensures.told from.0 was) ∙ c.in-Ok-false.field-0-test))) c.write_synced.ensures.seen

pub returns-in-Ok-true-clause-stops : goal.returns-in-Ok-true-clause-stops
returns-in-Ok-true-clause-stops g c s problem is old =
    weaker g.D.Disk.moment g.D.Disk.leaves c.args.disk.now c.has_byte.new.disk (Same s) (λ i. stored i ≡ stored s) (λ i same. ap stored same)
    (reads_stops g.D.Disk.seen g.D.Disk.moment g.D.Disk.leaves c.args.disk.now c.has_byte.new.disk s c.has_byte.ensures.reads c.requires.settled is)

pub returns-in-Ok-false-clause-stops : goal.returns-in-Ok-false-clause-stops
returns-in-Ok-false-clause-stops g c s problem is old =
    let m = g.D.Disk.moment in
    let l = g.D.Disk.leaves in
    joins m l c.args.disk.now c.has_byte.new.disk c.write_synced.new.disk (Same s) (Torn c.args.end 1 s) (λ i. stored i ≡ stored s)
    (reads_stops g.D.Disk.seen m l c.args.disk.now c.has_byte.new.disk s c.has_byte.ensures.reads c.requires.settled is) (c.write_synced.ensures.stops s (c.has_byte.ensures.reads.same ∙ is))
    (λ i same. ap stored same) (λ i torn. shut_same c.args.end problem s i old (sym (c.in-Ok-false.ensures.told s is) ∙ c.in-Ok-false.field-0-test) torn)

pub returns-in-Err-clause-stops : goal.returns-in-Err-clause-stops
returns-in-Err-clause-stops g c s problem is old =
    weaker g.D.Disk.moment g.D.Disk.leaves c.args.disk.now c.has_byte.new.disk (Same s) (λ i. stored i ≡ stored s) (λ i same. ap stored same)
    (reads_stops g.D.Disk.seen g.D.Disk.moment g.D.Disk.leaves c.args.disk.now c.has_byte.new.disk s c.has_byte.ensures.reads c.requires.settled is)

pub returns-in-Ok-true-clause-seen : goal.returns-in-Ok-true-clause-seen
returns-in-Ok-true-clause-seen g c =
    written_as (λ s. s) (shut_past c.args.end) (g.D.Disk.seen c.args.disk.now) (g.D.Disk.seen c.has_byte.new.disk) (g.D.Disk.seen c.has_byte.new.disk) c.has_byte.ensures.reads.same (unchanged _)
    (λ s is. past_stays c.args.end s (sym (c.in-Ok-true.ensures.told s is) ∙ c.in-Ok-true.field-0-test))

pub returns-in-Ok-false-clause-seen : goal.returns-in-Ok-false-clause-seen
returns-in-Ok-false-clause-seen g c =
    on_ok_weaker c.write_synced.result (λ seen. written_as (written_at c.args.end (0 ∷ [])) (shut_past c.args.end) (g.D.Disk.seen c.args.disk.now) (g.D.Disk.seen c.has_byte.new.disk) (g.D.Disk.seen c.write_synced.new.disk) c.has_byte.ensures.reads.same seen
    (λ s is. past_written c.args.end s (sym (c.in-Ok-false.ensures.told s is) ∙ c.in-Ok-false.field-0-test))) c.write_synced.ensures.seen
