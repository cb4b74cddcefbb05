use Rattle.std.proofs.Common.{◌≡◌, ◌⊎◌, inl, inr, ◌∙◌, ◌∷◌, [], refl, sym, subst, ℕ, List}
use Rattle.amr_disk.specs.Image.{Torn, written_at}
use Rattle.amr_store.proofs.Calls.{mapped_some}
use Rattle.amr_store.proofs.Creation.{shut_empty, made_stop, made_after}
use Rattle.amr_store.proofs.Joins.{some_of}
use Rattle.std.proofs.lemmas.Result.{on_ok_weaker}
use Rattle.amr_store.proofs.Runs.{joins, weaker}
use Rattle.amr_store.proofs.Seen.{written_thrice}
use Rattle.amr_store.specs.Created.{IsMade, IsShutFirst, state_with, laid_image_3, shut_first}
use Rattle.amr_store.specs.Stored.{stored, Empty, Held}
use Rattle.amr_store.proofs.create3.write_store.Goals as goal

pub returns-in-Ok-lay-clause-stops : goal.returns-in-Ok-lay-clause-stops
returns-in-Ok-lay-clause-stops g c s is =
    let m = g.D.Disk.moment in
    let l = g.D.Disk.leaves in
    let problem = c.args.problem.now in
    let size = c.args.slot_size in
    let disk_0 = c.args.disk.now in
    let disk_1 = c.close_first.new.disk in
    let disk_2 = c.lay.new.disk in
    let told_1 = some_of (g.D.Disk.seen disk_1) (c.in-Ok.ensures.told s is) in
    let shut_1 = c.in-Ok.ensures.shut told_1.0 told_1.1 in
    let told_2 = some_of (g.D.Disk.seen disk_2) (c.in-Ok-lay.ensures.told told_1.0 told_1.1) in
    let second = joins m l disk_0 disk_1 disk_2 (λ i. stored i ≡ Empty) (λ i. IsShutFirst told_1.0 → IsShutFirst i) (λ i. stored i ≡ Empty) (c.close_first.ensures.stops s is)
    (c.lay.ensures.stops told_1.0 told_1.1) (λ i e. e) (λ i keeps. shut_empty i (keeps shut_1).shut) in
    joins m l disk_0 disk_2 c.write_synced.new.disk (λ i. stored i ≡ Empty) (Torn 0 1 told_2.0) (λ i. (stored i ≡ Empty) ⊎ (stored i ≡ Held (state_with 3 c.args.deltas problem size))) second
    (c.write_synced.ensures.stops told_2.0 told_2.1) (λ i e. inl e)
    (λ i torn. made_stop 3 c.args.deltas problem size told_2.0 i (inr (refl, c.requires.some, c.requires.few)) c.requires.text c.requires.size (c.in-Ok-lay.ensures.laid told_2.0 told_2.1) torn)

pub returns-in-Ok-lay-clause-made : goal.returns-in-Ok-lay-clause-made
returns-in-Ok-lay-clause-made g c =
    on_ok_weaker c.write_synced.result (λ seen t is.
    let from = mapped_some (written_at 0 (165 ∷ [])) (g.D.Disk.seen c.lay.new.disk) t (sym seen ∙ is) in
    subst (λ (i : List ℕ). IsMade 3 c.args.deltas c.args.problem.now c.args.slot_size i) from.2
    (made_after 3 c.args.deltas c.args.problem.now c.args.slot_size from.0 (c.in-Ok-lay.ensures.laid from.0 from.1))) c.write_synced.ensures.seen

pub returns-in-Err-lay-clause-stops : goal.returns-in-Err-lay-clause-stops
returns-in-Err-lay-clause-stops g c s is =
    let m = g.D.Disk.moment in
    let l = g.D.Disk.leaves in
    let disk_0 = c.args.disk.now in
    let disk_1 = c.close_first.new.disk in
    let told_1 = some_of (g.D.Disk.seen disk_1) (c.in-Ok.ensures.told s is) in
    let shut_1 = c.in-Ok.ensures.shut told_1.0 told_1.1 in
    joins m l disk_0 disk_1 c.lay.new.disk (λ i. stored i ≡ Empty) (λ i. IsShutFirst told_1.0 → IsShutFirst i) (λ i. (stored i ≡ Empty) ⊎ (stored i ≡ Held (state_with 3 c.args.deltas c.args.problem.now c.args.slot_size)))
    (c.close_first.ensures.stops s is) (c.lay.ensures.stops told_1.0 told_1.1) (λ i e. inl e) (λ i keeps. inl (shut_empty i (keeps shut_1).shut))

pub returns-in-Err-clause-stops : goal.returns-in-Err-clause-stops
returns-in-Err-clause-stops g c s is =
    weaker g.D.Disk.moment g.D.Disk.leaves c.args.disk.now c.close_first.new.disk (λ i. stored i ≡ Empty) (λ i. (stored i ≡ Empty) ⊎ (stored i ≡ Held (state_with 3 c.args.deltas c.args.problem.now c.args.slot_size))) (λ i e. inl e) (c.close_first.ensures.stops s is)

pub returns-in-Ok-lay-clause-seen : goal.returns-in-Ok-lay-clause-seen
returns-in-Ok-lay-clause-seen g c =
    let seen = g.D.Disk.seen in
    on_ok_weaker c.write_synced.result (written_thrice shut_first (laid_image_3 c.args.deltas c.args.problem.now c.args.slot_size) (written_at 0 (165 ∷ [])) (seen c.args.disk.now) (seen c.close_first.new.disk) (seen c.lay.new.disk) (seen c.write_synced.new.disk)
    c.in-Ok.ensures.seen c.in-Ok-lay.ensures.seen) c.write_synced.ensures.seen
