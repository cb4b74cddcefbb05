use Rattle.std.proofs.Common.{◌≡◌, ◌⊎◌, ◌∙◌, ◌+◌, ◌<◌, ◌∷◌, [], sym, subst, ℕ, List, length, drop, arith}
use Rattle.std.specs.Prelude.{OnOk, option_map}
use Rattle.amr_disk.specs.Image.{Torn, written_at}
use Rattle.amr_store.proofs.Calls.{mapped_some}
use Rattle.amr_store.proofs.Joins.{mapped_on, some_of, one, two, three}
use Rattle.std.proofs.lemmas.Result.{on_ok_weaker}
use Rattle.amr_store.proofs.Renewals.{laid_same, laid_shut, renewal_written}
use Rattle.amr_store.proofs.RenewedStores.{renewed_stop, renewed_after}
use Rattle.amr_store.proofs.Runs.{weaker}
use Rattle.amr_store.specs.Phases.{TornTwice}
use Rattle.amr_store.proofs.Seen.{written_thrice}
use Rattle.amr_store.specs.Renewed.{IsOldShut, IsRenewal, IsRenewed, renewed_state, renewal_bytes, shut_past}
use Rattle.amr_store.specs.Stored.{Stored, Held, stored}
use Rattle.amr_store.proofs.renew.write_renewal.Goals as goal

pub returns-in-Ok-write_two_synced-clause-stops : goal.returns-in-Ok-write_two_synced-clause-stops
returns-in-Ok-write_two_synced-clause-stops g c s is =
    let m = g.D.Disk.moment in
    let l = g.D.Disk.leaves in
    let end = c.args.end in
    let problem = c.args.problem.now in
    let size = c.args.slot_size in
    let q = c.args.state.sequence in
    let bytes = c.args.state.payload.now in
    let all = c.args.all.now in
    let gate = c.gate_at.result in
    let beyond = end + gate in
    let disk_0 = c.args.disk.now in
    let disk_1 = c.shut_end.new.disk in
    let disk_2 = c.write_two_synced.new.disk in
    let past : end < beyond = omega (arith, c.gate_at.ensures.place) in
    let told_1 = some_of (g.D.Disk.seen disk_1) (c.in-Ok.ensures.told s is) in
    let shut_1 = c.in-Ok.ensures.shut told_1.0 problem told_1.1 c.requires.old in
    let image_2 = written_at beyond (0 ∷ []) (written_at (end + 1) all told_1.0) in
    let told_2 = mapped_on (λ i. written_at beyond (0 ∷ []) (written_at (end + 1) all i)) (g.D.Disk.seen disk_1) (g.D.Disk.seen disk_2) told_1.0 told_1.1 c.in-Ok-write_two_synced.ensures.seen in
    let first = c.shut_end.ensures.stops s problem is (c.requires.old s is) in
    let second = weaker m l disk_1 disk_2 (TornTwice (end + 1) (length all) beyond 1 told_1.0) (λ i. stored i ≡ stored told_1.0) (λ i torn. laid_same end (length all) beyond problem told_1.0 i shut_1 past torn) (c.write_two_synced.ensures.stops told_1.0 told_1.1) in
    let both = two m l disk_0 disk_1 disk_2 s told_1.0 first second (g.met.D.Disk.reads_image disk_1 told_1.0 told_1.1) in
    let renewal = renewal_written told_1.0 all problem end size q gate bytes c.gate_at.ensures.place c.requires.all c.requires.text c.requires.size c.requires.fits c.requires.counted c.requires.small in
    let last = weaker m l disk_2 c.write_synced.new.disk (Torn end 1 image_2) (λ i. (stored i ≡ stored image_2) ⊎ (stored i ≡ Held (renewed_state problem size q bytes)))
    (λ i torn. renewed_stop end problem size q bytes image_2 i (laid_shut end beyond problem all told_1.0 shut_1 past) c.requires.text c.requires.size renewal torn) (c.write_synced.ensures.stops image_2 told_2) in
    three m l disk_0 disk_2 c.write_synced.new.disk s image_2 (λ (x : Stored). Held (renewed_state problem size q bytes)) both last (g.met.D.Disk.reads_image disk_2 image_2 told_2)

pub returns-in-Ok-write_two_synced-clause-made : goal.returns-in-Ok-write_two_synced-clause-made
returns-in-Ok-write_two_synced-clause-made g c =
    let end = c.args.end in
    let problem = c.args.problem.now in
    let size = c.args.slot_size in
    let q = c.args.state.sequence in
    let bytes = c.args.state.payload.now in
    let all = c.args.all.now in
    let gate = c.gate_at.result in
    let beyond = end + gate in
    let past : end < beyond = omega (arith, c.gate_at.ensures.place) in
    on_ok_weaker c.write_synced.result (λ seen t is.
    let from_2 = mapped_some (written_at end (165 ∷ [])) (g.D.Disk.seen c.write_two_synced.new.disk) t (sym seen ∙ is) in
    let from_1 = mapped_some (λ i. written_at beyond (0 ∷ []) (written_at (end + 1) all i)) (g.D.Disk.seen c.shut_end.new.disk) from_2.0 (sym c.in-Ok-write_two_synced.ensures.seen ∙ from_2.1) in
    let shut_1 = c.in-Ok.ensures.shut from_1.0 problem from_1.1 c.requires.old in
    let renewal = renewal_written from_1.0 all problem end size q gate bytes c.gate_at.ensures.place c.requires.all c.requires.text c.requires.size c.requires.fits c.requires.counted c.requires.small in
    subst (λ (i : List ℕ). IsRenewed end problem size q bytes i) from_2.2
    (renewed_after end problem size q bytes from_2.0 (subst (λ (i : List ℕ). IsOldShut end problem i) from_1.2 (laid_shut end beyond problem all from_1.0 shut_1 past)) c.requires.text c.requires.size
    (subst (λ (i : List ℕ). IsRenewal problem size q bytes (drop end i)) from_1.2 renewal))) c.write_synced.ensures.seen

pub returns-in-Err-write_two_synced-clause-stops : goal.returns-in-Err-write_two_synced-clause-stops
returns-in-Err-write_two_synced-clause-stops g c s is =
    let m = g.D.Disk.moment in
    let l = g.D.Disk.leaves in
    let end = c.args.end in
    let problem = c.args.problem.now in
    let size = c.args.slot_size in
    let all = c.args.all.now in
    let gate = c.gate_at.result in
    let beyond = end + gate in
    let disk_0 = c.args.disk.now in
    let disk_1 = c.shut_end.new.disk in
    let disk_2 = c.write_two_synced.new.disk in
    let past : end < beyond = omega (arith, c.gate_at.ensures.place) in
    let told_1 = some_of (g.D.Disk.seen disk_1) (c.in-Ok.ensures.told s is) in
    let shut_1 = c.in-Ok.ensures.shut told_1.0 problem told_1.1 c.requires.old in
    let second = weaker m l disk_1 disk_2 (TornTwice (end + 1) (length all) beyond 1 told_1.0) (λ i. stored i ≡ stored told_1.0) (λ i torn. laid_same end (length all) beyond problem told_1.0 i shut_1 past torn) (c.write_two_synced.ensures.stops told_1.0 told_1.1) in
    one m l disk_0 disk_2 s (λ (x : Stored). Held (renewed_state problem size c.args.state.sequence c.args.state.payload.now))
    (two m l disk_0 disk_1 disk_2 s told_1.0 (c.shut_end.ensures.stops s problem is (c.requires.old s is)) second (g.met.D.Disk.reads_image disk_1 told_1.0 told_1.1))

pub returns-in-Err-clause-stops : goal.returns-in-Err-clause-stops
returns-in-Err-clause-stops g c s is =
    one g.D.Disk.moment g.D.Disk.leaves c.args.disk.now c.shut_end.new.disk s (λ (x : Stored). Held (renewed_state c.args.problem.now c.args.slot_size c.args.state.sequence c.args.state.payload.now))
    (c.shut_end.ensures.stops s c.args.problem.now is (c.requires.old s is))

pub returns-in-Ok-write_two_synced-clause-seen : goal.returns-in-Ok-write_two_synced-clause-seen
returns-in-Ok-write_two_synced-clause-seen g c =
    let seen = g.D.Disk.seen in
    let end = c.args.end in
    let all = c.args.all.now in
    let gate = c.gate_at.result in
    let beyond = end + gate in
    subst (λ (h : ℕ). OnOk c.write_synced.result (seen c.write_synced.new.disk ≡ option_map (λ s. written_at end (165 ∷ []) (written_at (end + h) (0 ∷ []) (written_at (end + 1) (renewal_bytes c.args.problem.now c.args.slot_size c.args.state.sequence c.args.state.payload.now) (shut_past end s)))) (seen c.args.disk.now))) c.gate_at.ensures.place
    (subst (λ (a : List ℕ). OnOk c.write_synced.result (seen c.write_synced.new.disk ≡ option_map (λ s. written_at end (165 ∷ []) (written_at beyond (0 ∷ []) (written_at (end + 1) a (shut_past end s)))) (seen c.args.disk.now))) c.requires.all
    (on_ok_weaker c.write_synced.result (written_thrice (shut_past end) (λ i. written_at beyond (0 ∷ []) (written_at (end + 1) all i)) (written_at end (165 ∷ [])) (seen c.args.disk.now) (seen c.shut_end.new.disk) (seen c.write_two_synced.new.disk) (seen c.write_synced.new.disk)
    c.in-Ok.ensures.seen c.in-Ok-write_two_synced.ensures.seen) c.write_synced.ensures.seen))
