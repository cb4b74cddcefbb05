use Rattle.std.proofs.Common.{◌∙◌, ◌∷◌, [], sym, subst, ℕ, List, length, arith}
use Rattle.amr_disk.specs.Image.{Same, written_at}
use Rattle.amr_store.proofs.Calls.{mapped_some}
use Rattle.amr_store.proofs.Creation.{LaysAt, laid_twice, laid_thrice, laid_past, laid_short, first_kept_twice, first_kept_thrice}
use Rattle.std.proofs.lemmas.Result.{on_ok_weaker}
use Rattle.amr_store.proofs.Readings.{reads_stops}
use Rattle.amr_store.proofs.Runs.{joins, weaker}
use Rattle.amr_store.proofs.Seen.{written_as}
use Rattle.amr_store.specs.Created.{IsLaid, IsShutFirst, laid_image}
use Rattle.amr_store.specs.Phases.{TornTwice, TornThrice}
use Rattle.amr_store.proofs.create.lay.Goals as goal

pub returns-in-Ok-true-clause-laid : goal.returns-in-Ok-true-clause-laid
returns-in-Ok-true-clause-laid g c =
    let problem = c.args.problem.now in
    let size = c.args.slot_size in
    let head = c.args.head.now in
    let gate = c.gate_at-gate.result in
    let end = c.end_of-end.result in
    let lays : LaysAt c.args.version head problem size c.gate_at-gate.result c.end_of-end.result = record { known = c.requires.version; gate_is = c.gate_at-gate.ensures.place; end_is = c.end_of-end.ensures.place; head_is = c.requires.head; text_fits = c.requires.text; size_fits = c.requires.size } in
    on_ok_weaker c.write_three_synced.result (λ seen t is.
    let from = mapped_some (λ s. written_at end (0 ∷ []) (written_at gate (0 ∷ []) (written_at 1 head s))) (g.D.Disk.seen c.has_renewal_gate.new.disk) t (sym seen ∙ is) in
    subst (λ (i : List ℕ). IsLaid c.args.version 0 problem size i) from.2 (laid_thrice c.args.version from.0 head problem size gate end lays)) c.write_three_synced.ensures.seen

pub returns-in-Ok-false-clause-laid : goal.returns-in-Ok-false-clause-laid
returns-in-Ok-false-clause-laid g c =
    let problem = c.args.problem.now in
    let size = c.args.slot_size in
    let head = c.args.head.now in
    let gate = c.gate_at-gate.result in
    let end = c.end_of-end.result in
    let lays : LaysAt c.args.version head problem size c.gate_at-gate.result c.end_of-end.result = record { known = c.requires.version; gate_is = c.gate_at-gate.ensures.place; end_is = c.end_of-end.ensures.place; head_is = c.requires.head; text_fits = c.requires.text; size_fits = c.requires.size } in
    on_ok_weaker c.write_two_synced.result (λ seen t is.
    let from = mapped_some (λ s. written_at gate (0 ∷ []) (written_at 1 head s)) (g.D.Disk.seen c.has_renewal_gate.new.disk) t (sym seen ∙ is) in
    let short = sym (c.in-Ok-false.ensures.told from.0 (sym c.has_renewal_gate.ensures.reads.same ∙ from.1)) ∙ c.in-Ok-false.field-0-test in
    subst (λ (i : List ℕ). IsLaid c.args.version 0 problem size i) from.2 (laid_twice c.args.version from.0 head problem size gate end lays short)) c.write_two_synced.ensures.seen

pub returns-in-Ok-true-clause-stops : goal.returns-in-Ok-true-clause-stops
returns-in-Ok-true-clause-stops g c s is =
    let m = g.D.Disk.moment in
    let l = g.D.Disk.leaves in
    let n = length c.args.head.now in
    let gate = c.gate_at-gate.result in
    let end = c.end_of-end.result in
    joins m l c.args.disk.now c.has_renewal_gate.new.disk c.write_three_synced.new.disk (Same s) (TornThrice 1 n gate 1 end 1 s) (λ i. IsShutFirst s → IsShutFirst i)
    (reads_stops g.D.Disk.seen m l c.args.disk.now c.has_renewal_gate.new.disk s c.has_renewal_gate.ensures.reads c.requires.settled is)
    (c.write_three_synced.ensures.stops s (c.has_renewal_gate.ensures.reads.same ∙ is))
    (λ i same shut. subst IsShutFirst (sym same) shut)
    (λ i torn shut. first_kept_thrice s i 1 n gate 1 end 1 (omega arith) (omega (arith, c.gate_at-gate.ensures.place)) (omega (arith, c.end_of-end.ensures.place)) shut torn)

pub returns-in-Ok-false-clause-stops : goal.returns-in-Ok-false-clause-stops
returns-in-Ok-false-clause-stops g c s is =
    let m = g.D.Disk.moment in
    let l = g.D.Disk.leaves in
    let n = length c.args.head.now in
    let gate = c.gate_at-gate.result in
    joins m l c.args.disk.now c.has_renewal_gate.new.disk c.write_two_synced.new.disk (Same s) (TornTwice 1 n gate 1 s) (λ i. IsShutFirst s → IsShutFirst i)
    (reads_stops g.D.Disk.seen m l c.args.disk.now c.has_renewal_gate.new.disk s c.has_renewal_gate.ensures.reads c.requires.settled is)
    (c.write_two_synced.ensures.stops s (c.has_renewal_gate.ensures.reads.same ∙ is))
    (λ i same shut. subst IsShutFirst (sym same) shut)
    (λ i torn shut. first_kept_twice s i 1 n gate 1 (omega arith) (omega (arith, c.gate_at-gate.ensures.place)) shut torn)

pub returns-in-Err-clause-stops : goal.returns-in-Err-clause-stops
returns-in-Err-clause-stops g c s is =
    weaker g.D.Disk.moment g.D.Disk.leaves c.args.disk.now c.has_renewal_gate.new.disk (Same s) (λ i. IsShutFirst s → IsShutFirst i) (λ i same shut. subst IsShutFirst (sym same) shut)
    (reads_stops g.D.Disk.seen g.D.Disk.moment g.D.Disk.leaves c.args.disk.now c.has_renewal_gate.new.disk s c.has_renewal_gate.ensures.reads c.requires.settled is)

pub returns-in-Ok-true-clause-seen : goal.returns-in-Ok-true-clause-seen
returns-in-Ok-true-clause-seen g c =
    let v = c.args.version in
    let problem = c.args.problem.now in
    let size = c.args.slot_size in
    let head = c.args.head.now in
    let gate = c.gate_at-gate.result in
    let end = c.end_of-end.result in
    let lays : LaysAt c.args.version head problem size c.gate_at-gate.result c.end_of-end.result = record { known = c.requires.version; gate_is = c.gate_at-gate.ensures.place; end_is = c.end_of-end.ensures.place; head_is = c.requires.head; text_fits = c.requires.text; size_fits = c.requires.size } in
    on_ok_weaker c.write_three_synced.result (λ seen.
    written_as (λ s. written_at end (0 ∷ []) (written_at gate (0 ∷ []) (written_at 1 head s))) (laid_image v problem size) (g.D.Disk.seen c.args.disk.now) (g.D.Disk.seen c.has_renewal_gate.new.disk) (g.D.Disk.seen c.write_three_synced.new.disk) c.has_renewal_gate.ensures.reads.same seen
    (λ s is. laid_past v s head problem size gate end lays (sym (c.in-Ok-true.ensures.told s is) ∙ c.in-Ok-true.field-0-test))) c.write_three_synced.ensures.seen

pub returns-in-Ok-false-clause-seen : goal.returns-in-Ok-false-clause-seen
returns-in-Ok-false-clause-seen g c =
    let v = c.args.version in
    let problem = c.args.problem.now in
    let size = c.args.slot_size in
    let head = c.args.head.now in
    let gate = c.gate_at-gate.result in
    let end = c.end_of-end.result in
    let lays : LaysAt c.args.version head problem size c.gate_at-gate.result c.end_of-end.result = record { known = c.requires.version; gate_is = c.gate_at-gate.ensures.place; end_is = c.end_of-end.ensures.place; head_is = c.requires.head; text_fits = c.requires.text; size_fits = c.requires.size } in
    on_ok_weaker c.write_two_synced.result (λ seen.
    written_as (λ s. written_at gate (0 ∷ []) (written_at 1 head s)) (laid_image v problem size) (g.D.Disk.seen c.args.disk.now) (g.D.Disk.seen c.has_renewal_gate.new.disk) (g.D.Disk.seen c.write_two_synced.new.disk) c.has_renewal_gate.ensures.reads.same seen
    (λ s is. laid_short v s head problem size gate end lays (sym (c.in-Ok-false.ensures.told s is) ∙ c.in-Ok-false.field-0-test))) c.write_two_synced.ensures.seen
