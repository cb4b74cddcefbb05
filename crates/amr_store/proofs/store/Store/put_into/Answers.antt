use Rattle.std.proofs.Common.{◌≡◌, ◌⊎◌, sym, ◌∙◌, ap, subst, ℕ, Bool, Option, false}
use Rattle.amr_disk.specs.Moments.{StopsIn}
use Rattle.amr_store.proofs.Joins.{shut_stays, mapped_on, here, one, two, three}
use Rattle.amr_causes.proofs.Results.{on_ok_both}
use Rattle.std.proofs.lemmas.Result.{on_ok_weaker}
use Rattle.amr_store.proofs.Puts.{put_seen, slot_put, slots_put, holds_filled, may_later, base_later}
use Rattle.amr_store.specs.declared.store.Store.{Store}
use Rattle.std.specs.Prelude.{slice_set}
use Rattle.amr_store.specs.declared.slot.Slot.{Slot}
use Rattle.amr_store.specs.Stands.{IsClosed, opened_slot, put_slot, slots_in, deltas_in, sequence_filled, closed_image, filled_image, opened_image, is_shut}
use Rattle.amr_store.specs.Stored.{Stored, SameOr, stored, with_put}
use Rattle.amr_store.specs.Table.{is_base}
use Rattle.amr_store.proofs.store.Store.put_into.Goals as goal

pub open_gate-requires-clause-filled : goal.open_gate-requires-clause-filled
open_gate-requires-clause-filled g c shut s is =
    let fill = c.in-Ok-fill.ensures in
    let was_shut : is_shut c.close.new.self ≡ false = ap is_shut (sym fill.store) ∙ shut in
    (c.args.bytes.now, holds_filled c.in-Ok-fill.filled c.fill.new.store s c.in-Ok.closed.which c.args.sequence c.args.bytes.now fill.filled (fill.holds s is was_shut))

pub open_gate-requires-clause-may : goal.open_gate-requires-clause-may
open_gate-requires-clause-may g c =
    let fill = c.in-Ok-fill.ensures in
    may_later c.args.self.now c.close.new.self c.fill.new.store c.in-Ok-fill.filled c.in-Ok.closed.which c.args.which c.args.sequence c.args.bytes.now fill.filled c.in-Ok.ensures.which c.close.ensures.same c.close.ensures.last fill.store c.requires.may

pub open_gate-requires-clause-closed : goal.open_gate-requires-clause-closed
open_gate-requires-clause-closed g c =
    let fill = c.in-Ok-fill.ensures in
    subst (λ (x : Store). IsClosed c.in-Ok-fill.filled.which x) (sym fill.store) (subst (λ (w : ℕ). IsClosed w c.close.new.self) (sym fill.filled.0) c.in-Ok.ensures.closed)

pub returns-in-Ok-fill-clause-put : goal.returns-in-Ok-fill-clause-put
returns-in-Ok-fill-clause-put g c shut = on_ok_both c.open_gate.result (λ seen put s is.
    let bytes = c.args.bytes.now in
    let store = c.args.self.now in
    let store_1 = c.close.new.self in
    let store_2 = c.fill.new.store in
    let disk_0 = c.args.disk.now in
    let disk_1 = c.close.new.disk in
    let disk_2 = c.fill.new.disk in
    let fill = c.in-Ok-fill.ensures in
    let image_1 = closed_image store c.args.which s in
    let told_1 = mapped_on (closed_image store c.args.which) (g.D.Disk.seen disk_0) (g.D.Disk.seen disk_1) s is c.in-Ok.ensures.seen in
    let image_2 = filled_image store_1 c.in-Ok.closed.which c.args.sequence bytes image_1 in
    let told_2 = mapped_on (filled_image store_1 c.in-Ok.closed.which c.args.sequence bytes) (g.D.Disk.seen disk_1) (g.D.Disk.seen disk_2) image_1 told_1 fill.seen in
    let shut_1 : is_shut store_1 ≡ false = shut_stays (is_shut store) (is_shut store_1) c.in-Ok.ensures.shuts.shut shut in
    let shut_2 : is_shut store_2 ≡ false = ap is_shut fill.store ∙ shut_1 in
    let holds = holds_filled c.in-Ok-fill.filled store_2 image_2 c.in-Ok.closed.which c.args.sequence bytes fill.filled (fill.holds image_2 told_2 shut_1) in
    let base = is_base (deltas_in store) c.args.which in
    let base_2 : is_base (deltas_in store_2) c.in-Ok-fill.filled.which ≡ base = base_later store store_1 store_2 _ c.in-Ok.closed.which c.args.which c.close.ensures.same fill.store fill.filled.0 c.in-Ok.ensures.which in
    let image_3 = opened_image store_2 c.in-Ok-fill.filled.which image_2 in
    let told_3 = mapped_on (opened_image store_2 c.in-Ok-fill.filled.which) (g.D.Disk.seen disk_2) (g.D.Disk.seen c.open_gate.new.disk) image_2 told_2 seen in
    let same_1 : stored image_1 ≡ stored s = here g.D.Disk.moment g.D.Disk.leaves disk_0 disk_1 (λ i. stored i ≡ stored s) image_1 (c.close.ensures.stops shut s is) (g.met.D.Disk.reads_image disk_1 image_1 told_1) in
    let same_2 : stored image_2 ≡ stored image_1 = here g.D.Disk.moment g.D.Disk.leaves disk_1 disk_2 (λ i. stored i ≡ stored image_1) image_2 (c.fill.ensures.stops shut_1 image_1 told_1) (g.met.D.Disk.reads_image disk_2 image_2 told_2) in
    let put_3 : stored image_3 ≡ with_put base (stored image_2) c.args.sequence bytes =
    subst (λ (q : ℕ). stored image_3 ≡ with_put base (stored image_2) q bytes) fill.filled.1
    (subst (λ (b : Bool). stored image_3 ≡ with_put b (stored image_2) (sequence_filled c.in-Ok-fill.filled) bytes) base_2 (put image_2 image_3 bytes told_2 told_3 holds)) in
    (image_3, told_3, put_3 ∙ ap (λ (x : Stored). with_put base x c.args.sequence bytes) (same_2 ∙ same_1))
    ) c.open_gate.ensures.seen c.open_gate.ensures.put

pub returns-in-Ok-fill-clause-stops : goal.returns-in-Ok-fill-clause-stops
returns-in-Ok-fill-clause-stops g c shut s is =
    let m = g.D.Disk.moment in
    let l = g.D.Disk.leaves in
    let bytes = c.args.bytes.now in
    let store = c.args.self.now in
    let store_1 = c.close.new.self in
    let store_2 = c.fill.new.store in
    let disk_0 = c.args.disk.now in
    let disk_1 = c.close.new.disk in
    let disk_2 = c.fill.new.disk in
    let fill = c.in-Ok-fill.ensures in
    let image_1 = closed_image store c.args.which s in
    let told_1 = mapped_on (closed_image store c.args.which) (g.D.Disk.seen disk_0) (g.D.Disk.seen disk_1) s is c.in-Ok.ensures.seen in
    let image_2 = filled_image store_1 c.in-Ok.closed.which c.args.sequence bytes image_1 in
    let told_2 = mapped_on (filled_image store_1 c.in-Ok.closed.which c.args.sequence bytes) (g.D.Disk.seen disk_1) (g.D.Disk.seen disk_2) image_1 told_1 fill.seen in
    let shut_1 : is_shut store_1 ≡ false = shut_stays (is_shut store) (is_shut store_1) c.in-Ok.ensures.shuts.shut shut in
    let shut_2 : is_shut store_2 ≡ false = ap is_shut fill.store ∙ shut_1 in
    let holds = holds_filled c.in-Ok-fill.filled store_2 image_2 c.in-Ok.closed.which c.args.sequence bytes fill.filled (fill.holds image_2 told_2 shut_1) in
    let base = is_base (deltas_in store) c.args.which in
    let base_2 : is_base (deltas_in store_2) c.in-Ok-fill.filled.which ≡ base = base_later store store_1 store_2 _ c.in-Ok.closed.which c.args.which c.close.ensures.same fill.store fill.filled.0 c.in-Ok.ensures.which in
    let first = two m l disk_0 disk_1 disk_2 s image_1 (c.close.ensures.stops shut s is) (c.fill.ensures.stops shut_1 image_1 told_1) (g.met.D.Disk.reads_image disk_1 image_1 told_1) in
    let left = g.met.D.Disk.reads_image disk_2 image_2 told_2 in
    let last : StopsIn m l disk_2 c.open_gate.new.disk (λ i. (stored i ≡ stored image_2) ⊎ (stored i ≡ with_put base (stored image_2) c.args.sequence bytes)) =
    subst (λ (q : ℕ). StopsIn m l disk_2 c.open_gate.new.disk (λ i. (stored i ≡ stored image_2) ⊎ (stored i ≡ with_put base (stored image_2) q bytes))) fill.filled.1
    (subst (λ (b : Bool). StopsIn m l disk_2 c.open_gate.new.disk (SameOr b (sequence_filled c.in-Ok-fill.filled) bytes image_2)) base_2 (c.open_gate.ensures.stops shut_2 image_2 bytes told_2 holds)) in
    three m l disk_0 disk_2 c.open_gate.new.disk s image_2 (λ (x : Stored). with_put base x c.args.sequence bytes) first last left

pub returns-in-Err-fill-clause-stops : goal.returns-in-Err-fill-clause-stops
returns-in-Err-fill-clause-stops g c shut s is =
    let base = is_base (deltas_in c.args.self.now) c.args.which in
    let m = g.D.Disk.moment in
    let l = g.D.Disk.leaves in
    let store = c.args.self.now in
    let disk_0 = c.args.disk.now in
    let disk_1 = c.close.new.disk in
    let image_1 = closed_image store c.args.which s in
    let told_1 = mapped_on (closed_image store c.args.which) (g.D.Disk.seen disk_0) (g.D.Disk.seen disk_1) s is c.in-Ok.ensures.seen in
    let shut_1 : is_shut c.close.new.self ≡ false = shut_stays (is_shut store) (is_shut c.close.new.self) c.in-Ok.ensures.shuts.shut shut in
    one m l disk_0 c.fill.new.disk s (λ (x : Stored). with_put base x c.args.sequence c.args.bytes.now)
    (two m l disk_0 disk_1 c.fill.new.disk s image_1 (c.close.ensures.stops shut s is) (c.fill.ensures.stops shut_1 image_1 told_1) (g.met.D.Disk.reads_image disk_1 image_1 told_1))

pub returns-in-Err-clause-stops : goal.returns-in-Err-clause-stops
returns-in-Err-clause-stops g c shut s is =
    let base = is_base (deltas_in c.args.self.now) c.args.which in
    one g.D.Disk.moment g.D.Disk.leaves c.args.disk.now c.close.new.disk s (λ (x : Stored). with_put base x c.args.sequence c.args.bytes.now) (c.close.ensures.stops shut s is)

pub returns-in-Ok-fill-clause-seen : goal.returns-in-Ok-fill-clause-seen
returns-in-Ok-fill-clause-seen g c =
    let seen = g.D.Disk.seen in
    let fill = c.in-Ok-fill.ensures in
    on_ok_weaker c.open_gate.result
    (put_seen c.args.self.now c.close.new.self c.fill.new.store c.args.which c.in-Ok.closed.which c.in-Ok-fill.filled.which c.args.sequence c.args.bytes.now (seen c.args.disk.now) (seen c.close.new.disk) (seen c.fill.new.disk) (seen c.open_gate.new.disk)
    c.close.ensures.same fill.store c.in-Ok.ensures.which fill.filled.0 c.in-Ok.ensures.seen fill.seen) c.open_gate.ensures.seen

pub returns-in-Ok-fill-clause-slots : goal.returns-in-Ok-fill-clause-slots
returns-in-Ok-fill-clause-slots g c =
    let fill = c.in-Ok-fill.ensures in
    let store = c.args.self.now in
    let later = c.open_gate.new.store in
    let filled = c.in-Ok-fill.filled in
    let which : filled.which ≡ c.args.which = fill.filled.0 ∙ c.in-Ok.ensures.which in
    let slot : opened_slot filled ≡ put_slot c.args.sequence c.args.bytes.now = slot_put filled.slot c.args.sequence c.args.bytes.now fill.filled.1 fill.filled.2 fill.filled.3 in
    on_ok_weaker c.open_gate.result (λ slots.
    slots_put store c.close.new.self later c.args.which (put_slot c.args.sequence c.args.bytes.now) c.in-Ok.ensures.slots
    (subst (λ (x : Store). slots_in later ≡ slice_set (slots_in x) c.args.which (put_slot c.args.sequence c.args.bytes.now)) fill.store
    (subst (λ (o : Option Slot). slots_in later ≡ slice_set (slots_in c.fill.new.store) c.args.which o) slot
    (subst (λ (w : ℕ). slots_in later ≡ slice_set (slots_in c.fill.new.store) w (opened_slot filled)) which slots)))) c.open_gate.ensures.slots
