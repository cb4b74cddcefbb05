use Rattle.std.specs.Prelude.{option_map}
use Rattle.std.proofs.Common.{◌≡◌, ◌∙◌, ap, sym, subst, refl, inr, ℕ, List, Option}
use Rattle.amr_store.proofs.Renewals.{end_as, old_of}
use Rattle.amr_store.proofs.RenewedStores.{renewed_stands}
use Rattle.amr_store.proofs.Creation.{numbered_old}
use Rattle.amr_store.proofs.Joins.{nothing_renewed}
use Rattle.amr_disk.specs.Moments.{StopsIn}
use Rattle.amr_store.specs.Renewed.{IsOld, SameOrRenewed, renewed_state, renewed_image}
use Rattle.amr_store.specs.Stands.{problem_in}
use Rattle.amr_store.specs.Stored.{Held}
use Rattle.amr_store.specs.declared.slot.Slot.{Slot}
use Rattle.amr_store.specs.Table.{last_of, AreSound}
use Rattle.amr_store.proofs.NewTables.{one_open, last_alone}
use Rattle.amr_store.proofs.store.Store.renew.Goals as goal

pub returns-in_err-all-clause-stops : goal.returns-in_err-all-clause-stops
returns-in_err-all-clause-stops g c shut s is = nothing_renewed g.D.Disk.seen g.D.Disk.moment g.D.Disk.leaves c.args.disk.now (problem_in c.args.self) c.args.slot_size c.args.sequence c.args.bytes.now s (c.requires.ready.settled shut) is

pub returns-in_err-slots-clause-stops : goal.returns-in_err-slots-clause-stops
returns-in_err-slots-clause-stops g c shut s is = nothing_renewed g.D.Disk.seen g.D.Disk.moment g.D.Disk.leaves c.args.disk.now (problem_in c.args.self) c.args.slot_size c.args.sequence c.args.bytes.now s (c.requires.ready.settled shut) is

pub write_renewal-requires-clause-old : goal.write_renewal-requires-clause-old
write_renewal-requires-clause-old g c s is =
    subst (λ (p : List ℕ). IsOld c.end_of-end.result p s) (sym c.deref-2.ensures.value)
    (subst (λ (n : ℕ). IsOld n (problem_in c.args.self) s) (sym (end_as c.args.self c.len.result c.end_of-end.result (c.len.ensures ∙ c.args.self.problem.ok.0) c.end_of-end.ensures.place))
    (old_of c.args.self s (c.requires.ready.stands c.if-is_shut.false s is) c.requires.version))

pub returns-in-Ok-clause-ready : goal.returns-in-Ok-clause-ready
returns-in-Ok-clause-ready g c = record {
  settled = λ shut. c.in-Ok.ensures.settled;
  stands = λ shut t is.
      renewed_stands _ c.end_of-end.result c.deref-2.result.now c.args.slot_size c.args.sequence c.args.bytes.now t (c.in-Ok.ensures.made t is) refl refl (sym c.deref-2.ensures.value) refl refl c.in_ok-slots.ensures.slots;
}

pub returns-in-Ok-clause-renewed : goal.returns-in-Ok-clause-renewed
returns-in-Ok-clause-renewed g c t is =
    (c.in-Ok.ensures.made t is).stored_as ∙ ap (λ (p : List ℕ). Held (renewed_state p c.args.slot_size c.args.sequence c.args.bytes.now)) c.deref-2.ensures.value

pub returns-in-Ok-clause-stops : goal.returns-in-Ok-clause-stops
returns-in-Ok-clause-stops g c shut s is =
    subst (λ (p : List ℕ). StopsIn g.D.Disk.moment g.D.Disk.leaves c.args.disk.now c.write_renewal.new.disk (SameOrRenewed p c.args.slot_size c.args.sequence c.args.bytes.now s))
    c.deref-2.ensures.value (c.write_renewal.ensures.stops s is)

pub returns-clause-stops : goal.returns-clause-stops
returns-clause-stops g c shut s is =
    subst (λ (p : List ℕ). StopsIn g.D.Disk.moment g.D.Disk.leaves c.args.disk.now c.write_renewal.new.disk (SameOrRenewed p c.args.slot_size c.args.sequence c.args.bytes.now s))
    c.deref-2.ensures.value (c.write_renewal.ensures.stops s is)

pub returns-in-Ok-clause-seen : goal.returns-in-Ok-clause-seen
returns-in-Ok-clause-seen g c =
    let seen = g.D.Disk.seen in
    subst (λ (n : ℕ). seen c.write_renewal.new.disk ≡ option_map (renewed_image n (problem_in c.args.self) c.args.slot_size c.args.sequence c.args.bytes.now) (seen c.args.disk.now))
    (end_as c.args.self c.len.result c.end_of-end.result (c.len.ensures ∙ c.args.self.problem.ok.0) c.end_of-end.ensures.place)
    (subst (λ (p : List ℕ). seen c.write_renewal.new.disk ≡ option_map (renewed_image c.end_of-end.result p c.args.slot_size c.args.sequence c.args.bytes.now) (seen c.args.disk.now)) c.deref-2.ensures.value c.in-Ok.ensures.seen)

pub invariant_of-result-clause-sound : goal.invariant_of-result-clause-sound
invariant_of-result-clause-sound g c = subst (λ (l : List (Option Slot)). AreSound 0 l) (sym c.in_ok-slots.ensures.slots) (one_open _).sound

pub returns-in-Ok-clause-last : goal.returns-in-Ok-clause-last
returns-in-Ok-clause-last g c = ap (λ (l : List (Option Slot)). last_of 0 l) c.in_ok-slots.ensures.slots ∙ last_alone _

pub invariant_of-result-clause-numbered : goal.invariant_of-result-clause-numbered
invariant_of-result-clause-numbered g c = numbered_old 2 (inr refl)
