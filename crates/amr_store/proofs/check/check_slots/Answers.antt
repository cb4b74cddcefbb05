use Rattle.std.proofs.Common.{◌∙◌, ap, sym, refl, subst, drop, List, Option, Some, None}
use Rattle.amr_store.proofs.PartsRead.{read_behind, slot_broken, slots_tied, slots_stray, slots_whole}
use Rattle.amr_store.specs.declared.check.SlotsFound.{SlotsFound}
use Rattle.amr_store.specs.declared.check.SlotsFound.TheVariants.{Sound, Broken}
use Rattle.amr_store.specs.Checks.{HasAll}
use Rattle.amr_store.specs.declared.slot.Slot.{Slot as Known}
use Rattle.amr_store.specs.Table.{slot_count, is_tied, IsFirstStray}
use Rattle.amr_store.proofs.check.check_slots.Goals as goal

pub returns-in-Broken-clause-told : goal.returns-in-Broken-clause-told
returns-in-Broken-clause-told g c s is says count =
    let part = drop c.args.base s in
    slot_broken c.args.head c.args.deltas part c.in-Broken.number (read_behind c.args.head c.args.deltas part _ (Broken c.in-Broken.number) says count c.in-Broken.is (c.in_ok-number.ensures.told s is))

pub returns-then-is_tied-clause-told : goal.returns-then-is_tied-clause-told
returns-then-is_tied-clause-told g c s is says count =
    let part = drop c.args.base s in
    let read = read_behind c.args.head c.args.deltas part _ (Sound c.in-Sound.slots) says count c.in-Sound.is (c.in_ok-number.ensures.told s is) in
    slots_tied c.args.head c.args.deltas part c.in-Sound.slots read (ap (λ (l : List (Option Known)). is_tied c.args.deltas l) (sym c.deref.ensures.value) ∙ sym c.is_tied.ensures ∙ c.if-is_tied.true)

pub returns-in-Some-clause-told : goal.returns-in-Some-clause-told
returns-in-Some-clause-told g c s is says count =
    let part = drop c.args.base s in
    let read = read_behind c.args.head c.args.deltas part _ (Sound c.in-Sound.slots) says count c.in-Sound.is (c.in_ok-number.ensures.told s is) in
    slots_stray c.args.head c.args.deltas part c.in-Sound.slots c.in-Some.number read (ap (λ (l : List (Option Known)). is_tied c.args.deltas l) (sym c.deref.ensures.value) ∙ sym c.is_tied.ensures ∙ c.if-is_tied.false)
    (subst (λ (l : List (Option Known)). IsFirstStray c.args.deltas l (Some c.in-Some.number)) c.deref-in-Sound.ensures.value c.in-Some.ensures)

pub returns-in-None-clause-told : goal.returns-in-None-clause-told
returns-in-None-clause-told g c s is says count =
    let part = drop c.args.base s in
    let read = read_behind c.args.head c.args.deltas part _ (Sound c.in-Sound.slots) says count c.in-Sound.is (c.in_ok-number.ensures.told s is) in
    slots_whole c.args.head c.args.deltas part c.in-Sound.slots _ read (ap (λ (l : List (Option Known)). is_tied c.args.deltas l) (sym c.deref.ensures.value) ∙ sym c.is_tied.ensures ∙ c.if-is_tied.false)
    (subst (λ (l : List (Option Known)). IsFirstStray c.args.deltas l None) c.deref-in-Sound.ensures.value c.in-None.ensures) refl refl refl

pub returns-in-None-clause-fits : goal.returns-in-None-clause-fits
returns-in-None-clause-fits g c =
    let all : HasAll (slot_count c.args.deltas) (Sound c.in-Sound.slots) = subst (λ (f : SlotsFound). HasAll (slot_count c.args.deltas) f) c.in-Sound.is c.in_ok-number.ensures.all in (
      c.requires.text,
      c.requires.size,
      c.requires.numbered,
      all,
      record {
        apart = ap (λ (l : List (Option Known)). is_tied c.args.deltas l) (sym c.deref.ensures.value) ∙ sym c.is_tied.ensures ∙ c.if-is_tied.false;
        harmless = record { none = subst (λ (l : List (Option Known)). IsFirstStray c.args.deltas l None) c.deref-in-Sound.ensures.value c.in-None.ensures };
      },
    )
