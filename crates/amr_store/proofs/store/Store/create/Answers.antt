use Rattle.std.proofs.Common.{refl, sym, subst, inl, List, Option}
use Rattle.amr_store.specs.declared.slot.Slot.{Slot}
use Rattle.amr_store.specs.Table.{AreSound}
use Rattle.amr_store.proofs.NewTables.{none_open}
use Rattle.amr_store.proofs.Creation.{empty_of, made_stands, made_stored, numbered_old}
use Rattle.amr_store.proofs.Joins.{nothing_made}
use Rattle.amr_store.proofs.store.Store.create.Goals as goal

pub write_store-requires-clause-empty : goal.write_store-requires-clause-empty
write_store-requires-clause-empty g c s is = empty_of s (c.requires.empty s is)

pub returns-in-Ok-clause-ready : goal.returns-in-Ok-clause-ready
returns-in-Ok-clause-ready g c = record {
  settled = λ shut. c.in-Ok.ensures.settled;
  stands = λ shut t is.
      made_stands _ c.args.version 0 c.args.problem.now c.args.slot_size t (inl (c.requires.version, refl)) c.requires.text c.requires.size (c.in-Ok.ensures.made t is) refl refl c.in_ok-kept.ensures.items refl refl c.in_ok-slots.ensures.slots;
}

pub returns-in-Ok-clause-made : goal.returns-in-Ok-clause-made
returns-in-Ok-clause-made g c t is = made_stored c.args.version 0 c.args.problem.now c.args.slot_size t (inl (c.requires.version, refl)) c.requires.text c.requires.size (c.in-Ok.ensures.made t is)

pub returns-in_err-head-clause-stops : goal.returns-in_err-head-clause-stops
returns-in_err-head-clause-stops g c s is = nothing_made g.D.Disk.seen g.D.Disk.moment g.D.Disk.leaves c.args.disk.now c.args.version 0 c.args.problem.now c.args.slot_size s c.requires.settled is (c.requires.empty s is)

pub returns-in_err-kept-clause-stops : goal.returns-in_err-kept-clause-stops
returns-in_err-kept-clause-stops g c s is = nothing_made g.D.Disk.seen g.D.Disk.moment g.D.Disk.leaves c.args.disk.now c.args.version 0 c.args.problem.now c.args.slot_size s c.requires.settled is (c.requires.empty s is)

pub returns-in_err-slots-clause-stops : goal.returns-in_err-slots-clause-stops
returns-in_err-slots-clause-stops g c s is = nothing_made g.D.Disk.seen g.D.Disk.moment g.D.Disk.leaves c.args.disk.now c.args.version 0 c.args.problem.now c.args.slot_size s c.requires.settled is (c.requires.empty s is)

pub invariant_of-result-clause-sound : goal.invariant_of-result-clause-sound
invariant_of-result-clause-sound g c = subst (λ (l : List (Option Slot)). AreSound 0 l) (sym c.in_ok-slots.ensures.slots) (none_open 0).sound

pub invariant_of-result-clause-numbered : goal.invariant_of-result-clause-numbered
invariant_of-result-clause-numbered g c = numbered_old c.args.version c.requires.version
