use Rattle.std.proofs.Common.{◌≡◌, ℕ, refl, sym, subst, arith}
use Rattle.std.specs.List.{flat_map, range_with_len}
use Rattle.amr_letters.specs.Beside.{beside_count}
use Rattle.amr_letters.specs.Sources.{AreOwned, box_at}
use Rattle.amr_letters.specs.Between.{told_at}
use Rattle.amr_letters.specs.Shared.{AreAdded, sharing}
use Rattle.amr_letters.proofs.Added.{added_more, added_none}
use Rattle.amr_letters.proofs.items.add_frame.Goals as goal

pub loop-slot-init : goal.loop-slot-init
loop-slot-init c = added_none _ c.args.lists.now.items (λ from. refl)

pub add_slot-requires-clause-own : goal.add_slot-requires-clause-own
add_slot-requires-clause-own c = subst (λ n. AreOwned n c.args.s.own.patches.now c.args.s.own.owners.now) (sym c.loop-slot.invariant.counted) c.requires.own

pub add_slot-requires-clause-coarser : goal.add_slot-requires-clause-coarser
add_slot-requires-clause-coarser c = subst (λ n. AreOwned n c.args.s.coarser.patches.now c.args.s.coarser.owners.now) (sym c.loop-slot.invariant.counted) c.requires.coarser

pub loop-slot-preserved : goal.loop-slot-preserved
loop-slot-preserved c =
    added_more (λ from. told_at (sharing c.args.s) from c.args.number) c.loop-slot.slot c.args.lists.now.items c.loop-slot.lists.items c.add_slot.new.lists.items c.loop-slot.invariant c.in_ok-add_slot.ensures

pub returns : goal.returns
returns c =
    let s = sharing c.args.s in
    let all : c.loop-slot.slot ≡ beside_count (box_at s c.args.number) = (let f = c.loop-slot-test.false in let e = c.loop-slot.auto.slot-end in let is = c.slot_count-count.ensures in omega arith) in
    subst (λ (n : ℕ). AreAdded (λ from. flat_map (told_at s from c.args.number) (range_with_len 0 n)) c.args.lists.now.items c.loop-slot.lists.items) all c.loop-slot.invariant
