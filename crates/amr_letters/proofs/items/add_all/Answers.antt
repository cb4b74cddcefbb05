use Rattle.std.proofs.Common.{◌≡◌, ℕ, refl, sym, subst, arith, length}
use Rattle.std.specs.List.{flat_map, range_with_len}
use Rattle.amr_letters.specs.Sources.{AreOwned}
use Rattle.amr_letters.specs.Between.{told_to}
use Rattle.amr_letters.specs.Shared.{AreAdded, sharing}
use Rattle.amr_letters.proofs.Added.{added_more, added_none}
use Rattle.amr_letters.proofs.items.add_all.Goals as goal

pub loop-k-init : goal.loop-k-init
loop-k-init c = added_none _ c.args.lists.now.items (λ from. refl)

pub add_own-requires-clause-own : goal.add_own-requires-clause-own
add_own-requires-clause-own c = subst (λ n. AreOwned n c.args.s.own.patches.now c.args.s.own.owners.now) (sym c.loop-k.invariant.counted) c.requires.own

pub add_own-requires-clause-coarser : goal.add_own-requires-clause-coarser
add_own-requires-clause-coarser c = subst (λ n. AreOwned n c.args.s.coarser.patches.now c.args.s.coarser.owners.now) (sym c.loop-k.invariant.counted) c.requires.coarser

pub loop-k-preserved : goal.loop-k-preserved
loop-k-preserved c =
    added_more (λ from. told_to (sharing c.args.s) from c.args.to) c.loop-k.k c.args.lists.now.items c.loop-k.lists.items c.add_own.new.lists.items c.loop-k.invariant c.in_ok-add_own.ensures

pub returns : goal.returns
returns c =
    let s = sharing c.args.s in
    let all : c.loop-k.k ≡ length c.args.s.own.patches.now = (let f = c.loop-k-test.false in let e = c.loop-k.auto.k-end in omega arith) in
    subst (λ (n : ℕ). AreAdded (λ from. flat_map (told_to s from c.args.to) (range_with_len 0 n)) c.args.lists.now.items c.loop-k.lists.items) all c.loop-k.invariant
