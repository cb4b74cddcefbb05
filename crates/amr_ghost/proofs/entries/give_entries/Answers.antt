use Rattle.std.proofs.Common.{ℕ, List, length, refl, ap, arith}
use Rattle.std.specs.Prelude.{slice_index}
use Rattle.amr_ghost.proofs.WrittenEntries.{one_more_written, room_for, side_by_side}
use Rattle.amr_ghost.proofs.entries.give_entries.Goals as goal

pub returns-then-target-eq1 : goal.returns-then-target-eq1
returns-then-target-eq1 c =
    let masses = c.args.masses.now in
    side_by_side 0 c.args.target (λ k. slice_index masses k) (length masses) _ c.args.values.now c.copy_from_slice.new.self c.if-target-eq1.true
    (room_for c.args.target (length masses) (length c.args.values.now) c.if-target-eq1.true c.requires.some c.requires.within)
    (omega arith)
    (ap length c.copy_from_slice.ensures.after)
    (λ k t. ap (λ (xs : List ℕ). slice_index xs k) c.copy_from_slice.ensures.after)

pub loop-k-preserved : goal.loop-k-preserved
loop-k-preserved c = one_more_written 0 c.args.target (λ k. slice_index c.args.masses.now k) c.loop-k.k _ c.args.values.now c.loop-k.values c.requires.apart (c.requires.within c.loop-k.k c.loop-k-test.true) refl c.loop-k.invariant
