use Rattle.std.proofs.Common.{◌∙◌, ◌^◌, ◌∷◌, nat_lt, subst, drop, ℕ, Option, Some, None, arith}
use Rattle.std.proofs.lemmas.Bool.{lt-ltb, le-ltb}
use Rattle.std.proofs.lemmas.Result.{IfOk-weaker}
use Rattle.amr_store.proofs.PartsRead.{more_tests, first_test, next_test}
use Rattle.amr_store.proofs.Readings.{reads_on}
use Rattle.amr_store.specs.declared.part.Part.TheVariants.{Deltas, Size}
use Rattle.amr_store.specs.Layout.{size_of}
use Rattle.amr_store.specs.Fields.{AreDeltas}
use Rattle.amr_store.specs.Stored.{has_bad_deltas, slot_tests}
use Rattle.amr_store.proofs.check.check_deltas.Goals as goal

pub returns-in-None-clause-told : goal.returns-in-None-clause-told
returns-in-None-clause-told g c s is says =
    let part = drop c.args.base s in
    let bad : AreDeltas None part = subst (λ (d : Option ℕ). AreDeltas d part) c.in-None.is (c.in_ok-read_deltas.ensures.told s is says) in
    first_test (has_bad_deltas part) Deltas ((nat_lt (2 ^ 40) (size_of part), Size) ∷ slot_tests part) bad

pub returns-then-head-clause-told : goal.returns-then-head-clause-told
returns-then-head-clause-told g c s is says =
    let part = drop c.args.base s in
    let sound : AreDeltas (Some c.in-Some.deltas) part = subst (λ (d : Option ℕ). AreDeltas d part) c.in-Some.is (c.in_ok-read_deltas.ensures.told s is says) in
    next_test (has_bad_deltas part) Deltas Size ((nat_lt (2 ^ 40) (size_of part), Size) ∷ slot_tests part) sound.0
    (first_test (nat_lt (2 ^ 40) (size_of part)) Size (slot_tests part) (lt-ltb (2 ^ 40) (size_of part) (omega (arith, says.size_is, c.if-head.true))))

pub returns-else-head-clause-told : goal.returns-else-head-clause-told
returns-else-head-clause-told g c =
    IfOk-weaker c.check_slots.result _ _ (λ checked told s is says.
    let part = drop c.args.base s in
    let sound : AreDeltas (Some c.in-Some.deltas) part = subst (λ (d : Option ℕ). AreDeltas d part) c.in-Some.is (c.in_ok-read_deltas.ensures.told s is says) in
    more_tests checked (has_bad_deltas part) Deltas ((nat_lt (2 ^ 40) (size_of part), Size) ∷ slot_tests part) part sound.0
    (more_tests checked (nat_lt (2 ^ 40) (size_of part)) Size (slot_tests part) part (le-ltb (2 ^ 40) (size_of part) (omega (arith, says.size_is, c.if-head.false)))
    (told s (c.read_deltas.ensures.reads.same ∙ is) says sound.1))) c.check_slots.ensures.told

pub returns-else-head-clause-reads : goal.returns-else-head-clause-reads
returns-else-head-clause-reads g c = reads_on g.D.Disk.seen g.D.Disk.moment g.D.Disk.leaves c.args.disk.now c.read_deltas.new.disk c.check_slots.new.disk c.read_deltas.ensures.reads c.check_slots.ensures.reads
