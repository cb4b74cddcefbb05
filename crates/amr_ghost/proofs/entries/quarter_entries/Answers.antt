use Rattle.std.proofs.Common.{◌≡◌, ℕ, ◌+◌, ◌/◌, ◌<◌, ◌-◌, length, drop, refl, ap, subst, sym, ◌∙◌, arith}
use Rattle.std.specs.Prelude.{slice_index}
use Rattle.std.proofs.lemmas.List.{get_or-drop, get_or-take}
use Rattle.amr_ghost.specs.Strips.{nth_place}
use Rattle.amr_ghost.proofs.WrittenEntries.{at_once, one_more_written, room_for, side_by_side, span_length}
use Rattle.amr_ghost.proofs.entries.quarter_entries.Goals as goal

pub returns-then-source-eq1 : goal.returns-then-source-eq1
returns-then-source-eq1 c =
    let xs = c.args.values.now in
    let ms = c.args.from.now in
    let e = c.args.source in
    let n = c.args.count in
    let room = room_for c.args.target n (length xs) c.if-target-eq1.true c.requires.some c.requires.within in
    let span = span_length c.args.target.first n xs room in
    let half : ℕ → ℕ = λ k. (c.args.skipped + k) / 2 in
    let held : (k : ℕ) → k < n → half k < length ms - e.first = λ k t.
    let there : nth_place e (half k) < length ms = c.requires.from_within k t in
    omega (arith, there, at_once e (half k) c.if-source-eq1.true) in
    let read : (k : ℕ) → slice_index ms (e.first + half k) ≡ slice_index ms (nth_place e (half k)) = λ k. ap (λ (i : ℕ). slice_index ms i) (sym (at_once e (half k) c.if-source-eq1.true)) in
    side_by_side 0 c.args.target (λ k. slice_index ms (nth_place e (half k)) / 4) n _ xs c.quarter_all.new.values c.if-target-eq1.true room (omega arith) (c.quarter_all.ensures.count ∙ span)
    (λ k t. c.quarter_all.ensures.quarters k (subst (λ m. k < m) (sym span) t) ∙ ap (λ (m : ℕ). m / 4) (get_or-take (length ms - e.first) (drop e.first ms) (half k) 0 (held k t) ∙ get_or-drop e.first ms (half k) 0 ∙ read k))

pub loop-k-preserved : goal.loop-k-preserved
loop-k-preserved c =
    let given : ℕ → ℕ = λ j. slice_index c.args.from.now (nth_place c.args.source ((c.args.skipped + j) / 2)) / 4 in
    one_more_written 0 c.args.target given c.loop-k.k (given c.loop-k.k) c.args.values.now c.loop-k.values c.requires.apart (c.requires.within c.loop-k.k c.loop-k-test.true) refl c.loop-k.invariant

pub slice_bounds-quarter_all-count-then-source-eq1 : goal.slice_bounds-quarter_all-count-then-source-eq1
slice_bounds-quarter_all-count-then-source-eq1 c = omega arith

pub quarter_all-requires-clause-skipped : goal.quarter_all-requires-clause-skipped
quarter_all-requires-clause-skipped c = omega arith

pub overflow_add-mass : goal.overflow_add-mass
overflow_add-mass c = omega arith

pub overflow_mul-values : goal.overflow_mul-values
overflow_mul-values c = omega arith

pub overflow_add-values : goal.overflow_add-values
overflow_add-values c = omega arith

pub offset_bounds-values-target-in-loop-k : goal.offset_bounds-values-target-in-loop-k
offset_bounds-values-target-in-loop-k c = omega arith

pub bounds-values-target : goal.bounds-values-target
bounds-values-target c = omega arith
