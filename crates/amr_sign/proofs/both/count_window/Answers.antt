use Rattle.std.proofs.Common.{◌≡◌, ℕ, Bool, ◌+◌, ◌-◌, ◌∙◌, length, ap, arith}
use Rattle.std.specs.Prelude.{slice_index}
use Rattle.amr_sign.specs.Counts.{count_to}
use Rattle.amr_sign.specs.Stretches.{begins, ends}
use Rattle.amr_sign.specs.Words.{bit_of}
use Rattle.amr_sign.proofs.Counts.{count_to_bound}
use Rattle.amr_sign.proofs.Parts.{row-count, row-counted}
use Rattle.amr_sign.proofs.StretchCounts.{AreStretches, begins-is, counted-next, ends-is, open-fits, open-next}
use Rattle.amr_sign.proofs.both.count_window.Goals as goal

pub add_row_stretches-requires-clause-room_begun : goal.add_row_stretches-requires-clause-room_begun
add_row_stretches-requires-clause-room_begun c = λ i h.
    let at = c.args.at in
    omega (arith, c.loop-y.invariant.begin i h, count_to_bound (λ j. begins (λ x. bit_of c.args.per_row c.args.words.now (at.west + x) (at.south + j)) i) (c.loop-y.y - at.south))

pub loop-y-preserved : goal.loop-y-preserved
loop-y-preserved c =
    let at = c.args.at in
    record {
      begin = λ i h. counted-next (λ j. begins (λ x. bit_of c.args.per_row c.args.words.now (at.west + x) (at.south + j)) i) at.south c.loop-y.y _ _ _ (omega arith) (begins-is c.args.words.now c.args.per_row at.west at.east at.south c.loop-y.y (omega arith) c.requires.columns_inside i (omega arith)) (c.loop-y.invariant.begin i (omega arith)) (c.add_row_stretches.ensures.begun i h);
      end = λ i h. counted-next (λ j. ends (λ x. bit_of c.args.per_row c.args.words.now (at.west + x) (at.south + j)) i) at.south c.loop-y.y _ _ _ (omega arith) (ends-is c.args.words.now c.args.per_row at.west at.east at.south c.loop-y.y (omega arith) c.requires.columns_inside i (omega arith)) (c.loop-y.invariant.end i (omega arith)) (c.add_row_stretches.ensures.ended i (omega arith));
      room = λ i h. omega (arith, c.add_row_stretches.ensures.room i h, c.loop-y.invariant.room i (omega arith));
      upward = row-counted (λ j. count_to (λ i. bit_of c.args.per_row c.args.words.now (at.west + i) (at.south + j)) (at.east + 1 - at.west)) c.loop-y.rows (c.loop-y.y - at.south) _ _ (omega arith) (omega arith) c.loop-y.invariant.upward
          (c.add_row_stretches.ensures.count ∙ row-count c.args.words.now c.args.per_row at.west at.east at.south c.loop-y.y (omega arith) c.requires.columns_inside);
    }

pub count_open-requires-clause-fits : goal.count_open-requires-clause-fits
count_open-requires-clause-fits c = λ i h.
    let at = c.args.at in
    let test : ℕ → ℕ → Bool = λ x j. bit_of c.args.per_row c.args.words.now (at.west + x) (at.south + j) in
    let stretches : AreStretches test (slice_index c.loop-y.columns) (slice_index c.loop-y.ended) (c.loop-y.y - at.south) (length c.loop-y.columns) = record { begin = c.loop-y.invariant.begin; end = c.loop-y.invariant.end } in
    open-fits test (slice_index c.loop-y.columns) (slice_index c.loop-y.ended) (c.loop-y.y - at.south) (length c.loop-y.columns) stretches i h (omega arith)

pub returns-clause-columns : goal.returns-clause-columns
returns-clause-columns c = λ i h.
    let at = c.args.at in
    let test : ℕ → ℕ → Bool = λ x j. bit_of c.args.per_row c.args.words.now (at.west + x) (at.south + j) in
    let stretches : AreStretches test (slice_index c.loop-y.columns) (slice_index c.loop-y.ended) (c.loop-y.y - at.south) (length c.loop-y.columns) = record { begin = c.loop-y.invariant.begin; end = c.loop-y.invariant.end } in
    let all : c.loop-y.y - at.south ≡ at.north + 1 - at.south = omega arith in
    c.count_open.ensures i h
    ∙ open-next test (slice_index c.loop-y.columns) (slice_index c.loop-y.ended) (c.loop-y.y - at.south) (length c.loop-y.columns) stretches i (omega arith)
    ∙ ap (count_to (λ j. test i j)) all
