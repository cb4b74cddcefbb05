use Rattle.std.proofs.Common.{◌≡◌, ◌+◌, ◌-◌, ◌<◌, ◌≤◌, ◌⊎◌, inl, inr, ◌∙◌, ℕ, Bool, true, length, arith, ap, sym}
use Rattle.std.proofs.Math.Nat.{eq-or-lt_of_le}
use Rattle.std.specs.Prelude.{slice_index}
use Rattle.amr_def.specs.Tags.{differs_by}
use Rattle.amr_box.specs.Cells.{holds}
use Rattle.amr_criterion.specs.Pairs.{ahead, in_steep_pair, region, with_after}
use Rattle.amr_criterion.proofs.Joins.{joined_as_within, joined_none_within}
use Rattle.amr_criterion.proofs.Steeps.{even_stretch, next_stretch}
use Rattle.amr_criterion.proofs.pair_rows.tag_next.Goals as goal

pub returns-then-start-first-clause-joined : goal.returns-then-start-first-clause-joined
returns-then-start-first-clause-joined c value along =
    let pairs = c.args.pairs.now in
    joined_none_within pairs.part (in_steep_pair pairs.threshold value pairs.axis (region (ahead pairs.from c.args.done) (c.next_steep-start.result - c.args.done) 1)) c.args.tags.now
    (even_stretch pairs.threshold value pairs.axis pairs.from c.args.first.now c.args.second.now c.args.done c.next_steep-start.result along c.next_steep-start.ensures.order c.next_steep-start.ensures.within c.next_steep-start.ensures.before)

first_and_rest : (start end : ℕ) (P : ℕ → Bool) (t : Bool) → P start ≡ t → ((k : ℕ) → start + 1 ≤ k → k < end → P k ≡ t) → (k : ℕ) → start ≤ k → k < end → P k ≡ t
first_and_rest start end P t here rest k from to = by_place (eq-or-lt_of_le from)
  where
    by_place : (start ≡ k) ⊎ (start < k) → P k ≡ t
    by_place (inl e) = ap P (sym e) ∙ here
    by_place (inr h) = rest k (omega arith) to

pub returns-clause-joined : goal.returns-clause-joined
returns-clause-joined c value along =
    let pairs = c.args.pairs.now in
    let start = c.next_steep-start.result in
    let end = c.next_even-end.result in
    let inside : start < length c.args.first.now = omega (arith, c.next_steep-start.ensures.within, c.if-start-first.false) in
    let order : start < end = omega (arith, c.next_even-end.ensures.order) in
    joined_as_within pairs.part (holds (with_after pairs.axis (region (ahead pairs.from start) (end - start) 1))) (in_steep_pair pairs.threshold value pairs.axis (region (ahead pairs.from c.args.done) (end - c.args.done) 1)) c.args.tags.now c.tag_span.new.tags
    (next_stretch pairs.threshold value pairs.axis pairs.from c.args.first.now c.args.second.now c.args.done start end along c.next_steep-start.ensures.order order c.next_even-end.ensures.within c.next_steep-start.ensures.before
    (first_and_rest start end (λ k. differs_by pairs.threshold (slice_index c.args.first.now k) (slice_index c.args.second.now k)) true (c.next_steep-start.ensures.here inside) c.next_even-end.ensures.before))
    c.tag_span.ensures
