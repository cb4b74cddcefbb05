use Rattle.std.proofs.Common.{◌∙◌, arith}
use Rattle.amr_samples.proofs.problems.ring_of.Goals as goal

pub overflow_cast-result : goal.overflow_cast-result
overflow_cast-result c = omega (arith, c.requires.tag_count, c.requires.greatest_max_level)

pub invariant_of-result : goal.invariant_of-result
invariant_of-result c =
    rw (
      c.make.ensures ∙ c.in_ok-from_slice.ensures.items,
      c.make-2.ensures ∙ c.new.ensures.items,
      c.make-3.ensures ∙ c.new-2.ensures.items,
      c.make-4.ensures ∙ c.in_ok-from_slice-2.ensures.items,
      c.make-5.ensures ∙ c.in_ok-from_slice-3.ensures.items,
    ) (record { limits = c.requires })
