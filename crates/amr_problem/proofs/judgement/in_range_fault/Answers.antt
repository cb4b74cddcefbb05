use Rattle.std.proofs.Common.{w64, rules}
use Rattle.std.proofs.lemmas.Int.{to_z-of_z}
use Rattle.amr_problem.proofs.judgement.in_range_fault.Goals as goal

pub returns : goal.returns
returns c =
    let b = c.args.entries.now.basics in
    let o = c.args.entries.now.overlay in
    rw (
      c.or-5.ensures,
      c.or-4.ensures,
      c.or-3.ensures,
      c.or-2.ensures,
      c.or.ensures,
      c.courant_fault.ensures,
      c.sides_differ.ensures,
      c.block_outside.ensures,
      c.tag_count.ensures,
      c.blocking_misfit.ensures,
      c.species_outside.ensures,
      c.as_slice.ensures.value,
      c.as_slice-2.ensures.value,
      c.as_slice-3.ensures.value,
      to_z-of_z w64 b.nx (search rules),
      to_z-of_z w64 b.ny (search rules),
      to_z-of_z w64 b.x_low (search rules),
      to_z-of_z w64 b.x_high (search rules),
      to_z-of_z w64 b.y_low (search rules),
      to_z-of_z w64 b.y_high (search rules),
      to_z-of_z w64 b.max_level (search rules),
      to_z-of_z w64 o.blocking (search rules),
      to_z-of_z w64 o.species (search rules),
    )
