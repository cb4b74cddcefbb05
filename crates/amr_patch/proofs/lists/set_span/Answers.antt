use Rattle.std.proofs.Common.{◌+◌, ◌-◌, length, arith}
use Rattle.amr_patch.proofs.Entries.{part_kept, part_read}
use Rattle.amr_patch.proofs.lists.set_span.Goals as goal

pub returns-clause-set : goal.returns-clause-set
returns-clause-set c =
    λ k lt.
    let new = c.copy_from_slice.ensures.after in
    part_read c.args.values.now c.copy_from_slice.new.self c.args.masses.now c.args.from (c.args.from + length c.args.masses.now - c.args.from) k new (omega (arith, c.requires)) lt

pub returns-clause-others : goal.returns-clause-others
returns-clause-others c =
    λ k out.
    let new = c.copy_from_slice.ensures.after in
    part_kept c.args.values.now c.copy_from_slice.new.self c.args.masses.now c.args.from (c.args.from + length c.args.masses.now - c.args.from) k new (omega arith) (omega (arith, c.requires)) out
