use Rattle.amr_start.proofs.Filling.{HasMore}
use Rattle.amr_start.proofs.blocks.start_masses.Given as goal

-- the masses are those of the blocks so far
abbrev pub invariant-loop-b : goal.invariant-loop-b
invariant-loop-b l = HasMore l.p.nx l.p.ny l.p.blocks l.b-index l.masses.items
