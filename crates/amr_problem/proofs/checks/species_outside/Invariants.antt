use Rattle.std.proofs.Common.{◌≡◌, drop}
use Rattle.amr_problem.proofs.SpeciesLaws.{first_unknown}
use Rattle.amr_problem.proofs.checks.species_outside.Given as goal

abbrev pub invariant-loop-index : goal.invariant-loop-index
invariant-loop-index l = first_unknown l.species 0 l.blocks ≡ first_unknown l.species l.index (drop l.index l.blocks)
