use Rattle.amr_laws.proofs.OneSpecies.{only_species}
use Rattle.amr_laws.proofs.FlockOfOne.{finish_of_one, regrid_of_one, run_of_one, start_of_one}
use Rattle.amr_laws.proofs.species.one_species_is_whole.Goals as goal

pub returns-clause-problem : goal.returns-clause-problem
returns-clause-problem c = only_species

pub returns-clause-regrid : goal.returns-clause-regrid
returns-clause-regrid c = regrid_of_one

pub returns-clause-start : goal.returns-clause-start
returns-clause-start c = start_of_one

pub returns-clause-finish : goal.returns-clause-finish
returns-clause-finish c = λ p s k one. finish_of_one p one s k

pub returns-clause-run : goal.returns-clause-run
returns-clause-run c = λ p k one. run_of_one p one k
