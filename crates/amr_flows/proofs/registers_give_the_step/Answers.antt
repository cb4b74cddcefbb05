use Rattle.amr_flows.proofs.Subcycle.{give_the_step, of_plain_fluxes}
use Rattle.amr_flows.proofs.registers_give_the_step.Goals as goal

pub returns-clause-finer : goal.returns-clause-finer
returns-clause-finer c = λ p l k fine ks old e levels entries. give_the_step p l k fine ks old levels e entries

pub returns-clause-alone : goal.returns-clause-alone
returns-clause-alone c = of_plain_fluxes
