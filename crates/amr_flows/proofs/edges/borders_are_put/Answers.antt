use Rattle.amr_def.specs.Domain.{domain}
use Rattle.amr_flows.proofs.Repeats.{fluxes_repeat}
use Rattle.amr_flows.proofs.PutPlaces.{put_there}
use Rattle.amr_flows.proofs.edges.borders_are_put.Goals as goal

pub returns-clause-put : goal.returns-clause-put
returns-clause-put c = λ p l ps each i k q f lt below. put_there (domain p l) ps each i k q f lt below

pub returns-clause-flux : goal.returns-clause-flux
returns-clause-flux c = fluxes_repeat
