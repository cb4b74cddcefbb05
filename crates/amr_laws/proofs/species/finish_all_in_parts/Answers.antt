use Rattle.amr_laws.proofs.FlockRuns.{by_themselves, finish_all-parts, some_states}
use Rattle.amr_laws.proofs.species.finish_all_in_parts.Goals as goal

pub returns-clause-parts : goal.returns-clause-parts
returns-clause-parts c = λ p ss i k flock. finish_all-parts p ss i k (some_states p ss flock)

pub returns-clause-species : goal.returns-clause-species
returns-clause-species c = λ p ss k flock. by_themselves p k ss (some_states p ss flock)
