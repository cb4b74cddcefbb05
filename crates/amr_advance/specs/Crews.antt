-- Who may run the phases of a level's lots.
use Rattle.std.specs.Prelude.{ℕ, ◌≡◌, ◌<◌, ◌≤◌, IfSome}
use Rattle.amr_def.specs.declared.problem.Problem.{Problem}
use Rattle.amr_workers.specs.TeamOf.{TeamOf}
use Rattle.amr_lots.specs.declared.job.LevelWork.{LevelWork}
use Rattle.amr_advance.specs.declared.crew.Workers.{Workers}
use Rattle.amr_advance.specs.declared.crew.Crew.{Crew}

-- a team for phases of this problem under this gate, of at most so many workers
pub record IsTeamFor {G : Type 0} (p : Problem) (gate : G) (count : ℕ) (team : TeamOf LevelWork G) : Type 0 where
  pub problem : team.job.problem.now ≡ p
  pub gate_is : team.gate ≡ gate
  pub few : team.workers ≤ count

-- from 1 to 64 workers for phases of this problem with at most so many tasks. The gate admits each of them to each task, and the team,
-- where there is one, is for such phases.
pub record MayRun {R G : Type 0} (admits : G → ℕ → ℕ → Type 0) (p : Problem) (tasks : ℕ) (w : Workers R G) : Type 0 where
  pub some_workers : 1 ≤ w.count
  pub few_workers : w.count ≤ 64
  pub gate : (worker task : ℕ) → worker < w.count → task < tasks → admits w.gate.now worker task
  pub team : IfSome w.team (IsTeamFor p w.gate.now w.count)

-- a crew of one rank and from 1 to 64 workers, each of which the gate admits to each of at most so many tasks
pub record MayWork {G : Type 0} (admits : G → ℕ → ℕ → Type 0) (gate : G) (tasks : ℕ) (crew : Crew) : Type 0 where
  pub one_rank : crew.ranks ≡ 1
  pub some_workers : 1 ≤ crew.workers
  pub few_workers : crew.workers ≤ 64
  pub admitted : (worker task : ℕ) → worker < crew.workers → task < tasks → admits gate worker task
