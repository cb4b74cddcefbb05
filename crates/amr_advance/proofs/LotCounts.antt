-- How many lots a level has.
use Rattle.std.proofs.Common.{ℕ, zero, suc, ◌+◌, ◌*◌, ◌<◌, ◌≤◌, arith}
use Rattle.std.proofs.Math.Nat.{mul-le-mul_right}
use Rattle.amr_def.specs.declared.problem.Problem.{Problem}
use Rattle.amr_advance.specs.Crews.{MayRun}
use Rattle.amr_advance.specs.declared.crew.Workers.{Workers}

le_times : (k each : ℕ) → 0 < each → k ≤ k * each
le_times zero each some = omega arith
le_times (suc k) each some = let r = le_times k each some in omega (arith, r, some)

-- where each of so many lots has a run of some patches, there are no more lots than patches
pub few_runs : (each runs n : ℕ) → 0 < each → runs * each < n + each → runs ≤ n
few_runs each zero n some lt = omega arith
few_runs each (suc k) n some lt = let r = le_times k each some in omega (arith, lt, r)

-- and each begins among the patches
pub run_there : (each k runs n : ℕ) → k < runs → runs * each < n + each → k * each < n
run_there each k runs n lt tight = omega (arith, tight, most)
  where
    most : suc k * each ≤ runs * each
    most = mul-le-mul_right each (omega (arith, lt))

-- who may run so many tasks may run fewer
pub fewer_tasks : {R G : Type 0} (admits : G → ℕ → ℕ → Type 0) (p : Problem) (few many : ℕ) (w : Workers R G) → few ≤ many → MayRun admits p many w → MayRun admits p few w
fewer_tasks admits p few many w le may = record { some_workers = may.some_workers; few_workers = may.few_workers; gate = λ worker task below lt. may.gate worker task below (omega (arith, lt, le)); team = may.team }
