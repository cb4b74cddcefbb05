-- What a step does to the masses of level 0 of a sound state, and how great masses are.
use Rattle.std.proofs.Common.{◌≡◌, ℕ, zero, suc, ◌+◌, ◌*◌, ◌^◌, ◌<◌, ◌≤◌, true, pos, ◌+ℤ◌, ap, ◌∙◌, arith, List, [], ◌∷◌}
use Rattle.std.proofs.lemmas.Nat.{mul-le}
use Rattle.std.proofs.Math.Nat.{pow-suc}
use Rattle.amr_box.specs.declared.Cell.{Cell}
use Rattle.amr_box.specs.Cells.{in_boxes}
use Rattle.amr_def.specs.declared.problem.Problem.{Problem}
use Rattle.amr_def.specs.declared.problem.Row.{Row}
use Rattle.amr_def.specs.State.{Masses, Level, State, level_at, mass_of}
use Rattle.amr_def.specs.Flux.{net}
use Rattle.amr_def.specs.Ledger.{total_mass, inflow, outflow}
use Rattle.amr_def.specs.Run.{stepped}
use Rattle.amr_def.specs.Facts.{IsSound}
use Rattle.amr_def.specs.Laws.{step_fluxes}
use Rattle.amr_def.proofs.Chain.{state_chain, chain_first}
use Rattle.amr_def.proofs.Stepping.{first_kept}
use Rattle.amr_def.proofs.Totals.{bound_small}
use Rattle.amr_def.proofs.SoundStep.{exact, flows, taken}

exact_from : (p : Problem) (n : ℕ) (rs : List Row) (ks : List Level) (c : Cell) → let s : State = record { step = n; rows = rs; levels = ks } in IsSound p s → in_boxes (level_at s 0).boxes c ≡ true
    → pos (mass_of (level_at (stepped p s) 0).masses c) ≡ pos (mass_of (level_at s 0).masses c) +ℤ net (step_fluxes p s) c
unfolding stepped
exact_from p n rs [] c sound held = absurd (omega (arith, sound.some_level))
exact_from p n rs (k ∷ ks) c sound held =
    let s : State = record { step = n; rows = rs; levels = k ∷ ks } in
    let level = chain_first p 0 k ks (state_chain p s sound.nested sound.synced) in
    ap (λ (m : Masses). pos (mass_of m c)) (first_kept k ks (taken p n rs k ks).levels) ∙ exact p n rs k ks sound c (level.filled c ∙ held)

pub new_mass-exact : (p : Problem) (s : State) (c : Cell) → IsSound p s → in_boxes (level_at s 0).boxes c ≡ true → pos (mass_of (level_at (stepped p s) 0).masses c) ≡ pos (mass_of (level_at s 0).masses c) +ℤ net (step_fluxes p s) c
new_mass-exact p s c sound held = exact_from p s.step s.rows s.levels c sound held

flows_from : (p : Problem) (n : ℕ) (rs : List Row) (ks : List Level) → let s : State = record { step = n; rows = rs; levels = ks } in IsSound p s
    → total_mass p (level_at (stepped p s) 0).masses + outflow p (step_fluxes p s) ≡ total_mass p (level_at s 0).masses + inflow p (step_fluxes p s)
unfolding stepped
flows_from p n rs [] sound = absurd (omega (arith, sound.some_level))
flows_from p n rs (k ∷ ks) sound =
    ap (λ (m : Masses). total_mass p m + outflow p (taken p n rs k ks).fluxes) (first_kept k ks (taken p n rs k ks).levels) ∙ flows p n rs k ks sound

pub mass_by_flows : (p : Problem) (s : State) → IsSound p s → total_mass p (level_at (stepped p s) 0).masses + outflow p (step_fluxes p s) ≡ total_mass p (level_at s 0).masses + inflow p (step_fluxes p s)
mass_by_flows p s sound = flows_from p s.step s.rows s.levels sound

-- ---- sizes

power_some : (l : ℕ) → 1 ≤ 4 ^ l
power_some zero = omega arith
power_some (suc l) = let e : 4 ^ suc l ≡ 4 ^ l * 4 = pow-suc 4 l in omega (arith, e, power_some l)

pub masses-small : (p : Problem) (s : State) (l : ℕ) (c : Cell) → IsSound p s → mass_of (level_at s l).masses c < 2 ^ 31
masses-small p s l c sound =
    let m = mass_of (level_at s l).masses c in
    let weighed : 1 * m ≤ 4 ^ l * m = mul-le 1 m (4 ^ l) m (power_some l) (omega arith) in
    omega (arith, weighed, sound.bounded.at l c, bound_small p s.step (omega (arith, sound.within)))
