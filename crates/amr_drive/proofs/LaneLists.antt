-- Species that go by themselves, all together.
use Rattle.std.proofs.Common.{◌≡◌, ◌∙◌, Bool, true, false, cond, nat_le, ℕ, zero, suc, ◌+◌, ◌-◌, ◌<◌, ◌≤◌, refl, sym, ap, subst, List, [], ◌∷◌, length, map, arith}
use Rattle.std.specs.Prelude.{slice_index_or}
use Rattle.std.specs.List.{All}
use Rattle.std.proofs.lemmas.List.{length-map}
use Rattle.std.proofs.lemmas.List.FromFn.{get_or-map-range_with_len, length-map-range_with_len}
use Rattle.amr_def.specs.declared.problem.Problem.{Problem}
use Rattle.amr_def.specs.Limits.{most_species}
use Rattle.amr_def.specs.State.{State}
use Rattle.amr_def.specs.Facts.{IsSound}
use Rattle.amr_def.specs.Run.{stepped, times}
use Rattle.amr_def.specs.Species.{IsFlock, each_from, of_species, regrid_all, step_of}
use Rattle.amr_laws.proofs.OneSpecies.{sound_of_species}
use Rattle.amr_laws.proofs.FlockRegrid.{length-regrid_all, regrid_all-flock, regrid_all-step}
use Rattle.amr_laws.proofs.FlockRuns.{some_states}
use Rattle.amr_patch.specs.declared.meshes.Mesh.{Mesh}
use Rattle.amr_patch.specs.Meshes.{is_spent, state_of}
use Rattle.amr_cycle.specs.KeptLevels.{IsKeptFor}
use Rattle.amr_drive.specs.declared.lanes.Lane.{Lane}
use Rattle.amr_drive.specs.Flocks.{AreMeshesOf, IsInPatchesOf, problems_of}
use Rattle.amr_drive.specs.Lanes.{AtEach, HasForgotten, HaveGone, IsNewLane, MayGo, MayStep, StandsAt, stepped_to}
use Rattle.amr_drive.proofs.StepsTo.{stepped_to_step}

-- an element of a list that has some
pick : {A : Type 0} (xs : List A) (k : ℕ) → k < length xs → A
pick [] k lt = absurd (omega (arith, lt))
pick (x ∷ xs) k lt = x

pub state_at : (ms : List Mesh) (k : ℕ) (d : Mesh) → slice_index_or (map state_of ms) k (state_of d) ≡ state_of (slice_index_or ms k d)
state_at [] k d = refl
state_at (m ∷ ms) zero d = refl
state_at (m ∷ ms) (suc k) d = state_at ms k d

-- states made each by its number
made_each : (f : ℕ → State → State) (j : ℕ) (ms ns : List Mesh) → length ns ≡ length ms
    → ((k : ℕ) (d : Mesh) → k < length ms → state_of (slice_index_or ns k d) ≡ f (j + k) (state_of (slice_index_or ms k d))) → map state_of ns ≡ each_from f j (map state_of ms)
made_each f j [] [] count h = refl
made_each f j [] (n ∷ ns) count h = absurd (omega (arith, count))
made_each f j (m ∷ ms) [] count h = absurd (omega (arith, count))
made_each f j (m ∷ ms) (n ∷ ns) count h =
    let at : j + 0 ≡ j = omega arith in
    let here : state_of n ≡ f j (state_of m) = subst (λ i. state_of n ≡ f i (state_of m)) at (h 0 m (omega arith)) in
    let rest : map state_of ns ≡ each_from f (j + 1) (map state_of ms) = made_each f (j + 1) ms ns (omega (arith, count)) (λ k d lt.
    let on : j + suc k ≡ j + 1 + k = omega arith in
    subst (λ i. state_of (slice_index_or ns k d) ≡ f i (state_of (slice_index_or ms k d))) on (h (suc k) d (omega (arith, lt)))) in
    λ i. here i ∷ rest i

first_step : (xs : List Mesh) → 0 < length xs → (k : ℕ) → ((d : Mesh) → (state_of (slice_index_or xs 0 d)).step ≡ k) → step_of (map state_of xs) ≡ k
first_step [] some k h = absurd (omega (arith, some))
first_step (x ∷ xs) some k h = h x

pub first_mesh : (ms : List Mesh) (m : Mesh) → 0 < length ms → m ≡ slice_index_or ms 0 m → (state_of m).step ≡ step_of (map state_of ms)
first_mesh [] m some is = absurd (omega (arith, some))
first_mesh (n ∷ ms) m some is = ap (λ (x : Mesh). (state_of x).step) is

pub some_of : (p : Problem) (ms : List Mesh) → AreMeshesOf p ms → 0 < length ms
some_of p ms meshes = omega (arith, some_states p (map state_of ms) meshes.states, length-map ms state_of)

pub few_problems : (p : Problem) (ps : List Problem) → ps ≡ problems_of p → length ps ≤ 4
few_problems p ps is =
    let count : length ps ≡ p.species = ap length is ∙ length-map-range_with_len (of_species p) 0 p.species in
    omega (arith, count, p.limits.few_species, at_most_four p.version)
  where
    at_most_four : (version : ℕ) → most_species version ≤ 4
    at_most_four version = go (nat_le version 2)
      where
        go : (t : Bool) → cond t 1 4 ≤ 4
        go true = omega arith
        go false = omega arith

-- with nothing kept yet
pub stands_new : (p : Problem) (workers step : ℕ) (ms : List Mesh) (ps : List Problem) (lanes : List Lane) → AreMeshesOf p ms → step ≡ step_of (map state_of ms) → ps ≡ problems_of p
    → length lanes ≡ length ps → ((k : ℕ) (q : Problem) (e : Lane) → k < length ps → IsNewLane workers (slice_index_or ps k q) (slice_index_or lanes k e)) → StandsAt p workers step ms lanes
stands_new p workers step ms ps lanes meshes at is count new =
    let problems : length ps ≡ p.species = ap length is ∙ length-map-range_with_len (of_species p) 0 p.species in
    let mesh_count : length ms ≡ p.species = sym (length-map ms state_of) ∙ meshes.states.one_each in record {
      meshes = meshes;
      step_is = sym at;
      one_each = count ∙ problems ∙ sym mesh_count;
      lanes_are = λ k d e lt.
          let lane = new k p e (omega (arith, lt, problems, mesh_count)) in
          let own : slice_index_or ps k p ≡ of_species p k =
          ap (λ (qs : List Problem). slice_index_or qs k p) is ∙ get_or-map-range_with_len (of_species p) 0 p.species k k p (omega (arith, lt, mesh_count)) (omega arith) in record {
            problem = lane.problem ∙ own;
            some_workers = lane.some_workers;
            few_workers = lane.few_workers;
            kept = lane.kept (of_species p k) (state_of (slice_index_or ms k d)).levels;
          };
    }

-- ---- where all stand

module _ (p : Problem) (workers step : ℕ) (ms : List Mesh) (lanes : List Lane) (stands : StandsAt p workers step ms lanes) where
  pub some_meshes : 0 < length ms
  some_meshes = some_of p ms stands.meshes

  sound_at : (k : ℕ) (d : Mesh) → k < length ms → IsSound p (state_of (slice_index_or ms k d))
  sound_at k d lt = subst (IsSound p) (state_at ms k d) (stands.meshes.states.alike.sound k (state_of d) (omega (arith, lt, length-map ms state_of)))

  pub step_at : (k : ℕ) (d : Mesh) → k < length ms → (state_of (slice_index_or ms k d)).step ≡ step
  step_at k d lt =
      ap (λ (s : State). s.step) (sym (state_at ms k d)) ∙ stands.meshes.states.alike.same_step k (state_of d) (omega (arith, lt, length-map ms state_of)) ∙ stands.step_is

  -- each may go on
  pub may_go : {G : Type 0} (admits : G → ℕ → ℕ → Type 0) (gate : G) (end : ℕ) → step ≤ end → end ≤ p.steps → workers ≤ 64
      → ((worker task : ℕ) → worker < workers → admits gate worker task) → AtEach (MayGo admits gate end) ms lanes
  unfolding of_species
  may_go admits gate end ahead within few gates = λ k d e lt.
      let mesh = slice_index_or ms k d in
      let lane = stands.lanes_are k d e lt in
      let own = sym lane.problem in
      record {
        steps = subst (λ (q : Problem). MayStep q end mesh (slice_index_or lanes k e).kept) own (record {
          whole = stands.meshes.whole k d lt;
          sound = sound_of_species p k (state_of mesh) (sound_at k d lt);
          ahead = omega (arith, step_at k d lt, ahead);
          within = within;
          patches = stands.meshes.patches k d lt;
          kept_is = lane.kept;
        });
        some_workers = lane.some_workers;
        few_workers = omega (arith, lane.few_workers, few);
        admitted = λ worker task below. gates worker task (omega (arith, below, lane.few_workers));
      }

  -- ---- and have gone

  module _ (end : ℕ) (ns : List Mesh) (news : List Lane) (count : length ns ≡ length ms) (lane_count : length news ≡ length lanes) (gone : HaveGone end ms lanes ns news) where
    each_gone : (k : ℕ) (d : Mesh) → k < length ms → state_of (slice_index_or ns k d) ≡ times (stepped (of_species p k)) (end - step) (state_of (slice_index_or ms k d))
    unfolding stepped_to
    each_gone k d lt =
        let e = pick lanes k (omega (arith, lt, stands.one_each)) in
        let s = state_of (slice_index_or ms k d) in
        (gone k d e lt).steps.value ∙ ap (λ (q : Problem). times (stepped q) (end - s.step) s) (stands.lanes_are k d e lt).problem
        ∙ ap (λ n. times (stepped (of_species p k)) (end - n) s) (step_at k d lt)

    pub states_gone : map state_of ns ≡ each_from (λ i s. times (stepped (of_species p i)) (end - step) s) 0 (map state_of ms)
    states_gone = made_each (λ i s. times (stepped (of_species p i)) (end - step) s) 0 ms ns count (λ k d lt.
        subst (λ i. state_of (slice_index_or ns k d) ≡ times (stepped (of_species p i)) (end - step) (state_of (slice_index_or ms k d))) (none_before k) (each_gone k d lt))
      where
        none_before : (k : ℕ) → k ≡ 0 + k
        none_before k = omega arith

    pub gone_step : step ≤ end → step_of (map state_of ns) ≡ end
    gone_step ahead =
        first_step ns (omega (arith, some_meshes, count)) end (λ d.
        let e = pick lanes 0 (omega (arith, some_meshes, stands.one_each)) in
        let s = state_of (slice_index_or ms 0 d) in
        ap (λ (t : State). t.step) (gone 0 d e some_meshes).steps.value
        ∙ stepped_to_step (slice_index_or lanes 0 e).problem.now s end (omega (arith, step_at 0 d some_meshes, ahead)))

    pub stands_then : step ≤ end → IsFlock p (map state_of ns) → StandsAt p workers end ns news
    unfolding of_species
    stands_then ahead flock = record {
      meshes = record {
        whole = λ k d lt.
            let in_all : k < length ms = omega (arith, lt, count) in
            let e = pick lanes k (omega (arith, in_all, stands.one_each)) in
            (gone k d e in_all).steps.whole;
        states = flock;
        patches = λ k d lt.
            let in_all : k < length ms = omega (arith, lt, count) in
            let e = pick lanes k (omega (arith, in_all, stands.one_each)) in
            subst (λ (q : Problem). IsInPatchesOf q (slice_index_or ns k d)) (stands.lanes_are k d e in_all).problem (gone k d e in_all).steps.patches;
      };
      step_is = gone_step ahead;
      one_each = lane_count ∙ stands.one_each ∙ sym count;
      lanes_are = λ k d e lt.
          let in_all : k < length ms = omega (arith, lt, count) in
          let new = gone k d e in_all in
          let lane = stands.lanes_are k d e in_all in record {
            problem = new.problem ∙ lane.problem;
            some_workers = omega (arith, new.workers, lane.some_workers);
            few_workers = omega (arith, new.workers, lane.few_workers);
            kept = subst (λ (q : Problem). IsKeptFor q (state_of (slice_index_or ns k d)).levels (slice_index_or news k e).kept) lane.problem new.steps.kept_is;
          };
    }

  -- ---- and were regridded

  pub stands_regridded : (ns : List Mesh) (news : List Lane) → length news ≡ length lanes → map state_of ns ≡ regrid_all p (map state_of ms)
      → All (λ m. is_spent m ≡ false) ns → All (IsInPatchesOf p) ns
      → ((k : ℕ) (e : Lane) → k < length lanes → HasForgotten (slice_index_or lanes k e) (slice_index_or news k e)) → StandsAt p workers step ns news
  stands_regridded ns news lane_count is whole patches forgotten =
      let count : length ns ≡ length ms = sym (length-map ns state_of) ∙ ap length is ∙ length-regrid_all p (map state_of ms) ∙ length-map ms state_of in record {
        meshes = record { whole = whole; states = subst (IsFlock p) (sym is) (regrid_all-flock p (map state_of ms) stands.meshes.states); patches = patches };
        step_is = ap step_of is ∙ regrid_all-step p (map state_of ms) ∙ stands.step_is;
        one_each = lane_count ∙ stands.one_each ∙ sym count;
        lanes_are = λ k d e lt.
            let in_all : k < length ms = omega (arith, lt, count) in
            let lane = stands.lanes_are k d e in_all in
            let new = forgotten k e (omega (arith, in_all, stands.one_each)) in record {
              problem = new.problem ∙ lane.problem;
              some_workers = omega (arith, new.workers, lane.some_workers);
              few_workers = omega (arith, new.workers, lane.few_workers);
              kept = new.kept (of_species p k) (state_of (slice_index_or ms k d)).levels (state_of (slice_index_or ns k d)).levels lane.kept;
            };
      }
