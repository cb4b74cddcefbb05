-- The flows of runs of a level's patches, one run behind another.
use Rattle.std.proofs.Common.{◌≡◌, ℕ, suc, ◌+◌, ◌-◌, ◌*◌, ◌/◌, ◌%◌, ◌<◌, ◌≤◌, ◌⊎◌, min, inl, inr, List, [], ◌∷◌, ◌++◌, length, length-append, get_or, map, take, drop, sym, ap, subst, ◌∙◌, refl, arith, add-mul, div-add-mod', mod-lt, take-add}
use Rattle.std.specs.List.{All, range_with_len}
use Rattle.std.specs.Fork.{slice_chunk}
use Rattle.std.proofs.lemmas.Bool.{cases_lt}
use Rattle.std.proofs.lemmas.Grind.{flat_map-append}
use Rattle.std.proofs.lemmas.List.{get_or-append_right, get_or-drop, get_or-map, get_or_append_left, length-drop, length-map, take-append-drop, take-append-le, take_all}
use Rattle.std.proofs.lemmas.List.FromFn.{fill_by_all, get_or-map-range_with_len, length-map-range_with_len}
use Rattle.amr_patch.specs.declared.patches.Patch.{Patch}
use Rattle.amr_patch.specs.Patches.{box}
use Rattle.amr_layout.specs.declared.FlowTo.{FlowTo}
use Rattle.amr_layout.specs.declared.level_flows.LevelFlows.{LevelFlows}
use Rattle.amr_layout.specs.Adds.{flows_of}
use Rattle.amr_layout.specs.LevelFlowLists.{AreFlowsOf, AreFlowsOfRun, flows_in_first, level_flows}
use Rattle.amr_layout.specs.Surroundings.{Around}
use Rattle.amr_layout.proofs.LevelFlowLists.{first_bound, none_yet}

take_past : (qs rs : List Patch) (j : ℕ) → take (length qs + j) (qs ++ rs) ≡ qs ++ take j rs
take_past [] rs j = let e : 0 + j ≡ j = omega arith in ap (λ n. take n rs) e
take_past (q ∷ qs) rs j = let e : suc (length qs) + j ≡ suc (length qs + j) = omega arith in ap (λ n. take n (q ∷ (qs ++ rs))) e ∙ ap (λ (l : List Patch). q ∷ l) (take_past qs rs j)

-- ---- two runs

module _ (s : Around) where
  flows_joined : (qs rs : List Patch) → level_flows s (qs ++ rs) ≡ level_flows s qs ++ level_flows s rs
  unfolding level_flows
  flows_joined qs rs = flat_map-append (λ (q : Patch). flows_of s (box q)) qs rs

  in_first : (qs rs : List Patch) (k : ℕ) → k ≤ length qs → flows_in_first s (qs ++ rs) k ≡ flows_in_first s qs k
  in_first qs rs k le = ap (λ (l : List Patch). length (level_flows s l)) (take-append-le k qs rs le)

  in_second : (qs rs : List Patch) (j : ℕ) → flows_in_first s (qs ++ rs) (length qs + j) ≡ length (level_flows s qs) + flows_in_first s rs j
  in_second qs rs j =
      ap (λ (l : List Patch). length (level_flows s l)) (take_past qs rs j) ∙ ap (λ (l : List FlowTo). length l) (flows_joined qs (take j rs))
      ∙ length-append (level_flows s qs) (level_flows s (take j rs))

  -- no bound lies past the flows
  pub bound_within : (qs : List Patch) (k : ℕ) → flows_in_first s qs k ≤ length (level_flows s qs)
  bound_within qs k =
      let e : length (level_flows s qs) ≡ flows_in_first s qs k + length (level_flows s (drop k qs))
      = ap (λ (l : List Patch). length (level_flows s l)) (sym (take-append-drop k qs)) ∙ ap (λ (l : List FlowTo). length l) (flows_joined (take k qs) (drop k qs))
      ∙ length-append (level_flows s (take k qs)) (level_flows s (drop k qs)) in
      omega (arith, e)

  module _ (qs rs : List Patch) (n : ℕ) (bs cs : List ℕ) (at : n ≡ length (level_flows s qs)) (hb : bs ≡ map (flows_in_first s qs) (range_with_len 0 (length qs + 1))) (hc : cs ≡ map (flows_in_first s rs) (range_with_len 0 (length rs + 1))) where
    count_b : length bs ≡ length qs + 1
    count_b = ap (λ (l : List ℕ). length l) hb ∙ length-map-range_with_len (flows_in_first s qs) 0 (length qs + 1)

    count_c : length cs ≡ length rs + 1
    count_c = ap (λ (l : List ℕ). length l) hc ∙ length-map-range_with_len (flows_in_first s rs) 0 (length rs + 1)

    bound_at : (k : ℕ) → k < length (qs ++ rs) + 1 → get_or (bs ++ map (λ b. n + b) (drop 1 cs)) k 0 ≡ flows_in_first s (qs ++ rs) k
    bound_at k lt = cases (cases_lt k (length bs))
      where
        cases : (k < length bs) ⊎ (length bs ≤ k) → get_or (bs ++ map (λ b. n + b) (drop 1 cs)) k 0 ≡ flows_in_first s (qs ++ rs) k
        cases (inl below) =
            get_or_append_left bs (map (λ b. n + b) (drop 1 cs)) 0 k below ∙ ap (λ (l : List ℕ). get_or l k 0) hb
            ∙ get_or-map-range_with_len (flows_in_first s qs) 0 (length qs + 1) k k 0 (omega (arith, below, count_b)) (omega arith) ∙ sym (in_first qs rs k (omega (arith, below, count_b)))
        cases (inr past) =
            let j = k - length bs in
            let inside : j < length (drop 1 cs) = omega (arith, lt, past, count_b, count_c, length-drop 1 cs, length-append qs rs) in
            let place : length qs + (1 + j) ≡ k = omega (arith, past, count_b) in
            let read : get_or (drop 1 cs) j 0 ≡ flows_in_first s rs (1 + j)
            = get_or-drop 1 cs j 0 ∙ ap (λ (l : List ℕ). get_or l (1 + j) 0) hc ∙ get_or-map-range_with_len (flows_in_first s rs) 0 (length rs + 1) (1 + j) (1 + j) 0 (omega (arith, inside, count_c, length-drop 1 cs)) (omega arith) in
            let sum : n + get_or (drop 1 cs) j 0 ≡ length (level_flows s qs) + flows_in_first s rs (1 + j) = omega (arith, at, read) in
            get_or-append_right bs (map (λ b. n + b) (drop 1 cs)) (length bs) k 0 refl past ∙ get_or-map (λ b. n + b) (drop 1 cs) j 0 0 inside ∙ sum ∙ sym (in_second qs rs (1 + j)) ∙ ap (flows_in_first s (qs ++ rs)) place

    bounds_joined : bs ++ map (λ b. n + b) (drop 1 cs) ≡ map (flows_in_first s (qs ++ rs)) (range_with_len 0 (length (qs ++ rs) + 1))
    bounds_joined =
        fill_by_all (flows_in_first s (qs ++ rs)) (bs ++ map (λ b. n + b) (drop 1 cs)) (length (qs ++ rs) + 1) 0
        (omega (arith, count_b, count_c, length-append bs (map (λ b. n + b) (drop 1 cs)), length-map (drop 1 cs) (λ b. n + b), length-drop 1 cs, length-append qs rs)) bound_at

  -- the flows of a run behind those of another one are those of both
  pub runs_joined : (qs rs : List Patch) (v w x : LevelFlows) → AreFlowsOfRun s qs v → AreFlowsOfRun s rs w
      → x.flows.items ≡ v.flows.items ++ w.flows.items → x.bounds.items ≡ v.bounds.items ++ map (λ b. length v.flows.items + b) (drop 1 w.bounds.items)
      → AreFlowsOfRun s (qs ++ rs) x
  runs_joined qs rs v w x hv hw flows bounds = record {
    flows = flows ∙ (λ t. hv.flows t ++ hw.flows t) ∙ sym (flows_joined qs rs);
    bounds = bounds ∙ bounds_joined qs rs (length v.flows.items) v.bounds.items w.bounds.items (ap (λ (l : List FlowTo). length l) hv.flows) hv.bounds hw.bounds;
  }

  -- ---- one run

  pub bounds_within : (qs : List Patch) (v : LevelFlows) → AreFlowsOfRun s qs v → All (λ b. b ≤ length v.flows.items) v.bounds.items
  bounds_within qs v h k d lt =
      let count : length v.bounds.items ≡ length qs + 1 = ap (λ (l : List ℕ). length l) h.bounds ∙ length-map-range_with_len (flows_in_first s qs) 0 (length qs + 1) in
      let read : get_or v.bounds.items k d ≡ flows_in_first s qs k
      = ap (λ (l : List ℕ). get_or l k d) h.bounds ∙ get_or-map-range_with_len (flows_in_first s qs) 0 (length qs + 1) k k d (omega (arith, lt, count)) (omega arith) in
      omega (arith, read, bound_within qs k, ap (λ (l : List FlowTo). length l) h.flows)

  -- that of no patch
  pub no_run : (qs : List Patch) (size : ℕ) (v : LevelFlows) → v.flows.items ≡ [] → v.bounds.items ≡ 0 ∷ [] → AreFlowsOfRun s (take (0 * size) qs) v
  no_run qs size v f b =
      let h : AreFlowsOfRun s [] v = record { flows = f ∙ sym (none_yet s []); bounds = b ∙ first_bound s [] } in
      let z : 0 ≡ 0 * size = omega arith in
      subst (λ n. AreFlowsOfRun s (take n qs) v) z h

  -- that of all patches
  pub all_patches : (n : ℕ) (v : LevelFlows) → length s.patches ≤ n → AreFlowsOfRun s (take n s.patches) v → AreFlowsOf s v
  all_patches n v le h = subst (λ (l : List Patch). AreFlowsOfRun s l v) (take_all n s.patches le) h

-- ---- one more of runs of as many patches

pub run_more : (qs : List Patch) (size k : ℕ) → take ((k + 1) * size) qs ≡ take (k * size) qs ++ slice_chunk qs size k
run_more qs size k = let e : (k + 1) * size ≡ k * size + size = omega arith in ap (λ n. take n qs) e ∙ take-add (k * size) size qs

-- so many runs are enough for all
pub runs_enough : (n size count : ℕ) → 0 < size → count ≡ n / size + min 1 (n % size) → n ≤ count * size
runs_enough n size count some is = cases (cases_lt 0 (n % size))
  where
    cases : (0 < n % size) ⊎ (n % size ≤ 0) → n ≤ count * size
    cases (inl rest) =
        let more : count ≡ n / size + 1 = omega (arith, is, rest) in
        omega (arith, div-add-mod' n size, mod-lt n some, ap (λ k. k * size) more, add-mul (n / size) 1 size)
    cases (inr none) =
        let all : count ≡ n / size = omega (arith, is, none) in
        omega (arith, div-add-mod' n size, none, ap (λ k. k * size) all)
