-- The flows of a level's patches in one list: made patch by patch, and the part of each.
use Rattle.std.proofs.Common.{◌≡◌, ℕ, zero, suc, ◌+◌, ◌-◌, ◌<◌, ◌≤◌, List, [], ◌∷◌, ◌++◌, length, length-append, length-take, get_or, map, take, drop, refl, sym, ap, ◌∙◌, append-nil, arith}
use Rattle.std.specs.Prelude.{slice_index}
use Rattle.std.specs.List.{All, flat_map, range_with_len}
use Rattle.std.proofs.Math.Seq.{drop-append-add, take-append_seam}
use Rattle.std.proofs.lemmas.Grind.{flat_map-append}
use Rattle.std.proofs.lemmas.List.{get_or-take, take_more}
use Rattle.std.proofs.lemmas.List.Elements.{All-drop, All-take}
use Rattle.std.proofs.lemmas.List.Folds.{length-flat_map-take}
use Rattle.std.proofs.lemmas.List.FromFn.{get_or-map-range_with_len, length-map-range_with_len, map-range_with_len_more}
use Rattle.amr_patch.specs.declared.patches.Patch.{Patch}
use Rattle.amr_patch.specs.Patches.{box}
use Rattle.amr_layout.specs.declared.FlowTo.{FlowTo}
use Rattle.amr_layout.specs.declared.level_flows.LevelFlows.{LevelFlows}
use Rattle.amr_layout.specs.Adds.{flows_of}
use Rattle.amr_layout.specs.LevelFlowLists.{AreFlowsOf, AreFlowsOfRun, AreFlowsPicked, HasFlowsAt, flows_at, flows_in_first, level_flows, picked_flows, picked_in_first}
use Rattle.amr_layout.specs.Surroundings.{Around}

-- ---- lists made of lists

module _ {A B : Type 0} (g : A → List B) where
  one_part : (xs : List A) (i : ℕ) (d : A) → i < length xs → take (length (g (get_or xs i d))) (drop (length (flat_map g (take i xs))) (flat_map g xs)) ≡ g (get_or xs i d)
  one_part [] i d lt = absurd (omega (arith, lt))
  one_part (x ∷ xs) zero d lt = take-append_seam (g x) (flat_map g xs)
  one_part (x ∷ xs) (suc i) d lt =
      let past : drop (length (g x ++ flat_map g (take i xs))) (g x ++ flat_map g xs) ≡ drop (length (flat_map g (take i xs))) (flat_map g xs)
      = ap (λ n. drop n (g x ++ flat_map g xs)) (length-append (g x) (flat_map g (take i xs))) ∙ drop-append-add (g x) (flat_map g xs) (length (flat_map g (take i xs))) in
      ap (take (length (g (get_or xs i d)))) past ∙ one_part xs i d (omega (arith, lt))

  pub parts_more : (xs : List A) (i : ℕ) (d : A) → i < length xs → flat_map g (take (i + 1) xs) ≡ flat_map g (take i xs) ++ g (get_or xs i d)
  parts_more xs i d lt = ap (flat_map g) (take_more xs i d lt) ∙ flat_map-append g (take i xs) (get_or xs i d ∷ []) ∙ ap (λ l. flat_map g (take i xs) ++ l) (append-nil (g (get_or xs i d)))

-- what all flows of a list have, those of a patch have
pub each_of_patch : (P : FlowTo → Type 0) (v : LevelFlows) (i : ℕ) → All P v.flows.items → All P (flows_at v i)
each_of_patch P v i h =
    All-take P (slice_index v.bounds.items (i + 1) - slice_index v.bounds.items i) (drop (slice_index v.bounds.items i) v.flows.items) (All-drop P (slice_index v.bounds.items i) v.flows.items h)

-- ---- made patch by patch

module _ (s : Around) (run : List Patch) where
  pub none_yet : level_flows s (take 0 run) ≡ []
  unfolding level_flows
  none_yet = refl

  pub first_bound : 0 ∷ [] ≡ map (flows_in_first s run) (range_with_len 0 (0 + 1))
  unfolding level_flows
  first_bound = refl

  pub patch_more : (i : ℕ) (q : Patch) → i < length run → q ≡ get_or run i q → level_flows s (take (i + 1) run) ≡ level_flows s (take i run) ++ flows_of s (box q)
  unfolding level_flows
  patch_more i q lt e = parts_more (λ (r : Patch). flows_of s (box r)) run i q lt ∙ ap (λ (r : Patch). flat_map (λ (x : Patch). flows_of s (box x)) (take i run) ++ flows_of s (box r)) (sym e)

  pub bounds_more : (i n : ℕ) (bs : List ℕ) → bs ≡ map (flows_in_first s run) (range_with_len 0 (i + 1)) → n ≡ flows_in_first s run (i + 1) → bs ++ n ∷ [] ≡ map (flows_in_first s run) (range_with_len 0 (i + 1 + 1))
  bounds_more i n bs before is = (λ t. before t ++ is t ∷ []) ∙ sym (map-range_with_len_more (flows_in_first s run) 0 (i + 1) (i + 1) (let z : 0 + (i + 1) ≡ i + 1 = omega arith in z))

module _ (s : Around) where
  -- ---- the part of a patch

  module _ (v : LevelFlows) (h : AreFlowsOf s v) (i : ℕ) (lt : i < length s.patches) where
    bound_at : (k : ℕ) → k < length s.patches + 1 → slice_index v.bounds.items k ≡ flows_in_first s s.patches k
    bound_at k below = ap (λ (l : List ℕ). slice_index l k) h.bounds ∙ get_or-map-range_with_len (flows_in_first s s.patches) 0 (length s.patches + 1) k k 0 below (let z : 0 + k ≡ k = omega arith in z)

    start : slice_index v.bounds.items i ≡ flows_in_first s s.patches i
    start = bound_at i (omega (arith, lt))

    end : slice_index v.bounds.items (i + 1) ≡ flows_in_first s s.patches (i + 1)
    end = bound_at (i + 1) (omega (arith, lt))

    -- the next bound is as much further as the patch has flows
    next : (d : Patch) → flows_in_first s s.patches (i + 1) ≡ flows_in_first s s.patches i + length (flows_of s (box (get_or s.patches i d)))
    unfolding level_flows
    next d =
        let g : Patch → List FlowTo = λ q. flows_of s (box q) in
        ap (λ (l : List FlowTo). length l) (parts_more g s.patches i d lt) ∙ length-append (flat_map g (take i s.patches)) (g (get_or s.patches i d))

    within_all : (d : Patch) → flows_in_first s s.patches i + length (flows_of s (box (get_or s.patches i d))) ≤ length (level_flows s s.patches)
    unfolding level_flows
    within_all d = length-flat_map-take (λ (q : Patch). flows_of s (box q)) s.patches i d lt

    pub has_flows_at : Patch → HasFlowsAt v i
    has_flows_at d = record {
      there = omega (arith, lt, ap (λ (l : List ℕ). length l) h.bounds, length-map-range_with_len (flows_in_first s s.patches) 0 (length s.patches + 1));
      order = omega (arith, start, end, next d);
      within = omega (arith, end, next d, within_all d, ap (λ (l : List FlowTo). length l) h.flows);
    }

    part_of_patch : (d : Patch) → take (length (flows_of s (box (get_or s.patches i d)))) (drop (flows_in_first s s.patches i) (level_flows s s.patches)) ≡ flows_of s (box (get_or s.patches i d))
    unfolding level_flows
    part_of_patch d = one_part (λ (q : Patch). flows_of s (box q)) s.patches i d lt

    -- it has the flows of the patch
    pub flows_here : (d : Patch) → flows_at v i ≡ flows_of s (box (get_or s.patches i d))
    flows_here d =
        let count : slice_index v.bounds.items (i + 1) - slice_index v.bounds.items i ≡ length (flows_of s (box (get_or s.patches i d))) = omega (arith, start, end, next d) in
        (λ t. take (count t) (drop (start t) (h.flows t))) ∙ part_of_patch d

-- ---- picked by number

pub picked_more : (v : LevelFlows) (ns : List ℕ) (i n : ℕ) → i < length ns → n ≡ slice_index ns i → picked_flows v (take (i + 1) ns) ≡ picked_flows v (take i ns) ++ flows_at v n
picked_more v ns i n lt e = parts_more (flows_at v) ns i 0 lt ∙ ap (λ (m : ℕ). picked_flows v (take i ns) ++ flows_at v m) (sym e)

pub picked_bounds : (v : LevelFlows) (ns : List ℕ) (i n : ℕ) (bs : List ℕ) → bs ≡ map (picked_in_first v ns) (range_with_len 0 (i + 1)) → n ≡ picked_in_first v ns (i + 1) → bs ++ n ∷ [] ≡ map (picked_in_first v ns) (range_with_len 0 (i + 1 + 1))
picked_bounds v ns i n bs before is = (λ t. before t ++ is t ∷ []) ∙ sym (map-range_with_len_more (picked_in_first v ns) 0 (i + 1) (i + 1) (let z : 0 + (i + 1) ≡ i + 1 = omega arith in z))

-- the patches rs have these numbers among ps
pub record ArePatchesAt (ps : List Patch) (ns : List ℕ) (rs : List Patch) : Type 0 where
  pub count : length rs ≡ length ns
  pub there : All (λ n. n < length ps) ns
  pub same : (k : ℕ) (q : Patch) → k < length ns → get_or rs k q ≡ get_or ps (slice_index ns k) q

-- so their flows are those that were picked
pub picked_are : (s : Around) (v w : LevelFlows) (ns : List ℕ) (rs : List Patch) → AreFlowsOf s v → ArePatchesAt s.patches ns rs → AreFlowsPicked v ns w → AreFlowsOfRun s rs w
unfolding level_flows
picked_are s v w ns rs h at picked = record {
  flows = picked.flows ∙ all ns rs at;
  bounds = picked.bounds ∙ (λ i. map (λ k. length (first k i)) (range_with_len 0 (length ns + 1))) ∙ ap (λ n. map (flows_in_first s rs) (range_with_len 0 (n + 1))) (sym at.count);
}
  where
    later : (n : ℕ) (ns : List ℕ) (r : Patch) (rs : List Patch) → ArePatchesAt s.patches (n ∷ ns) (r ∷ rs) → ArePatchesAt s.patches ns rs
    later n ns r rs at = record {
      count = let c = at.count in omega (arith, c);
      there = λ k d lt. at.there (suc k) d (omega (arith, lt));
      same = λ k q lt. at.same (suc k) q (omega (arith, lt));
    }

    all : (ns : List ℕ) (rs : List Patch) → ArePatchesAt s.patches ns rs → picked_flows v ns ≡ flat_map (λ (q : Patch). flows_of s (box q)) rs
    all [] [] at = refl
    all [] (r ∷ rs) at = absurd (let c = at.count in omega (arith, c))
    all (n ∷ ns) [] at = absurd (let c = at.count in omega (arith, c))
    all (n ∷ ns) (r ∷ rs) at =
        let one : flows_at v n ≡ flows_of s (box r) = flows_here s v h n (at.there 0 n (omega arith)) r ∙ ap (λ (q : Patch). flows_of s (box q)) (sym (at.same 0 r (omega arith))) in
        let rest = all ns rs (later n ns r rs at) in
        λ i. one i ++ rest i

    first_at : (k : ℕ) → ArePatchesAt s.patches (take k ns) (take k rs)
    first_at k = record {
      count = let c = at.count in omega (arith, length-take k rs, length-take k ns, c);
      there = All-take (λ n. n < length s.patches) k ns at.there;
      same = λ j q lt.
          let below : j < k = omega (arith, lt, length-take k ns) in
          let inside : j < length ns = omega (arith, lt, length-take k ns) in
          get_or-take k rs j q below ∙ at.same j q inside ∙ ap (λ n. get_or s.patches n q) (sym (get_or-take k ns j 0 below));
    }

    first : (k : ℕ) → picked_flows v (take k ns) ≡ flat_map (λ (q : Patch). flows_of s (box q)) (take k rs)
    first k = all (take k ns) (take k rs) (first_at k)
