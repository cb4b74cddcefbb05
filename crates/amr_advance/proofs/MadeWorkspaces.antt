-- Workspaces that are made for runs of a level's patches.
use Rattle.std.proofs.Common.{◌≡◌, ◌∙◌, ℕ, ◌+◌, ◌*◌, ◌^◌, ◌<◌, ◌≤◌, List, [], length, get_or, map, take, drop, sym, ap, subst, arith}
use Rattle.std.specs.List.{range_with_len}
use Rattle.std.proofs.Math.Nat.{mul-le-mul_left}
use Rattle.std.proofs.lemmas.List.{get_or-map, length-drop, length-map, length-take}
use Rattle.std.proofs.lemmas.List.FromFn.{fill_by_all}
use Rattle.amr_flux.specs.declared.fluxes.PatchSides.{PatchSides}
use Rattle.amr_ghost.specs.declared.messages.Message.{Message}
use Rattle.amr_ghost.specs.declared.parts.FrameParts.{FrameParts}
use Rattle.amr_layout.specs.declared.FlowTo.{FlowTo}
use Rattle.amr_layout.specs.declared.PatchLayout.{PatchLayout}
use Rattle.amr_layout.specs.declared.level_flows.LevelFlows.{LevelFlows}
use Rattle.amr_layout.specs.Adds.{flows_of}
use Rattle.amr_layout.specs.LevelFlowLists.{AreFlowsOf, HasFlowsAt, flow_lists, flows_at}
use Rattle.amr_layout.specs.PartFlows.{AreNumbered}
use Rattle.amr_layout.specs.Places.{HasMask}
use Rattle.amr_layout.specs.Surroundings.{Around, domain_around}
use Rattle.amr_layout.proofs.LevelFlowLists.{flows_here, has_flows_at}
use Rattle.amr_layout.proofs.Planned.{nth}
use Rattle.amr_lots.specs.Runs.{run}
use Rattle.amr_lots.proofs.Runs.{run_at, take_first}
use Rattle.amr_patch.specs.declared.patches.Patch.{Patch}
use Rattle.amr_patch.specs.Patches.{box}
use Rattle.amr_patch.proofs.Rows.{place_within}
use Rattle.amr_advance.specs.Cuts.{AreLayoutsOfRun, IsRunOf}
use Rattle.amr_advance.specs.Lots.{AreMessagesOf, PutsLieOn}
use Rattle.amr_advance.proofs.MadeMessages.{AreMadeFor}
use Rattle.amr_advance.proofs.RunZips.{zip_length}

-- where the copies of run k to each run stand, and those of each run to it
pub in_row : (k t runs : ℕ) → k < runs → t < runs → k * runs + t * 1 < runs * runs
in_row k t runs there lt = let r : k * runs + t < runs * runs = place_within k t runs runs there lt in omega (arith, r)

pub in_column : (k t runs : ℕ) → k < runs → t < runs → k + t * runs < runs * runs
in_column k t runs there lt = let r : t * runs + k < runs * runs = place_within t k runs runs lt there in omega (arith, r)

-- which are few
pub few_places : (k runs : ℕ) → k < runs → runs ≤ 2 ^ 26 → k * runs + k < 2 ^ 53
few_places k runs there few = let most : k * runs ≤ k * 2 ^ 26 = mul-le-mul_left k few in omega (arith, most, there, few)

-- messages for the copies at these places
pub box_made : (parts : FrameParts) (place : ℕ → ℕ) (k runs first stride : ℕ) (xs : List Message) → k < runs → ((t : ℕ) → first + t * stride ≡ place t) → AreMadeFor parts.copies.items first stride k runs xs → AreMessagesOf parts place k runs xs
box_made parts place k runs first stride xs there at made = record {
  count = made.count;
  copies = λ t m v lt other. made.copies t m v lt other ∙ ap (λ n. (get_or parts.copies.items n v).items) (at t);
  own = λ m. made.empty m there;
  places = made.places;
}

-- ---- a run

module _ (s : Around) (each k count : ℕ) (of : IsRunOf each k count (length s.patches)) where
  pub run_count : length (run each k s.patches) ≡ count
  run_count = let n = of.count in omega (arith, n, length-take each (drop (k * each) s.patches), length-drop (k * each) s.patches)

  pub run_is : (n : ℕ) → n ≡ count → take n (drop (k * each) s.patches) ≡ run each k s.patches
  run_is n same = let m = of.count in take_first each n (drop (k * each) s.patches) (omega (arith, same, m, length-drop (k * each) s.patches))

  below : (i : ℕ) → i < count → k * each + i < length s.patches
  below i lt = let n = of.count in let w = of.within in omega (arith, n, w, lt)

  module _ (v : LevelFlows) (are : AreFlowsOf s v) where
    pub has_flows : (i : ℕ) → i < count → HasFlowsAt v (k * each + i)
    has_flows i lt = has_flows_at s v are (k * each + i) (below i lt) (nth s.patches (k * each + i) (below i lt))

    -- its flows, a list for each patch, are those of the level from its first patch on
    flows_there : map (λ i. flows_at v (k * each + i)) (range_with_len 0 count) ≡ map (λ (q : Patch). flows_of s (box q)) (run each k s.patches)
    flows_there = sym (fill_by_all (λ i. flows_at v (k * each + i)) (map flows (run each k s.patches)) count [] (length-map (run each k s.patches) flows ∙ run_count) at)
      where
        flows : Patch → List FlowTo
        flows q = flows_of s (box q)

        at : (i : ℕ) → i < count → get_or (map flows (run each k s.patches)) i [] ≡ flows_at v (k * each + i)
        at i lt =
            let there : i < length (run each k s.patches) = omega (arith, lt, run_count) in
            let q : Patch = nth (run each k s.patches) i there in
            get_or-map flows (run each k s.patches) i q [] there ∙ ap flows (run_at each s.patches k i q there) ∙ sym (flows_here s v are (k * each + i) (below i lt) q)

    pub numbered_run : (words : List ℕ) (x : LevelFlows) → AreNumbered words (map (λ i. flows_at v (k * each + i)) (range_with_len 0 count)) (flow_lists x count) → AreNumbered words (map (λ (q : Patch). flows_of s (box q)) (run each k s.patches)) (flow_lists x (length (run each k s.patches)))
    numbered_run words x h = subst (λ n. AreNumbered words (map (λ (q : Patch). flows_of s (box q)) (run each k s.patches)) (flow_lists x n)) (sym run_count) (subst (λ zs. AreNumbered words zs (flow_lists x count)) flows_there h)

  -- as many layouts as patches
  pub layout_count : (ts : List PatchLayout) → AreLayoutsOfRun s each k ts → length ts ≡ length (run each k s.patches)
  layout_count ts h = sym (zip_length (HasMask (domain_around s) s.patches each) (run each k s.patches) ts h.masks)

  -- sides on which what they put lies, by other names of the patches and layouts
  pub sides_there : (qs : List Patch) (ts us : List PatchLayout) (ds : List PatchSides) → AreLayoutsOfRun s each k ts → qs ≡ run each k s.patches → us ≡ ts
      → ((i : ℕ) (q : Patch) (t : PatchLayout) (d : PatchSides) → i < length qs → i < length us → PutsLieOn (get_or ds i d) (box (get_or qs i q)) (get_or us i t).puts.items)
      → (i : ℕ) (q : Patch) (t : PatchLayout) (d : PatchSides) → i < length (run each k s.patches) → PutsLieOn (get_or ds i d) (box (get_or (run each k s.patches) i q)) (get_or ts i t).puts.items
  sides_there qs ts us ds h patches layouts lie i q t d lt =
      subst (λ (rs : List Patch). PutsLieOn (get_or ds i d) (box (get_or rs i q)) (get_or ts i t).puts.items) patches
      (subst (λ (vs : List PatchLayout). PutsLieOn (get_or ds i d) (box (get_or qs i q)) (get_or vs i t).puts.items) layouts
      (lie i q t d (omega (arith, lt, ap (λ (rs : List Patch). length rs) patches)) (omega (arith, lt, layout_count ts h, ap (λ (vs : List PatchLayout). length vs) layouts))))
