-- The patches of a lot gone over one after another: each is ready for its step, and what they add makes the lot's totals.
use Rattle.std.proofs.Common.{◌≡◌, ◌⊎◌, inl, inr, ℕ, ◌+◌, ◌<◌, ◌≤◌, false, List, [], length, get_or, set, take, replicate, sym, ap, subst, ◌∙◌, arith}
use Rattle.std.specs.Prelude.{slice_index}
use Rattle.std.specs.List.{All}
use Rattle.std.proofs.lemmas.Bool.{cases_lt}
use Rattle.std.proofs.lemmas.List.{get_or-replicate, get_or_past, length-replicate}
use Rattle.std.proofs.lemmas.List.FromFn.{get_or-map-range_with_len, length-map-range_with_len}
use Rattle.amr_box.specs.Cells.{width}
use Rattle.amr_def.specs.declared.problem.Problem.{Problem}
use Rattle.amr_patch.specs.declared.patches.Patch.{Patch}
use Rattle.amr_patch.specs.Patches.{box}
use Rattle.amr_flux.specs.declared.fluxes.PatchSides.{PatchSides}
use Rattle.amr_layout.specs.declared.FlowTo.{FlowTo}
use Rattle.amr_layout.specs.declared.level_flows.LevelFlows.{LevelFlows}
use Rattle.amr_layout.specs.LevelFlowLists.{flow_lists, flows_at}
use Rattle.amr_lots.specs.Lots.{AreEdgeFlows, AreReady, CanAdd, LieOn, MayStep, adds_to, lot_total}
use Rattle.amr_lots.specs.Ready.{HasFlowsIn}
use Rattle.amr_register.proofs.EdgeLists.{zip_at}
use Rattle.amr_lots.proofs.InPlaces.{AreChangedTo, none_changed, one_more_changed}
use Rattle.amr_lots.proofs.LotTotals.{lot_more, lot_take, lot_whole}

-- ---- lists

-- words put back to 0
pub zeros : (ws : List ℕ) (n : ℕ) → ws ≡ replicate n 0 → (word : ℕ) → slice_index ws word ≡ 0
zeros ws n e word = ap (λ us. slice_index us word) e ∙ from (cases_lt word n)
  where
    from : ((word < n) ⊎ (n ≤ word)) → get_or {A = ℕ} (replicate {A = ℕ} n 0) word 0 ≡ 0
    from (inl lt) = get_or-replicate n word 0 0 lt
    from (inr le) = get_or_past (replicate {A = ℕ} n 0) word 0 (omega (arith, le, length-replicate {A = ℕ} n 0))

-- what stands for sides that are not there
abbrev pub no_sides : PatchSides
no_sides = record { x_low = false; x_high = false; y_low = false; y_high = false }

-- the flows of one of so many patches
pub list_at : (v : LevelFlows) (count n : ℕ) (xs : List FlowTo) → n < count → get_or (flow_lists v count) n xs ≡ flows_at v n
list_at v count n xs lt = get_or-map-range_with_len (flows_at v) 0 count n n xs lt (omega arith)

pub list_count : (v : LevelFlows) (count : ℕ) → length (flow_lists v count) ≡ count
list_count v count = length-map-range_with_len (flows_at v) 0 count

-- ---- one patch after another

-- the first n patches were changed as R says, and the words have what these add
pub record AreUpTo (R : ℕ → Patch → Patch → Type 0) (p : Problem) (l : ℕ) (qs : List Patch) (xss : List (List FlowTo)) (rs : List Patch) (ws : List ℕ) (n : ℕ) : Type 0 where
  pub changed : AreChangedTo R n qs rs
  pub totals : (word : ℕ) → slice_index ws word ≡ lot_total p l (take n qs) (take n xss) word

pub none_done : (R : ℕ → Patch → Patch → Type 0) (p : Problem) (l : ℕ) (qs : List Patch) (xss : List (List FlowTo)) (ws : List ℕ) → ((word : ℕ) → slice_index ws word ≡ 0) → AreUpTo R p l qs xss qs ws 0
none_done R p l qs xss ws none = record { changed = none_changed R qs; totals = none }

module _ (R : ℕ → Patch → Patch → Type 0) (p : Problem) (l columns many : ℕ) (qs : List Patch) (v : LevelFlows) (sides : List PatchSides) (ready : AreReady p l columns many qs (flow_lists v (length qs))) (flows : HasFlowsIn v sides qs)
    (rs : List Patch) (ws : List ℕ) (n : ℕ) (up : AreUpTo R p l qs (flow_lists v (length qs)) rs ws n) where
  abbrev xss : List (List FlowTo)
  xss = flow_lists v (length qs)

  -- with the flows of patch n
  module _ (d : Patch) (xs : List FlowTo) (is : xs ≡ flows_at v n) (lt : n < length qs) where
    own : get_or (flow_lists v (length qs)) n [] ≡ xs
    own = list_at v (length qs) n [] lt ∙ sym is

    patch_here : get_or rs n d ≡ get_or qs n d
    patch_here = up.changed.rest n d (omega arith)

    pub may_step_here : MayStep p l (get_or rs n d)
    may_step_here = subst (MayStep p l) (sym patch_here) (ready.step n d lt)

    pub room_here : width (box (get_or rs n d)) ≤ columns
    room_here = subst (λ (q : Patch). width (box q) ≤ columns) (sym patch_here) (ready.room n d lt)

    added : (word : ℕ) → lot_total p l (take (n + 1) qs) (take (n + 1) (flow_lists v (length qs))) word ≡ slice_index ws word + adds_to p l word (get_or rs n d) xs
    added word =
        lot_more p l word qs (flow_lists v (length qs)) n d [] lt (omega (arith, lt, ready.count))
        ∙ (λ i. sym (up.totals word) i + adds_to p l word (sym patch_here i) (own i))

    pub can_add_here : length ws ≡ many → CanAdd p l (get_or rs n d) xs (get_or sides n no_sides) ws
    can_add_here count = record {
      edges = subst (λ (q : Patch). AreEdgeFlows q xs) (sym patch_here) (subst (AreEdgeFlows (get_or qs n d)) own (zip_at AreEdgeFlows qs (flow_lists v (length qs)) n d [] ready.flows lt));
      lie = subst (λ (q : Patch). LieOn (get_or sides n no_sides) (box q) xs) (sym patch_here) (subst (LieOn (get_or sides n no_sides) (box (get_or qs n d))) (sym is) (flows.lie n d no_sides lt));
      words = subst (λ k. All (λ (x : FlowTo). x.word < k) xs) (sym count) (subst (All (λ (x : FlowTo). x.word < many)) own (ready.words n [] (omega (arith, lt, ready.count))));
      fits = λ word. omega (arith, added word, lot_take p l word qs (flow_lists v (length qs)) (n + 1), ready.fits word);
    }

    pub next_done : (r : Patch) (us : List ℕ) → R n (get_or rs n d) r → ((word : ℕ) → slice_index us word ≡ slice_index ws word + adds_to p l word (get_or rs n d) xs) → AreUpTo R p l qs (flow_lists v (length qs)) (set rs n r) us (n + 1)
    next_done r us one adds = record {
      changed = one_more_changed R qs n rs up.changed d r lt one;
      totals = λ word. adds word ∙ sym (added word);
    }

  -- after the last
  pub all_added : length qs ≤ n → (word : ℕ) → slice_index ws word ≡ lot_total p l qs (flow_lists v (length qs)) word
  all_added all word = up.totals word ∙ lot_whole p l word qs (flow_lists v (length qs)) n all
