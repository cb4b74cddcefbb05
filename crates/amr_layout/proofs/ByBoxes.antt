-- The layout of a level goes by boxes: two levels on the same ones have the same places, puts, reads and flows, whatever their
-- masses are.
use Rattle.std.proofs.Common.{◌≡◌, ◌∙◌, ℕ, Bool, true, false, refl, suc, ◌+◌, ◌-◌, ◌*◌, ◌&&◌, ◌||◌, not, cond, pos, int_lt, List, ◌++◌, length, [], ◌∷◌, map, take, sym, ap}
use Rattle.std.specs.Prelude.{is_some}
use Rattle.std.specs.List.{flat_map, position_or_len, range_with_len}
use Rattle.std.specs.Ordering.{int_eq}
use Rattle.std.proofs.lemmas.List.{take-map}
use Rattle.std.proofs.lemmas.List.Folds.{flat_map-map}
use Rattle.std.proofs.lemmas.Simd.{map-map}
use Rattle.amr_box.specs.declared.Cell.{Cell}
use Rattle.amr_box.specs.declared.Face.{Face}
use Rattle.amr_box.specs.Cells.{Extent, has_child_where, height, holds, parent, width}
use Rattle.amr_def.specs.Domain.{Domain, domain, home_cell, in_domain}
use Rattle.amr_def.specs.Flux.{high_cell}
use Rattle.amr_def.specs.State.{is_covered}
use Rattle.amr_patch.specs.declared.patches.Patch.{Patch}
use Rattle.amr_patch.specs.Patches.{box, in_patches}
use Rattle.amr_patch.proofs.SameBoxes.{in_same_boxes, same_length}
use Rattle.amr_faces.specs.Faces.{passing, x_end, y_end}
use Rattle.amr_layout.specs.Adds.{cell_beyond, flow_to, flows_of, goes_on, is_ledger_face, number_of, word_of}
use Rattle.amr_layout.specs.declared.level_flows.LevelFlows.{LevelFlows}
use Rattle.amr_layout.specs.Grounds.{SameGround, has_open_side}
use Rattle.amr_layout.specs.LevelFlowLists.{AreFlowsOf, flows_in_first, level_flows}
use Rattle.amr_layout.specs.Places.{are_grouped, border_places, borders_of, holder_of, leads_on, level_borders, places_before, puts_among, puts_of}
use Rattle.amr_layout.specs.Surroundings.{Around, domain_around, edge_count, edge_face, inside, inward, is_coarse_fine, is_open, outside}
use Rattle.amr_layout.proofs.OpenSides.{none_open}

-- ---- patches with the same boxes

-- have the same cells
same_cells : (ps qs : List Patch) → map box ps ≡ map box qs → in_patches ps ≡ in_patches qs
same_cells ps qs e =
    let at : (c : Cell) → in_patches ps c ≡ in_patches qs c = λ c. in_same_boxes ps qs c e in
    λ i c. at c i

-- and the same patch has a cell
holders_by_box : (c : Cell) (ps : List Patch) → position_or_len (λ b. holds b c) (map box ps) ≡ holder_of ps c
holders_by_box c [] = refl
holders_by_box c (p ∷ ps) = ap (λ n. cond (not (holds (box p) c)) (1 + n) 0) (holders_by_box c ps)

same_holders : (ps qs : List Patch) → map box ps ≡ map box qs → holder_of ps ≡ holder_of qs
same_holders ps qs e =
    let in_boxes : (rs : List Patch) (c : Cell) → position_or_len (λ b. holds b c) (map box rs) ≡ holder_of rs c = λ rs c. holders_by_box c rs in
    let at : (c : Cell) → holder_of ps c ≡ holder_of qs c = λ c. sym (in_boxes ps c) ∙ ap (λ (bs : List Extent). position_or_len (λ b. holds b c) bs) e ∙ in_boxes qs c in
    λ i c. at c i

first_boxes : (ps qs : List Patch) → map box ps ≡ map box qs → (k : ℕ) → map box (take k ps) ≡ map box (take k qs)
first_boxes ps qs e k = sym (take-map box k ps) ∙ ap (λ (bs : List Extent). take k bs) e ∙ take-map box k qs

-- and the same list of what is worked out from each box
over_boxes : {A : Type 0} (f g : Extent → A) → f ≡ g → (ps qs : List Patch) → map box ps ≡ map box qs → map (λ q. f (box q)) ps ≡ map (λ q. g (box q)) qs
over_boxes f g same ps qs e = sym (map-map f box ps) ∙ (λ i. map (same i) (e i)) ∙ map-map g box qs

-- ---- border faces and their places

module _ (d e : Domain) (domains : d ≡ e) (ps qs : List Patch) (boxes : map box ps ≡ map box qs) (each : ℕ) where
  leads_same : leads_on d ps each ≡ leads_on e qs each
  unfolding leads_on
  leads_same =
      let in_level = same_cells ps qs boxes in
      let holder = same_holders ps qs boxes in
      λ i k f. in_level i (home_cell (domains i) (high_cell f)) && not (are_grouped each k (holder i (home_cell (domains i) (high_cell f))))

  borders_same : borders_of d ps each ≡ borders_of e qs each
  unfolding borders_of
  borders_same =
      let holder = same_holders ps qs boxes in
      λ i b. passing (leads_same i (holder i b.lo)) (x_end b) (height b) ++ passing (leads_same i (holder i b.lo)) (y_end b) (width b)

  level_same : (rs ts : List Patch) → map box rs ≡ map box ts → level_borders d ps each rs ≡ level_borders e qs each ts
  unfolding level_borders
  level_same rs ts same = sym (flat_map-map (borders_of d ps each) box rs) ∙ (λ i. flat_map (borders_same i) (same i)) ∙ flat_map-map (borders_of e qs each) box ts

  puts_same : puts_of d ps each ≡ puts_of e qs each
  unfolding puts_of
  puts_same = λ i b. puts_among (domains i) b (level_same ps qs boxes i)

  before_same : places_before d ps each ≡ places_before e qs each
  unfolding places_before
  before_same = λ i k. length (level_same (take k ps) (take k qs) (first_boxes ps qs boxes k) i)

  places_same : border_places d ps each ≡ border_places e qs each
  unfolding border_places
  places_same = λ i k. range_with_len (before_same i k) (before_same i (suc k) - before_same i k)

-- ---- flows to words

module _ (s t : Around) (g : SameGround s t) where
  domains : domain_around s ≡ domain_around t
  domains = λ i. domain (g.problem i) (g.level i)

  covered : has_open_side s.problem ≡ true → is_covered s.finer ≡ is_covered t.finer
  unfolding is_covered
  covered open_side =
      let has : (λ (k : Cell). is_some (s.finer k)) ≡ (λ (k : Cell). is_some (t.finer k)) = λ i k. g.finer open_side k i in
      ap has_child_where has

  open_same : is_open s ≡ is_open t
  unfolding is_open
  open_same = λ i b f. not (in_domain (domains i) (home_cell (domains i) (outside b f)))

  coarse_fine_same : is_coarse_fine s ≡ is_coarse_fine t
  unfolding is_coarse_fine
  coarse_fine_same =
      let in_level = same_cells s.whole t.whole g.whole in
      λ i b f. in_domain (domains i) (home_cell (domains i) (outside b f)) && not (in_level i (home_cell (domains i) (outside b f)))

  ledger_open : has_open_side s.problem ≡ true → is_ledger_face s ≡ is_ledger_face t
  unfolding is_ledger_face
  ledger_open open_side = λ i b f. open_same i b f && not (covered open_side i (inside b f))

  ledger_closed : has_open_side s.problem ≡ false → is_ledger_face s ≡ is_ledger_face t
  unfolding is_ledger_face
  ledger_closed closed =
      let at : (b : Extent) (f : Face) → (is_open s b f && not (is_covered s.finer (inside b f))) ≡ (is_open t b f && not (is_covered t.finer (inside b f))) =
      λ b f. ap (λ u. u && not (is_covered s.finer (inside b f))) (none_open s closed b f) ∙ sym (ap (λ u. u && not (is_covered t.finer (inside b f))) (sym (λ i. open_same i b f) ∙ none_open s closed b f)) in
      λ i b f. at b f i

  ledger_same : is_ledger_face s ≡ is_ledger_face t
  ledger_same = by_sides (has_open_side s.problem) refl
    where
      by_sides : (u : Bool) → has_open_side s.problem ≡ u → is_ledger_face s ≡ is_ledger_face t
      by_sides true e = ledger_open e
      by_sides false e = ledger_closed e

  beyond_same : cell_beyond s ≡ cell_beyond t
  unfolding cell_beyond
  beyond_same = λ i b f. parent (home_cell (domains i) (outside b f))

  goes_same : goes_on s ≡ goes_on t
  unfolding goes_on
  goes_same = λ i b f. (ledger_same i b f || coarse_fine_same i b f) && not (int_eq (inward (g.problem i) (g.level i) b f) (pos 0))

  word_same : word_of s ≡ word_of t
  unfolding word_of
  word_same =
      λ i b f. cond (open_same i b f) (cond (int_lt (pos 0) (inward (g.problem i) (g.level i) b f)) 0 1)
      (cond (int_lt (inward (g.problem i) (g.level i) b f) (pos 0)) (2 + 2 * number_of (g.cells i) (beyond_same i b f)) (3 + 2 * number_of (g.cells i) (beyond_same i b f)))

  flows_same : flows_of s ≡ flows_of t
  unfolding flows_of
  flows_same = λ i b. map (λ f. flow_to (word_same i b f) f) (passing (goes_same i b) (edge_face b) (edge_count b))

  -- ---- the laws

  pub same_borders : (each : ℕ) → level_borders (domain_around s) s.patches each s.patches ≡ level_borders (domain_around t) t.patches each t.patches
  same_borders each = level_same (domain_around s) (domain_around t) domains s.patches t.patches g.boxes each s.patches t.patches g.boxes

  pub same_border_faces : (each : ℕ) → borders_of (domain_around s) s.patches each ≡ borders_of (domain_around t) t.patches each
  same_border_faces each = borders_same (domain_around s) (domain_around t) domains s.patches t.patches g.boxes each

  pub same_puts : (each : ℕ) (b : Extent) → puts_of (domain_around s) s.patches each b ≡ puts_of (domain_around t) t.patches each b
  same_puts each b = λ i. puts_same (domain_around s) (domain_around t) domains s.patches t.patches g.boxes each i b

  pub same_flows : (b : Extent) → flows_of s b ≡ flows_of t b
  same_flows b = λ i. flows_same i b

  pub all_puts : (each : ℕ) → map (λ q. puts_of (domain_around s) s.patches each (box q)) s.patches ≡ map (λ q. puts_of (domain_around t) t.patches each (box q)) t.patches
  all_puts each =
      over_boxes (puts_of (domain_around s) s.patches each) (puts_of (domain_around t) t.patches each) (puts_same (domain_around s) (domain_around t) domains s.patches t.patches g.boxes each) s.patches t.patches g.boxes

  pub all_border_places : (each : ℕ) → map (border_places (domain_around s) s.patches each) (range_with_len 0 (length s.patches)) ≡ map (border_places (domain_around t) t.patches each) (range_with_len 0 (length t.patches))
  all_border_places each =
      let places = places_same (domain_around s) (domain_around t) domains s.patches t.patches g.boxes each in
      let count = same_length s.patches t.patches g.boxes in
      λ i. map (places i) (range_with_len 0 (count i))

  pub all_flows : map (λ q. flows_of s (box q)) s.patches ≡ map (λ q. flows_of t (box q)) t.patches
  all_flows = over_boxes (flows_of s) (flows_of t) flows_same s.patches t.patches g.boxes

  level_flows_same : (rs ts : List Patch) → map box rs ≡ map box ts → level_flows s rs ≡ level_flows t ts
  unfolding level_flows
  level_flows_same rs ts same = sym (flat_map-map (flows_of s) box rs) ∙ (λ i. flat_map (flows_same i) (same i)) ∙ flat_map-map (flows_of t) box ts

  in_first_same : flows_in_first s s.patches ≡ flows_in_first t t.patches
  in_first_same = λ i k. length (level_flows_same (take k s.patches) (take k t.patches) (first_boxes s.patches t.patches g.boxes k) i)

  pub same_level_flows : (v : LevelFlows) → AreFlowsOf s v → AreFlowsOf t v
  same_level_flows v h =
      let count = same_length s.patches t.patches g.boxes in
      record {
        flows = h.flows ∙ level_flows_same s.patches t.patches g.boxes;
        bounds = h.bounds ∙ (λ i. map (in_first_same i) (range_with_len 0 (count i + 1)));
      }
