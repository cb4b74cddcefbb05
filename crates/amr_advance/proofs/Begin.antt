-- The pieces of a level's step: their posts are a plan, with the level's totals, and each piece may begin.
use Rattle.std.proofs.Common.{◌≡◌, ◌∙◌, ℕ, ◌+◌, ◌*◌, ◌<◌, ◌≤◌, ◌⊎◌, inl, inr, List, [], ◌∷◌, ◌++◌, length, get_or, map, refl, sym, ap, subst, arith, zero, suc, Bool, true, false}
use Rattle.std.specs.Prelude.{slice_index, unsigned_abs, ◌==◌, if◌then◌else◌}
use Rattle.std.specs.declared.option.Option.{Option}
use Rattle.std.specs.Global.{Box}
use Rattle.std.specs.List.{flat_map, AllZip, range_with_len}
use Rattle.std.proofs.lemmas.Bool.{cases_lt, cases_eq}
use Rattle.std.proofs.lemmas.List.{get_or-map, get_or_past, length-map}
use Rattle.std.proofs.lemmas.List.FromFn.{get_or-map-range_with_len, length-map-range_with_len}
use Rattle.std.proofs.lemmas.List.Folds.{flat_map-map}
use Rattle.std.proofs.lemmas.Bool.Decides.{Decides-eqb}
use Rattle.amr_box.specs.declared.Face.{Face}
use Rattle.amr_def.specs.State.{Masses}
use Rattle.amr_def.specs.Flux.{Fluxes, flux_at}
use Rattle.amr_patch.specs.declared.levels.Level.{Level as Held}
use Rattle.amr_patch.specs.declared.patches.Patch.{Patch}
use Rattle.amr_patch.specs.Patches.{box, masses_in}
use Rattle.amr_flows.specs.Laws.{plain_size}
use Rattle.amr_flows.specs.Words.{level_total}
use Rattle.amr_ghost.specs.Frames.{old_masses}
use Rattle.amr_ghost.specs.declared.parts.FrameParts.{FrameParts}
use Rattle.amr_layout.specs.declared.FlowTo.{FlowTo}
use Rattle.amr_layout.specs.declared.PatchLayout.{PatchLayout}
use Rattle.amr_layout.specs.declared.PutAt.{PutAt}
use Rattle.amr_layout.specs.Adds.{flows_of, word_total, size_to}
use Rattle.amr_layout.specs.Arounds.{all_borders, all_puts}
use Rattle.amr_layout.specs.Surroundings.{Around}
use Rattle.amr_layout.proofs.Planned.{nth}
use Rattle.amr_lots.specs.declared.lot.StepBasis.{StepBasis}
use Rattle.amr_lots.specs.declared.lot.Duty.TheVariants.{Step}
use Rattle.amr_lots.specs.declared.lot.Lot.{Lot}
use Rattle.amr_lots.specs.declared.lot.Work.{Work}
use Rattle.amr_layout.specs.LevelFlowLists.{flow_lists}
use Rattle.amr_layout.specs.PartFlows.{AreNumbered, IsNumbered}
use Rattle.amr_lots.specs.Runs.{run}
use Rattle.amr_lots.specs.Works.{adds_by, adds_in, adds_of_work, flows_in, flows_to, flux, fluxes_of, patches_of, put_by, puts_by, puts_in, puts_of_work, size}
use Rattle.amr_lots.proofs.Runs.{map_run}
use Rattle.amr_phase.specs.declared.plan.Post.{Post}
use Rattle.amr_phase.specs.declared.plan.Task.{Task}
use Rattle.amr_phase.specs.Plans.{IsPlan, PlanOf, added, adds_of, no_post, no_task, planned_total, total}
use Rattle.amr_advance.specs.declared.lots.Lots.{Lots}
use Rattle.amr_advance.specs.Cuts.{IsWorkspaceOf}
use Rattle.amr_advance.specs.Lots.{AreSeveralLots}
use Rattle.amr_advance.specs.Phases.{ArePieces, IsBasisOf, IsPiece, planned}
use Rattle.amr_advance.proofs.InLots.{IsInStep}
use Rattle.amr_advance.proofs.LotsHanded.{AreDelivered}
use Rattle.amr_advance.proofs.Merged.{IsMerged, merged_plan, merged_total}

-- What a lot adds to words: an add for each place in its list of words, of what its flows to that place add up to. To each word of the level
-- that is what its patches' own flows to the word add up to.

module _ (words : List ℕ) (word : ℕ) where
  -- what amounts, one for each of so many places from one on, add to the word
  abbrev amounts : (ℕ → ℕ) → ℕ → ℕ → ℕ
  amounts f s n = total (added word) (map (λ k. record { at = slice_index words k; amount = f k }) (range_with_len s n))

  abbrev at_place : (ℕ → ℕ) → ℕ → ℕ
  at_place f k = if slice_index words k == word then f k else 0

  -- nothing, whatever is asked
  abbrev none_either : Bool → ℕ
  none_either t = if t then 0 else 0

  is_none : (t : Bool) → none_either t ≡ 0
  is_none true = refl
  is_none false = refl

  none_added : (s n : ℕ) → amounts (λ k. 0) s n ≡ 0
  none_added s zero = refl
  none_added s (suc n) = let rest = none_added (s + 1) n in let here : at_place (λ k. 0) s ≡ 0 = is_none (slice_index words s == word) in let r : at_place (λ k. 0) s + amounts (λ k. 0) (s + 1) n ≡ 0 = omega (arith, rest, here) in r

  both_added : (f g : ℕ → ℕ) (s n : ℕ) → amounts (λ k. f k + g k) s n ≡ amounts f s n + amounts g s n
  both_added f g s zero = refl
  both_added f g s (suc n) =
      let rest = both_added f g (s + 1) n in
      let here : at_place (λ k. f k + g k) s ≡ at_place f s + at_place g s = from (slice_index words s == word) in
      let r : at_place (λ k. f k + g k) s + amounts (λ k. f k + g k) (s + 1) n ≡ (at_place f s + amounts f (s + 1) n) + (at_place g s + amounts g (s + 1) n) = omega (arith, rest, here) in r
    where
      from : (t : Bool) → (if t then f s + g s else 0) ≡ (if t then f s else 0) + (if t then g s else 0)
      from true = refl
      from false = refl

  -- one amount, at one place
  abbrev one_at : ℕ → ℕ → ℕ → ℕ
  one_at w v k = if w == k then v else 0

  is_not : (w k : ℕ) → (w ≡ k → ⊥) → (w == k) ≡ false
  is_not w k h = by_case (w == k) refl
    where
      by_case : (b : Bool) → (w == k) ≡ b → (w == k) ≡ false
      by_case false e = e
      by_case true e = absurd (h ((Decides-eqb w k).0 e))

  nothing_there : (w v s : ℕ) → (w ≡ s → ⊥) → at_place (one_at w v) s ≡ 0
  nothing_there w v s other = (λ i. if slice_index words s == word then (if is_not w s other i then v else 0) else 0) ∙ is_none (slice_index words s == word)

  not_yet : (w v s n : ℕ) → w < s → amounts (one_at w v) s n ≡ 0
  not_yet w v s zero lt = refl
  not_yet w v s (suc n) lt =
      let rest = not_yet w v (s + 1) n (omega (arith, lt)) in
      let here : at_place (one_at w v) s ≡ 0 = nothing_there w v s (λ e. omega (arith, lt, e)) in
      let r : at_place (one_at w v) s + amounts (one_at w v) (s + 1) n ≡ 0 = omega (arith, rest, here) in r

  abbrev at_word : ℕ → ℕ → ℕ
  at_word w v = if slice_index words w == word then v else 0

  there_alone : (w v s n : ℕ) → w ≡ s → amounts (one_at w v) s (suc n) ≡ at_word w v
  there_alone w v s n same =
      let rest = not_yet w v (s + 1) n (omega (arith, same)) in
      let is : (w == s) ≡ true = (Decides-eqb w s).1 same in
      let here : at_place (one_at w v) s ≡ at_word w v = (λ i. if slice_index words (sym same i) == word then (if is i then v else 0) else 0) in
      let r : at_place (one_at w v) s + amounts (one_at w v) (s + 1) n ≡ at_word w v = omega (arith, rest, here) in r

  one_added : (w v s n : ℕ) → s ≤ w → w < s + n → amounts (one_at w v) s n ≡ at_word w v
  one_added w v s zero le lt = absurd (omega (arith, le, lt))
  one_added w v s (suc n) le lt = by_place (cases_eq w s) (λ other. one_added w v (s + 1) n (omega (arith, le, other)) (omega (arith, lt)))
    where
      by_place : ((w ≡ s) ⊎ (w ≡ s → ⊥)) → ((w ≡ s → ⊥) → amounts (one_at w v) (s + 1) n ≡ at_word w v) → amounts (one_at w v) s (suc n) ≡ at_word w v
      by_place (inl same) after = there_alone w v s n same
      by_place (inr other) after =
          let rest = after other in
          let here = nothing_there w v s other in
          let r : at_place (one_at w v) s + amounts (one_at w v) (s + 1) n ≡ at_word w v = omega (arith, rest, here) in r

  -- ---- flows

  module _ (e : Face → ℕ) where
    -- one list
    list_added : (xs ys : List FlowTo) → AllZip (IsNumbered words) xs ys → amounts (λ k. word_total e k ys) 0 (length words) ≡ word_total e word xs
    list_added [] [] h = none_added 0 (length words)
    list_added [] (y ∷ ys) h = absurd h
    list_added (x ∷ xs) [] h = absurd h
    list_added (x ∷ xs) (y ∷ ys) h =
        let first = one_added y.word (e y.face) 0 (length words) (omega arith) (let r = h.0.there in omega (arith, r)) in
        let is : (if slice_index words y.word == word then e y.face else 0) ≡ size_to e word x = (λ i. if h.0.word i == word then e (h.0.face i) else 0) in
        let rest = list_added xs ys h.1 in
        both_added (λ k. size_to e k y) (λ k. word_total e k ys) 0 (length words) ∙ (λ i. (first ∙ is) i + rest i)

    -- a list for each patch
    pub lists_added : (xss yss : List (List FlowTo)) → AreNumbered words xss yss → total (added word) (adds_by e words yss) ≡ total (word_total e word) xss
    lists_added [] [] h = none_added 0 (length words)
    lists_added [] (ys ∷ yss) h = absurd h
    lists_added (xs ∷ xss) [] h = absurd h
    lists_added (xs ∷ xss) (ys ∷ yss) h =
        let first = list_added xs ys h.0 in
        let rest = lists_added xss yss h.1 in
        both_added (λ k. word_total e k ys) (λ k. flows_to e yss k) 0 (length words) ∙ (λ i. first i + rest i)

-- ---- lists

total_map : {A B : Type 0} (f : B → ℕ) (g : A → B) (xs : List A) → total f (map g xs) ≡ total (λ x. f (g x)) xs
total_map f g [] = refl
total_map f g (x ∷ xs) = ap (λ n. f (g x) + n) (total_map f g xs)

map_joined : {A B : Type 0} (f : A → B) (xs ys : List A) → map f (xs ++ ys) ≡ map f xs ++ map f ys
map_joined f [] ys = refl
map_joined f (x ∷ xs) ys = ap (λ zs. f x ∷ zs) (map_joined f xs ys)

map_flat : {A B C : Type 0} (f : B → C) (g : A → List B) (xs : List A) → map f (flat_map g xs) ≡ flat_map (λ x. map f (g x)) xs
map_flat f g [] = refl
map_flat f g (x ∷ xs) = map_joined f (g x) (flat_map g xs) ∙ ap (λ zs. map f (g x) ++ zs) (map_flat f g xs)

-- an add for each place in the list of words
abbrev add_for : (Face → ℕ) → List ℕ → List (List FlowTo) → ℕ → Post
add_for e words xss k = record { at = slice_index words k; amount = flows_to e xss k }

add_count : (e : Face → ℕ) (words : List ℕ) (xss : List (List FlowTo)) (j : ℕ) → j < length (adds_by e words xss) → j < length words
add_count e words xss j lt = omega (arith, lt, length-map-range_with_len (add_for e words xss) 0 (length words))

add_at : (e : Face → ℕ) (words : List ℕ) (xss : List (List FlowTo)) (j : ℕ) → j < length words → (get_or (adds_by e words xss) j no_post).at ≡ slice_index words j
add_at e words xss j lt = ap (λ (x : Post). x.at) (get_or-map-range_with_len (add_for e words xss) 0 (length words) j j no_post lt (omega arith))

-- ---- the plan of the patches' own posts

-- a plan with a task for each patch of a level, where groups of so many are apart: its puts by these sizes, and what it adds to each word
pub record IsFinePlan (s : Around) (each : ℕ) (e : Face → ℕ) (fine : PlanOf) : Type 0 where
  pub places : fine.places ≡ length (all_borders s each)
  pub words : fine.words ≡ 2 + 2 * length s.cells
  pub puts : map (λ (t : Task). t.puts) fine.tasks ≡ map (map (put_by e)) (all_puts s each)
  pub adds : (word : ℕ) → map (λ (t : Task). total (added word) t.adds) fine.tasks ≡ map (λ (q : Patch). word_total e word (flows_of s (box q))) s.patches
  pub is_plan : IsPlan fine

module _ {s : Around} {old : Masses} {t : Lots} (level : IsInStep s old t) (several : AreSeveralLots s level.lots.parts t) where
  abbrev e : Fluxes
  e = flux_at s.problem s.level (masses_in s.whole) old

  abbrev sizes : Face → ℕ
  sizes = plain_size s.problem s.level (masses_in s.whole) old

  abbrev runs : ℕ
  runs = length t.lots.items

  abbrev parts : FrameParts
  parts = level.lots.parts

  module _ {lent xs : List (Box Lot)} (d : AreDelivered level lent xs) (b : StepBasis) (coarse : Option Held) (of_b : IsBasisOf s.problem s.whole coarse b) (coarser : old_masses coarse ≡ old) (ws : List Work) (raw : ArePieces b s.level Step xs ws) where
    piece_count : length ws ≡ runs
    piece_count = raw.count ∙ d.all.lots.count

    module _ (k : ℕ) (w0 : Work) (lt : k < length t.lots.items) where
      abbrev w : Work
      w = get_or ws k w0

      x_there : k < length xs
      x_there = omega (arith, lt, d.all.lots.count)

      abbrev x : Box Lot
      x = get_or xs k w0.lot

      pub one : IsPiece b s.level Step k x w
      one = raw.each k w0.lot w0 x_there

      lot_is : w.lot ≡ x
      lot_is = one.of_lot

      of : IsWorkspaceOf s t.each k runs parts x.value.workspace
      of = d.all.lots.of k w0.lot lt

      patches_are : patches_of w ≡ run t.each k s.patches
      patches_are = ap (λ (z : Box Lot). z.value.patches.items) lot_is ∙ d.all.patches k w0.lot lt

      -- what flows is what flows in the level
      pub flux_is : flux w ≡ e
      flux_is = (λ i. fluxes_of (one.of_basis i) (one.of_level i)) ∙ (λ i. flux_at (of_b.problem i) s.level (masses_in (of_b.patches i)) ((of_b.coarser ∙ coarser) i))

      pub size_is : size w ≡ sizes
      size_is = λ i f. unsigned_abs (flux_is i f)

      flows_are : flows_in w ≡ flow_lists x.value.workspace.flows (length (run t.each k s.patches))
      flows_are = (λ i. flow_lists (lot_is i).value.workspace.flows (length (patches_are i)))

      -- ---- its posts

      puts_are : puts_of_work w ≡ flat_map (map (put_by sizes)) (run t.each k (all_puts s t.each))
      puts_are =
          (λ i. puts_in (one.of_duty i) w)
          ∙ (λ i. puts_by (size_is i) (lot_is i).value.workspace.layouts.items)
          ∙ ap (map (put_by sizes)) (sym (flat_map-map (λ (y : List PutAt). y) (λ (t : PatchLayout). t.puts.items) x.value.workspace.layouts.items) ∙ ap (flat_map (λ (y : List PutAt). y)) of.layouts.puts)
          ∙ map_flat (put_by sizes) (λ (y : List PutAt). y) (run t.each k (all_puts s t.each))

      adds_are : adds_of_work w ≡ adds_by sizes x.value.workspace.words.items (flow_lists x.value.workspace.flows (length (run t.each k s.patches)))
      adds_are = (λ i. adds_in (one.of_duty i) w) ∙ (λ i. adds_by (size_is i) (lot_is i).value.workspace.words.items (flows_are i))

      -- what it adds to a word is what its patches' own flows add up to
      pub adds_to_word : (word : ℕ) → total (added word) (adds_of_work w) ≡ total (λ (q : Patch). word_total sizes word (flows_of s (box q))) (run t.each k s.patches)
      adds_to_word word =
          ap (total (added word)) adds_are
          ∙ lists_added x.value.workspace.words.items word sizes (map (λ (q : Patch). flows_of s (box q)) (run t.each k s.patches)) (flow_lists x.value.workspace.flows (length (run t.each k s.patches))) of.words.numbered
          ∙ total_map (word_total sizes word) (λ (q : Patch). flows_of s (box q)) (run t.each k s.patches)

    -- ---- the plan of all

    abbrev plan : PlanOf
    plan = planned t.shape ws

    abbrev task_of : Work → Task
    task_of w = record { puts = puts_of_work w; adds = adds_of_work w }

    task_count : length plan.tasks ≡ runs
    task_count = length-map ws task_of ∙ piece_count

    at_task : (k : ℕ) → k < length plan.tasks → (w0 : Work) → get_or plan.tasks k no_task ≡ task_of (get_or ws k w0)
    at_task k lt w0 = get_or-map task_of ws k w0 no_task (omega (arith, lt, length-map ws task_of))

    a_piece : (k : ℕ) → k < length plan.tasks → Work
    a_piece k lt = nth ws k (omega (arith, lt, length-map ws task_of))

    module _ (fine : PlanOf) (is : IsFinePlan s t.each sizes fine) where
      fine_count : length fine.tasks ≡ length s.patches
      fine_count = sym (length-map fine.tasks (λ (t : Task). total (added 0) t.adds)) ∙ ap length (is.adds 0) ∙ length-map s.patches (λ (q : Patch). word_total sizes 0 (flows_of s (box q)))

      pub merged : IsMerged t.each fine plan
      merged = record {
        places = several.places ∙ sym is.places;
        words = several.words ∙ sym is.words;
        enough = omega (arith, fine_count, task_count, level.lots.enough, ap (λ n. n * t.each) task_count);
        puts = λ k lt.
            let w0 = a_piece k lt in
            let below : k < runs = omega (arith, lt, task_count) in
            ap (λ (x : Task). x.puts) (at_task k lt w0) ∙ puts_are k w0 below
            ∙ sym (flat_map-map (λ (y : List Post). y) (map (put_by sizes)) (run t.each k (all_puts s t.each)))
            ∙ ap (flat_map (λ (y : List Post). y)) (map_run (map (put_by sizes)) t.each k (all_puts s t.each) ∙ ap (run t.each k) (sym is.puts) ∙ sym (map_run (λ (x : Task). x.puts) t.each k fine.tasks))
            ∙ flat_map-map (λ (y : List Post). y) (λ (x : Task). x.puts) (run t.each k fine.tasks);
        range = λ k j below. adds_range k (cases_lt k (length plan.tasks)) j below;
        adds = λ k word lt.
            let w0 = a_piece k lt in
            let below : k < runs = omega (arith, lt, task_count) in
            ap (λ (x : Task). total (added word) x.adds) (at_task k lt w0) ∙ adds_to_word k w0 below word
            ∙ sym (total_map (λ (n : ℕ). n) (λ (q : Patch). word_total sizes word (flows_of s (box q))) (run t.each k s.patches))
            ∙ ap (total (λ (n : ℕ). n)) (map_run (λ (q : Patch). word_total sizes word (flows_of s (box q))) t.each k s.patches ∙ ap (run t.each k) (sym (is.adds word)) ∙ sym (map_run (λ (x : Task). total (added word) x.adds) t.each k fine.tasks))
            ∙ total_map (λ (n : ℕ). n) (λ (x : Task). total (added word) x.adds) (run t.each k fine.tasks);
      }
        where
          adds_range : (k : ℕ) → ((k < length plan.tasks) ⊎ (length plan.tasks ≤ k)) → (j : ℕ) → j < length (adds_of plan k) → (get_or (adds_of plan k) j no_post).at < t.shape.words
          adds_range k (inr le) j below = absurd (let none : length (adds_of plan k) ≡ 0 = ap (λ (x : Task). length x.adds) (get_or_past plan.tasks k no_task le) in omega (arith, none, below))
          adds_range k (inl lt) j below =
              let w0 = a_piece k lt in
              let there : k < runs = omega (arith, lt, task_count) in
              let words = (get_or xs k w0.lot).value.workspace.words.items in
              let adds : adds_of plan k ≡ adds_by sizes words (flow_lists (get_or xs k w0.lot).value.workspace.flows (length (run t.each k s.patches))) = ap (λ (x : Task). x.adds) (at_task k lt w0) ∙ adds_are k w0 there in
              let inside : j < length words = add_count sizes words (flow_lists (get_or xs k w0.lot).value.workspace.flows (length (run t.each k s.patches))) j (subst (λ zs. j < length zs) adds below) in
              let at : (get_or (adds_of plan k) j no_post).at ≡ slice_index words j = ap (λ zs. (get_or zs j no_post).at) adds ∙ add_at sizes words (flow_lists (get_or xs k w0.lot).value.workspace.flows (length (run t.each k s.patches))) j inside in
              let small = (of k w0 there).words.within j 0 inside in
              omega (arith, at, small, several.words)

      pub is_plan : IsPlan plan
      is_plan = merged_plan merged is.is_plan

      pub plan_total : (word : ℕ) → planned_total plan word ≡ level_total s sizes word
      plan_total word = merged_total merged word ∙ sym (total_map (λ (n : ℕ). n) (λ (x : Task). total (added word) x.adds) fine.tasks) ∙ ap (total (λ (n : ℕ). n)) (is.adds word) ∙ total_map (λ (n : ℕ). n) (λ (q : Patch). word_total sizes word (flows_of s (box q))) s.patches
