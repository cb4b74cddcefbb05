-- Each piece of a level's step may begin.
use Rattle.std.proofs.Common.{◌≡◌, ◌∙◌, ℕ, ◌+◌, ◌*◌, ◌^◌, ◌<◌, List, [], ◌∷◌, length, get_or, map, Some, IsTrue, refl, sym, ap, subst, arith, ◌≤◌, Bool, true, false}
use Rattle.std.specs.Prelude.{slice_index, unsigned_abs, ◌==◌, if◌then◌else◌}
use Rattle.std.specs.declared.option.Option.{Option}
use Rattle.std.specs.Global.{Box}
use Rattle.std.specs.List.{All, AllZip}
use Rattle.std.proofs.lemmas.List.{get_or-map, length-map}
use Rattle.std.proofs.lemmas.List.FromFn.{get_or-map-range_with_len, length-map-range_with_len}
use Rattle.std.proofs.lemmas.Bool.Decides.{Decides-eqb}
use Rattle.std.proofs.lemmas.List.Elements.{AllZip-get_or, length_all_zip}
use Rattle.amr_box.specs.declared.Cell.{Cell}
use Rattle.amr_box.specs.declared.Face.{Face}
use Rattle.amr_box.specs.Cells.{holds}
use Rattle.amr_def.specs.declared.problem.Problem.{Problem}
use Rattle.amr_def.specs.Domain.{domain}
use Rattle.amr_def.specs.State.{Masses}
use Rattle.amr_def.specs.Flux.{Fluxes, flux_at}
use Rattle.amr_patch.specs.declared.levels.Level.{Level as Held}
use Rattle.amr_patch.specs.declared.patches.Patch.{Patch}
use Rattle.amr_patch.specs.Patches.{box, mass_in, masses_in}
use Rattle.amr_patch.specs.Places.{is_edge_face}
use Rattle.amr_faces.specs.Faces.{IsInDomain, ShowsValues, masked_faces}
use Rattle.amr_flows.specs.Laws.{plain_size}
use Rattle.amr_flux.specs.declared.fluxes.PatchSides.{PatchSides}
use Rattle.amr_ghost.specs.Frames.{old_masses}
use Rattle.amr_ghost.specs.declared.outer.OuterGhosts.{OuterGhosts}
use Rattle.amr_ghost.specs.declared.parts.FrameParts.{FrameParts}
use Rattle.amr_layout.specs.declared.FlowTo.{FlowTo}
use Rattle.amr_layout.specs.declared.PatchLayout.{PatchLayout}
use Rattle.amr_layout.specs.declared.PutAt.{PutAt}
use Rattle.amr_layout.specs.Adds.{flows_of, word_total, size_to}
use Rattle.amr_layout.specs.LevelFlowLists.{flow_lists, flows_at}
use Rattle.amr_layout.specs.Arounds.{all_places_read, all_puts}
use Rattle.amr_layout.specs.Places.{HasMask}
use Rattle.amr_layout.specs.Surroundings.{Around, domain_around}
use Rattle.amr_layout.specs.PartFlows.{AreNumbered, IsNumbered}
use Rattle.amr_register.specs.EdgeCells.{AreEdgesIn, lists_of}
use Rattle.amr_lots.specs.declared.lot.StepBasis.{StepBasis}
use Rattle.amr_lots.specs.declared.lot.Duty.{Duty}
use Rattle.amr_lots.specs.declared.lot.Duty.TheVariants.{Step}
use Rattle.amr_lots.specs.declared.lot.Lot.{Lot}
use Rattle.amr_lots.specs.declared.lot.Work.{Work}
use Rattle.amr_lots.specs.declared.lot.Workspace.{Workspace}
use Rattle.amr_lots.specs.FrameValues.{AreFilled, CanFill, HasFoundOuter, HasValuesOrLevel}
use Rattle.amr_lots.specs.Lots.{AreEdgeFlows, LevelStepFits}
use Rattle.amr_lots.specs.Ready.{ArePutsOn, HasEdges, MayBegin, MayBeginIn, MayStepBeside, ReadsBorder, ServesLot}
use Rattle.amr_lots.specs.Runs.{run}
use Rattle.amr_lots.specs.Duties.{MaySend}
use Rattle.amr_lots.specs.Works.{coarser_of, flows_in, flows_to, flux, layouts_of, masses_of, patches_of, size}
use Rattle.amr_lots.proofs.Runs.{run_at, run_place}
use Rattle.amr_register.proofs.EdgeLists.{zip_at}
use Rattle.amr_phase.specs.Plans.{PlanOf, planned_face, total}
use Rattle.amr_advance.specs.declared.lots.Lots.{Lots}
use Rattle.amr_advance.specs.Cuts.{IsWorkspaceOf}
use Rattle.amr_advance.specs.Lots.{AreSeveralLots}
use Rattle.amr_advance.specs.Phases.{ArePieces, IsBasisOf, IsPiece, MayBeRun, planned}
use Rattle.amr_advance.proofs.Begin.{IsFinePlan, flux_is, is_plan, merged, one, size_is}
use Rattle.amr_advance.proofs.Delivered.{all_may_send, can_fill, has_lists}
use Rattle.amr_advance.proofs.InDomain.{all_lie}
use Rattle.amr_advance.proofs.InLots.{IsInStep, adds, all_owned, all_show, own_inside, run_flows, run_small}
use Rattle.amr_advance.proofs.LotsHanded.{AreDelivered, HaveLists}
use Rattle.amr_advance.proofs.Merged.{merged_face}
use Rattle.amr_advance.proofs.RunLists.{same_run}
use Rattle.amr_layout.proofs.Among.{mass_among}

-- Flows to words of a level, and the same flows to places in a lot's list of words.

-- what flows to a place in a list of words is no more than what flows to the word there
module _ (e : Face → ℕ) (words : List ℕ) (k : ℕ) where
  flow_most : (x y : FlowTo) → IsNumbered words x y → size_to e k y ≤ size_to e (slice_index words k) x
  flow_most x y h = by_case (y.word == k) refl
    where
      by_case : (b : Bool) → (y.word == k) ≡ b → size_to e k y ≤ size_to e (slice_index words k) x
      by_case false differs = let none : size_to e k y ≡ 0 = (λ i. if differs i then e y.face else 0) in omega (arith, none)
      by_case true same_place =
          let same : x.word ≡ slice_index words k = sym h.word ∙ ap (slice_index words) ((Decides-eqb y.word k).0 same_place) in
          let here : (x.word == slice_index words k) ≡ true = (Decides-eqb x.word (slice_index words k)).1 same in
          let low : size_to e k y ≡ e y.face = (λ i. if same_place i then e y.face else 0) in
          let high : size_to e (slice_index words k) x ≡ e x.face = (λ i. if here i then e x.face else 0) in
          omega (arith, low, high, ap e h.face)

  list_most : (xs ys : List FlowTo) → AllZip (IsNumbered words) xs ys → word_total e k ys ≤ word_total e (slice_index words k) xs
  list_most [] [] h = omega arith
  list_most [] (y ∷ ys) h = absurd h
  list_most (x ∷ xs) [] h = absurd h
  list_most (x ∷ xs) (y ∷ ys) h =
      let rest = list_most xs ys h.1 in
      let r : size_to e k y + word_total e k ys ≤ size_to e (slice_index words k) x + word_total e (slice_index words k) xs = omega (arith, flow_most x y h.0, rest) in r

  pub lists_most : (xss yss : List (List FlowTo)) → AreNumbered words xss yss → flows_to e yss k ≤ total (word_total e (slice_index words k)) xss
  lists_most [] [] h = omega arith
  lists_most [] (ys ∷ yss) h = absurd h
  lists_most (xs ∷ xss) [] h = absurd h
  lists_most (xs ∷ xss) (ys ∷ yss) h =
      let rest = lists_most xss yss h.1 in
      let r : word_total e k ys + flows_to e yss k ≤ word_total e (slice_index words k) xs + total (word_total e (slice_index words k)) xss = omega (arith, list_most xs ys h.0, rest) in r

-- its words are in range
below : (words : List ℕ) (xs ys : List FlowTo) → AllZip (IsNumbered words) xs ys → All (λ (y : FlowTo). y.word < length words) ys
below words xs ys h k y lt = (AllZip-get_or (IsNumbered words) xs ys k y y h (let e = length_all_zip (IsNumbered words) xs ys h in omega (arith, lt, e))).there

pub numbered_words : (words : List ℕ) (originals locals : List (List FlowTo)) → AreNumbered words originals locals → All (All (λ (y : FlowTo). y.word < length words)) locals
numbered_words words originals locals h k ys lt =
    let e = length_all_zip (AllZip (IsNumbered words)) originals locals h in
    below words (get_or originals k ys) (get_or locals k ys) (AllZip-get_or (AllZip (IsNumbered words)) originals locals k ys ys h (omega (arith, lt, e)))

-- patches own the same faces
own : (words : List ℕ) (q : Patch) (xs ys : List FlowTo) → AllZip (IsNumbered words) xs ys → AreEdgeFlows q xs → AreEdgeFlows q ys
own words q xs ys h owned k y lt =
    let e = length_all_zip (IsNumbered words) xs ys h in
    let there : k < length xs = omega (arith, lt, e) in
    subst (λ (f : Face). IsTrue (is_edge_face (box q) f)) (sym (AllZip-get_or (IsNumbered words) xs ys k y y h there).face) (owned k y there)

pub numbered_own : (words : List ℕ) (qs : List Patch) (originals locals : List (List FlowTo)) → AreNumbered words originals locals → AllZip AreEdgeFlows qs originals → AllZip AreEdgeFlows qs locals
numbered_own words [] [] [] h owned = tt
numbered_own words [] [] (ys ∷ yss) h owned = absurd h
numbered_own words [] (xs ∷ xss) locals h owned = absurd owned
numbered_own words (q ∷ qs) [] locals h owned = absurd owned
numbered_own words (q ∷ qs) (xs ∷ xss) [] h owned = absurd h
numbered_own words (q ∷ qs) (xs ∷ xss) (ys ∷ yss) h owned = (own words q xs ys h.0 owned.0, numbered_own words qs xss yss h.1 owned.1)

-- what the layouts of a level give to its pieces: each puts what flows through faces on the edges of its box, and where it reads a
-- place, there is planned what flows through the face that it reads
pub record ArePlanned (s : Around) (each : ℕ) (flow : Fluxes) (fine : PlanOf) : Type 0 where
  pub put_count : length (all_puts s each) ≡ length s.patches
  pub read_count : length (all_places_read s each) ≡ length s.patches
  pub puts : (i : ℕ) (q : Patch) (v : List PutAt) → i < length s.patches → All (λ (x : PutAt). IsTrue (is_edge_face (box (get_or s.patches i q)) x.face)) (get_or (all_puts s each) i v)
  pub reads : (i : ℕ) (q : Patch) (t : PatchLayout) (v : List ℕ) → i < length s.patches → t.border.items ≡ get_or (all_places_read s each) i v → HasMask (domain_around s) s.patches each (get_or s.patches i q) t → ReadsBorder (planned_face fine) fine.places flow (box (get_or s.patches i q)) t

total_map : {A B : Type 0} (f : B → ℕ) (g : A → B) (xs : List A) → total f (map g xs) ≡ total (λ x. f (g x)) xs
total_map f g [] = refl
total_map f g (x ∷ xs) = ap (λ n. f (g x) + n) (total_map f g xs)

module _ {s : Around} {old : Masses} {t : Lots} (level : IsInStep s old t) (several : AreSeveralLots s level.lots.parts t) where
  abbrev e : Fluxes
  e = flux_at s.problem s.level (masses_in s.whole) old

  abbrev sizes : Face → ℕ
  sizes = plain_size s.problem s.level (masses_in s.whole) old

  abbrev runs : ℕ
  runs = length t.lots.items

  abbrev parts : FrameParts
  parts = level.lots.parts

  module _ {lent xs : List (Box Lot)} (d : AreDelivered level lent xs) (lists : HaveLists level lent) (b : StepBasis) (coarse : Option Held) (of_b : IsBasisOf s.problem s.whole coarse b) (coarser : old_masses coarse ≡ old) (ws : List Work) (raw : ArePieces b s.level Step xs ws)
      (fine : PlanOf) (is : IsFinePlan s t.each (plain_size s.problem s.level (masses_in s.whole) old) fine) (has : ArePlanned s t.each (flux_at s.problem s.level (masses_in s.whole) old) fine) where
    abbrev plan : PlanOf
    plan = planned t.shape ws

    module _ (k : ℕ) (w0 : Work) (lt : k < length t.lots.items) where
      abbrev w : Work
      w = get_or ws k w0

      abbrev x : Box Lot
      x = get_or xs k w0.lot

      abbrev y : Workspace
      y = (get_or xs k w0.lot).value.workspace

      piece : IsPiece b s.level Step k x w
      piece = one level several d b coarse of_b coarser ws raw k w0 lt

      of : IsWorkspaceOf s t.each k runs parts y
      of = d.all.lots.of k w0.lot lt

      -- what the piece has in other words
      problem_is : w.basis.value.problem.value ≡ s.problem
      problem_is = (λ i. (piece.of_basis i).problem.value) ∙ of_b.problem

      masses_are : masses_of w.basis.value ≡ masses_in s.whole
      masses_are = (λ i. masses_of (piece.of_basis i)) ∙ (λ i. masses_in (of_b.patches i))

      coarser_is : coarser_of w.basis.value ≡ old
      coarser_is = (λ i. coarser_of (piece.of_basis i)) ∙ of_b.coarser ∙ coarser

      patches_are : patches_of w ≡ run t.each k s.patches
      patches_are = ap (λ (z : Box Lot). z.value.patches.items) piece.of_lot ∙ d.all.patches k w0.lot lt

      at_level : (F : Problem → ℕ → Type 0) → F s.problem s.level → F w.basis.value.problem.value w.level
      at_level F h = subst (λ (o : Problem). F o w.level) (sym problem_is) (subst (F s.problem) (sym piece.of_level) h)

      from_level : (F : Problem → ℕ → Type 0) → F w.basis.value.problem.value w.level → F s.problem s.level
      from_level F h = subst (F s.problem) piece.of_level (subst (λ (o : Problem). F o w.level) problem_is h)

      at_masses : (F : Masses → Masses → Type 0) → F (masses_in s.whole) old → F (masses_of w.basis.value) (coarser_of w.basis.value)
      at_masses F h = subst (λ (m : Masses). F m (coarser_of w.basis.value)) (sym masses_are) (subst (F (masses_in s.whole)) (sym coarser_is) h)

      at_lot : (F : Lot → Type 0) → F x.value → F w.lot.value
      at_lot F h = subst (λ (z : Box Lot). F z.value) (sym piece.of_lot) h

      at_run : (F : List Patch → Type 0) → F (run t.each k s.patches) → F (patches_of w)
      at_run F h = subst F (sym patches_are) h

      -- what holds of all patches of the level holds of its own
      of_all : (P : Patch → Type 0) → ((j : ℕ) (q : Patch) → j < length s.patches → P (get_or s.patches j q)) → All P (run t.each k s.patches)
      of_all P h = λ i q below. subst P (sym (run_at t.each s.patches k i q below)) (h (k * t.each + i) q (run_place t.each s.patches k i below))

      numbers : LevelStepFits w.basis.value.problem.value w.level (masses_of w.basis.value) (coarser_of w.basis.value)
      numbers = at_level (λ o n. LevelStepFits o n (masses_of w.basis.value) (coarser_of w.basis.value)) (at_masses (LevelStepFits s.problem s.level) level.may.fits)

      of_level : All (λ q. (c : Cell) → IsTrue (holds (box q) c) → masses_of w.basis.value c ≡ Some (mass_in q c)) (patches_of w)
      of_level = at_run (All (λ q. (c : Cell) → IsTrue (holds (box q) c) → masses_of w.basis.value c ≡ Some (mass_in q c)))
          (of_all (λ q. (c : Cell) → IsTrue (holds (box q) c) → masses_of w.basis.value c ≡ Some (mass_in q c))
          (λ j q there c held. (λ i. masses_are i c) ∙ mass_among s.whole (get_or s.patches j q) level.may.apart (level.may.worked_on j q there) c held))

      fill : CanFill w.basis.value.problem.value w.level (patches_of w) w.lot.value.workspace
      fill = at_level (λ o n. CanFill o n (patches_of w) w.lot.value.workspace) (at_lot (λ z. CanFill s.problem s.level (patches_of w) z.workspace) (can_fill level k lt y of.serves (patches_of w) patches_are))

      values : HasValuesOrLevel w.basis.value.problem.value w.level (coarser_of w.basis.value) w.lot.value.workspace.outer
      values = at_level (λ o n. HasValuesOrLevel o n (coarser_of w.basis.value) w.lot.value.workspace.outer) (at_masses (λ m n. HasValuesOrLevel s.problem s.level n w.lot.value.workspace.outer) (at_lot (λ z. HasValuesOrLevel s.problem s.level old z.workspace.outer) (d.all.lots.values k w0.lot lt)))

      flows_are : flows_in w ≡ flow_lists y.flows (length (run t.each k s.patches))
      flows_are = (λ i. flow_lists (piece.of_lot i).value.workspace.flows (length (patches_are i)))

      module _ (o : OuterGhosts) (fs : List Patch) (found : HasFoundOuter w.basis.value.problem.value w.level w.lot.value.workspace.outer o) (filled : AreFilled w.lot.value.workspace o (patches_of w) fs) where
        found_here : HasFoundOuter s.problem s.level y.outer o
        found_here = from_level (λ r n. HasFoundOuter r n y.outer o) (subst (λ (z : Box Lot). HasFoundOuter w.basis.value.problem.value w.level z.value.workspace.outer o) piece.of_lot found)

        filled_here : AreFilled y o (run t.each k s.patches) fs
        filled_here = subst (λ rs. AreFilled y o rs fs) patches_are (subst (λ (z : Box Lot). AreFilled z.value.workspace o (patches_of w) fs) piece.of_lot filled)

        shows : All (ShowsValues w.basis.value.problem.value w.level (masses_of w.basis.value) (coarser_of w.basis.value)) fs
        shows = at_level (λ r n. All (ShowsValues r n (masses_of w.basis.value) (coarser_of w.basis.value)) fs)
            (at_masses (λ m n. All (ShowsValues s.problem s.level m n) fs) (all_show level k lt y of.serves (d.messages k w0.lot lt) o found_here (d.all.lots.values k w0.lot lt) fs filled_here))

        owned : AllZip AreEdgeFlows fs (flows_in w)
        owned = subst (AllZip AreEdgeFlows fs) (sym flows_are)
            (numbered_own y.words.items fs (run_flows level k) (flow_lists y.flows (length (run t.each k s.patches))) of.words.numbered
            (all_owned level k lt y of.serves (d.messages k w0.lot lt) o found_here (d.all.lots.values k w0.lot lt) fs filled_here))

      edges : HasEdges (patches_of w) w.lot.value.edges.items
      edges = λ some. at_lot (λ z. AllZip AreEdgesIn (map box z.patches.items) (lists_of z.edges.items)) (has_lists level d lists k w0.lot lt)

      -- ---- its workspace

      layout_count : length y.layouts.items ≡ length (run t.each k s.patches)
      layout_count = sym (length-map y.layouts.items (λ (u : PatchLayout). u.puts.items)) ∙ ap length of.layouts.puts ∙ same_run t.each k (all_puts s t.each) s.patches has.put_count

      module _ (i : ℕ) (below : i < length (run t.each k s.patches)) where
        in_ps : k * t.each + i < length s.patches
        in_ps = run_place t.each s.patches k i below

        patch_at : (q : Patch) → get_or (run t.each k s.patches) i q ≡ get_or s.patches (k * t.each + i) q
        patch_at q = run_at t.each s.patches k i q below

        puts_at : (u : PatchLayout) (v : List PutAt) → (get_or y.layouts.items i u).puts.items ≡ get_or (all_puts s t.each) (k * t.each + i) v
        puts_at u v =
            sym (get_or-map (λ (u : PatchLayout). u.puts.items) y.layouts.items i u v (omega (arith, below, layout_count))) ∙ ap (λ zs. get_or zs i v) of.layouts.puts
            ∙ run_at t.each (all_puts s t.each) k i v (omega (arith, below, same_run t.each k (all_puts s t.each) s.patches has.put_count))

        reads_at : (u : PatchLayout) (v : List ℕ) → (get_or y.layouts.items i u).border.items ≡ get_or (all_places_read s t.each) (k * t.each + i) v
        reads_at u v =
            sym (get_or-map (λ (u : PatchLayout). u.border.items) y.layouts.items i u v (omega (arith, below, layout_count))) ∙ ap (λ zs. get_or zs i v) of.layouts.borders
            ∙ run_at t.each (all_places_read s t.each) k i v (omega (arith, below, same_run t.each k (all_places_read s t.each) s.patches has.read_count))

        puts_on : (q : Patch) (u : PatchLayout) (r : PatchSides) → ArePutsOn (get_or y.sides.items i r) (box (get_or (run t.each k s.patches) i q)) (get_or y.layouts.items i u).puts.items
        puts_on q u r = λ j z under.
            let here = subst (λ zs. All (λ (x : PutAt). IsTrue (is_edge_face (box (get_or s.patches (k * t.each + i) q)) x.face)) zs) (sym (puts_at u [])) (has.puts (k * t.each + i) q [] in_ps) in
            let own = subst (λ (g : Patch). All (λ (x : PutAt). IsTrue (is_edge_face (box g) x.face)) (get_or y.layouts.items i u).puts.items) (sym (patch_at q)) here j z under in
            (own, of.layouts.sides i q u r below j z under)

        reads_border : (q : Patch) (u : PatchLayout) → ReadsBorder (planned_face plan) plan.places (flux w) (box (get_or (run t.each k s.patches) i q)) (get_or y.layouts.items i u)
        reads_border q u =
            let mask = subst (λ (g : Patch). HasMask (domain s.problem s.level) s.patches t.each g (get_or y.layouts.items i u)) (patch_at q) (zip_at (HasMask (domain s.problem s.level) s.patches t.each) (run t.each k s.patches) y.layouts.items i q u of.layouts.masks below) in
            let r = subst (λ (g : Patch). ReadsBorder (planned_face fine) fine.places e (box g) (get_or y.layouts.items i u)) (sym (patch_at q)) (has.reads (k * t.each + i) q (get_or y.layouts.items i u) [] in_ps (reads_at u []) mask) in
            record {
              count = r.count;
              within = λ j z under. let n = r.within j z under in omega (arith, n, several.places, is.places);
              sizes = λ j f under. merged_face (merged level several d b coarse of_b coarser ws raw fine is) (slice_index (get_or y.layouts.items i u).border.items j) ∙ r.sizes j f under ∙ (λ h. unsigned_abs (sym (flux_is level several d b coarse of_b coarser ws raw k w0 lt) h (get_or (masked_faces (box (get_or (run t.each k s.patches) i q)) (get_or y.layouts.items i u).mask.items) j f)) + 1);
            }

      serves : ServesLot y (run t.each k s.patches)
      serves = record {
        layouts = layout_count;
        words = sym of.words.totals;
        sizes = of.layouts.sizes;
        room = of.serves.room;
        flows = of.serves.flows;
        to_words = λ i below.
            let all = numbered_words y.words.items (run_flows level k) (flow_lists y.flows (length (run t.each k s.patches))) of.words.numbered in
            subst (All (λ (x : FlowTo). x.word < length y.words.items)) (get_or-map-range_with_len (flows_at y.flows) 0 (length (run t.each k s.patches)) i i [] below (omega arith))
            (all i [] (omega (arith, below, length-map-range_with_len (flows_at y.flows) 0 (length (run t.each k s.patches)))));
        puts = λ i q u r below. puts_on i below q u r;
      }

      totals : (j : ℕ) → flows_to (size w) (flows_in w) j < 2 ^ 63
      totals j =
          let same : flows_to (size w) (flows_in w) j ≡ flows_to sizes (flow_lists y.flows (length (run t.each k s.patches))) j = (λ i. flows_to (size_is level several d b coarse of_b coarser ws raw k w0 lt i) (flows_are i) j) in
          let most = lists_most sizes y.words.items j (run_flows level k) (flow_lists y.flows (length (run t.each k s.patches))) of.words.numbered in
          let whole : total (word_total sizes (slice_index y.words.items j)) (run_flows level k) ≡ total (adds level (slice_index y.words.items j)) (run t.each k s.patches) = total_map (word_total sizes (slice_index y.words.items j)) (λ (q : Patch). flows_of s (box q)) (run t.each k s.patches) in
          omega (arith, same, most, whole, run_small level k (slice_index y.words.items j))

      borders : (i : ℕ) (q : Patch) (u : PatchLayout) → i < length (patches_of w) → ReadsBorder (planned_face plan) plan.places (flux w) (box (get_or (patches_of w) i q)) (get_or (layouts_of w) i u)
      borders i q u below =
          let under : i < length (run t.each k s.patches) = subst (λ rs. i < length rs) patches_are below in
          subst (λ (rs : List Patch). ReadsBorder (planned_face plan) plan.places (flux w) (box (get_or rs i q)) (get_or (layouts_of w) i u)) (sym patches_are)
          (at_lot (λ z. ReadsBorder (planned_face plan) plan.places (flux w) (box (get_or (run t.each k s.patches) i q)) (get_or z.workspace.layouts.items i u)) (reads_border i under q u))

      sends : MaySend w.lot.value
      sends = at_lot MaySend (all_may_send level d.all k w0.lot (omega (arith, lt, d.all.lots.count)))

      beside : MayStepBeside plan w
      beside = record {
        inside = at_level (λ o n. All (λ q. IsInDomain (domain o n) (box q)) (patches_of w)) (at_run (All (λ q. IsInDomain (domain s.problem s.level) (box q))) (of_all (λ q. IsInDomain (domain s.problem s.level) (box q)) (λ j q there. all_lie s.problem s.level s.patches (own_inside level) j q there)));
        numbers = numbers;
        of_level = of_level;
        fill = fill;
        values = values;
        shows = λ o fs found filled. (shows o fs found filled, owned o fs found filled);
        edges = edges;
        serves = at_run (ServesLot w.lot.value.workspace) (at_lot (λ z. ServesLot z.workspace (run t.each k s.patches)) serves);
        totals = totals;
        borders = borders;
        sends = sends;
      }

      begins : MayBegin s.problem plan w
      begins = record { problem = problem_is; raw = piece.raw; duty = subst (λ (duty : Duty). MayBeginIn duty plan w) (sym piece.of_duty) beside }

    -- all pieces may be run
    pub may_be_run : MayBeRun s.problem t.shape ws
    may_be_run = record {
      plan = is_plan level several d b coarse of_b coarser ws raw fine is;
      begin = λ k w0 below. begins k w0 (omega (arith, below, raw.count, d.all.lots.count));
    }
