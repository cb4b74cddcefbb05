-- A layout that is kept serves each level with the same boxes beside levels with the same boxes.
use Rattle.std.proofs.Common.{◌≡◌, ◌∙◌, ℕ, ◌+◌, ◌*◌, ◌^◌, ◌<◌, ◌≤◌, Bool, true, false, List, [], ◌∷◌, length, get_or, map, refl, sym, ap, subst, arith}
use Rattle.std.specs.Prelude.{IfSome, is_some}
use Rattle.std.specs.declared.option.Option.{Option}
use Rattle.std.specs.declared.option.Option.TheVariants.{None, Some}
use Rattle.std.proofs.lemmas.Bool.{le-ltb}
use Rattle.std.specs.List.{All, AllZip}
use Rattle.amr_box.specs.declared.Cell.{Cell}
use Rattle.amr_box.specs.Cells.{Extent, in_boxes, width}
use Rattle.amr_box.specs.declared.Face.{Face}
use Rattle.amr_def.specs.Domain.{domain}
use Rattle.amr_def.specs.State.{Masses}
use Rattle.amr_def.specs.declared.problem.Problem.{Problem}
use Rattle.amr_patch.specs.declared.patches.Patch.{Patch}
use Rattle.amr_patch.specs.Patches.{box}
use Rattle.amr_patch.proofs.SameBoxes.{box_at, same_length}
use Rattle.amr_ghost.specs.Plans.{PlansFrames}
use Rattle.amr_ghost.specs.declared.parts.FrameParts.{FrameParts}
use Rattle.amr_ghost.specs.declared.plan.FramePlan.{FramePlan}
use Rattle.amr_ghost.proofs.PlanLaws.{plan_of_boxes}
use Rattle.amr_layout.specs.declared.FlowTo.{FlowTo}
use Rattle.amr_layout.specs.declared.level_flows.LevelFlows.{LevelFlows}
use Rattle.amr_layout.specs.Adds.{flows_of}
use Rattle.amr_layout.specs.Grounds.{SameGround, has_open_side}
use Rattle.amr_layout.specs.LevelFlowLists.{flow_lists, flows_at}
use Rattle.amr_layout.specs.PartFlows.{AreNumbered}
use Rattle.amr_layout.specs.Surroundings.{Around, edge_count, domain_around}
use Rattle.amr_layout.proofs.ByBoxes.{all_flows, same_level_flows}
use Rattle.amr_layout.specs.declared.PatchLayout.{PatchLayout}
use Rattle.amr_layout.specs.Arounds.{all_borders, all_places_read, all_puts}
use Rattle.amr_layout.specs.Places.{HasMask, borders_of, puts_of}
use Rattle.amr_layout.specs.Posts.{add_post, patch_plan, patch_task, put_post}
use Rattle.amr_flux.specs.Rooms.{widest}
use Rattle.amr_flux.specs.declared.fluxes.PatchSides.{PatchSides}
use Rattle.amr_phase.specs.Plans.{IsPlan, total}
use Rattle.amr_phase.specs.declared.plan.Task.{Task}
use Rattle.amr_lots.specs.declared.lot.Lot.{Lot}
use Rattle.amr_lots.specs.declared.lot.Workspace.{Workspace}
use Rattle.amr_lots.specs.Lots.{LieOn}
use Rattle.amr_lots.specs.Ready.{HasFlowsIn}
use Rattle.amr_lots.specs.Runs.{lot_count, run}
use Rattle.amr_lots.proofs.Runs.{map_run}
use Rattle.amr_advance.specs.declared.kept_layout.KeptLayout.{KeptLayout}
use Rattle.amr_advance.specs.declared.kept_layout.Stale.{Stale}
use Rattle.amr_advance.specs.declared.lots.Lots.{Lots}
use Rattle.amr_advance.specs.KeptLayouts.{Forgets, IsKeptLayout, IsKeptOf, IsLaidOut, StaysKept}
use Rattle.amr_advance.specs.Lots.{AreLots, AreLotsFor, AreMade, CarryMasses, HasLayoutsOf, HasOthersOf, HasValues, HasWordsOf, IsLotOf, IsWholeLot, PutsLieOn, ServesRun, StillServe, is_one, PlansUnlessFilled}
use Rattle.amr_advance.proofs.LotsAgain.{lots_again, several_again}
use Rattle.amr_faces.specs.Faces.{masked_faces}
use Rattle.amr_advance.proofs.RunLists.{run_boxes}
use Rattle.amr_layout.proofs.ByBoxes as ByBoxes

-- What the patches of a level put on a board and read there goes by boxes alone.

-- what follows by boxes
by_boxes : {A : Type 0} (f : Extent → A) (ps : List Patch) → map (λ (q : Patch). f (box q)) ps ≡ map f (map box ps)
by_boxes f [] = refl
by_boxes f (q ∷ ps) = ap (λ ys. f (box q) ∷ ys) (by_boxes f ps)

map_alike : {A : Type 0} (f g : Extent → A) → ((b : Extent) → f b ≡ g b) → (ps qs : List Patch) → map box ps ≡ map box qs → map (λ (q : Patch). f (box q)) ps ≡ map (λ (q : Patch). g (box q)) qs
map_alike f g h ps qs e = by_boxes f ps ∙ ap (map f) e ∙ (λ i. map (λ b. h b i) (map box qs)) ∙ sym (by_boxes g qs)

head_box : Extent → List Extent → Extent
head_box b [] = b
head_box b (c ∷ cs) = c

tail_boxes : List Extent → List Extent
tail_boxes [] = []
tail_boxes (c ∷ cs) = cs

zip_alike : {A : Type 0} (R S : Extent → A → Type 0) → ((b : Extent) (x : A) → R b x → S b x) → (ps qs : List Patch) (xs : List A) → map box ps ≡ map box qs → AllZip (λ (q : Patch) x. R (box q) x) ps xs → AllZip (λ (q : Patch) x. S (box q) x) qs xs
unfolding head_box tail_boxes
zip_alike R S f [] [] [] e h = tt
zip_alike R S f [] [] (x ∷ xs) e h = absurd h
zip_alike R S f [] (q ∷ qs) xs e h = absurd (let n : 0 ≡ length (map box (q ∷ qs)) = ap length e in omega (arith, n))
zip_alike R S f (p ∷ ps) [] xs e h = absurd (let n : length (map box (p ∷ ps)) ≡ 0 = ap length e in omega (arith, n))
zip_alike R S f (p ∷ ps) (q ∷ qs) [] e h = absurd h
zip_alike R S f (p ∷ ps) (q ∷ qs) (x ∷ xs) e h = (subst (λ b. S b x) (ap (head_box (box p)) e) (f (box p) x h.0), zip_alike R S f ps qs xs (ap tail_boxes e) h.1)

module _ (s t : Around) (g : SameGround s t) (each : ℕ) where
  pub same_borders : all_borders s each ≡ all_borders t each
  same_borders = ByBoxes.same_borders s t g each

  pub same_puts : all_puts s each ≡ all_puts t each
  same_puts = ByBoxes.all_puts s t g each

  pub same_reads : all_places_read s each ≡ all_places_read t each
  same_reads = ByBoxes.all_border_places s t g each

  task_at : Around → (Face → ℕ) → Extent → Task
  task_at s size b = record { puts = map (put_post size) (puts_of (domain_around s) s.patches each b); adds = map (add_post size) (flows_of s b) }

  pub same_plan : (size : Face → ℕ) → patch_plan s each size ≡ patch_plan t each size
  unfolding task_at
  same_plan size = λ i. record { places = length (same_borders i); words = 2 + 2 * length (g.cells i); tasks = tasks i }
    where
      same_task : (b : Extent) → task_at s size b ≡ task_at t size b
      same_task b = λ i. record { puts = map (put_post size) (ByBoxes.same_puts s t g each b i); adds = map (add_post size) (ByBoxes.same_flows s t g b i) }

      tasks : map (patch_task s each size) s.patches ≡ map (patch_task t each size) t.patches
      tasks = map_alike (task_at s size) (task_at t size) same_task s.patches t.patches g.boxes

  pub same_masks : (ps qs : List Patch) (ts : List PatchLayout) → map box ps ≡ map box qs → AllZip (HasMask (domain_around s) s.patches each) ps ts → AllZip (HasMask (domain_around t) t.patches each) qs ts
  same_masks ps qs ts boxes h =
      zip_alike (λ b (u : PatchLayout). masked_faces b u.mask.items ≡ borders_of (domain_around s) s.patches each b) (λ b (u : PatchLayout). masked_faces b u.mask.items ≡ borders_of (domain_around t) t.patches each b)
      (λ b u e. e ∙ (λ i. ByBoxes.same_border_faces s t g each i b)) ps qs ts boxes h

-- a plan of frames serves patches by their boxes alone
same_frames : (p r : Problem) (l m : ℕ) (ps qs : List Patch) (f : FramePlan) → p ≡ r → l ≡ m → map box ps ≡ map box qs → PlansFrames (domain p l) ps f → PlansFrames (domain r m) qs f
same_frames p r l m ps qs f problem level boxes h = plan_of_boxes (domain r m) ps qs boxes f (subst (λ d. PlansFrames d ps f) (λ i. domain (problem i) (level i)) h)

same_planned : (b c : Bool) (p r : Problem) (l m : ℕ) (ps qs : List Patch) (f : FramePlan) → b ≡ c → p ≡ r → l ≡ m → map box ps ≡ map box qs → PlansUnlessFilled b (domain p l) ps f → PlansUnlessFilled c (domain r m) qs f
same_planned false c p r l m ps qs f e problem level boxes h = subst (λ (t : Bool). PlansUnlessFilled t (domain r m) qs f) e (same_frames p r l m ps qs f problem level boxes h)
same_planned true c p r l m ps qs f e problem level boxes h = subst (λ (t : Bool). PlansUnlessFilled t (domain r m) qs f) e h

-- and so the faces on edges
edges_of_boxes : (qs : List Patch) → total (λ (b : Extent). edge_count b) (map box qs) ≡ total (λ q. edge_count (box q)) qs
edges_of_boxes [] = refl
edges_of_boxes (q ∷ qs) = ap (λ n. edge_count (box q) + n) (edges_of_boxes qs)

same_edges : (ps qs : List Patch) → map box ps ≡ map box qs → total (λ q. edge_count (box q)) ps ≡ total (λ q. edge_count (box q)) qs
same_edges ps qs e = sym (edges_of_boxes ps) ∙ ap (total (λ (b : Extent). edge_count b)) e ∙ edges_of_boxes qs

-- a room that is wide enough
same_room : (ps qs : List Patch) (n : ℕ) → map box ps ≡ map box qs → All (λ q. width (box q) ≤ n) ps → All (λ q. width (box q) ≤ n) qs
same_room ps qs n e h k q lt = subst (λ (b : Extent). width b ≤ n) (box_at ps qs k q e) (h k q (omega (arith, lt, same_length ps qs e)))

-- the sides on which flows lie
same_sides : (v : LevelFlows) (sides : List PatchSides) (ps qs : List Patch) → map box ps ≡ map box qs → HasFlowsIn v sides ps → HasFlowsIn v sides qs
same_sides v sides ps qs e h = record {
  there = λ k lt. h.there k (omega (arith, lt, same_length ps qs e));
  count = h.count ∙ same_length ps qs e;
  lie = λ k q d lt. subst (λ (b : Extent). LieOn (get_or sides k d) b (flows_at v k)) (box_at ps qs k q e) (h.lie k q d (omega (arith, lt, same_length ps qs e)));
}

module _ (s t : Around) (g : SameGround s t) (each : ℕ) where
  -- runs
  boxes_at : (k : ℕ) → map box (run each k s.patches) ≡ map box (run each k t.patches)
  boxes_at k = run_boxes each k t.patches s.patches (sym g.boxes)

  count_at : (k : ℕ) → length (run each k s.patches) ≡ length (run each k t.patches)
  count_at k = same_length (run each k s.patches) (run each k t.patches) (boxes_at k)

  same_serves : (k runs : ℕ) (parts : FrameParts) (x : Workspace) → ServesRun s each k runs parts x → ServesRun t each k runs parts x
  same_serves k runs parts x of = record {
    copies = of.copies;
    outer = of.outer;
    outer_places = of.outer_places;
    outbox = of.outbox;
    inbox = of.inbox;
    room = same_room (run each k s.patches) (run each k t.patches) (widest x.room) (boxes_at k) of.room;
    flows = same_sides x.flows x.sides.items (run each k s.patches) (run each k t.patches) (boxes_at k) of.flows;
  }

  same_words : (k : ℕ) (x : Workspace) → HasWordsOf s each k x → HasWordsOf t each k x
  same_words k x of = record {
    numbered = subst (λ n. AreNumbered x.words.items (map (λ (r : Patch). flows_of t (box r)) (run each k t.patches)) (flow_lists x.flows n)) (count_at k)
        (subst (λ (zs : List (List FlowTo)). AreNumbered x.words.items zs (flow_lists x.flows (length (run each k s.patches)))) flows of.numbered);
    once = of.once;
    within = subst (λ (cs : List Cell). All (λ w. w < 2 + 2 * length cs) x.words.items) g.cells of.within;
    totals = of.totals;
  }
    where
      flows : map (λ (r : Patch). flows_of s (box r)) (run each k s.patches) ≡ map (λ (r : Patch). flows_of t (box r)) (run each k t.patches)
      flows = map_run (λ (r : Patch). flows_of s (box r)) each k s.patches ∙ ap (run each k) (all_flows s t g) ∙ sym (map_run (λ (r : Patch). flows_of t (box r)) each k t.patches)

  same_layouts : (k : ℕ) (x : Workspace) → HasLayoutsOf s each k x → HasLayoutsOf t each k x
  same_layouts k x of = record {
    puts = of.puts ∙ ap (run each k) (same_puts s t g each);
    borders = of.borders ∙ ap (run each k) (same_reads s t g each);
    masks = same_masks s t g each (run each k s.patches) (run each k t.patches) x.layouts.items (boxes_at k) of.masks;
    sides = λ i q u d lt. subst (λ (b : Extent). PutsLieOn (get_or x.sides.items i d) b (get_or x.layouts.items i u).puts.items) (box_at (run each k s.patches) (run each k t.patches) i q (boxes_at k)) (of.sides i q u d (omega (arith, lt, count_at k)));
    sizes = of.sizes;
  }

  same_others : (k : ℕ) (x : Lot) → HasOthersOf (run each k s.patches) x → HasOthersOf (run each k t.patches) x
  same_others k x of = record { count = of.count ∙ count_at k; before = of.before ∙ count_at k; edges = of.edges ∙ count_at k; no_edges = of.no_edges }

  same_lot : (k runs : ℕ) (parts : FrameParts) (x : Lot) → IsLotOf s each k runs parts x → IsLotOf t each k runs parts x
  same_lot k runs parts x of = record { serves = same_serves k runs parts x.workspace of.serves; words = same_words k x.workspace of.words; layouts = same_layouts k x.workspace of.layouts; others = same_others k x of.others }

  same_whole : (parts : FrameParts) (x : Lot) → IsWholeLot s each parts x → IsWholeLot t each parts x
  same_whole parts x of = record {
    serves = same_serves 0 1 parts x.workspace of.serves;
    flows = same_level_flows s t g x.workspace.flows of.flows;
    words = subst (λ (cs : List Cell). All (λ (y : FlowTo). y.word < 2 + 2 * length cs) x.workspace.flows.flows.items) g.cells of.words;
    totals = of.totals ∙ ap (λ (cs : List Cell). 2 + 2 * length cs) g.cells;
  }

same_made : (s t : Around) (g : SameGround s t) (parts : FrameParts) (x : Lots) (b : Bool) → AreMade b s parts x → AreMade b t parts x
same_made s t g parts x true h = record { one = h.one; lot = λ y. same_whole s t g x.each parts (get_or x.lots.items 0 y).value (h.lot y) }
same_made s t g parts x false h = record {
  tight = omega (arith, h.tight, same_length s.patches t.patches g.boxes);
  places = h.places ∙ ap length (same_borders s t g x.each);
  words = h.words ∙ ap (λ (cs : List Cell). 2 + 2 * length cs) g.cells;
  totals = h.totals;
  plan = λ size small. subst IsPlan (same_plan s t g x.each size) (h.plan size small);
  lots = λ k y lt. same_lot s t g x.each k (length x.lots.items) parts (get_or x.lots.items k y).value (h.lots k y lt);
}

pub same_lots : (s t : Around) (x : Lots) → SameGround s t → AreLots s x → AreLots t x
same_lots s t x g h = record {
  of_level = h.of_level ∙ g.level;
  some = h.some;
  enough = omega (arith, h.enough, same_length s.patches t.patches g.boxes);
  count = subst (λ n. 0 < n → length x.lots.items ≡ lot_count x.wanted n) (same_length s.patches t.patches g.boxes) h.count;
  small = omega (arith, h.small, same_length s.patches t.patches g.boxes);
  many = h.many;
  edges = subst (λ n. n ≤ 2 ^ 30) (same_edges s.patches t.patches g.boxes) h.edges;
  plan = h.plan;
  planned = same_planned s.filled t.filled s.problem t.problem s.level t.level s.patches t.patches h.plan g.filled g.problem g.level g.boxes h.planned;
  parts = h.parts;
  parted = h.parted;
  made = same_made s t g h.parts x (is_one x) h.made;
}

-- a layout made for the same surroundings serves here
pub serves_here : (t : Around) (k : KeptLayout) → t.whole ≡ t.patches → t.filled ≡ false → IsKeptLayout t.problem k → k.level ≡ t.level → map box t.patches ≡ k.boxes.items → k.cells.items ≡ t.cells → (has_open_side t.problem ≡ true → (c : Cell) → is_some (t.finer c) ≡ in_boxes k.finer.items c) → IsLaidOut t k
serves_here t k all unfilled h level boxes cells finer =
    let s = h.made_for in
    let made = h.laid_out in
    let same : map box s.patches ≡ map box t.patches = sym made.boxes ∙ sym boxes in
    let opened : has_open_side t.problem ≡ has_open_side s.problem = ap has_open_side (sym h.of_problem) in
    record {
      level = level;
      boxes = sym boxes;
      cells = cells;
      finer = finer;
      few = subst (λ (cs : List Cell). 2 + 2 * length cs < 2 ^ 32) (sym made.cells ∙ cells) made.few;
      lots = same_lots s t k.lots (record { problem = h.of_problem; level = sym made.level ∙ level; boxes = same; whole = ap (map box) h.all ∙ same ∙ sym (ap (map box) all); filled = h.unfilled ∙ sym unfilled; cells = sym made.cells ∙ cells; finer = λ e c. made.finer e c ∙ sym (finer (opened ∙ e) c) }) made.lots;
    }

-- and where its lots become others of the same patches
pub with_lots : (s : Around) (k : KeptLayout) (u : Lots) → IsLaidOut s k → AreLots s u → IsLaidOut s (record k { lots = u })
with_lots s k u h are = record { level = h.level; boxes = h.boxes; cells = h.cells; finer = h.finer; few = h.few; lots = are }

-- lots serve whether they have packed messages or not, and whether they have the values of outer ghost cells or not
flags_made : (s : Around) (parts : FrameParts) (t : Lots) (packed valued : Bool) (b : Bool) → AreMade b s parts t → AreMade b s parts (record t { packed = packed; valued = valued })
flags_made s parts t packed valued true h = record { one = h.one; lot = h.lot }
flags_made s parts t packed valued false h = several_again s t t.lots t.totals packed valued refl parts refl h h.lots

with_flags : (s : Around) (t : Lots) (packed valued : Bool) → AreLots s t → AreLots s (record t { packed = packed; valued = valued })
with_flags s t packed valued h = lots_again s t t.lots t.totals packed valued refl h (flags_made s h.parts t packed valued (is_one t) h.made)

kept_with : (p : Problem) (k : KeptLayout) (u : Lots) → ((s : Around) → AreLots s k.lots → AreLots s u) → IsKeptLayout p k → IsKeptLayout p (record k { lots = u })
kept_with p k u still h = record { made_for = h.made_for; of_problem = h.of_problem; unfilled = h.unfilled; all = h.all; laid_out = with_lots h.made_for k u h.laid_out (still h.made_for h.laid_out.lots) }

-- what is kept of masses that are not stale is kept, where no more than that stands in the lots
pub forgotten : (stale : Stale) (k : KeptLayout) (packed valued : Bool) → (packed ≡ true → (k.lots.packed ≡ true) × (stale.own ≡ false)) → (valued ≡ true → (k.lots.valued ≡ true) × (stale.coarser ≡ false)) → Forgets stale (Some k) (Some (record k { lots = record k.lots { packed = packed; valued = valued } }))
forgotten stale k packed valued own_stays coarser_stays p l own old own_now old_now same same_coarser h = record {
  layout = kept_with p k (record k.lots { packed = packed; valued = valued }) (λ s are. with_flags s k.lots packed valued are) h.layout;
  masses = record {
    packed = λ is. subst (λ (m : Masses). CarryMasses m k.lots.lots.items) (sym (same (own_stays is).1)) (h.masses.packed (own_stays is).0);
    valued = λ is. subst (λ (m : Masses). All (HasValues p l m) k.lots.lots.items) (sym (same_coarser (coarser_stays is).1)) (h.masses.valued (coarser_stays is).0);
  };
}

-- where its lots become others of the same patches, and keep what they have of masses, the layout stays
pub stays_kept : (change : Masses → Masses) (k : KeptLayout) (u : Lots) → StillServe change k.lots u → StaysKept change (Some k) (Some (record k { lots = u }))
stays_kept change k u still p l own old h = record { layout = kept_with p k u still.lots h.layout; masses = still.masses p l own old h.masses }

-- the lots of a layout, where the patches have the boxes that it was made for and several are wanted
pub lots_for : (p : Problem) (k : KeptLayout) (boxes : List Extent) → 2 ≤ k.lots.wanted → k.boxes.items ≡ boxes → IsKeptLayout p k → AreLotsFor boxes k.lots
lots_for p k boxes several same h = record { made_for = h.made_for; on_boxes = sym h.laid_out.boxes ∙ same; lots = h.laid_out.lots; several = le-ltb k.lots.wanted 2 several }

-- what is kept of a level is of its problem
pub kept_layout : (p : Problem) (l : ℕ) (own old : Masses) (k : Option KeptLayout) → IfSome k (IsKeptOf p l own old) → IfSome k (IsKeptLayout p)
kept_layout p l own old None h = h
kept_layout p l own old (Some k) h = h.layout
