-- The workspace of a run of a level's patches, which is handed them and messages from all runs: their frames are filled by it, and then they
-- show the level's values, and may make their step.
use Rattle.std.proofs.Common.{◌≡◌, ◌∙◌, ℕ, suc, ◌+◌, ◌*◌, ◌^◌, ◌<◌, ◌≤◌, true, List, [], ◌∷◌, length, get_or, map, refl, sym, ap, subst, arith, Bool, false}
use Rattle.std.specs.Prelude.{◌==◌, if◌then◌else◌, unsigned_abs}
use Rattle.std.specs.List.{All, AllZip, Contains}
use Rattle.std.proofs.lemmas.List.{get_or-map, length-map}
use Rattle.std.proofs.lemmas.List.Elements.{AllZip-get_or, length_all_zip}
use Rattle.amr_box.specs.declared.Face.{Face}
use Rattle.amr_box.specs.Cells.{Extent, width}
use Rattle.amr_def.specs.Domain.{domain}
use Rattle.amr_def.specs.State.{Masses}
use Rattle.amr_def.specs.Value.{value_at}
use Rattle.amr_def.specs.Flux.{Fluxes, flux_at}
use Rattle.amr_patch.specs.declared.patches.Patch.{Patch}
use Rattle.amr_patch.specs.Patches.{box, masses_in}
use Rattle.amr_patch.specs.Places.{is_edge_face, is_face_of}
use Rattle.amr_faces.specs.Faces.{IsInDomain, ShowsValues, flux_beside}
use Rattle.amr_faces.proofs.EdgeFaces.{edge_is_face}
use Rattle.amr_flows.specs.Laws.{plain_size}
use Rattle.amr_flows.specs.Words.{level_total}
use Rattle.amr_flows.proofs.EdgeFlows.{flows_on_edges}
use Rattle.amr_phase.specs.Plans.{total}
use Rattle.amr_ghost.specs.GhostCells.{HasFrame, KeepsCells}
use Rattle.amr_ghost.specs.Frames.{AreInDomain, is_of_level, HasGhostValues}
use Rattle.amr_ghost.specs.Messages.{AreMessagesTo, HasFilled}
use Rattle.amr_ghost.specs.Outer.{AreOuterFor}
use Rattle.amr_ghost.specs.declared.outer.OuterGhosts.{OuterGhosts}
use Rattle.amr_ghost.specs.declared.parts.FrameParts.{FrameParts}
use Rattle.amr_ghost.proofs.PartLaws.{outer_valued, run_frames}
use Rattle.amr_ghost.proofs.Zips.{keeps_refl, zip_boxes, zip_refl}
use Rattle.amr_layout.specs.declared.FlowTo.{FlowTo}
use Rattle.amr_layout.specs.Adds.{flows_of, word_total}
use Rattle.amr_layout.specs.Surroundings.{Around}
use Rattle.amr_layout.proofs.Planned.{level_few}
use Rattle.amr_register.proofs.EdgeLists.{zip_from}
use Rattle.amr_lots.specs.declared.lot.Workspace.{Workspace}
use Rattle.amr_lots.specs.FrameValues.{AreFilled, HasFoundOuter, HasValuesBy, HasValuesOrLevel}
use Rattle.amr_lots.specs.Lots.{AreEdgeFlows, HasStepped, IsStepped, MayStep, adds_to, lot_total}
use Rattle.amr_lots.specs.Runs.{run}
use Rattle.amr_lots.proofs.LotTotals.{lot_total_is}
use Rattle.amr_lots.proofs.Runs.{run_at, run_place}
use Rattle.amr_advance.specs.declared.lots.Lots.{Lots}
use Rattle.amr_advance.specs.Lots.{AreLots, ServesRun, PlansUnlessFilled}
use Rattle.amr_advance.specs.Steps.{MayStepLevel, AreFramed}
use Rattle.amr_advance.proofs.RunLists.{run_is, total_run_most}
use Rattle.amr_advance.proofs.OnePatch as OnePatch
use Rattle.amr_ghost.specs.Plans.{IsSpan, PlansFrames}
use Rattle.amr_advance.proofs.FilledFrames.{still_filled, spans_of}
use Rattle.amr_layout.proofs.Among.{inside_among}

pub same_words : (f g : Face → ℕ) (word : ℕ) (xs : List FlowTo) → All (λ (x : FlowTo). f x.face ≡ g x.face) xs → word_total f word xs ≡ word_total g word xs
same_words f g word [] h = refl
same_words f g word (x ∷ xs) h =
    let here : f x.face ≡ g x.face = h 0 x (omega arith) in
    let rest = same_words f g word xs (λ k d lt. h (suc k) d (omega (arith, lt))) in
    λ i. (if x.word == word then here i else 0) + rest i

-- patches of a level in their step, in lots
pub record IsInStep (s : Around) (old : Masses) (t : Lots) : Type 0 where
  pub may : MayStepLevel s old
  pub lots : AreLots s t

pub in_step : (s : Around) (old : Masses) (t : Lots) → MayStepLevel s old → AreLots s t → IsInStep s old t
in_step s old t may lots = record { may = may; lots = lots }

-- a plan of frames has spans beside the patches
pub lot_spans : (s : Around) (t : Lots) (lots : AreLots s t) → All (IsSpan (domain s.problem s.level) s.patches) lots.plan.spans.items
lot_spans s t lots = spans_of s.filled (domain s.problem s.level) s.patches lots.plan lots.planned

module _ {s : Around} {old : Masses} {t : Lots} (level : IsInStep s old t) where
  abbrev e : Fluxes
  e = flux_at s.problem s.level (masses_in s.whole) old

  abbrev runs : ℕ
  runs = length t.lots.items

  abbrev parts : FrameParts
  parts = level.lots.parts

  -- what a patch adds to a word
  abbrev pub adds : ℕ → Patch → ℕ
  adds word q = word_total (plain_size s.problem s.level (masses_in s.whole) old) word (flows_of s (box q))

  -- the flows of each patch of a run
  abbrev pub run_flows : ℕ → List (List FlowTo)
  run_flows k = map (λ (q : Patch). flows_of s (box q)) (run t.each k s.patches)

  -- its patches are cells of the domain
  pub own_inside : AreInDomain (domain s.problem s.level) s.patches
  own_inside = inside_among (domain s.problem s.level) s.whole s.patches level.may.worked_on level.may.inside

  pub totals_small : (word : ℕ) → level_total s (plain_size s.problem s.level (masses_in s.whole) old) word ≤ 2 ^ 61
  totals_small word = omega (arith, level_few s (plain_size s.problem s.level (masses_in s.whole) old) level.may.fits.fluxes word s.patches, level.lots.edges)

  -- no run adds more
  pub run_small : (k word : ℕ) → total (adds word) (run t.each k s.patches) ≤ 2 ^ 61
  run_small k word = omega (arith, total_run_most (adds word) t.each k s.patches, totals_small word)

  -- ---- the patches of a run with their frames filled, by outer values, by copies within the run and by messages

  module _ (k : ℕ) (lt : k < length t.lots.items) (x : Workspace) (of : ServesRun s t.each k (length t.lots.items) level.lots.parts x) (sent : AreMessagesTo level.lots.parts t.each (length t.lots.items) k s.patches x.inbox.items)
      (given : OuterGhosts) (found : HasFoundOuter s.problem s.level x.outer given) (values : HasValuesOrLevel s.problem s.level old x.outer) (fs : List Patch) (filled : AreFilled x given (run t.each k s.patches) fs) where
    -- the values of its outer ghost cells are those that the level has
    spans : given.spans.items ≡ (get_or level.lots.parts.outer.items k given.spans).items
    spans = (λ i. (found.spans i).items) ∙ of.outer given.spans

    pub valued : HasValuesBy s.problem s.level old given
    valued = found.values old values

    outer_for : AreOuterFor (value_at s.problem s.level (masses_in s.patches) old) (is_of_level s.problem s.level (masses_in s.patches)) given
    outer_for = outer_valued s.problem s.level old s.patches level.lots.plan t.each runs parts (lot_spans s t level.lots) level.lots.parted (own_inside) k given.spans given lt spans valued

    by_parts : HasFilled given (get_or level.lots.parts.copies.items (k * length t.lots.items + k) x.copies).items x.inbox.items (run t.each k s.patches) fs
    by_parts = subst (λ cs. HasFilled given cs x.inbox.items (run t.each k s.patches) fs) (of.copies x.copies) filled

    pub fs_count : length fs ≡ length (run t.each k s.patches)
    fs_count = sym (length_all_zip KeepsCells (run t.each k s.patches) fs filled.kept)

    -- their boxes are those of the run
    pub fs_boxes : map box fs ≡ map box (run t.each k s.patches)
    fs_boxes = zip_boxes (run t.each k s.patches) fs filled.kept

    module _ (i : ℕ) (q : Patch) (lt_i : i < length fs) where
      abbrev j : ℕ
      j = k * t.each + i

      in_run : i < length (run t.each k s.patches)
      in_run = let n = fs_count in omega (arith, lt_i, n)

      in_ps : j < length s.patches
      in_ps = run_place t.each s.patches k i in_run

      keeps : KeepsCells (get_or s.patches j q) (get_or fs i q)
      keeps = subst (λ (x : Patch). KeepsCells x (get_or fs i q)) (run_at t.each s.patches k i q in_run) (AllZip-get_or KeepsCells (run t.each k s.patches) fs i q q filled.kept in_run)

      frame : PlansFrames (domain s.problem s.level) s.patches level.lots.plan → HasFrame s.problem s.level (masses_in s.patches) old (get_or fs i q)
      frame planned =
          run_frames s.problem s.level old s.patches s.patches (run t.each k s.patches) fs level.lots.plan t.each runs k level.lots.parts x.copies x.inbox.items planned level.lots.parted (zip_refl KeepsCells keeps_refl s.patches) lt (run_is t.each k s.patches) level.may.once
          given.spans given spans outer_for sent by_parts i q in_run

      -- its frame is filled now, or was beforehand
      filled_frame : HasGhostValues s.problem s.level (masses_in s.whole) old (get_or fs i q)
      filled_frame = by_case s.filled level.lots.planned level.may.framed
        where
          by_case : (b : Bool) → PlansUnlessFilled b (domain s.problem s.level) s.patches level.lots.plan → AreFramed b s old → HasGhostValues s.problem s.level (masses_in s.whole) old (get_or fs i q)
          by_case false planned whole = subst (λ (ps : List Patch). HasGhostValues s.problem s.level (masses_in ps) old (get_or fs i q)) (sym whole) (λ c h. ((frame planned).at c h).valued)
          by_case true none framed =
              still_filled level.lots.plan t.each runs level.lots.parts none level.lots.parted s.problem s.level (masses_in s.whole) old k lt (run t.each k s.patches) fs given spans x.copies x.inbox.items of.inbox by_parts i q in_run
              (subst (HasGhostValues s.problem s.level (masses_in s.whole) old) (sym (run_at t.each s.patches k i q in_run)) (framed j q in_ps))

      -- its patch among all of the level
      there : Contains s.whole (get_or s.patches j q)
      there = level.may.worked_on j q in_ps

      same : KeepsCells (get_or s.whole there.0 (get_or s.patches j q)) (get_or fs i q)
      same = subst (λ (x : Patch). KeepsCells x (get_or fs i q)) (sym there.2) keeps

      shows : ShowsValues s.problem s.level (masses_in s.whole) old (get_or fs i q)
      shows = OnePatch.frame_shows s.problem s.level old s.whole level.may.apart level.may.inside there.0 (get_or s.patches j q) there.1 (get_or fs i q) same.of_box same.masses filled_frame

      box_is : box (get_or fs i q) ≡ box (get_or (run t.each k s.patches) i q)
      box_is = keeps.of_box ∙ ap box (sym (run_at t.each s.patches k i q in_run))

      lies : IsInDomain (domain s.problem s.level) (box (get_or fs i q))
      lies = OnePatch.lies s.problem s.level old s.whole level.may.apart level.may.inside there.0 (get_or s.patches j q) there.1 (get_or fs i q) same.of_box same.masses

      may : MayStep s.problem s.level (get_or fs i q)
      may = OnePatch.may_step s.problem s.level old s.whole level.may.apart level.may.inside there.0 (get_or s.patches j q) there.1 (get_or fs i q) same.of_box same.masses shows level.may.level level.may.fits

      on_edges : All (λ (x : FlowTo). (is_edge_face (box (get_or fs i q)) x.face ≡ true) × (is_face_of (box (get_or fs i q)) x.face ≡ true)) (flows_of s (box (get_or fs i q)))
      on_edges = λ n x below.
          let edge = flows_on_edges s (box (get_or fs i q)) (get_or fs i q).near n x below in
          (edge, edge_is_face (box (get_or fs i q)) (get_or (flows_of s (box (get_or fs i q))) n x).face (get_or fs i q).near edge)

      owned : AreEdgeFlows (get_or fs i q) (flows_of s (box (get_or fs i q)))
      owned = λ n x below. (on_edges n x below).0

      flows_is : (d : List FlowTo) → get_or (run_flows k) i d ≡ flows_of s (box (get_or fs i q))
      flows_is d = get_or-map (λ (r : Patch). flows_of s (box r)) (run t.each k s.patches) i q d in_run ∙ ap (flows_of s) (sym box_is)

      -- what it adds
      adds_here : (word : ℕ) (xs : List FlowTo) → xs ≡ flows_of s (box (get_or fs i q)) → adds_to s.problem s.level word (get_or fs i q) xs ≡ adds word (get_or (run t.each k s.patches) i q)
      adds_here word xs is =
          ap (word_total (λ (f : Face). unsigned_abs (flux_beside s.problem s.level (get_or fs i q) f)) word) is
          ∙ same_words (λ (f : Face). unsigned_abs (flux_beside s.problem s.level (get_or fs i q) f)) (plain_size s.problem s.level (masses_in s.whole) old) word (flows_of s (box (get_or fs i q)))
          (λ n x below. ap unsigned_abs (OnePatch.plain_at s.problem s.level old s.whole level.may.apart level.may.inside there.0 (get_or s.patches j q) there.1 (get_or fs i q) same.of_box same.masses shows (get_or (flows_of s (box (get_or fs i q))) n x).face (on_edges n x below).1))
          ∙ ap (λ (b : Extent). word_total (plain_size s.problem s.level (masses_in s.whole) old) word (flows_of s b)) box_is

      pub steps : (r : Patch) → HasStepped s.problem s.level (get_or fs i q) r → IsStepped (flux_at s.problem s.level (masses_in s.whole) old) (get_or s.patches (k * t.each + i) q) r
      steps r h = subst (λ (z : Patch). IsStepped (flux_at s.problem s.level (masses_in s.whole) old) z r) there.2 (OnePatch.steps s.problem s.level old s.whole level.may.apart level.may.inside there.0 (get_or s.patches j q) there.1 (get_or fs i q) same.of_box same.masses shows r h.of_box h.masses)

    pub all_show : All (ShowsValues s.problem s.level (masses_in s.whole) old) fs
    all_show = λ i q lt_i. shows i q lt_i

    pub all_inside : All (λ q. IsInDomain (domain s.problem s.level) (box q)) fs
    all_inside = λ i q lt_i. lies i q lt_i

    pub all_may : All (MayStep s.problem s.level) fs
    all_may = λ i q lt_i. may i q lt_i

    pub all_room : (n : ℕ) → All (λ q. width (box q) ≤ n) (run t.each k s.patches) → All (λ q. width (box q) ≤ n) fs
    all_room n h = λ i q lt_i. let r = h i q (in_run i q lt_i) in omega (arith, r, ap width (box_is i q lt_i))

    pub lists_count : length (run_flows k) ≡ length fs
    lists_count = length-map (run t.each k s.patches) (λ (q : Patch). flows_of s (box q)) ∙ sym fs_count

    pub totals_are : (word : ℕ) → lot_total s.problem s.level fs (run_flows k) word ≡ total (adds word) (run t.each k s.patches)
    totals_are word = lot_total_is s.problem s.level word (adds word) fs (run t.each k s.patches) (run_flows k) (λ i q xs lt_i. adds_here i q lt_i word (get_or (run_flows k) i xs) (flows_is i q lt_i xs)) lists_count (sym fs_count)

    pub all_owned : AllZip AreEdgeFlows fs (run_flows k)
    all_owned = zip_from AreEdgeFlows fs (run_flows k) lists_count (λ i q d lt_i. subst (AreEdgeFlows (get_or fs i q)) (sym (flows_is i q lt_i d)) (owned i q lt_i))
