-- A lot whose frames are filled and whose patches are swept: its posts are those of its piece, and the patches that read no place may make
-- their step. Then it is under way.
use Rattle.std.proofs.Common.{◌≡◌, ◌∙◌, ℕ, zero, suc, ◌<◌, true, List, length, get_or, map, refl, sym, ap, subst, arith}
use Rattle.std.specs.Prelude.{slice_index, unsigned_abs}
use Rattle.std.specs.Global.{Vec}
use Rattle.std.specs.List.{All, AllZip}
use Rattle.std.proofs.lemmas.List.FromFn.{get_or-map-range_with_len, length-map-range_with_len}
use Rattle.std.proofs.lemmas.List.{length-map}
use Rattle.amr_box.specs.declared.Face.{Face}
use Rattle.amr_box.specs.Cells.{Extent, width}
use Rattle.amr_def.specs.declared.problem.Problem.{Problem}
use Rattle.amr_def.specs.Domain.{domain}
use Rattle.amr_def.specs.State.{Masses}
use Rattle.amr_def.specs.Flux.{net}
use Rattle.amr_patch.specs.declared.patches.Patch.{Patch}
use Rattle.amr_patch.specs.Patches.{box, flux_in}
use Rattle.amr_patch.specs.Places.{is_edge_face}
use Rattle.amr_faces.specs.Faces.{IsInDomain, ShowsValues, in_reach}
use Rattle.amr_flux.specs.PatchSides.{includes, side_of}
use Rattle.amr_flux.specs.declared.fluxes.PatchSides.{PatchSides}
use Rattle.amr_faces.proofs.EdgeFaces.{edge_is_face}
use Rattle.amr_ghost.specs.GhostCells.{KeepsCells}
use Rattle.amr_ghost.specs.Outer.{HasOuterPlaces}
use Rattle.amr_ghost.proofs.Zips.{zip_boxes}
use Rattle.amr_phase.specs.declared.plan.Post.{Post}
use Rattle.amr_phase.specs.Plans.{PlanOf, no_post}
use Rattle.amr_layout.specs.declared.PatchLayout.{PatchLayout}
use Rattle.amr_layout.specs.declared.PutAt.{PutAt}
use Rattle.amr_register.specs.declared.edges.EdgeCell.{EdgeCell}
use Rattle.amr_register.specs.CoarseFlows.{edge_flows}
use Rattle.amr_register.specs.EdgeCells.{AreEdges, AreEdgesIn, IsSmallNet, SameEdges, lists_of}
use Rattle.amr_register.proofs.EdgeLists.{same_edges, same_edges_itself}
use Rattle.amr_register.proofs.EdgeNets.{nets_are}
use Rattle.amr_lots.specs.declared.lot.Duty.{Duty}
use Rattle.amr_lots.specs.declared.lot.Duty.TheVariants.{Step}
use Rattle.amr_lots.specs.declared.lot.Lot.{Lot}
use Rattle.amr_lots.specs.declared.lot.LotStage.TheVariants.{Finished, Raw, Swept}
use Rattle.amr_lots.specs.declared.lot.Work.{Work}
use Rattle.amr_lots.specs.declared.lot.Workspace.{Workspace}
use Rattle.amr_lots.specs.FrameValues.{HasValuesBy}
use Rattle.amr_lots.specs.Lots.{IsSweptOn, MayStep}
use Rattle.amr_lots.specs.Ready.{MayStepBeside}
use Rattle.amr_lots.specs.LotSteps.{AreAdds, ArePosts, ArePuts, CanStepInner, HasSteppedWhere, HasSweptLot, HaveEdgeNets, ReadsNone, ReadsSome}
use Rattle.amr_lots.specs.Works.{HasFoundNets, IsSwept, IsUnderWay, IsWaiting, KeepsLayout, adds_by, adds_in, adds_of_work, coarser_of, flows_in, flows_to, layouts_of, masses_of, patches_of, puts_by, puts_in, puts_of_work, size}
use Rattle.amr_lots.proofs.Begun.{fs_count, keeps, lies, may_here, shows}
use Rattle.amr_lots.proofs.InTurn.{no_sides}
use Rattle.amr_lots.proofs.Showing.{size_at, steps, totals_are}
use Rattle.amr_lots.proofs.SweptPatch.{may_on, stepped_on}

-- what flows into the register cells of patches that show the level's values
module _ (p : Problem) (l : ℕ) (m old : Masses) (fs : List Patch) (before after : List (Vec EdgeCell)) (found : HaveEdgeNets p l fs before after) where
  by_count : (n : ℕ) → length before ≡ n → (length before ≡ 0 → SameEdges (lists_of before) (lists_of after)) → (0 < length before → SameEdges (lists_of before) (lists_of after)) → SameEdges (lists_of before) (lists_of after)
  by_count zero e none some = none e
  by_count (suc n) e none some = some (omega (arith, e))

  pub same_lists : SameEdges (lists_of before) (lists_of after)
  same_lists = by_count (length before) refl
      (λ e. subst (λ (vs : List (Vec EdgeCell)). SameEdges (lists_of before) (lists_of vs)) (sym (found.none e)) (same_edges_itself (lists_of before)))
      (λ some. same_edges p l fs (lists_of before) (lists_of after) (found.nets some))

  pub nets_found : All (ShowsValues p l m old) fs → All (λ q. IsInDomain (domain p l) (box q)) fs → (0 < length before → AllZip AreEdgesIn (map box fs) (lists_of before)) → (fine : Masses) → AreEdges (domain p l) m fine (lists_of before)
      → All (All (λ (c : EdgeCell). c.net ≡ net (edge_flows p l m old fine) c.cell)) (lists_of after)
  nets_found shows lie held fine edges = from (length before) refl
    where
      from : (n : ℕ) → length before ≡ n → All (All (λ (c : EdgeCell). c.net ≡ net (edge_flows p l m old fine) c.cell)) (lists_of after)
      from zero e = λ k d lt. absurd (omega (arith, lt, e, length-map after (λ (v : Vec EdgeCell). v.items), ap length (found.none e)))
      from (suc n) e = let some : 0 < length before = omega (arith, e) in nets_are p l m old fine fs (lists_of before) (lists_of after) shows lie (held some) edges (found.nets some)

module _ (plan : PlanOf) (w : Work) (may : MayStepBeside plan w) (after : Lot) (h : HasSweptLot w.basis.value.problem.value w.level w.lot.value after) where
  abbrev p : Problem
  p = w.basis.value.problem.value

  abbrev l : ℕ
  l = w.level

  abbrev m : Masses
  m = masses_of w.basis.value

  abbrev old : Masses
  old = coarser_of w.basis.value

  abbrev s : Workspace
  s = w.lot.value.workspace

  abbrev fs : List Patch
  fs = h.all.filled

  all_count : length h.all.filled ≡ length (patches_of w)
  all_count = fs_count plan w may after.workspace.outer h.all.filled h.all.begun.outer h.all.begun.filled

  pub count : length after.patches.items ≡ length (patches_of w)
  count = h.all.swept.count ∙ all_count

  all_show : All (ShowsValues p l m old) fs
  all_show = shows plan w may after.workspace.outer h.all.filled h.all.begun.outer h.all.begun.filled

  pub same_layouts : after.workspace.layouts ≡ s.layouts
  same_layouts = ap (λ (x : Workspace). x.layouts) h.all.begun.others

  same_words : after.workspace.words ≡ s.words
  same_words = ap (λ (x : Workspace). x.words) h.all.begun.others

  module _ (k : ℕ) (q : Patch) (lt : k < length (patches_of w)) where
    abbrev f : Patch
    f = get_or h.all.filled k q

    abbrev r : Patch
    r = get_or after.patches.items k q

    kept : KeepsCells (get_or (patches_of w) k q) (get_or h.all.filled k q)
    kept = keeps plan w may after.workspace.outer h.all.filled h.all.begun.outer h.all.begun.filled k q lt

    swept : (d : PatchSides) → IsSweptOn w.basis.value.problem.value w.level (get_or w.lot.value.workspace.sides.items k d) (get_or h.all.filled k q) (get_or after.patches.items k q)
    swept d = h.all.swept.each k q d (omega (arith, lt, all_count))

    shown : ShowsValues w.basis.value.problem.value w.level (masses_of w.basis.value) (coarser_of w.basis.value) (get_or h.all.filled k q)
    shown = all_show k q (omega (arith, lt, all_count))

    pub box_here : box (get_or after.patches.items k q) ≡ box (get_or (patches_of w) k q)
    box_here = (swept no_sides).of_box ∙ kept.of_box

    -- what flows through the face of a put
    put_here : (x : Face) → is_edge_face (box (get_or (patches_of w) k q)) x ≡ true → includes (get_or w.lot.value.workspace.sides.items k no_sides) (side_of (box (get_or (patches_of w) k q)) x) ≡ true → unsigned_abs (flux_in (get_or after.patches.items k q) x) ≡ size w x
    put_here x edge on =
        let edge_f : is_edge_face (box f) x ≡ true = ap (λ (b : Extent). is_edge_face b x) kept.of_box ∙ edge in
        let on_f : includes (get_or s.sides.items k no_sides) (side_of (box f) x) ≡ true = ap (λ (b : Extent). includes (get_or s.sides.items k no_sides) (side_of b x)) kept.of_box ∙ on in
        ap unsigned_abs ((swept no_sides).fluxes x edge_f on_f) ∙ size_at p l m old f shown x (edge_is_face (box f) x f.near edge_f)

    pub may_still : MayStep w.basis.value.problem.value w.level (get_or after.patches.items k q)
    may_still = may_on p l f r (swept no_sides).of_box (swept no_sides).values (may_here plan w may after.workspace.outer h.all.filled h.all.begun.outer h.all.begun.filled k q lt)

    -- a patch that waits
    pub waiting : IsWaiting w.basis.value.problem.value w.level (masses_of w.basis.value) (coarser_of w.basis.value) (get_or (patches_of w) k q) (get_or after.patches.items k q)
    waiting = record {
      of_box = box_here;
      masses = λ c held. (swept no_sides).values c ∙ kept.masses c held;
      shows = record { at = λ c reach. (swept no_sides).values c ∙ shown.at c (ap (λ (b : Extent). in_reach b c) (sym (swept no_sides).of_box) ∙ reach) };
    }

  -- ---- its posts

  pub posts : (puts adds : List Post) → w.duty ≡ Step → puts ≡ puts_of_work w → adds ≡ adds_of_work w → ArePosts after puts adds
  posts puts adds duty puts_are adds_are = record { has_puts = has_puts; has_adds = has_adds }
    where
      adds_here : adds ≡ adds_by (size w) s.words.items (flows_in w)
      adds_here = adds_are ∙ ap (λ (d : Duty). adds_in d w) duty

      adds_count : length (adds_by (size w) s.words.items (flows_in w)) ≡ length s.words.items
      adds_count = length-map-range_with_len (λ j. record { at = slice_index s.words.items j; amount = flows_to (size w) (flows_in w) j }) 0 (length s.words.items)

      has_puts : ArePuts after.patches.items after.workspace.layouts.items puts
      has_puts = record {
        size = size w;
        layouts = ap (λ (v : Vec PatchLayout). length v.items) same_layouts ∙ may.serves.layouts ∙ sym count;
        are = puts_are ∙ ap (λ (d : Duty). puts_in d w) duty ∙ ap (λ (v : Vec PatchLayout). puts_by (size w) v.items) (sym same_layouts);
        flows = λ k q t lt.
            let below : k < length (patches_of w) = omega (arith, lt, count) in
            subst (λ (v : Vec PatchLayout). All (λ (x : PutAt). (is_edge_face (box (get_or after.patches.items k q)) x.face ≡ true) × (unsigned_abs (flux_in (get_or after.patches.items k q) x.face) ≡ size w x.face)) (get_or v.items k t).puts.items) (sym same_layouts)
            (λ j x inside.
            let put = may.serves.puts k q t no_sides below j x inside in
            (ap (λ (b : Extent). is_edge_face b (get_or (get_or (layouts_of w) k t).puts.items j x).face) (box_here k q below) ∙ put.0, put_here k q below (get_or (get_or (layouts_of w) k t).puts.items j x).face put.0 put.1));
      }

      has_adds : AreAdds after.workspace.words.items after.workspace.totals.items adds
      has_adds = record {
        totals_count = h.all.begun.count ∙ sym may.serves.words ∙ ap (λ (v : Vec ℕ). length v.items) (sym same_words);
        count = ap length adds_here ∙ adds_count ∙ ap (λ (v : Vec ℕ). length v.items) (sym same_words);
        are = λ k lt.
            let below : k < length s.words.items = omega (arith, lt, ap (λ (v : Vec ℕ). length v.items) same_words) in
            ap (λ (xs : List Post). get_or xs k no_post) adds_here
            ∙ get_or-map-range_with_len (λ j. record { at = slice_index s.words.items j; amount = flows_to (size w) (flows_in w) j }) 0 (length s.words.items) k k no_post below (omega arith)
            ∙ (λ i. record { at = slice_index (sym same_words i).items k; amount = sym (h.all.begun.totals k ∙ totals_are p l m old k fs (flows_in w) all_show (may.shows after.workspace.outer h.all.filled h.all.begun.outer h.all.begun.filled).1) i });
      }

  -- ---- the patches that read no place

  pub can_inner : CanStepInner w.basis.value.problem.value w.level after
  can_inner = record {
    count = ap (λ (v : Vec PatchLayout). length v.items) same_layouts ∙ may.serves.layouts ∙ sym count;
    steps = λ k q t lt none.
        let below : k < length (patches_of w) = omega (arith, lt, count) in
        let wide = may.serves.room k q below in
        record { step = may_still k q below; room = omega (arith, wide, h.all.begun.room, ap width (box_here k q below)) };
  }

  -- ---- under way

  module _ (v : Work) (is_swept : v.stage ≡ Swept) (g : HasSteppedWhere w.basis.value.problem.value w.level ReadsNone ReadsSome after v.lot.value) where
    abbrev u : Workspace
    u = v.lot.value.workspace

    outer_is : u.outer ≡ after.workspace.outer
    outer_is = ap (λ (x : Lot). x.workspace.outer) g.others

    last_count : length (patches_of v) ≡ length (patches_of w)
    last_count = g.patches.count ∙ count

    module _ (k : ℕ) (q : Patch) (t : PatchLayout) (lt : k < length (patches_of w)) where
      there : k < length after.patches.items
      there = omega (arith, lt, count)

      abbrev reads : PatchLayout → ℕ
      reads x = length x.border.items

      as_now : get_or after.workspace.layouts.items k t ≡ get_or (layouts_of w) k t
      as_now = ap (λ (x : Vec PatchLayout). get_or x.items k t) same_layouts

      patch_swept : IsSwept w.basis.value.problem.value w.level (masses_of w.basis.value) (coarser_of w.basis.value) (get_or (layouts_of w) k t) (get_or (patches_of w) k q) (get_or (patches_of v) k q)
      patch_swept = record {
        inner = λ none.
            steps p l m old (f k q lt) (shown k q lt) (get_or (patches_of w) k q) (get_or (patches_of v) k q) (kept k q lt).of_box (kept k q lt).masses
            (stepped_on p l (f k q lt) (r k q lt) (swept k q lt no_sides).of_box (swept k q lt no_sides).values (get_or (patches_of v) k q) (g.patches.steps k q t there (ap reads as_now ∙ none)));
        waits = λ some. subst (IsWaiting p l m old (get_or (patches_of w) k q)) (sym (g.patches.stays k q t there (omega (arith, some, ap reads as_now)))) (waiting k q lt);
      }

    layout : KeepsLayout s u
    layout = record {
      layouts = ap (λ (x : Lot). x.workspace.layouts) g.others ∙ same_layouts;
      flows = ap (λ (x : Lot). x.workspace.flows) g.others ∙ ap (λ (x : Workspace). x.flows) h.all.begun.others;
      sides = ap (λ (x : Lot). x.workspace.sides) g.others ∙ ap (λ (x : Workspace). x.sides) h.all.begun.others;
      words = ap (λ (x : Lot). x.workspace.words) g.others ∙ same_words;
      totals = ap (λ (x : Lot). length x.workspace.totals.items) g.others ∙ h.all.begun.count;
      copies = ap (λ (x : Lot). x.workspace.copies) g.others ∙ ap (λ (x : Workspace). x.copies) h.all.begun.others;
      spans = ap (λ (x : Lot). x.workspace.outer.spans) g.others ∙ h.all.begun.outer.spans;
      coarser = ap (λ (x : Lot). x.workspace.outer.coarser) g.others ∙ h.all.begun.outer.coarser;
      inbox = ap (λ (x : Lot). x.workspace.inbox) g.others ∙ ap (λ (x : Workspace). x.inbox) h.all.begun.others;
      room = g.room ∙ h.all.begun.room;
      sizes = ap (λ (x : Lot). length x.workspace.sizes.items) g.others ∙ ap (λ (x : Workspace). length x.sizes.items) h.all.begun.others;
    }

    edges_are : v.lot.value.edges ≡ after.edges
    edges_are = ap (λ (x : Lot). x.edges) g.others

    nets : HasFoundNets w v
    nets = record {
      same = subst (λ (es : Vec (Vec EdgeCell)). SameEdges (lists_of w.lot.value.edges.items) (lists_of es.items)) (sym edges_are) (same_lists p l m old fs w.lot.value.edges.items after.edges.items h.all.begun.nets);
      small = subst (λ (es : Vec (Vec EdgeCell)). All (All IsSmallNet) (lists_of es.items)) (sym edges_are) h.all.begun.nets.small;
      nets = λ fine edges.
          subst (λ (es : Vec (Vec EdgeCell)). All (All (λ (c : EdgeCell). c.net ≡ net (edge_flows p l m old fine) c.cell)) (lists_of es.items)) (sym edges_are)
          (nets_found p l m old fs w.lot.value.edges.items after.edges.items h.all.begun.nets all_show
          (λ k q lt. lies plan w may after.workspace.outer h.all.filled h.all.begun.outer h.all.begun.filled k q (omega (arith, lt, all_count)))
          (λ some. subst (λ bs. AllZip AreEdgesIn bs (lists_of w.lot.value.edges.items)) (sym (zip_boxes (patches_of w) h.all.filled h.all.begun.filled.kept)) (may.edges some)) fine edges);
    }

    pub under_way : IsUnderWay w v
    under_way = record {
      begun = λ e. let wrong : Swept ≡ Raw = sym is_swept ∙ e in cc;
      layout = layout;
      before = ap (λ (x : Lot). x.before) g.others ∙ ap (λ (x : Lot). x.before) h.others;
      correction = ap (λ (x : Lot). x.correction) g.others ∙ ap (λ (x : Lot). x.correction) h.others;
      places = subst HasOuterPlaces (sym outer_is) h.all.begun.outer.places;
      values = subst (HasValuesBy p l old) (sym outer_is) (h.all.begun.outer.values old may.values);
      count = last_count;
      swept = λ e k q t lt. patch_swept k q t lt;
      finished = λ e. absurd (let wrong : Swept ≡ Finished = sym is_swept ∙ e in cc);
      edges = nets;
      unsent = λ e. ap (λ (x : Lot). x.workspace.outbox) g.others ∙ ap (λ (x : Workspace). x.outbox) h.all.begun.others;
      sent = λ e. absurd (let wrong : Swept ≡ Finished = sym is_swept ∙ e in cc);
    }
