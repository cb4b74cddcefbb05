-- The lots of a level whose step was made on a board: their patches have the masses of the level's step, and they serve the next one.
use Rattle.std.proofs.Common.{◌≡◌, ◌∙◌, ℕ, ◌<◌, List, length, get_or, map, sym, ap, subst, arith}
use Rattle.std.specs.declared.option.Option.{Option}
use Rattle.std.specs.Global.{Box, Vec}
use Rattle.std.specs.List.{All, AllZip}
use Rattle.std.proofs.lemmas.List.Elements.{AllZip-get_or, length_all_zip}
use Rattle.amr_box.specs.Cells.{Extent}
use Rattle.amr_def.specs.declared.problem.Problem.{Problem}
use Rattle.amr_def.specs.Domain.{domain}
use Rattle.amr_def.specs.State.{Masses}
use Rattle.amr_def.specs.Flux.{Fluxes, flux_at, net}
use Rattle.amr_patch.specs.declared.levels.Level.{Level as Held}
use Rattle.amr_patch.specs.declared.patches.Patch.{Patch}
use Rattle.amr_patch.specs.Patches.{box, masses_in}
use Rattle.amr_patch.proofs.SameBoxes.{apart_alike}
use Rattle.amr_ghost.specs.Frames.{old_masses}
use Rattle.amr_ghost.specs.Messages.{HasPacked, HasPlaces, IsTaken}
use Rattle.amr_ghost.specs.declared.messages.Message.{Message}
use Rattle.amr_ghost.specs.declared.parts.FrameParts.{FrameParts}
use Rattle.amr_ghost.proofs.Carrying.{packed_carries, taken_of_boxes}
use Rattle.amr_ghost.proofs.Zips.{boxes_of_zip}
use Rattle.amr_layout.specs.Surroundings.{Around}
use Rattle.amr_layout.proofs.Planned.{nth}
use Rattle.amr_register.specs.declared.edges.EdgeCell.{EdgeCell}
use Rattle.amr_register.specs.CoarseFlows.{edge_flows}
use Rattle.amr_register.specs.EdgeCells.{AreEdges, IsSmallNet, SameEdges, lists_of}
use Rattle.amr_lots.specs.declared.lot.StepBasis.{StepBasis}
use Rattle.amr_lots.specs.declared.lot.Duty.{Duty}
use Rattle.amr_lots.specs.declared.lot.Duty.TheVariants.{Step}
use Rattle.amr_lots.specs.declared.lot.Lot.{Lot}
use Rattle.amr_lots.specs.declared.lot.Work.{Work}
use Rattle.amr_lots.specs.FrameValues.{HasValuesBy}
use Rattle.amr_lots.specs.Lots.{IsStepped}
use Rattle.amr_lots.specs.Runs.{KeepAllButEdges, KeepOthers, run}
use Rattle.amr_lots.specs.Works.{HasFoundNets, IsUnderWay, StandsForIn, coarser_of, flux, fluxes_of, masses_of, patches_of}
use Rattle.amr_lots.proofs.Runs.{map_run}
use Rattle.amr_advance.specs.declared.lots.Lots.{Lots}
use Rattle.amr_advance.specs.Cuts.{IsWorkspaceOf}
use Rattle.amr_advance.specs.Lots.{AreSeveralLots, CarryMasses, IsLotOf}
use Rattle.amr_advance.specs.Phases.{ArePieces, IsBasisOf, IsDone, IsPiece}
use Rattle.amr_advance.specs.Handed.{AreHanded, AreLent}
use Rattle.amr_advance.proofs.Boxes.{IsPackedFrom, all_packed, box_copies, box_packed}
use Rattle.amr_advance.proofs.Delivered.{taken}
use Rattle.amr_advance.proofs.InLots.{IsInStep}
use Rattle.amr_advance.proofs.LotsHanded.{AreDelivered, HaveNoEdges, still_workspace}
use Rattle.amr_advance.proofs.RunLists.{run_is, same_run}
use Rattle.amr_advance.proofs.RunZips.{zip_runs}
use Rattle.amr_advance.proofs.Served.{KeepsPlan, plan_handed, plan_lent, plan_stepped, same_inbox, same_outbox}

module _ {s : Around} {old : Masses} {t : Lots} (level : IsInStep s old t) where
  abbrev e : Fluxes
  e = flux_at s.problem s.level (masses_in s.whole) old

  abbrev runs : ℕ
  runs = length t.lots.items

  abbrev parts : FrameParts
  parts = level.lots.parts

  -- lots that made their step, and packed masses of the patches as they are now
  pub record HaveMade (xs : List (Box Lot)) : Type 0 where
    pub count : length xs ≡ runs
    pub of : (k : ℕ) (x : Box Lot) → k < runs → IsWorkspaceOf s t.each k runs parts (get_or xs k x).value.workspace
    pub valued : (k : ℕ) (x : Box Lot) → k < runs → HasValuesBy s.problem s.level old (get_or xs k x).value.workspace.outer
    pub before : (k : ℕ) (x : Box Lot) → k < runs → length (get_or xs k x).value.before.items ≡ length (run t.each k s.patches)
    pub stepped : (k : ℕ) (x : Box Lot) → k < runs → AllZip (IsStepped e) (run t.each k s.patches) (get_or xs k x).value.patches.items
    pub packed : (k : ℕ) (x : Box Lot) → k < runs → All (IsPackedFrom (get_or xs k x).value.patches.items) (get_or xs k x).value.workspace.outbox.items

  -- what flows into the register cells that these lots were lent was worked out
  pub record HaveFlows (lent xs : List (Box Lot)) : Type 0 where
    pub same : (k : ℕ) (x : Box Lot) → k < runs → SameEdges (lists_of (get_or lent k x).value.edges.items) (lists_of (get_or xs k x).value.edges.items)
    pub small : (k : ℕ) (x : Box Lot) → k < runs → All (All IsSmallNet) (lists_of (get_or xs k x).value.edges.items)
    pub nets : (fine : Masses) (k : ℕ) (x : Box Lot) → k < runs → AreEdges (domain s.problem s.level) (masses_in s.whole) fine (lists_of (get_or lent k x).value.edges.items)
        → All (All (λ (c : EdgeCell). c.net ≡ net (edge_flows s.problem s.level (masses_in s.whole) old fine) c.cell)) (lists_of (get_or xs k x).value.edges.items)

  -- ---- lots that made their step

  module _ {lent xs : List (Box Lot)} (ys : List (Box Lot)) (d : AreDelivered level lent xs) (b : StepBasis) (coarse : Option Held) (of_b : IsBasisOf s.problem s.whole coarse b) (coarser : old_masses coarse ≡ old) (ws : List Work) (raw : ArePieces b s.level Step xs ws)
      (count : length ys ≡ length xs) (done : (k : ℕ) (w : Work) (x : Box Lot) → k < length xs → IsDone (get_or ws k w) (get_or ys k x)) where
    a_piece : (k : ℕ) → k < runs → Work
    a_piece k lt = nth ws k (omega (arith, lt, raw.count, d.all.lots.count))

    module _ (k : ℕ) (x : Box Lot) (lt : k < runs) where
      abbrev w : Work
      w = get_or ws k (a_piece k lt)

      there : k < length xs
      there = omega (arith, lt, d.all.lots.count)

      one : IsPiece b s.level Step k (get_or xs k x) w
      one = raw.each k x (a_piece k lt) there

      last : IsDone w (get_or ys k x)
      last = done k (a_piece k lt) x there

      abbrev v : Work
      v = last.piece

      under : IsUnderWay w v
      under = subst (λ (duty : Duty). StandsForIn duty w v) one.of_duty last.stands.does

      flux_is : flux w ≡ e
      flux_is = (λ i. fluxes_of (one.of_basis i) (one.of_level i)) ∙ (λ i. flux_at (of_b.problem i) s.level (masses_in (of_b.patches i)) ((of_b.coarser ∙ coarser) i))

      patches_are : patches_of w ≡ run t.each k s.patches
      patches_are = ap (λ (z : Box Lot). z.value.patches.items) one.of_lot ∙ d.all.patches k x lt

      problem_is : w.basis.value.problem.value ≡ s.problem
      problem_is = (λ i. (one.of_basis i).problem.value) ∙ of_b.problem

      masses_are : masses_of w.basis.value ≡ masses_in s.whole
      masses_are = (λ i. masses_of (one.of_basis i)) ∙ (λ i. masses_in (of_b.patches i))

      coarser_is : coarser_of w.basis.value ≡ old
      coarser_is = (λ i. coarser_of (one.of_basis i)) ∙ of_b.coarser ∙ coarser

      -- its lot
      at_lot : (F : Lot → Type 0) → F v.lot.value → F (get_or ys k x).value
      at_lot F h = subst (λ (z : Box Lot). F z.value) (sym last.lot) h

      now_stepped : AllZip (IsStepped e) (run t.each k s.patches) (get_or ys k x).value.patches.items
      now_stepped = at_lot (λ z. AllZip (IsStepped e) (run t.each k s.patches) z.patches.items) (subst (λ f. AllZip (IsStepped f) (run t.each k s.patches) (patches_of v)) flux_is (subst (λ rs. AllZip (IsStepped (flux w)) rs (patches_of v)) patches_are (under.finished last.finished)))

      now_packed : AllZip (HasPacked (get_or ys k x).value.patches.items) (get_or xs k x).value.workspace.outbox.items (get_or ys k x).value.workspace.outbox.items
      now_packed = at_lot (λ z. AllZip (HasPacked z.patches.items) (get_or xs k x).value.workspace.outbox.items z.workspace.outbox.items)
          (subst (λ (z : Box Lot). AllZip (HasPacked (patches_of v)) z.value.workspace.outbox.items v.lot.value.workspace.outbox.items) one.of_lot (under.sent last.finished))

      now_valued : HasValuesBy s.problem s.level old (get_or ys k x).value.workspace.outer
      now_valued = at_lot (λ z. HasValuesBy s.problem s.level old z.workspace.outer)
          (subst (λ n. HasValuesBy s.problem s.level n v.lot.value.workspace.outer) coarser_is (subst (λ n. HasValuesBy s.problem n (coarser_of w.basis.value) v.lot.value.workspace.outer) one.of_level (subst (λ o. HasValuesBy o w.level (coarser_of w.basis.value) v.lot.value.workspace.outer) problem_is under.values)))

      now_plan : KeepsPlan (get_or xs k x).value.workspace (get_or ys k x).value.workspace
      now_plan = at_lot (λ z. KeepsPlan (get_or xs k x).value.workspace z.workspace) (subst (λ (z : Box Lot). KeepsPlan z.value.workspace v.lot.value.workspace) one.of_lot (plan_stepped w.lot.value.workspace v.lot.value.workspace under.layout under.places))

      now_inbox : (get_or ys k x).value.workspace.inbox ≡ (get_or xs k x).value.workspace.inbox
      now_inbox = at_lot (λ z. z.workspace.inbox ≡ (get_or xs k x).value.workspace.inbox) (under.layout.inbox ∙ ap (λ (z : Box Lot). z.value.workspace.inbox) one.of_lot)

      now_before : (get_or ys k x).value.before ≡ (get_or xs k x).value.before
      now_before = at_lot (λ z. z.before ≡ (get_or xs k x).value.before) (under.before ∙ ap (λ (z : Box Lot). z.value.before) one.of_lot)

      -- the lists of register cells
      nets : HasFoundNets w v
      nets = under.edges

      edges_are : w.lot.value.edges ≡ (get_or lent k x).value.edges
      edges_are = ap (λ (z : Box Lot). z.value.edges) one.of_lot ∙ d.all.edges k x lt

    pub made : HaveMade ys
    made = record {
      count = count ∙ d.all.lots.count;
      of = λ k x lt. still_workspace level (d.all.lots.of k x lt) (get_or ys k x).value.workspace (now_plan k x lt)
          (box_packed (d.all.lots.of k x lt).serves.outbox (get_or ys k x).value.patches.items (get_or ys k x).value.workspace.outbox.items lt (now_packed k x lt))
          (same_inbox (d.all.lots.of k x lt).serves (get_or ys k x).value.workspace (now_plan k x lt) (now_inbox k x lt));
      valued = now_valued;
      before = λ k x lt. (λ i. length (now_before k x lt i).items) ∙ d.all.lots.before k x lt;
      stepped = now_stepped;
      packed = λ k x lt. all_packed (get_or ys k x).value.patches.items (get_or xs k x).value.workspace.outbox.items (get_or ys k x).value.workspace.outbox.items (now_packed k x lt);
    }

    pub made_flows : HaveFlows lent ys
    made_flows = record {
      same = λ k x lt. at_lot k x lt (λ z. SameEdges (lists_of (get_or lent k x).value.edges.items) (lists_of z.edges.items)) (subst (λ (es : Vec (Vec EdgeCell)). SameEdges (lists_of es.items) (lists_of (v k x lt).lot.value.edges.items)) (edges_are k x lt) (nets k x lt).same);
      small = λ k x lt. at_lot k x lt (λ z. All (All IsSmallNet) (lists_of z.edges.items)) (nets k x lt).small;
      nets = λ fine k x lt edges.
          let own : AreEdges (domain (w k x lt).basis.value.problem.value (w k x lt).level) (masses_of (w k x lt).basis.value) fine (lists_of (w k x lt).lot.value.edges.items) =
          subst (λ (o : Problem). AreEdges (domain o (w k x lt).level) (masses_of (w k x lt).basis.value) fine (lists_of (w k x lt).lot.value.edges.items)) (sym (problem_is k x lt))
          (subst (λ n. AreEdges (domain s.problem n) (masses_of (w k x lt).basis.value) fine (lists_of (w k x lt).lot.value.edges.items)) (sym (one k x lt).of_level)
          (subst (λ (m : Masses). AreEdges (domain s.problem s.level) m fine (lists_of (w k x lt).lot.value.edges.items)) (sym (masses_are k x lt))
          (subst (λ (es : Vec (Vec EdgeCell)). AreEdges (domain s.problem s.level) (masses_in s.whole) fine (lists_of es.items)) (sym (edges_are k x lt)) edges))) in
          let found = (nets k x lt).nets fine own in
          at_lot k x lt (λ z. All (All (λ (c : EdgeCell). c.net ≡ net (edge_flows s.problem s.level (masses_in s.whole) old fine) c.cell)) (lists_of z.edges.items))
          (subst (λ (m : Masses). All (All (λ (c : EdgeCell). c.net ≡ net (edge_flows s.problem s.level (masses_in s.whole) m fine) c.cell)) (lists_of (v k x lt).lot.value.edges.items)) (coarser_is k x lt)
          (subst (λ (m : Masses). All (All (λ (c : EdgeCell). c.net ≡ net (edge_flows s.problem s.level m (coarser_of (w k x lt).basis.value) fine) c.cell)) (lists_of (v k x lt).lot.value.edges.items)) (masses_are k x lt)
          (subst (λ n. All (All (λ (c : EdgeCell). c.net ≡ net (edge_flows s.problem n (masses_of (w k x lt).basis.value) (coarser_of (w k x lt).basis.value) fine) c.cell)) (lists_of (v k x lt).lot.value.edges.items)) (one k x lt).of_level
          (subst (λ (o : Problem). All (All (λ (c : EdgeCell). c.net ≡ net (edge_flows o (w k x lt).level (masses_of (w k x lt).basis.value) (coarser_of (w k x lt).basis.value) fine) c.cell)) (lists_of (v k x lt).lot.value.edges.items)) (problem_is k x lt) found))));
    }

  -- ---- the lists of register cells taken back

  pub lent_made : {xs ys : List (Box Lot)} {es ds : List (Vec EdgeCell)} → HaveMade xs → AreLent t.each es ds xs ys → HaveMade ys
  lent_made {xs = xs} {ys = ys} h g = record {
    count = sym (length_all_zip KeepAllButEdges xs ys g.others) ∙ h.count;
    of = λ k x lt. still_workspace level (h.of k x lt) (get_or ys k x).value.workspace (plan k x lt) (same_outbox (h.of k x lt).serves (get_or ys k x).value.workspace (plan k x lt) (ap (λ (z : Lot). z.workspace.outbox) (one k x lt))) (same_inbox (h.of k x lt).serves (get_or ys k x).value.workspace (plan k x lt) (ap (λ (z : Lot). z.workspace.inbox) (one k x lt)));
    valued = λ k x lt. subst (λ (z : Lot). HasValuesBy s.problem s.level old z.workspace.outer) (sym (one k x lt)) (h.valued k x lt);
    before = λ k x lt. ap (λ (z : Lot). length z.before.items) (one k x lt) ∙ h.before k x lt;
    stepped = λ k x lt. subst (λ (z : Lot). AllZip (IsStepped e) (run t.each k s.patches) z.patches.items) (sym (one k x lt)) (h.stepped k x lt);
    packed = λ k x lt. subst (λ (z : Lot). All (IsPackedFrom z.patches.items) z.workspace.outbox.items) (sym (one k x lt)) (h.packed k x lt);
  }
    where
      one : (k : ℕ) (x : Box Lot) → k < runs → KeepAllButEdges (get_or xs k x) (get_or ys k x)
      one k x lt = AllZip-get_or KeepAllButEdges xs ys k x x g.others (omega (arith, lt, h.count))

      plan : (k : ℕ) (x : Box Lot) → k < runs → KeepsPlan (get_or xs k x).value.workspace (get_or ys k x).value.workspace
      plan k x lt = plan_lent (get_or xs k x) (get_or ys k x) (one k x lt)

  -- ---- the patches taken back

  module _ {xs : List (Box Lot)} (h : HaveMade xs) where
    module _ (zs : List Patch) (as_many : length zs ≡ length s.patches) (back : (k : ℕ) (x : Box Lot) → k < length xs → run t.each k zs ≡ (get_or xs k x).value.patches.items) where
      run_stepped : (k : ℕ) (x : Box Lot) → k < runs → AllZip (IsStepped e) (run t.each k s.patches) (run t.each k zs)
      run_stepped k x lt = subst (AllZip (IsStepped e) (run t.each k s.patches)) (sym (back k x (omega (arith, lt, h.count)))) (h.stepped k x lt)

      a_lot : (k : ℕ) → k < runs → Box Lot
      a_lot k lt = nth t.lots.items k lt

      -- they have made the step
      pub all_stepped : AllZip (IsStepped (flux_at s.problem s.level (masses_in s.whole) old)) s.patches zs
      all_stepped = zip_runs t.each runs level.lots.some s.patches level.lots.enough (IsStepped e) zs (sym as_many) (λ k lt. run_stepped k (a_lot k lt) lt)

      same_boxes : map box zs ≡ map box s.patches
      same_boxes = boxes_of_zip (IsStepped e) (λ q r h. h.of_box) s.patches zs all_stepped

      run_boxes : (k : ℕ) → map box (run t.each k s.patches) ≡ map box (run t.each k zs)
      run_boxes k = map_run box t.each k s.patches ∙ ap (λ (bs : List Extent). run t.each k bs) (sym same_boxes) ∙ sym (map_run box t.each k zs)

      -- the lots with the patches that they had before
      module _ {ds : List Patch} {last : List (Box Lot)} (same : length ds ≡ length s.patches) (g : AreHanded t.each ds xs last) where
        last_count : length last ≡ runs
        last_count = sym (length_all_zip KeepOthers xs last g.others) ∙ h.count

        one_last : (k : ℕ) (x : Box Lot) → k < runs → KeepOthers (get_or xs k x) (get_or last k x)
        one_last k x lt = AllZip-get_or KeepOthers xs last k x x g.others (omega (arith, lt, h.count))

        plan_last : (k : ℕ) (x : Box Lot) → k < runs → KeepsPlan (get_or xs k x).value.workspace (get_or last k x).value.workspace
        plan_last k x lt = plan_handed (get_or xs k x) (get_or last k x) (one_last k x lt)

        last_of : (k : ℕ) (x : Box Lot) → k < runs → IsWorkspaceOf s t.each k runs parts (get_or last k x).value.workspace
        last_of k x lt = still_workspace level (h.of k x lt) (get_or last k x).value.workspace (plan_last k x lt) (same_outbox (h.of k x lt).serves (get_or last k x).value.workspace (plan_last k x lt) (ap (λ (z : Lot). z.workspace.outbox) (one_last k x lt)))
            (same_inbox (h.of k x lt).serves (get_or last k x).value.workspace (plan_last k x lt) (ap (λ (z : Lot). z.workspace.inbox) (one_last k x lt)))

        pub last_valued : All (λ (x : Box Lot). HasValuesBy s.problem s.level old x.value.workspace.outer) last
        last_valued = λ k x lt. let below : k < runs = omega (arith, lt, last_count) in subst (λ (z : Lot). HasValuesBy s.problem s.level old z.workspace.outer) (sym (one_last k x below)) (h.valued k x below)

        -- what they packed are the new masses
        pub carried : CarryMasses (masses_in zs) last
        carried = λ k x lt i m below.
            let there : k < runs = omega (arith, lt, last_count) in
            let b : Lot = (get_or last k x).value in
            let y : Message = get_or b.workspace.outbox.items i m in
            let packed : All (IsPackedFrom (run t.each k zs)) b.workspace.outbox.items =
            subst (λ (z : Lot). All (IsPackedFrom (run t.each k zs)) z.workspace.outbox.items) (sym (one_last k x there))
            (subst (λ rs. All (IsPackedFrom rs) (get_or xs k x).value.workspace.outbox.items) (sym (back k x (omega (arith, there, h.count)))) (h.packed k x there)) in
            let takes : All (λ (m : Message). All (IsTaken (run t.each k zs)) m.copies.items × HasPlaces m) b.workspace.outbox.items =
            box_copies (last_of k x there).serves.outbox (IsTaken (run t.each k zs)) b.workspace.copies (λ j to n c under. taken_of_boxes (run t.each k s.patches) (run t.each k zs) (run_boxes k) _ (taken level k j b.workspace.copies there to n c under)) in
            packed_carries t.each k zs (run t.each k zs) (apart_alike s.patches zs same_boxes level.may.once) (run_is t.each k zs) y.copies.items y.masses.items (takes i m below).0 (packed i m below)

        -- and they are the lots of the level again
        pub lot_again : AreSeveralLots s parts t → HaveNoEdges level last → (k : ℕ) (x : Box Lot) → k < runs → IsLotOf s t.each k runs parts (get_or last k x).value
        lot_again several none k x lt = record {
          serves = (last_of k x lt).serves;
          words = (last_of k x lt).words;
          layouts = (last_of k x lt).layouts;
          others = record {
            count = ap length (g.patches k x (omega (arith, lt, h.count))) ∙ same_run t.each k ds s.patches same;
            before = ap (λ (z : Lot). length z.before.items) (one_last k x lt) ∙ h.before k x lt;
            edges = none.count k x lt;
            no_edges = none.empty k x lt;
          };
        }
