-- The step of a level by the lot that is all of it.
use Rattle.std.proofs.Common.{◌≡◌, ◌∙◌, ℕ, ◌<◌, true, List, [], ◌∷◌, length, get_or, map, set, refl, sym, ap, subst, arith, zero, suc, ◌+◌, ◌*◌, ◌-◌, drop}
use Rattle.std.specs.Box.{with_value}
use Rattle.std.specs.Global.{Box, Vec}
use Rattle.std.specs.List.{All, AllZip}
use Rattle.std.specs.Vec.{with_item}
use Rattle.std.specs.Prelude.{slice_index}
use Rattle.std.proofs.lemmas.List.{ext_get_or, get_or-map, length-map}
use Rattle.std.proofs.lemmas.List.Elements.{All-drop, All-take, AllZip-get_or, length_all_zip}
use Rattle.std.proofs.lemmas.List.FromFn.{get_or-map-range_with_len, length-map-range_with_len}
use Rattle.amr_def.specs.State.{Masses}
use Rattle.amr_def.specs.Flux.{Fluxes, flux_at}
use Rattle.amr_layout.specs.Surroundings.{Around}
use Rattle.amr_layout.specs.declared.FlowTo.{FlowTo}
use Rattle.amr_layout.specs.Adds.{flows_of}
use Rattle.amr_layout.specs.LevelFlowLists.{flow_lists, flows_at}
use Rattle.amr_layout.proofs.LevelFlowLists.{flows_here}
use Rattle.amr_layout.proofs.Planned.{nth}
use Rattle.amr_lots.specs.declared.lot.Lot.{Lot}
use Rattle.amr_lots.specs.declared.lot.Workspace.{Workspace}
use Rattle.amr_lots.specs.FrameValues.{HasValuesBy, HasValuesOrLevel, AreFilled, HasFoundOuter}
use Rattle.amr_lots.specs.Ready.{CanStep, HasFlowsIn}
use Rattle.amr_lots.specs.LotSteps.{HasSteppedAlone, HaveEdgeNets}
use Rattle.amr_lots.specs.Lots.{AreEdgeFlows, AreReady, HasStepped, IsStepped, lot_total}
use Rattle.amr_lots.specs.Runs.{run}
use Rattle.amr_patch.specs.declared.patches.Patch.{Patch}
use Rattle.amr_patch.specs.Patches.{box, masses_in}
use Rattle.amr_patch.proofs.Lookups.{same_default}
use Rattle.amr_register.specs.declared.edges.EdgeCell.{EdgeCell}
use Rattle.amr_register.specs.EdgeCells.{lists_of, AreEdgesIn}
use Rattle.amr_register.proofs.EdgeLists.{same_edges, zip_from}
use Rattle.amr_register.proofs.EdgeNets.{nets_are}
use Rattle.amr_advance.specs.declared.lots.Lots.{Lots}
use Rattle.amr_advance.specs.Lots.{AreLots, AreMade, CarryMasses, IsOneLot, IsWholeLot, first_totals, is_one, totals_by, ServesRun}
use Rattle.amr_advance.specs.Registers.{AreEdgesFor}
use Rattle.amr_advance.specs.Steps.{AreTotalsOf, HaveStepped, LotsMadeStep, AreFound}
use Rattle.amr_advance.proofs.InLots.{IsInStep, totals_small, adds, all_inside, all_may, all_owned, all_room, all_show, fs_boxes, fs_count, own_inside, run_flows, steps, totals_are}
use Rattle.amr_advance.proofs.LotsAgain.{lots_again}
use Rattle.amr_flows.specs.Laws.{plain_size}
use Rattle.amr_flows.specs.Words.{level_total}
use Rattle.amr_flux.specs.Rooms.{widest}
use Rattle.amr_ghost.specs.Messages.{AreMessagesTo}
use Rattle.amr_ghost.specs.declared.outer.OuterGhosts.{OuterGhosts}
use Rattle.amr_phase.specs.Plans.{total}
use Rattle.amr_advance.proofs.WholeRun.{alone_carries, one_carries, alone_messages, whole_run}
use Rattle.amr_advance.proofs.Delivered.{can_fill}
use Rattle.amr_advance.proofs.InDomain.{all_lie}
use Rattle.amr_advance.proofs.LentEdges.{all_in}
use Rattle.amr_advance.proofs.Served.{KeepsPlan, still_whole}

-- A level that one lot is all of: the lot's workspace makes its step.

module _ {s : Around} {old : Masses} {t : Lots} (level : IsInStep s old t) (one : IsOneLot s level.lots.parts t) (x0 : Box Lot) where
  abbrev e : Fluxes
  e = flux_at s.problem s.level (masses_in s.whole) old

  abbrev x : Workspace
  x = (get_or t.lots.items 0 x0).value.workspace

  of : IsWholeLot s t.each level.lots.parts (get_or t.lots.items 0 x0).value
  of = one.lot x0

  there : 0 < length t.lots.items
  there = omega (arith, one.one)

  serves : ServesRun s t.each 0 (length t.lots.items) level.lots.parts x
  serves = subst (λ n. ServesRun s t.each 0 n level.lots.parts x) (sym one.one) of.serves

  is_whole : run t.each 0 s.patches ≡ s.patches
  is_whole = whole_run t.each s.patches (let n = level.lots.enough in omega (arith, n, ap (λ m. m * t.each) one.one))

  messages : AreMessagesTo level.lots.parts t.each (length t.lots.items) 0 s.patches x.inbox.items
  messages = subst (λ n. AreMessagesTo level.lots.parts t.each n 0 s.patches x.inbox.items) (sym one.one) (record {
    count = of.serves.inbox.count;
    copies = of.serves.inbox.copies;
    own = of.serves.inbox.own;
    packed = alone_messages of.serves.inbox t.each s.patches;
  })

  abbrev flows : Patch → List FlowTo
  flows q = flows_of s (box q)

  -- its flows, a list for each patch
  lists_are : flow_lists x.flows (length s.patches) ≡ run_flows level 0
  lists_are =
      ext_get_or [] (flow_lists x.flows (length s.patches)) (map flows s.patches) (length-map-range_with_len (flows_at x.flows) 0 (length s.patches) ∙ sym (length-map s.patches flows))
      (λ i lt.
      let below : i < length s.patches = omega (arith, lt, length-map-range_with_len (flows_at x.flows) 0 (length s.patches)) in
      let q : Patch = nth s.patches i below in
      get_or-map-range_with_len (flows_at x.flows) 0 (length s.patches) i i [] below (omega arith) ∙ flows_here s x.flows of.flows i below q ∙ sym (get_or-map flows s.patches i q [] below))
      ∙ ap (map flows) (sym is_whole)

  list_words : (i : ℕ) → All (λ (y : FlowTo). y.word < 2 + 2 * length s.cells) (flows_at x.flows i)
  list_words i = All-take (λ (y : FlowTo). y.word < 2 + 2 * length s.cells) (slice_index x.flows.bounds.items (i + 1) - slice_index x.flows.bounds.items i) (drop (slice_index x.flows.bounds.items i) x.flows.flows.items) (All-drop (λ (y : FlowTo). y.word < 2 + 2 * length s.cells) (slice_index x.flows.bounds.items i) x.flows.flows.items of.words)

  module _ (values : HasValuesOrLevel s.problem s.level old x.outer) where
    module _ (o : OuterGhosts) (fs : List Patch) (found : HasFoundOuter s.problem s.level x.outer o) (filled : AreFilled x o s.patches fs) where
      filled_run : AreFilled x o (run t.each 0 s.patches) fs
      filled_run = subst (λ rs. AreFilled x o rs fs) (sym is_whole) filled

      count_is : length fs ≡ length s.patches
      count_is = fs_count level 0 there x serves messages o found values fs filled_run ∙ ap length is_whole

      -- what all add to a word
      pub word_is : (word : ℕ) → lot_total s.problem s.level fs (flow_lists x.flows (length s.patches)) word ≡ level_total s (plain_size s.problem s.level (masses_in s.whole) old) word
      word_is word = (λ i. lot_total s.problem s.level fs (lists_are i) word) ∙ totals_are level 0 there x serves messages o found values fs filled_run word ∙ ap (total (adds level word)) is_whole

      pub is_ready : AreReady s.problem s.level (widest x.room) (length x.totals.items) fs (flow_lists x.flows (length s.patches))
      is_ready = record {
        count = length-map-range_with_len (flows_at x.flows) 0 (length s.patches) ∙ sym count_is;
        step = all_may level 0 there x serves messages o found values fs filled_run;
        room = all_room level 0 there x serves messages o found values fs filled_run (widest x.room) serves.room;
        flows = subst (AllZip AreEdgeFlows fs) (sym lists_are) (all_owned level 0 there x serves messages o found values fs filled_run);
        words = λ i ys lt. subst (λ (zs : List FlowTo). All (λ (y : FlowTo). y.word < length x.totals.items) zs) (sym (get_or-map-range_with_len (flows_at x.flows) 0 (length s.patches) i i ys (omega (arith, lt, length-map-range_with_len (flows_at x.flows) 0 (length s.patches))) (omega arith)))
            (λ j y below. let r = list_words i j y below in omega (arith, r, of.totals));
        fits = λ word. let r = totals_small level word in omega (arith, word_is word, r);
      }

      pub steps_at : (rs : List Patch) → AllZip (HasStepped s.problem s.level) fs rs → AllZip (IsStepped (flux_at s.problem s.level (masses_in s.whole) old)) s.patches rs
      steps_at rs h = zip_from (IsStepped e) s.patches rs (sym (length_all_zip (HasStepped s.problem s.level) fs rs h) ∙ count_is) (λ i q d lt.
          let below : i < length fs = omega (arith, lt, count_is) in
          let place : 0 * t.each + i ≡ i = omega arith in
          subst (λ (r : Patch). IsStepped e (get_or s.patches i q) r) (same_at i q d (omega (arith, below, length_all_zip (HasStepped s.problem s.level) fs rs h)))
          (subst (λ n. IsStepped e (get_or s.patches n q) (get_or rs i q)) place (steps level 0 there x serves messages o found values fs filled_run i q below (get_or rs i q) (AllZip-get_or (HasStepped s.problem s.level) fs rs i q q h below))))
        where
          same_at : (i : ℕ) (q d : Patch) → i < length rs → get_or rs i q ≡ get_or rs i d
          same_at i q d lt = same_default rs i q d lt

      -- what flows into register cells
      pub found_at : {es ds : List (Vec EdgeCell)} → AreEdgesFor (map box s.patches) (lists_of es) → HaveEdgeNets s.problem s.level fs es ds → AreFound s old (lists_of es) (lists_of ds)
      found_at {es = es} {ds = ds} fit h = by_count (length es) refl
        where
          boxes_in : 0 < length es → AllZip AreEdgesIn (map box fs) (lists_of es)
          boxes_in some = subst (λ bs. AllZip AreEdgesIn bs (lists_of es)) (sym (fs_boxes level 0 there x serves messages o found values fs filled_run ∙ ap (map box) is_whole)) (all_in t.each s.patches es fit some)

          no_lists : (vs : List (Vec EdgeCell)) → length vs ≡ 0 → vs ≡ []
          no_lists [] n = refl
          no_lists (v ∷ vs) n = absurd (omega (arith, n))

          by_count : (n : ℕ) → length es ≡ n → AreFound s old (lists_of es) (lists_of ds)
          by_count zero n =
              let none : es ≡ [] = no_lists es n in
              let after : ds ≡ [] = h.none n ∙ none in
              subst (λ vs. AreFound s old (lists_of vs) (lists_of ds)) (sym none) (subst (λ vs. AreFound s old [] (lists_of vs)) (sym after) (record { same = tt; small = λ k d lt. absurd (omega (arith, lt)); nets = λ fine edges k d lt. absurd (omega (arith, lt)) }))
          by_count (suc m) n =
              let some : 0 < length es = omega (arith, n) in
              record {
                same = same_edges s.problem s.level fs (lists_of es) (lists_of ds) (h.nets some);
                small = h.small;
                nets = λ fine edges. nets_are s.problem s.level (masses_in s.whole) old fine fs (lists_of es) (lists_of ds) (all_show level 0 there x serves messages o found values fs filled_run) (all_inside level 0 there x serves messages o found values fs filled_run) (boxes_in some) edges (h.nets some);
              }

    -- so it may make the step of the level
    pub can_step : {es : List (Vec EdgeCell)} → AreEdgesFor (map box s.patches) (lists_of es) → CanStep s.problem s.level s.patches es x
    can_step {es = es} fit = record {
      inside = all_lie s.problem s.level s.patches (own_inside level);
      fill = can_fill level 0 there x serves s.patches (sym is_whole);
      lists = λ some. all_in t.each s.patches es fit some;
      flows = subst (HasFlowsIn x.flows x.sides.items) is_whole of.serves.flows;
      ready = is_ready;
    }

    -- ---- afterwards

    module _ {es ds : List (Vec EdgeCell)} {rs : List Patch} {after : Workspace} (h : HasSteppedAlone s.problem s.level s.patches es x rs ds after) where
      pub plan_after : KeepsPlan x after
      plan_after = subst (KeepsPlan x) (sym h.begun.others) (record { layouts = refl; flows = refl; sides = refl; words = refl; totals = h.begun.count; copies = refl; spans = h.begun.outer.spans; places = λ q. h.begun.outer.places; room = h.begun.room; sizes = refl })

      pub whole_stepped : AllZip (IsStepped (flux_at s.problem s.level (masses_in s.whole) old)) s.patches rs
      whole_stepped = steps_at after.outer h.filled h.begun.outer h.begun.filled rs h.stepped

      pub whole_found : AreEdgesFor (map box s.patches) (lists_of es) → AreFound s old (lists_of es) (lists_of ds)
      whole_found fit = found_at after.outer h.filled h.begun.outer h.begun.filled fit h.begun.nets

      pub whole_values : HasValuesBy s.problem s.level old after.outer
      whole_values = h.begun.outer.values old values

      pub whole_totals : (word : ℕ) → slice_index after.totals.items word ≡ level_total s (plain_size s.problem s.level (masses_in s.whole) old) word
      whole_totals word = h.begun.totals word ∙ word_is after.outer h.filled h.begun.outer h.begun.filled word

      pub whole_again : (y : Lot) → y.workspace ≡ after → IsWholeLot s t.each level.lots.parts y
      whole_again y is = still_whole of y (subst (KeepsPlan x) (sym is) plan_after) (ap (λ (z : Workspace). z.outbox) (is ∙ h.begun.others)) (ap (λ (z : Workspace). z.inbox) (is ∙ h.begun.others))

set_one : {A : Type 0} (xs : List A) (y : A) → length xs ≡ 1 → set xs 0 y ≡ y ∷ []
set_one [] y e = absurd (omega (arith, e))
set_one (x ∷ []) y e = refl
set_one (x ∷ (z ∷ xs)) y e = absurd (omega (arith, e))

module _ {s : Around} {old : Masses} {t : Lots} (level : IsInStep s old t) (is : is_one t ≡ true) where
  pub one : IsOneLot s level.lots.parts t
  one = subst (λ b. AreMade b s level.lots.parts t) is level.lots.made

  pub some : 0 < length t.lots.items
  some = let n = one.one in omega (arith, n)

  module _ (x0 : Box Lot) (ready : All (λ (x : Box Lot). HasValuesOrLevel s.problem s.level old x.value.workspace.outer) t.lots.items) (lot : Lot) (same : lot ≡ (get_or t.lots.items 0 x0).value) where
    values : HasValuesOrLevel s.problem s.level old (get_or t.lots.items 0 x0).value.workspace.outer
    values = ready 0 x0 some

    pub may_step : {es : List (Vec EdgeCell)} → AreEdgesFor (map box s.patches) (lists_of es) → CanStep s.problem s.level s.patches es lot.workspace
    may_step {es = es} fit = subst (λ (z : Lot). CanStep s.problem s.level s.patches es z.workspace) (sym same) (can_step level one x0 values fit)

    -- lots of which the one is as it was but for its workspace, which is that after the step
    module _ {es ds : List (Vec EdgeCell)} {rs : List Patch} {after : Workspace} (made : HasSteppedAlone s.problem s.level s.patches es lot.workspace rs ds after) where
      abbrev y : Box Lot
      y = with_value x0 (record lot { workspace = after })

      abbrev xs : Vec (Box Lot)
      xs = with_item t.lots 0 y

      now : xs.items ≡ y ∷ []
      now = set_one t.lots.items y one.one

      stepped : HasSteppedAlone s.problem s.level s.patches es (get_or t.lots.items 0 x0).value.workspace rs ds after
      stepped = subst (λ (z : Lot). HasSteppedAlone s.problem s.level s.patches es z.workspace rs ds after) same made

      abbrev u : Lots
      u = record t { lots = xs }

      count : length xs.items ≡ length t.lots.items
      count = ap length now ∙ sym one.one

      again : IsOneLot s level.lots.parts u
      again = record { one = ap length now; lot = λ d. subst (λ (zs : List (Box Lot)). IsWholeLot s t.each level.lots.parts (get_or zs 0 d).value) (sym now) (whole_again level one x0 values stepped y.value refl) }

      lots_now : AreLots s u
      lots_now = lots_again s t xs t.totals t.packed t.valued count level.lots (subst (λ b. AreMade b s level.lots.parts u) (sym is) again)

      have_stepped : HaveStepped s old rs t (record t { lots = with_item t.lots 0 (with_value x0 (record lot { workspace = after })) })
      have_stepped = record {
        lots = lots_now;
        wanted = refl;
        carry = subst (CarryMasses (masses_in rs)) (sym now) (one_carries (masses_in rs) y (alone_carries (whole_again level one x0 values stepped y.value refl).serves.outbox (masses_in rs)));
        values = subst (All (λ (x : Box Lot). HasValuesBy s.problem s.level old x.value.workspace.outer)) (sym now) (λ k d lt. first_values k d lt);
        totals = subst (λ b. AreTotalsOf s old (totals_by b u)) (sym is) (subst (λ (zs : List (Box Lot)). AreTotalsOf s old (first_totals zs)) (sym now)
            (record { are = λ word lt. whole_totals level one x0 values stepped word; small = λ word lt. let a = whole_totals level one x0 values stepped word in let b = totals_small level word in omega (arith, a, b) }));
      }
        where
          first_values : (k : ℕ) (d : Box Lot) → k < 1 → HasValuesBy s.problem s.level old (get_or (y ∷ []) k d).value.workspace.outer
          first_values k d lt = subst (λ n. HasValuesBy s.problem s.level old (get_or (y ∷ []) n d).value.workspace.outer) (let z : 0 ≡ k = omega (arith, lt) in z) (whole_values level one x0 values stepped)

      pub have_made : AreEdgesFor (map box s.patches) (lists_of es) → LotsMadeStep s old rs (lists_of es) (lists_of ds) t (record t { lots = with_item t.lots 0 (with_value x0 (record lot { workspace = after })) })
      have_made fit = record { stepped = whole_stepped level one x0 values stepped; lots = have_stepped; edges = whole_found level one x0 values stepped fit }
