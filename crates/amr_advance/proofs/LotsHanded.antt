-- The lots of a level at the start of its step: each is handed its run of the patches and of the lists of register cells.
use Rattle.std.proofs.Common.{◌≡◌, ◌∙◌, ℕ, zero, suc, ◌+◌, ◌*◌, ◌<◌, List, length, get_or, map, refl, sym, ap, subst, arith}
use Rattle.std.specs.Global.{Box, Vec}
use Rattle.std.specs.List.{All, AllZip}
use Rattle.std.specs.Vec.{with_items}
use Rattle.std.proofs.lemmas.List.{length-map, with_items_is}
use Rattle.std.proofs.lemmas.List.Elements.{AllZip-get_or, length_all_zip}
use Rattle.amr_def.specs.State.{Masses}
use Rattle.amr_patch.specs.declared.patches.Patch.{Patch}
use Rattle.amr_patch.specs.Patches.{box}
use Rattle.amr_ghost.specs.GhostCells.{KeepsCells}
use Rattle.amr_ghost.specs.Messages.{AreMessagesTo, CarriesMasses}
use Rattle.amr_ghost.specs.declared.parts.FrameParts.{FrameParts}
use Rattle.amr_ghost.proofs.Zips.{keeps_refl, zip_refl}
use Rattle.amr_layout.specs.Surroundings.{Around}
use Rattle.amr_register.specs.declared.edges.EdgeCell.{EdgeCell}
use Rattle.amr_register.specs.EdgeCells.{AreEdgesIn, lists_of}
use Rattle.amr_lots.specs.declared.lot.Lot.{Lot}
use Rattle.amr_lots.specs.declared.lot.Workspace.{Workspace}
use Rattle.amr_lots.specs.FrameValues.{HasValuesOrLevel}
use Rattle.amr_lots.specs.Runs.{HasBoxes, KeepAllButEdges, KeepAllButMessages, KeepOthers, run}
use Rattle.amr_advance.specs.declared.lots.Lots.{Lots}
use Rattle.amr_advance.specs.Cuts.{IsWorkspaceOf}
use Rattle.amr_advance.specs.Lots.{AreSeveralLots, CarryMasses, AreMessagesOf}
use Rattle.amr_advance.specs.Registers.{AreEdgesFor}
use Rattle.amr_advance.specs.Handed.{AreExchanged, AreHanded, AreLent}
use Rattle.amr_advance.proofs.Boxes.{IsPackedFrom}
use Rattle.amr_advance.proofs.InLots.{IsInStep}
use Rattle.amr_advance.proofs.LentEdges.{AreEmpty, as_many, empty_in, run_in}
use Rattle.amr_advance.proofs.RunLists.{same_run}
use Rattle.amr_advance.proofs.Served.{KeepsPlan, plan_handed, plan_lent, same_inbox, same_outbox, still_layouts, still_serves, still_words}

-- so where the lots of a vector are lent
new_items : (v : Vec (Box Lot)) (lent xs : List (Box Lot)) → lent ≡ v.items → length lent ≡ length xs → (with_items v xs).items ≡ xs
new_items v lent xs is same = with_items_is v xs (let e : length lent ≡ length v.items = ap length is in omega (arith, e, same, v.ok.0))

pub when_lent : (R : List (Box Lot) → List (Box Lot) → Type 0) (v : Vec (Box Lot)) (lent xs : List (Box Lot)) → lent ≡ v.items → length lent ≡ length xs → R lent xs → R v.items (with_items v xs).items
when_lent R v lent xs is same h = subst (λ ys. R ys (with_items v xs).items) is (subst (R lent) (sym (new_items v lent xs is same)) h)

pub all_handed : (each : ℕ) (qs : List Patch) (v : Vec (Box Lot)) (lent xs : List (Box Lot)) → lent ≡ v.items → AreHanded each qs lent xs → AreHanded each qs v.items (with_items v xs).items
all_handed each qs v lent xs is h = when_lent (AreHanded each qs) v lent xs is (length_all_zip KeepOthers lent xs h.others) h

pub all_lent : (each : ℕ) (es ds : List (Vec EdgeCell)) (v : Vec (Box Lot)) (lent xs : List (Box Lot)) → lent ≡ v.items → AreLent each es ds lent xs → AreLent each es ds v.items (with_items v xs).items
all_lent each es ds v lent xs is h = when_lent (AreLent each es ds) v lent xs is (length_all_zip KeepAllButEdges lent xs h.others) h

pub all_exchanged : (v : Vec (Box Lot)) (lent xs : List (Box Lot)) → lent ≡ v.items → AreExchanged lent xs → AreExchanged v.items (with_items v xs).items
all_exchanged v lent xs is h = when_lent AreExchanged v lent xs is (length_all_zip KeepAllButMessages lent xs h.others) h

-- ---- the lots of a level, up to where they make their step

module _ {s : Around} {old : Masses} {t : Lots} (level : IsInStep s old t) where
  abbrev runs : ℕ
  runs = length t.lots.items

  abbrev parts : FrameParts
  parts = level.lots.parts

  pub same_patches : AllZip KeepsCells s.patches s.patches
  same_patches = zip_refl KeepsCells keeps_refl s.patches

  -- lots, one for each run, each with the values of its outer ghost cells or a level by which it can find them
  pub record AreRunLots (xs : List (Box Lot)) : Type 0 where
    pub count : length xs ≡ runs
    pub of : (k : ℕ) (x : Box Lot) → k < runs → IsWorkspaceOf s t.each k runs parts (get_or xs k x).value.workspace
    pub values : (k : ℕ) (x : Box Lot) → k < runs → HasValuesOrLevel s.problem s.level old (get_or xs k x).value.workspace.outer
    pub before : (k : ℕ) (x : Box Lot) → k < runs → length (get_or xs k x).value.before.items ≡ length (run t.each k s.patches)

  -- each with its run of the patches, and the lists of register cells of these lots
  pub record HaveRuns (lent xs : List (Box Lot)) : Type 0 where
    pub lots : AreRunLots xs
    pub patches : (k : ℕ) (x : Box Lot) → k < runs → (get_or xs k x).value.patches.items ≡ run t.each k s.patches
    pub edges : (k : ℕ) (x : Box Lot) → k < runs → (get_or xs k x).value.edges ≡ (get_or lent k x).value.edges

  -- and masses of it packed for the others
  pub record AreSentFrom (lent xs : List (Box Lot)) : Type 0 where
    pub all : HaveRuns lent xs
    pub packed : (k : ℕ) (x : Box Lot) → k < runs → All (IsPackedFrom (run t.each k s.patches)) (get_or xs k x).value.workspace.outbox.items

  -- lots that have what they need for their step
  pub record AreDelivered (lent xs : List (Box Lot)) : Type 0 where
    pub all : HaveRuns lent xs
    pub messages : (k : ℕ) (x : Box Lot) → k < runs → AreMessagesTo parts t.each runs k s.patches (get_or xs k x).value.workspace.inbox.items

  -- lots with empty lists of register cells, one for each patch
  pub record HaveNoEdges (xs : List (Box Lot)) : Type 0 where
    pub count : (k : ℕ) (x : Box Lot) → k < runs → length (get_or xs k x).value.edges.items ≡ length (run t.each k s.patches)
    pub empty : (k : ℕ) (x : Box Lot) → k < runs → AreEmpty (get_or xs k x).value.edges.items

  -- lots with lists that have cells of their patches
  abbrev pub HaveLists : List (Box Lot) → Type 0
  HaveLists lent = (k : ℕ) (x : Box Lot) → k < runs → AllZip AreEdgesIn (map box (run t.each k s.patches)) (lists_of (get_or lent k x).value.edges.items)

  -- each has a message for each, and one from each
  pub boxes : (xs : List (Box Lot)) → AreRunLots xs → All (HasBoxes (length xs)) xs
  boxes xs lots = λ k x lt. let of = (lots.of k x (omega (arith, lt, lots.count))).serves in (of.outbox.count ∙ sym lots.count, of.inbox.count ∙ sym lots.count)

  -- a workspace that keeps what it was made with, and has messages of the same copies
  pub still_workspace : {a : Workspace} {k : ℕ} → IsWorkspaceOf s t.each k runs parts a → (b : Workspace) → KeepsPlan a b → AreMessagesOf parts (λ u. k * runs + u) k runs b.outbox.items → AreMessagesOf parts (λ u. u * runs + k) k runs b.inbox.items → IsWorkspaceOf s t.each k runs parts b
  still_workspace of b plan outbox inbox = record { serves = still_serves of.serves b plan outbox inbox; words = still_words b plan of.words; layouts = still_layouts b plan of.layouts }

  -- and so all
  pub still_lots : (xs ys : List (Box Lot)) → AreRunLots xs → length xs ≡ length ys → ((k : ℕ) (x : Box Lot) → k < runs → KeepsPlan (get_or xs k x).value.workspace (get_or ys k x).value.workspace) → ((k : ℕ) (x : Box Lot) → k < runs → (get_or ys k x).value.workspace.outer ≡ (get_or xs k x).value.workspace.outer)
      → ((k : ℕ) (x : Box Lot) → k < runs → (get_or ys k x).value.before ≡ (get_or xs k x).value.before)
      → ((k : ℕ) (x : Box Lot) → k < runs → AreMessagesOf parts (λ u. k * runs + u) k runs (get_or ys k x).value.workspace.outbox.items) → ((k : ℕ) (x : Box Lot) → k < runs → AreMessagesOf parts (λ u. u * runs + k) k runs (get_or ys k x).value.workspace.inbox.items) → AreRunLots ys
  still_lots xs ys lots same plan outer before outbox inbox = record {
    count = sym same ∙ lots.count;
    of = λ k x lt. still_workspace (lots.of k x lt) (get_or ys k x).value.workspace (plan k x lt) (outbox k x lt) (inbox k x lt);
    values = λ k x lt. subst (HasValuesOrLevel s.problem s.level old) (sym (outer k x lt)) (lots.values k x lt);
    before = λ k x lt. (λ i. length (before k x lt i).items) ∙ lots.before k x lt;
  }

  -- ---- at the start

  module _ (several : AreSeveralLots s parts t) (ready : All (λ (x : Box Lot). HasValuesOrLevel s.problem s.level old x.value.workspace.outer) t.lots.items) where
    pub first_lots : AreRunLots t.lots.items
    first_lots = record {
      count = refl;
      of = λ k x lt. let of = several.lots k x lt in record { serves = of.serves; words = of.words; layouts = of.layouts };
      values = λ k x lt. ready k x lt;
      before = λ k x lt. (several.lots k x lt).others.before;
    }

    pub first_empty : HaveNoEdges t.lots.items
    first_empty = record { count = λ k x lt. (several.lots k x lt).others.edges; empty = λ k x lt. (several.lots k x lt).others.no_edges }

    -- they may be handed as many patches
    pub first_counts : (k : ℕ) (x : Box Lot) → k < length t.lots.items → length (get_or t.lots.items k x).value.patches.items ≡ length (run t.each k s.patches)
    first_counts k x lt = (several.lots k x lt).others.count

  -- ---- their patches

  -- lots that are handed patches stay such
  module _ {xs ys : List (Box Lot)} (lots : AreRunLots xs) {ds : List Patch} (h : AreHanded t.each ds xs ys) where
    pub one_handed : (k : ℕ) (x : Box Lot) → k < runs → KeepOthers (get_or xs k x) (get_or ys k x)
    one_handed k x lt = AllZip-get_or KeepOthers xs ys k x x h.others (omega (arith, lt, lots.count))

    workspace_handed : (k : ℕ) (x : Box Lot) → k < runs → (get_or ys k x).value.workspace ≡ (get_or xs k x).value.workspace
    workspace_handed k x lt = ap (λ (z : Lot). z.workspace) (one_handed k x lt)

    pub handed_lots : AreRunLots ys
    handed_lots =
        still_lots xs ys lots (length_all_zip KeepOthers xs ys h.others) (λ k x lt. plan_handed (get_or xs k x) (get_or ys k x) (one_handed k x lt))
        (λ k x lt. ap (λ (z : Workspace). z.outer) (workspace_handed k x lt)) (λ k x lt. ap (λ (z : Lot). z.before) (one_handed k x lt))
        (λ k x lt. same_outbox (lots.of k x lt).serves (get_or ys k x).value.workspace (plan_handed (get_or xs k x) (get_or ys k x) (one_handed k x lt)) (ap (λ (z : Workspace). z.outbox) (workspace_handed k x lt)))
        (λ k x lt. same_inbox (lots.of k x lt).serves (get_or ys k x).value.workspace (plan_handed (get_or xs k x) (get_or ys k x) (one_handed k x lt)) (ap (λ (z : Workspace). z.inbox) (workspace_handed k x lt)))

    pub handed_empty : HaveNoEdges xs → HaveNoEdges ys
    handed_empty none = record {
      count = λ k x lt. ap (λ (z : Lot). length z.edges.items) (one_handed k x lt) ∙ none.count k x lt;
      empty = λ k x lt. subst (λ (z : Lot). AreEmpty z.edges.items) (sym (one_handed k x lt)) (none.empty k x lt);
    }

    handed_carried : (M : Masses) (k : ℕ) (x : Box Lot) → k < runs → All (CarriesMasses M) (get_or xs k x).value.workspace.outbox.items → All (CarriesMasses M) (get_or ys k x).value.workspace.outbox.items
    handed_carried M k x lt carried = subst (λ (z : Workspace). All (CarriesMasses M) z.outbox.items) (sym (workspace_handed k x lt)) carried

  -- ---- their lists of register cells

  module _ {xs ys : List (Box Lot)} (lots : AreRunLots xs) {es ds : List (Vec EdgeCell)} (h : AreLent t.each es ds xs ys) where
    pub one_lent : (k : ℕ) (x : Box Lot) → k < runs → KeepAllButEdges (get_or xs k x) (get_or ys k x)
    one_lent k x lt = AllZip-get_or KeepAllButEdges xs ys k x x h.others (omega (arith, lt, lots.count))

    pub workspace_lent : (k : ℕ) (x : Box Lot) → k < runs → (get_or ys k x).value.workspace ≡ (get_or xs k x).value.workspace
    workspace_lent k x lt = ap (λ (z : Lot). z.workspace) (one_lent k x lt)

    pub lent_lots : AreRunLots ys
    lent_lots =
        still_lots xs ys lots (length_all_zip KeepAllButEdges xs ys h.others) (λ k x lt. plan_lent (get_or xs k x) (get_or ys k x) (one_lent k x lt))
        (λ k x lt. ap (λ (z : Workspace). z.outer) (workspace_lent k x lt)) (λ k x lt. ap (λ (z : Lot). z.before) (one_lent k x lt))
        (λ k x lt. same_outbox (lots.of k x lt).serves (get_or ys k x).value.workspace (plan_lent (get_or xs k x) (get_or ys k x) (one_lent k x lt)) (ap (λ (z : Workspace). z.outbox) (workspace_lent k x lt)))
        (λ k x lt. same_inbox (lots.of k x lt).serves (get_or ys k x).value.workspace (plan_lent (get_or xs k x) (get_or ys k x) (one_lent k x lt)) (ap (λ (z : Workspace). z.inbox) (workspace_lent k x lt)))

    -- where they had none, they have those of the level, if it has any
    module _ (none : HaveNoEdges xs) (fit : AreEdgesFor (map box s.patches) (lists_of es)) where
      pub lent_lists : HaveLists ys
      lent_lists k x lt = by_count (length es) refl
        where
          by_count : (n : ℕ) → length es ≡ n → AllZip AreEdgesIn (map box (run t.each k s.patches)) (lists_of (get_or ys k x).value.edges.items)
          by_count zero e =
              subst (λ (zs : List (Box Lot)). AllZip AreEdgesIn (map box (run t.each k s.patches)) (lists_of (get_or zs k x).value.edges.items)) (sym (h.none e))
              (empty_in (map box (run t.each k s.patches)) (get_or xs k x).value.edges.items (none.count k x lt ∙ sym (length-map (run t.each k s.patches) box)) (none.empty k x lt))
          by_count (suc n) e =
              let some : 0 < length es = omega (arith, e) in
              subst (λ vs. AllZip AreEdgesIn (map box (run t.each k s.patches)) (lists_of vs)) (sym (h.handed some k x (omega (arith, lt, lots.count)))) (run_in t.each s.patches es fit some k)

  -- lots that have none have room for one list for each patch, if the level has any
  pub list_counts : {xs : List (Box Lot)} (es : List (Vec EdgeCell)) → AreRunLots xs → HaveNoEdges xs → AreEdgesFor (map box s.patches) (lists_of es) → 0 < length es → (k : ℕ) (x : Box Lot) → k < length xs → length (get_or xs k x).value.edges.items ≡ length (run t.each k es)
  list_counts es lots none fit some k x lt = none.count k x (omega (arith, lt, lots.count)) ∙ sym (same_run t.each k es s.patches (as_many t.each s.patches es fit some))

  -- ---- all of it before they are served

  module _ {first handed lent : List (Box Lot)} (lots : AreRunLots first) (h : AreHanded t.each s.patches first handed) {es ds : List (Vec EdgeCell)} (g : AreLent t.each es ds handed lent) where
    pub now_handed : AreRunLots handed
    now_handed = handed_lots lots h

    pub lent_runs : HaveRuns lent lent
    lent_runs = record {
      lots = lent_lots now_handed g;
      patches = λ k x lt. ap (λ (z : Lot). z.patches.items) (one_lent now_handed g k x lt) ∙ h.patches k x (let n = lots.count in omega (arith, lt, n));
      edges = λ k x lt. refl;
    }

    -- what their messages carry stays
    pub still_carried : (M : Masses) → CarryMasses M first → CarryMasses M lent
    still_carried M carried = λ k x lt.
        let n = lent_runs.lots.count in
        let below : k < runs = omega (arith, lt, n) in
        subst (λ (z : Workspace). All (CarriesMasses M) z.outbox.items) (sym (workspace_lent now_handed g k x below)) (handed_carried lots h M k x below (carried k x (let m = lots.count in omega (arith, below, m))))
