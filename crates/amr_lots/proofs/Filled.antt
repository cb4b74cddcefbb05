-- Frames that are filled: where their outer values come from, and what was worked out by them.
use Rattle.std.proofs.Common.{◌≡◌, ℕ, zero, suc, ◌<◌, ◌==◌, false, true, List, length, get_or, refl, sym, ap, ◌∙◌, subst, arith}
use Rattle.std.specs.Prelude.{is_some, slice_index}
use Rattle.std.specs.declared.option.Option.{Option}
use Rattle.std.specs.declared.option.Option.TheVariants.{None, Some}
use Rattle.std.specs.declared.sync.Arc.{Arc}
use Rattle.std.specs.Global.{Global, Vec}
use Rattle.std.specs.List.{All, AllZip}
use Rattle.std.specs.Vec.{with_items}
use Rattle.std.proofs.lemmas.List.{length-map, with_items_is}
use Rattle.std.proofs.lemmas.List.Elements.{AllZip-get_or, length_all_zip}
use Rattle.amr_box.specs.Cells.{Extent}
use Rattle.amr_def.specs.declared.problem.Problem.{Problem}
use Rattle.amr_def.specs.Domain.{domain}
use Rattle.amr_def.specs.State.{Masses}
use Rattle.amr_def.specs.Value.{value_at}
use Rattle.amr_patch.specs.declared.levels.Level.{Level}
use Rattle.amr_patch.specs.declared.patches.Patch.{Patch}
use Rattle.amr_patch.specs.Patches.{box}
use Rattle.amr_faces.specs.Faces.{IsInDomain}
use Rattle.amr_flux.specs.Rooms.{widest}
use Rattle.amr_ghost.specs.GhostCells.{KeepsCells}
use Rattle.amr_ghost.specs.Frames.{is_of_level, old_masses}
use Rattle.amr_ghost.specs.Outer.{AreOuterFor, HasNoMass, HasOuterPlaces, lent}
use Rattle.amr_ghost.specs.declared.outer.OuterGhosts.{OuterGhosts}
use Rattle.amr_register.specs.declared.edges.EdgeCell.{EdgeCell}
use Rattle.amr_ghost.proofs.Zips.{zip_boxes}
use Rattle.amr_register.specs.EdgeCells.{AreEdgesIn, HaveNets, IsSmallNet, lists_of}
use Rattle.amr_layout.specs.LevelFlowLists.{flows_at}
use Rattle.amr_lots.specs.declared.lot.Workspace.{Workspace}
use Rattle.amr_lots.specs.FrameValues.{AreFilled, FollowFrom, HasFoundOuter, HasValuesBy, with_outer}
use Rattle.amr_layout.specs.LevelFlowLists.{flow_lists}
use Rattle.amr_lots.specs.Lots.{AreReady, LieOn, lot_total}
use Rattle.amr_lots.specs.Ready.{CanStep, HasEdges, HasFlowsIn}
use Rattle.amr_lots.specs.LotSteps.{HasBegun, HaveEdgeNets}

-- ---- outer values

module _ (p : Problem) (l : ℕ) (a : OuterGhosts) where
  -- where no level was lent they were there
  pub found_before : is_some a.coarser ≡ false → HasOuterPlaces a → HasFoundOuter p l a a
  found_before none places = record { spans = refl; coarser = refl; places = places; values = λ old h. by_level old a.coarser refl none h }
    where
      by_level : (old : Masses) (k : Option (Arc Level Global)) → a.coarser ≡ k → is_some k ≡ false → FollowFrom p l old a k → HasValuesBy p l old a
      by_level old None e none h = h
      by_level old (Some level) e none h = absurd (let wrong : true ≡ false = none in cc)

  -- else they were found by it
  pub found_by_level : (b : OuterGhosts) → is_some a.coarser ≡ true → b.spans ≡ a.spans → HasOuterPlaces b → b.coarser ≡ a.coarser
      → ((m : Masses) → All (HasNoMass (domain p l) m) b.spans.items → AreOuterFor (value_at p l m (old_masses (lent a.coarser))) (is_of_level p l m) b) → HasFoundOuter p l a b
  found_by_level b some spans places coarser found = record { spans = spans; coarser = coarser; places = places; values = λ old h m none. by_level old m a.coarser refl some h (found m none) }
    where
      by_level : (old m : Masses) (k : Option (Arc Level Global)) → a.coarser ≡ k → is_some k ≡ true → FollowFrom p l old a k → AreOuterFor (value_at p l m (old_masses (lent a.coarser))) (is_of_level p l m) b → AreOuterFor (value_at p l m old) (is_of_level p l m) b
      by_level old m None e some h found = absurd (let wrong : false ≡ true = some in cc)
      by_level old m (Some level) e some h found = subst (λ (n : Masses). AreOuterFor (value_at p l m n) (is_of_level p l m) b) (ap (λ (k : Option (Arc Level Global)). old_masses (lent k)) e ∙ h) found

-- ---- nets

pub no_lists : (p : Problem) (l : ℕ) (fs : List Patch) (edges : List (Vec EdgeCell)) → length edges ≡ 0 → HaveEdgeNets p l fs edges edges
no_lists p l fs edges none = record {
  none = λ e. refl;
  nets = λ some. absurd (omega (arith, some, none));
  small = λ k d lt. absurd (omega (arith, lt, none, length-map edges (λ (v : Vec EdgeCell). v.items)));
}

pub some_lists : (p : Problem) (l : ℕ) (fs : List Patch) (edges found : List (Vec EdgeCell)) → 0 < length edges → HaveNets p l fs (lists_of edges) (lists_of found) → All (All IsSmallNet) (lists_of found) → HaveEdgeNets p l fs edges found
some_lists p l fs edges found some nets small = record { none = λ e. absurd (omega (arith, some, e)); nets = λ lt. nets; small = small }

-- ---- boxes stay

pub inside_filled : (p : Problem) (l : ℕ) (qs fs : List Patch) → AllZip KeepsCells qs fs → All (λ q. IsInDomain (domain p l) (box q)) qs → All (λ q. IsInDomain (domain p l) (box q)) fs
inside_filled p l qs fs kept inside k q lt =
    let below : k < length qs = omega (arith, lt, length_all_zip KeepsCells qs fs kept) in
    subst (λ (b : Extent). IsInDomain (domain p l) b) (sym (AllZip-get_or KeepsCells qs fs k q q kept below).of_box) (inside k q below)

pub edges_filled : (qs fs : List Patch) (edges : List (Vec EdgeCell)) → AllZip KeepsCells qs fs → HasEdges qs edges → HasEdges fs edges
edges_filled qs fs edges kept has some = subst (λ bs. AllZip AreEdgesIn bs (lists_of edges)) (sym (zip_boxes qs fs kept)) (has some)

-- ---- what follows by them

pub has_begun : (p : Problem) (l : ℕ) (qs fs : List Patch) (edges found : List (Vec EdgeCell)) (s t after : Workspace) → HasFoundOuter p l s.outer t.outer → AreFilled s t.outer qs fs → t ≡ with_outer t.outer s → HaveEdgeNets p l fs edges found
    → widest after.room ≡ widest t.room → length after.totals.items ≡ length t.totals.items → ((word : ℕ) → slice_index after.totals.items word ≡ lot_total p l fs (flow_lists t.flows (length fs)) word) → after ≡ record t { totals = after.totals; room = after.room }
    → HasBegun p l qs fs edges found s after
has_begun p l qs fs edges found s t after outer filled others nets room count totals after_is = record {
  outer = subst (HasFoundOuter p l s.outer) (sym same_outer) outer;
  filled = subst (λ x. AreFilled s x qs fs) (sym same_outer) filled;
  nets = nets;
  room = room ∙ ap (λ (x : Workspace). widest x.room) others;
  count = count ∙ ap (λ (x : Workspace). length x.totals.items) others;
  totals = λ word. totals word ∙ (λ i. lot_total p l fs (flow_lists (ap (λ (x : Workspace). x.flows) others i) (sym (length_all_zip KeepsCells qs fs filled.kept) i)) word);
  others = after_is ∙ ap (λ (x : Workspace). record x { totals = after.totals; room = after.room }) others ∙ ap (λ (x : OuterGhosts). record s { outer = x; totals = after.totals; room = after.room }) (sym same_outer);
}
  where
    same_outer : after.outer ≡ t.outer
    same_outer = ap (λ (x : Workspace). x.outer) after_is

-- ---- ready once they are filled

module _ (p : Problem) (l : ℕ) (qs fs : List Patch) (edges : List (Vec EdgeCell)) (s t : Workspace) (can : CanStep p l qs edges s) (outer : HasFoundOuter p l s.outer t.outer) (filled : AreFilled s t.outer qs fs) (others : t ≡ with_outer t.outer s) where
  count : length qs ≡ length fs
  count = length_all_zip KeepsCells qs fs filled.kept

  pub ready_now : AreReady p l (widest t.room) (length t.totals.items) fs (flow_lists t.flows (length fs))
  ready_now =
      subst (λ n. AreReady p l (widest t.room) (length t.totals.items) fs (flow_lists t.flows n)) count
      (subst (λ (x : Workspace). AreReady p l (widest x.room) (length x.totals.items) fs (flow_lists x.flows (length qs))) (sym others) (can.ready t.outer fs outer filled))

  pub flows_now : HasFlowsIn t.flows t.sides.items fs
  flows_now = subst (λ (x : Workspace). HasFlowsIn x.flows x.sides.items fs) (sym others) (record {
    there = λ k lt. can.flows.there k (omega (arith, lt, count));
    count = can.flows.count ∙ count;
    lie = λ k q d lt.
        let below : k < length qs = omega (arith, lt, count) in
        subst (λ (b : Extent). LieOn (get_or s.sides.items k d) b (flows_at s.flows k)) (sym (AllZip-get_or KeepsCells qs fs k q q filled.kept below).of_box) (can.flows.lie k q d below);
  })

-- ---- lists

-- what a vector has after other items were written in place of its own
pub given_items : {X : Type 0} (v : Vec X) (lent xs : List X) → lent ≡ v.items → length lent ≡ length xs → (with_items v xs).items ≡ xs
given_items v lent xs is same = with_items_is v xs (let e : length lent ≡ length v.items = ap length is in omega (arith, e, same, v.ok.0))

pub some_by_test : (n : ℕ) → (n == 0) ≡ false → 0 < n
some_by_test zero e = absurd (let wrong : true ≡ false = e in cc)
some_by_test (suc n) e = omega arith
