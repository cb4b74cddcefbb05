-- The lists of register cells of a level, lent to its lots and taken back with what flows in.
use Rattle.amr_layout.specs.Surroundings.{Around}
use Rattle.std.proofs.Common.{◌≡◌, ◌∙◌, ℕ, zero, suc, ◌*◌, ◌<◌, ◌≤◌, List, [], ◌∷◌, length, get_or, map, drop, refl, sym, ap, subst, arith}
use Rattle.std.specs.Global.{Box, Vec}
use Rattle.std.specs.List.{All, AllZip}
use Rattle.std.proofs.lemmas.List.Elements.{All-drop, All-take}
use Rattle.amr_def.specs.Domain.{domain}
use Rattle.amr_def.specs.State.{Masses}
use Rattle.amr_def.specs.Flux.{net}
use Rattle.amr_patch.specs.Patches.{box, masses_in}
use Rattle.amr_layout.proofs.Planned.{nth}
use Rattle.amr_register.specs.declared.edges.EdgeCell.{EdgeCell}
use Rattle.amr_register.specs.CoarseFlows.{edge_flows}
use Rattle.amr_register.specs.EdgeCells.{AreEdges, IsEdge, IsSameEdge, IsSmallNet, SameEdges, lists_of}
use Rattle.amr_lots.specs.declared.lot.Lot.{Lot}
use Rattle.amr_lots.specs.Runs.{run}
use Rattle.amr_lots.proofs.Runs.{map_run}
use Rattle.amr_advance.specs.declared.lots.Lots.{Lots}
use Rattle.amr_advance.specs.Registers.{AreEdgesFor}
use Rattle.amr_advance.specs.Handed.{AreLent}
use Rattle.amr_advance.proofs.InLots.{IsInStep}
use Rattle.amr_advance.proofs.LentEdges.{AreEmpty, as_many, lists_count, still_empty}
use Rattle.amr_advance.proofs.LotsHanded.{AreRunLots, HaveNoEdges}
use Rattle.amr_advance.proofs.Made.{HaveFlows}
use Rattle.amr_advance.proofs.RunZips.{all_runs, zip_length, zip_runs}

-- lists of nothing
no_zip : {A B : Type 0} (R : A → B → Type 0) (xs : List A) (ys : List B) → length xs ≡ 0 → length ys ≡ 0 → AllZip R xs ys
no_zip R [] [] e n = tt
no_zip R [] (y ∷ ys) e n = absurd (omega (arith, n))
no_zip R (x ∷ xs) ys e n = absurd (omega (arith, e))

-- a run of lists
run_lists : (each k : ℕ) (vs ws : List (Vec EdgeCell)) → run each k vs ≡ ws → run each k (lists_of vs) ≡ lists_of ws
run_lists each k vs ws e = sym (map_run (λ (v : Vec EdgeCell). v.items) each k vs) ∙ ap lists_of e

module _ {s : Around} {old : Masses} {t : Lots} (level : IsInStep s old t) where
  abbrev runs : ℕ
  runs = length t.lots.items

  module _ {handed lent ys : List (Box Lot)} {es ds : List (Vec EdgeCell)} (before : AreRunLots level handed) (none : HaveNoEdges level handed) (fit : AreEdgesFor (map box s.patches) (lists_of es)) (g : AreLent t.each es ds handed lent) (made : length ys ≡ length t.lots.items) (flows : HaveFlows level lent ys) where
    same_count : (k : ℕ) (x : Box Lot) → k < runs → length (get_or ys k x).value.edges.items ≡ length (get_or lent k x).value.edges.items
    same_count k x lt =
        let vs = (get_or lent k x).value.edges.items in
        let ws = (get_or ys k x).value.edges.items in
        omega (arith, lists_count vs, lists_count ws, zip_length (AllZip IsSameEdge) (lists_of vs) (lists_of ws) (flows.same k x lt))

    module _ {zs : List (Box Lot)} {bs : List (Vec EdgeCell)} (h : AreLent t.each ds bs ys zs) where
      -- they have none again
      pub again_none : HaveNoEdges level zs
      again_none = by_count (length es) refl
        where
          empty_now : length es ≡ 0 → (k : ℕ) (x : Box Lot) → k < runs → AreEmpty (get_or ys k x).value.edges.items
          empty_now e k x lt =
              still_empty (get_or lent k x).value.edges.items (get_or ys k x).value.edges.items (flows.same k x lt)
              (subst (λ (xs : List (Box Lot)). AreEmpty (get_or xs k x).value.edges.items) (sym (g.none e)) (none.empty k x lt))

          by_count : (n : ℕ) → length es ≡ n → HaveNoEdges level zs
          by_count zero e =
              let m = g.count in
              subst (HaveNoEdges level) (sym (h.none (omega (arith, e, m)))) (record {
                count = λ k x lt. same_count k x lt ∙ (λ i. length (get_or (g.none e i) k x).value.edges.items) ∙ none.count k x lt;
                empty = empty_now e;
              })
          by_count (suc n) e =
              let m = g.count in
              let some : 0 < length es = omega (arith, e) in
              let was : (k : ℕ) (x : Box Lot) → k < runs → (get_or zs k x).value.edges.items ≡ (get_or handed k x).value.edges.items = λ k x lt. h.handed (omega (arith, some, m)) k x (omega (arith, lt, made)) ∙ g.back some k x (omega (arith, lt, before.count)) in
              record {
                count = λ k x lt. ap length (was k x lt) ∙ none.count k x lt;
                empty = λ k x lt. subst AreEmpty (sym (was k x lt)) (none.empty k x lt);
              }

      count_now : length bs ≡ length es
      count_now = h.count ∙ g.count

      -- what came back is what they have made of those that they were lent
      module _ (some : 0 < length es) where
        lent_run : (k : ℕ) (x : Box Lot) → k < runs → run t.each k (lists_of es) ≡ lists_of (get_or lent k x).value.edges.items
        lent_run k x lt = run_lists t.each k es (get_or lent k x).value.edges.items (sym (g.handed some k x (omega (arith, lt, before.count))))

        back_run : (k : ℕ) (x : Box Lot) → k < runs → run t.each k (lists_of bs) ≡ lists_of (get_or ys k x).value.edges.items
        back_run k x lt = let m = g.count in run_lists t.each k bs (get_or ys k x).value.edges.items (h.back (omega (arith, some, m)) k x (omega (arith, lt, made)))

        enough : (vs : List (Vec EdgeCell)) → length vs ≡ length es → length (lists_of vs) ≤ runs * t.each
        enough vs same = omega (arith, lists_count vs, same, as_many t.each s.patches es fit some, level.lots.enough)

        all_back : (P : List EdgeCell → Type 0) → ((k : ℕ) (x : Box Lot) → k < runs → All P (lists_of (get_or ys k x).value.edges.items)) → All P (lists_of bs)
        all_back P holds = all_runs t.each runs level.lots.some (lists_of bs) (enough bs count_now) P (λ k lt. let x : Box Lot = nth t.lots.items k lt in subst (All P) (sym (back_run k x lt)) (holds k x lt))

        same_now : SameEdges (lists_of es) (lists_of bs)
        same_now =
            let m = count_now in
            zip_runs t.each runs level.lots.some (lists_of es) (enough es refl) (AllZip IsSameEdge) (lists_of bs) (omega (arith, lists_count es, lists_count bs, m)) (λ k lt.
            let x : Box Lot = nth t.lots.items k lt in
            subst (SameEdges (run t.each k (lists_of es))) (sym (back_run k x lt)) (subst (λ xs. SameEdges xs (lists_of (get_or ys k x).value.edges.items)) (sym (lent_run k x lt)) (flows.same k x lt)))

        nets_now : (fine : Masses) → AreEdges (domain s.problem s.level) (masses_in s.whole) fine (lists_of es) → All (All (λ (c : EdgeCell). c.net ≡ net (edge_flows s.problem s.level (masses_in s.whole) old fine) c.cell)) (lists_of bs)
        nets_now fine edges = all_back (All (λ (c : EdgeCell). c.net ≡ net (edge_flows s.problem s.level (masses_in s.whole) old fine) c.cell)) (λ k x lt.
            flows.nets fine k x lt (subst (AreEdges (domain s.problem s.level) (masses_in s.whole) fine) (lent_run k x lt)
            (All-take (All (IsEdge (domain s.problem s.level) (masses_in s.whole) fine)) t.each (drop (k * t.each) (lists_of es)) (All-drop (All (IsEdge (domain s.problem s.level) (masses_in s.whole) fine)) (k * t.each) (lists_of es) edges))))

      -- and so where there are none
      none_back : (P : List EdgeCell → Type 0) → length es ≡ 0 → All P (lists_of bs)
      none_back P e = λ k d lt. let m = count_now in absurd (omega (arith, lt, lists_count bs, m, e))

      pub all_same : SameEdges (lists_of es) (lists_of bs)
      all_same = by_count (length es) refl
        where
          by_count : (n : ℕ) → length es ≡ n → SameEdges (lists_of es) (lists_of bs)
          by_count zero e = let m = count_now in no_zip (AllZip IsSameEdge) (lists_of es) (lists_of bs) (omega (arith, lists_count es, e)) (omega (arith, lists_count bs, m, e))
          by_count (suc n) e = same_now (omega (arith, e))

      pub all_small : All (All IsSmallNet) (lists_of bs)
      all_small = by_count (length es) refl
        where
          by_count : (n : ℕ) → length es ≡ n → All (All IsSmallNet) (lists_of bs)
          by_count zero e = none_back (All IsSmallNet) e
          by_count (suc n) e = all_back (omega (arith, e)) (All IsSmallNet) flows.small

      pub all_nets : (fine : Masses) → AreEdges (domain s.problem s.level) (masses_in s.whole) fine (lists_of es) → All (All (λ (c : EdgeCell). c.net ≡ net (edge_flows s.problem s.level (masses_in s.whole) old fine) c.cell)) (lists_of bs)
      all_nets fine edges = by_count (length es) refl
        where
          by_count : (n : ℕ) → length es ≡ n → All (All (λ (c : EdgeCell). c.net ≡ net (edge_flows s.problem s.level (masses_in s.whole) old fine) c.cell)) (lists_of bs)
          by_count zero e = none_back (All (λ (c : EdgeCell). c.net ≡ net (edge_flows s.problem s.level (masses_in s.whole) old fine) c.cell)) e
          by_count (suc n) e = nets_now (omega (arith, e)) fine edges
