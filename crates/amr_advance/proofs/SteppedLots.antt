-- A level's lots in their step, from where they stand between steps to where they stand again: what the calls in between have to be given, and
-- what comes of them, done or refused.
use Rattle.std.proofs.Common.{◌≡◌, ◌∙◌, ℕ, zero, suc, ◌<◌, Bool, true, false, List, [], ◌∷◌, length, get_or, map, refl, sym, ap, subst, arith}
use Rattle.std.specs.Prelude.{nat_lt, slice_index}
use Rattle.std.specs.declared.option.Option.{Option}
use Rattle.std.specs.Global.{Box, Vec}
use Rattle.std.specs.List.{All, AllZip}
use Rattle.std.proofs.lemmas.List.Elements.{AllZip-get_or, length_all_zip}
use Rattle.amr_def.specs.Flux.{flux_at}
use Rattle.amr_def.specs.State.{Masses}
use Rattle.amr_flows.specs.Laws.{plain_size}
use Rattle.amr_flows.specs.Words.{level_total}
use Rattle.amr_ghost.specs.Frames.{old_masses}
use Rattle.amr_layout.specs.Posts.{patch_plan}
use Rattle.amr_layout.specs.Surroundings.{Around}
use Rattle.amr_layout.proofs.Planned.{nth}
use Rattle.amr_lots.specs.declared.lot.StepBasis.{StepBasis}
use Rattle.amr_lots.specs.declared.lot.Duty.TheVariants.{Step}
use Rattle.amr_lots.specs.declared.lot.Lot.{Lot}
use Rattle.amr_lots.specs.declared.lot.Work.{Work}
use Rattle.amr_lots.specs.FrameValues.{HasValuesBy, HasValuesOrLevel}
use Rattle.amr_lots.specs.Lots.{IsStepped}
use Rattle.amr_lots.specs.Runs.{KeepAllButEdges, KeepOthers, run}
use Rattle.amr_patch.specs.declared.levels.Level.{Level as Held}
use Rattle.amr_patch.specs.declared.patches.Patch.{Patch}
use Rattle.amr_patch.specs.Patches.{box, masses_in}
use Rattle.amr_phase.specs.Plans.{IsPlan}
use Rattle.amr_register.specs.declared.edges.EdgeCell.{EdgeCell}
use Rattle.amr_register.specs.EdgeCells.{IsSameEdge, SameEdges, lists_of}
use Rattle.amr_advance.specs.declared.lots.Lots.{Lots}
use Rattle.amr_advance.specs.Lots.{AreLots, AreMade, AreSeveralLots, CarryMasses, IsLotOf, is_one, totals_by}
use Rattle.amr_advance.specs.Phases.{ArePieces, HasAsMany, HaveMadeStep, IsBasisOf, IsDone, MayBeRun}
use Rattle.amr_advance.specs.Registers.{AreEdgesFor}
use Rattle.amr_advance.specs.Steps.{AreFound, AreTotalsOf, HaveStepped, LotsMadeStep}
use Rattle.amr_advance.specs.Handed.{AreHanded, AreLent, HaveBeenHanded}
use Rattle.amr_advance.proofs.BackEdges.{again_none, all_nets, all_same, all_small}
use Rattle.amr_advance.proofs.Begin.{plan_total}
use Rattle.amr_advance.proofs.Beside.{may_be_run}
use Rattle.amr_advance.proofs.Delivered.{delivered_to, sent_from}
use Rattle.amr_advance.proofs.FinePlan.{are_planned, fine_plan}
use Rattle.amr_advance.proofs.InDomain.{all_lie}
use Rattle.amr_advance.proofs.InLots.{IsInStep, own_inside, totals_small}
use Rattle.amr_advance.proofs.LentEdges.{AreEmpty, as_many}
use Rattle.amr_advance.proofs.LotsAgain.{lots_again, several_again}
use Rattle.amr_advance.proofs.LotsHanded.{AreDelivered, AreRunLots, HaveLists, HaveNoEdges, first_empty, first_lots, handed_empty, lent_lists, lent_runs, now_handed, still_carried}
use Rattle.amr_advance.proofs.Made.{HaveFlows, HaveMade, all_stepped, carried, last_valued, lent_made, lot_again, made, made_flows}
use Rattle.amr_advance.proofs.RunLists.{same_run, same_runs}

-- the same register cells
edges_refl : (xs : List (List EdgeCell)) → SameEdges xs xs
edges_refl [] = tt
edges_refl (x ∷ xs) = (list_refl x, edges_refl xs)
  where
    list_refl : (es : List EdgeCell) → AllZip IsSameEdge es es
    list_refl [] = tt
    list_refl (e ∷ es) = (record { cell = refl; sides = refl; number = refl }, list_refl es)

no_lists : (vs : List (Vec EdgeCell)) → length vs ≡ 0 → vs ≡ []
no_lists [] n = refl
no_lists (v ∷ vs) n = absurd (omega (arith, n))

-- lots after their step, in place of others: as many are wanted of the same level, with as many totals
pub record AreInPlaceOf (t u : Lots) (last : List (Box Lot)) : Type 0 where
  pub level : u.level ≡ t.level
  pub wanted : u.wanted ≡ t.wanted
  pub each : u.each ≡ t.each
  pub shape : u.shape ≡ t.shape
  pub totals : length u.totals.items ≡ length t.totals.items
  pub lots : u.lots.items ≡ last

module _ {s : Around} {old : Masses} {t : Lots} (level : IsInStep s old t) (one : is_one t ≡ false) (ready : All (λ (x : Box Lot). HasValuesOrLevel s.problem s.level old x.value.workspace.outer) t.lots.items) where
  abbrev runs : ℕ
  runs = length t.lots.items

  pub several : AreSeveralLots s level.lots.parts t
  several = subst (λ b. AreMade b s level.lots.parts t) one level.lots.made

  first : AreRunLots level t.lots.items
  first = first_lots level several ready

  a_lot : (k : ℕ) → k < runs → Box Lot
  a_lot k lt = nth t.lots.items k lt

  -- lots in their place, each of the same run, are lots of the level
  lots_last : (last : List (Box Lot)) (xs : Vec (Box Lot)) (totals : Vec ℕ) (packed valued : Bool) → xs.items ≡ last → length totals.items ≡ length t.totals.items → ((k : ℕ) (x : Box Lot) → k < runs → IsLotOf s t.each k runs level.lots.parts (get_or last k x).value) → length last ≡ runs
      → AreLots s (record t { packed = packed; valued = valued; lots = xs; totals = totals })
  lots_last last xs totals packed valued is many each count =
      lots_again s t xs totals packed valued same level.lots (subst (λ b. AreMade b s level.lots.parts (record t { packed = packed; valued = valued; lots = xs; totals = totals })) (sym one)
      (several_again s t xs totals packed valued same level.lots.parts many several (λ k x lt. subst (λ (ys : List (Box Lot)). IsLotOf s t.each k runs level.lots.parts (get_or ys k x).value) (sym is) (each k x lt))))
    where
      same : length xs.items ≡ runs
      same = ap length is ∙ count

  module _ {qs : List Patch} {es ds : List (Vec EdgeCell)} {xs : List (Box Lot)} (h : HaveBeenHanded t s.patches qs es ds xs) (fit : AreEdgesFor (map box s.patches) (lists_of es)) (current : t.packed ≡ true → CarryMasses (masses_in s.patches) t.lots.items) where
    g : AreLent t.each es ds h.handed h.lent
    g = h.lists

    handed_are : AreRunLots level h.handed
    handed_are = now_handed level first h.patches g

    none : HaveNoEdges level h.handed
    none = handed_empty level first h.patches (first_empty level several ready)

    lists : HaveLists level h.lent
    lists = lent_lists level handed_are g none fit

    d : AreDelivered level h.lent xs
    d = delivered_to level (sent_from level (lent_runs level first h.patches g) (still_carried level first h.patches g (masses_in s.patches)) current h.sent h.packed h.packed_now) h.delivered

    pub xs_count : length xs ≡ length t.lots.items
    xs_count = d.all.lots.count

    -- their pieces may be run
    pub may_run : (b : StepBasis) (coarse : Option Held) → IsBasisOf s.problem s.whole coarse b → old_masses coarse ≡ old → (ws : List Work) → ArePieces b s.level Step xs ws → MayBeRun s.problem t.shape ws
    may_run b coarse of_b coarser ws raw =
        may_be_run level several d lists b coarse of_b coarser ws raw (patch_plan s t.each (plain_size s.problem s.level (masses_in s.whole) old)) (fine_plan s old t.each fine_is)
        (are_planned s old t.each level.may.level level.may.once (all_lie s.problem s.level s.patches (own_inside level)) fine_is)
      where
        fine_is : IsPlan (patch_plan s t.each (plain_size s.problem s.level (masses_in s.whole) old))
        fine_is = several.plan (plain_size s.problem s.level (masses_in s.whole) old) level.may.fits.fluxes

    -- ---- whatever comes of it, they are as many, with as many patches and lists

    module _ (ys : List (Box Lot)) (many : AllZip HasAsMany xs ys) where
      ys_count : length ys ≡ runs
      ys_count = sym (length_all_zip HasAsMany xs ys many) ∙ xs_count

      as_many_here : (k : ℕ) (x : Box Lot) → k < runs → HasAsMany (get_or xs k x) (get_or ys k x)
      as_many_here k x lt = AllZip-get_or HasAsMany xs ys k x x many (omega (arith, lt, xs_count))

      -- so their lists can be taken back
      pub lists_back : 0 < length ds → (k : ℕ) (x : Box Lot) → k < length ys → length (get_or ys k x).value.edges.items ≡ length (run t.each k ds)
      lists_back some k x lt =
          let below : k < runs = omega (arith, lt, ys_count) in
          let n = g.count in
          (as_many_here k x below).edges ∙ (λ i. length (d.all.edges k x below i).items) ∙ ap length (g.handed (omega (arith, some, n)) k x (omega (arith, below, handed_are.count))) ∙ same_run t.each k es ds (sym n)

      module _ {bs : List (Vec EdgeCell)} {zs : List (Box Lot)} (b : AreLent t.each ds bs ys zs) where
        zs_count : length zs ≡ runs
        zs_count = sym (length_all_zip KeepAllButEdges ys zs b.others) ∙ ys_count

        one_back : (k : ℕ) (x : Box Lot) → k < runs → KeepAllButEdges (get_or ys k x) (get_or zs k x)
        one_back k x lt = AllZip-get_or KeepAllButEdges ys zs k x x b.others (omega (arith, lt, ys_count))

        -- and their patches
        pub patches_back : (k : ℕ) (x : Box Lot) → k < length zs → length (get_or zs k x).value.patches.items ≡ length (run t.each k qs)
        patches_back k x lt =
            let below : k < runs = omega (arith, lt, zs_count) in
            ap (λ (z : Lot). length z.patches.items) (one_back k x below) ∙ (as_many_here k x below).patches ∙ ap length (d.all.patches k x below) ∙ same_run t.each k s.patches qs (sym h.count)

        module _ (rs : List Patch) {last : List (Box Lot)} (c : AreHanded t.each qs zs last) (c_back : (k : ℕ) (x : Box Lot) → k < length zs → run t.each k rs ≡ (get_or zs k x).value.patches.items) (c_count : length rs ≡ length qs) where
          -- ---- refused: they are as they were handed

          module _ (same : ys ≡ xs) where
            pub patches_same : rs ≡ s.patches
            patches_same =
                same_runs t.each runs rs s.patches (c_count ∙ h.count) (let n = level.lots.enough in (let m = h.count in omega (arith, n, c_count, m)))
                (λ k lt. let x : Box Lot = a_lot k lt in
                c_back k x (omega (arith, lt, zs_count)) ∙ ap (λ (z : Lot). z.patches.items) (one_back k x lt) ∙ (λ i. (get_or (same i) k x).value.patches.items) ∙ d.all.patches k x lt)

            lists_same : bs ≡ es
            lists_same = by_count (length es) refl
              where
                by_count : (n : ℕ) → length es ≡ n → bs ≡ es
                by_count zero e = let m = g.count in let n = b.count in no_lists bs (omega (arith, e, m, n)) ∙ sym (no_lists es e)
                by_count (suc m) e =
                    let some : 0 < length es = omega (arith, e) in
                    let n = g.count in
                    let o = b.count in
                    same_runs t.each runs bs es (o ∙ n) (let k = as_many t.each s.patches es fit some in let q = level.lots.enough in omega (arith, k, q, n, o))
                    (λ k lt. let x : Box Lot = a_lot k lt in
                    b.back (omega (arith, some, n)) k x (omega (arith, lt, ys_count)) ∙ (λ i. (get_or (same i) k x).value.edges.items) ∙ (λ i. (d.all.edges k x lt i).items) ∙ g.handed some k x (omega (arith, lt, handed_are.count)))

            pub edges_same : SameEdges (lists_of es) (lists_of bs)
            edges_same = subst (λ vs. SameEdges (lists_of es) (lists_of vs)) (sym lists_same) (edges_refl (lists_of es))

          -- ---- done

          module _ (basis : StepBasis) (coarse : Option Held) (of_b : IsBasisOf s.problem s.whole coarse basis) (coarser : old_masses coarse ≡ old) (u' : Lots) (is_ys : u'.lots.items ≡ ys) (done : HaveMadeStep basis s.level xs t u') where
            made_all : HaveMade level ys
            made_all = made level ys d basis coarse of_b coarser done.raw done.are (sym (length_all_zip HasAsMany xs ys many)) (λ k w x lt. subst (λ (zs' : List (Box Lot)). IsDone (get_or done.raw k w) (get_or zs' k x)) is_ys (done.lots k w x (let n = xs_count in omega (arith, lt, n))))

            flows : HaveFlows level h.lent ys
            flows = made_flows level ys d basis coarse of_b coarser done.raw done.are (sym (length_all_zip HasAsMany xs ys many)) (λ k w x lt. subst (λ (zs' : List (Box Lot)). IsDone (get_or done.raw k w) (get_or zs' k x)) is_ys (done.lots k w x (let n = xs_count in omega (arith, lt, n))))

            now : HaveMade level zs
            now = lent_made level made_all b

            as_many_patches : length rs ≡ length s.patches
            as_many_patches = c_count ∙ h.count

            now_stepped : AllZip (IsStepped (flux_at s.problem s.level (masses_in s.whole) old)) s.patches rs
            now_stepped = all_stepped level now rs as_many_patches c_back

            now_found : AreFound s old (lists_of es) (lists_of bs)
            now_found = record {
              same = all_same level handed_are none fit g ys_count flows b;
              small = all_small level handed_are none fit g ys_count flows b;
              nets = λ fine edges. all_nets level handed_are none fit g ys_count flows b fine edges;
            }

            none_now : HaveNoEdges level zs
            none_now = again_none level handed_are none fit g ys_count flows b

            one_last : (k : ℕ) (x : Box Lot) → k < runs → KeepOthers (get_or zs k x) (get_or last k x)
            one_last k x lt = AllZip-get_or KeepOthers zs last k x x c.others (omega (arith, lt, zs_count))

            none_again : HaveNoEdges level last
            none_again = record {
              count = λ k x lt. ap (λ (z : Lot). length z.edges.items) (one_last k x lt) ∙ none_now.count k x lt;
              empty = λ k x lt. subst (λ (z : Lot). AreEmpty z.edges.items) (sym (one_last k x lt)) (none_now.empty k x lt);
            }

            -- the lots of the level again, with its totals
            module _ (u : Lots) (place : AreInPlaceOf t u last) (totals : u.totals.items ≡ u'.totals.items) where
              totals_are : AreTotalsOf s old u.totals.items
              totals_are = subst (AreTotalsOf s old) (sym totals) (record { are = are; small = λ word lt. let n = are word lt in let m = totals_small level word in omega (arith, n, m) })
                where
                  are : (word : ℕ) → word < length u'.totals.items → slice_index u'.totals.items word ≡ level_total s (plain_size s.problem s.level (masses_in s.whole) old) word
                  are word lt =
                      let there : word < t.shape.words = (let a = place.totals in let b' = several.totals in omega (arith, lt, ap length totals, a, b')) in
                      done.totals word there
                      ∙ plan_total level several d basis coarse of_b coarser done.raw done.are (patch_plan s t.each (plain_size s.problem s.level (masses_in s.whole) old)) (fine_plan s old t.each (several.plan (plain_size s.problem s.level (masses_in s.whole) old) level.may.fits.fluxes)) word

              kept : AreLots s (record t { packed = u.packed; valued = u.valued; lots = u.lots; totals = u.totals })
              kept = lots_last last u.lots u.totals u.packed u.valued place.lots place.totals
                  (λ k x lt. lot_again level now rs as_many_patches c_back h.count c several none_again k x lt) (sym (length_all_zip KeepOthers zs last c.others) ∙ zs_count)

              now_lots : HaveStepped s old rs t u
              now_lots = record {
                lots = subst (AreLots s) (λ i. record { level = sym place.level i; wanted = sym place.wanted i; each = sym place.each i; shape = sym place.shape i; packed = u.packed; valued = u.valued; lots = u.lots; totals = u.totals }) kept;
                wanted = place.wanted;
                carry = subst (CarryMasses (masses_in rs)) (sym place.lots) (carried level now rs as_many_patches c_back h.count c);
                values = subst (All (λ (x : Box Lot). HasValuesBy s.problem s.level old x.value.workspace.outer)) (sym place.lots) (last_valued level now rs as_many_patches c_back h.count c);
                totals = subst (λ b'. AreTotalsOf s old (totals_by b' u)) (sym ((λ i. nat_lt (place.wanted i) 2) ∙ one)) totals_are;
              }

              pub now_made : LotsMadeStep s old rs (lists_of es) (lists_of bs) t u
              now_made = record { stepped = now_stepped; lots = now_lots; edges = now_found }
