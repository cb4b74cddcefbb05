-- Lots whose outer ghost cells got values, or a level by which they can find them, or whose level was taken back: they are lots of the same
-- level still.
use Rattle.std.proofs.Common.{◌≡◌, ◌∙◌, ℕ, ◌<◌, Bool, true, false, List, [], ◌∷◌, length, get_or, refl, sym, subst, arith}
use Rattle.std.specs.Arc.{arc_value}
use Rattle.std.specs.declared.option.Option.{Option}
use Rattle.std.specs.declared.option.Option.TheVariants.{None, Some}
use Rattle.std.specs.declared.sync.Arc.{Arc}
use Rattle.std.specs.Global.{Box, Global, Vec}
use Rattle.std.specs.List.{All, AllZip}
use Rattle.std.proofs.lemmas.List.Elements.{AllZip-get_or, length_all_zip}
use Rattle.amr_def.specs.declared.problem.Problem.{Problem}
use Rattle.amr_def.specs.State.{Masses}
use Rattle.amr_def.specs.Value.{value_at}
use Rattle.amr_def.specs.Domain.{domain}
use Rattle.amr_ghost.specs.declared.outer.OuterGhosts.{OuterGhosts}
use Rattle.amr_ghost.specs.declared.parts.FrameParts.{FrameParts}
use Rattle.amr_ghost.specs.declared.sources.GhostSpan.{GhostSpan}
use Rattle.amr_ghost.specs.Frames.{is_of_level}
use Rattle.amr_ghost.specs.Messages.{CarriesMasses}
use Rattle.amr_ghost.specs.Outer.{AreOuterValuesFor, HasNoMass, HasOuterPlaces, IsOuterSpan, lent, value_count}
use Rattle.amr_layout.specs.Surroundings.{Around}
use Rattle.amr_lots.specs.declared.lot.Lot.{Lot}
use Rattle.amr_lots.specs.FrameValues.{CanFill, FollowFrom, HasValuesBy, HasValuesOrLevel}
use Rattle.amr_lots.specs.Runs.{run}
use Rattle.amr_patch.specs.declared.levels.Level.{Level}
use Rattle.amr_patch.specs.declared.patches.Patch.{Patch}
use Rattle.amr_register.specs.declared.edges.EdgeCell.{EdgeCell}
use Rattle.amr_advance.specs.declared.lots.Lots.{Lots}
use Rattle.amr_advance.specs.Lots.{AreLots, AreMade, CarryMasses, HasOthersOf, HasValues, IsLotOf, IsWholeLot, ServesRun, first_totals, is_one, totals_by, totals_of}
use Rattle.amr_advance.specs.Outer.{IsLent, IsReadied, KeepsAllButOuter}
use Rattle.amr_advance.specs.Steps.{MayStepLevel}
use Rattle.amr_advance.proofs.Delivered.{can_fill}
use Rattle.amr_advance.proofs.InLots.{in_step}
use Rattle.amr_advance.proofs.LotsAgain.{lots_again, several_again}
use Rattle.amr_advance.proofs.Served.{KeepsPlan, same_inbox, same_outbox, still_lot, still_whole}

-- all but its outer ghost cells' values and what is lent to it is as before
pub record KeepsOuterPlan (a b : Box Lot) : Type 0 where
  pub spans : b.value.workspace.outer.spans ≡ a.value.workspace.outer.spans
  pub places : HasOuterPlaces a.value.workspace.outer → HasOuterPlaces b.value.workspace.outer
  pub others : KeepsAllButOuter a.value b.value

keeps_readied : (p : Problem) (l : ℕ) (m : Masses) (a b : Box Lot) → IsReadied p l m a b → KeepsOuterPlan a b
keeps_readied p l m a b h = record { spans = h.spans; places = h.places; others = h.others }

keeps_lent : (k : Option Level) (a b : Box Lot) → IsLent k a b → KeepsOuterPlan a b
keeps_lent k a b h = record { spans = h.spans; places = λ q. (λ i. length (h.values i).items) ∙ q ∙ (λ i. value_count (sym h.spans i).items); others = h.others }

module _ {a b : Box Lot} (h : KeepsOuterPlan a b) where
  plan_kept : KeepsPlan a.value.workspace b.value.workspace
  plan_kept = subst (KeepsPlan a.value.workspace) (λ i. (sym h.others i).workspace)
      (record { layouts = refl; flows = refl; sides = refl; words = refl; totals = refl; copies = refl; spans = h.spans; places = h.places; room = refl; sizes = refl })

  outbox_kept : b.value.workspace.outbox ≡ a.value.workspace.outbox
  outbox_kept = λ i. (h.others i).workspace.outbox

  inbox_kept : b.value.workspace.inbox ≡ a.value.workspace.inbox
  inbox_kept = λ i. (h.others i).workspace.inbox

  others_kept : (rs : List Patch) → HasOthersOf rs a.value → HasOthersOf rs b.value
  others_kept rs of = record {
    count = (λ i. length (h.others i).patches.items) ∙ of.count;
    before = (λ i. length (h.others i).before.items) ∙ of.before;
    edges = (λ i. length (h.others i).edges.items) ∙ of.edges;
    no_edges = subst (λ (v : Vec (Vec EdgeCell)). All (λ (u : Vec EdgeCell). u.items ≡ []) v.items) (λ i. (sym h.others i).edges) of.no_edges;
  }

  lot_kept : {s : Around} {each k runs : ℕ} {parts : FrameParts} → IsLotOf s each k runs parts a.value → IsLotOf s each k runs parts b.value
  lot_kept {s = s} {each = each} {k = k} of = still_lot of b.value plan_kept (same_outbox of.serves b.value.workspace plan_kept outbox_kept) (same_inbox of.serves b.value.workspace plan_kept inbox_kept) (others_kept (run each k s.patches) of.others)

  whole_kept : {s : Around} {each : ℕ} {parts : FrameParts} → IsWholeLot s each parts a.value → IsWholeLot s each parts b.value
  whole_kept of = still_whole of b.value plan_kept outbox_kept inbox_kept

-- ---- all lots of a level

pub record KeepOuterPlans (xs ys : List (Box Lot)) : Type 0 where
  pub count : length ys ≡ length xs
  pub each : (k : ℕ) (x : Box Lot) → k < length xs → KeepsOuterPlan (get_or xs k x) (get_or ys k x)

pub all_readied : (p : Problem) (l : ℕ) (m : Masses) (xs ys : List (Box Lot)) → AllZip (IsReadied p l m) xs ys → KeepOuterPlans xs ys
all_readied p l m xs ys h = record { count = sym (length_all_zip (IsReadied p l m) xs ys h); each = λ k x lt. keeps_readied p l m (get_or xs k x) (get_or ys k x) (AllZip-get_or (IsReadied p l m) xs ys k x x h lt) }

pub all_lent : (k : Option Level) (xs ys : List (Box Lot)) → AllZip (IsLent k) xs ys → KeepOuterPlans xs ys
all_lent o xs ys h = record { count = sym (length_all_zip (IsLent o) xs ys h); each = λ k x lt. keeps_lent o (get_or xs k x) (get_or ys k x) (AllZip-get_or (IsLent o) xs ys k x x h lt) }

module _ (s : Around) (t : Lots) (xs : Vec (Box Lot)) (packed valued : Bool) (same : KeepOuterPlans t.lots.items xs.items) where
  abbrev u : Lots
  u = record t { packed = packed; valued = valued; lots = xs }

  pub lots_kept : AreLots s t → AreLots s (record t { packed = packed; valued = valued; lots = xs })
  lots_kept h = lots_again s t xs t.totals packed valued same.count h (made (is_one t) h.made)
    where
      made : (b : Bool) → AreMade b s h.parts t → AreMade b s h.parts u
      made true one = record { one = same.count ∙ one.one; lot = λ x. whole_kept (same.each 0 x (let n = one.one in omega (arith, n))) (one.lot x) }
      made false several = several_again s t xs t.totals packed valued same.count h.parts refl several (λ k x lt. lot_kept (same.each k x lt) (several.lots k x lt))

  pub carry_kept : (M : Masses) → CarryMasses M t.lots.items → CarryMasses M xs.items
  carry_kept M carried = λ k x lt.
      let below : k < length t.lots.items = omega (arith, lt, same.count) in
      subst (λ v. All (CarriesMasses M) v.items) (sym (outbox_kept (same.each k x below))) (carried k x below)

  -- what flowed to words is the same
  pub totals_kept : totals_of (record t { packed = packed; valued = valued; lots = xs }) ≡ totals_of t
  totals_kept = by_case (is_one t)
    where
      first_same : (xs' zs : List (Box Lot)) → KeepOuterPlans xs' zs → first_totals zs ≡ first_totals xs'
      first_same [] [] g = refl
      first_same [] (z ∷ zs) g = absurd (let n = g.count in omega (arith, n))
      first_same (x ∷ xs') [] g = absurd (let n = g.count in omega (arith, n))
      first_same (x ∷ xs') (z ∷ zs) g = λ i. ((g.each 0 x (omega arith)).others i).workspace.totals.items

      by_case : (b : Bool) → totals_by b u ≡ totals_by b t
      by_case true = first_same t.lots.items xs.items same
      by_case false = refl

-- ---- values

same_values : (p : Problem) (l : ℕ) (old : Masses) (x y : OuterGhosts) → y.spans ≡ x.spans → y.values ≡ x.values → HasValuesBy p l old x → HasValuesBy p l old y
same_values p l old x y spans values h m none =
    let V = value_at p l m old in
    let M = is_of_level p l m in
    subst (λ (v : Vec ℕ). AreOuterValuesFor V M y.spans.items v.items) (sym values)
    (subst (λ (s : Vec GhostSpan). AreOuterValuesFor V M s.items x.values.items) (sym spans) (h m (subst (λ (s : Vec GhostSpan). All (HasNoMass (domain p l) m) s.items) spans none)))

lent_none : (o : Option (Arc Level Global)) → lent o ≡ None → o ≡ None
lent_none None h = refl
lent_none (Some a) h = let wrong : Some (arc_value a) ≡ None = h in cc

-- values once found stay where the level is taken back
pub values_settled : (p : Problem) (l : ℕ) (old : Masses) (xs ys : List (Box Lot)) → AllZip (IsLent None) xs ys → All (λ (x : Box Lot). HasValuesBy p l old x.value.workspace.outer) xs → All (HasValues p l old) ys
values_settled p l old xs ys h values k x lt =
    let below : k < length xs = omega (arith, lt, length_all_zip (IsLent None) xs ys h) in
    let one = AllZip-get_or (IsLent None) xs ys k x x h below in
    record { values = same_values p l old (get_or xs k x).value.workspace.outer (get_or ys k x).value.workspace.outer one.spans one.values (values k x below); not_lent = lent_none (get_or ys k x).value.workspace.outer.coarser one.level }

-- they serve in place of a level
pub values_or : (p : Problem) (l : ℕ) (old : Masses) (xs : List (Box Lot)) → All (HasValues p l old) xs → All (λ (x : Box Lot). HasValuesOrLevel p l old x.value.workspace.outer) xs
values_or p l old xs h k x lt = let one = h k x lt in subst (FollowFrom p l old (get_or xs k x).value.workspace.outer) (sym one.not_lent) one.values

pub readied_values : (p : Problem) (l : ℕ) (m : Masses) (xs ys : List (Box Lot)) → AllZip (IsReadied p l m) xs ys → All (λ (x : Box Lot). HasValuesOrLevel p l m x.value.workspace.outer) ys
readied_values p l m xs ys h k x lt = (AllZip-get_or (IsReadied p l m) xs ys k x x h (let n = length_all_zip (IsReadied p l m) xs ys h in omega (arith, lt, n))).values

-- ---- a workspace of each

pub serves_run : (s : Around) (t : Lots) (h : AreLots s t) (k : ℕ) (x : Box Lot) → k < length t.lots.items → ServesRun s t.each k (length t.lots.items) h.parts (get_or t.lots.items k x).value.workspace
serves_run s t h k x lt = by_case (is_one t) h.made
  where
    by_case : (b : Bool) → AreMade b s h.parts t → ServesRun s t.each k (length t.lots.items) h.parts (get_or t.lots.items k x).value.workspace
    by_case false several = (several.lots k x lt).serves
    by_case true one =
        let zero_is : 0 ≡ k = (let n = one.one in omega (arith, lt, n)) in
        subst (λ n. ServesRun s t.each n (length t.lots.items) h.parts (get_or t.lots.items n x).value.workspace) zero_is (subst (λ n. ServesRun s t.each 0 n h.parts (get_or t.lots.items 0 x).value.workspace) (sym one.one) (one.lot x).serves)

module _ (s : Around) (old : Masses) (t : Lots) (may : MayStepLevel s old) (lots : AreLots s t) where
  fills : (k : ℕ) (x : Box Lot) → k < length t.lots.items → CanFill s.problem s.level (run t.each k s.patches) (get_or t.lots.items k x).value.workspace
  fills k x lt =
      let level = in_step s old t may lots in
      can_fill level k lt (get_or t.lots.items k x).value.workspace (serves_run s t level.lots k x lt) (run t.each k s.patches) refl

  pub all_spans : All (λ (x : Box Lot). All (IsOuterSpan (domain s.problem s.level)) x.value.workspace.outer.spans.items) t.lots.items
  all_spans k x lt = (fills k x lt).spans

  pub all_places : All (λ (x : Box Lot). HasOuterPlaces x.value.workspace.outer) t.lots.items
  all_places k x lt = (fills k x lt).outer.1
