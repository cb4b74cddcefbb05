-- Lots in a phase that posts nothing: they are handed a level's patches, are served, and are handed what they had before.
use Rattle.amr_advance.proofs.InLots.{lot_spans}
use Rattle.std.proofs.Common.{◌≡◌, ◌∙◌, ℕ, ◌+◌, ◌*◌, ◌^◌, ◌<◌, ◌≤◌, Bool, true, false, List, [], length, get_or, map, refl, sym, ap, subst, arith}
use Rattle.std.specs.Global.{Box, Vec}
use Rattle.std.specs.List.{All, AllZip}
use Rattle.std.specs.Vec.{with_items}
use Rattle.std.proofs.lemmas.List.Elements.{length_all_zip}
use Rattle.amr_def.specs.declared.problem.Problem.{Problem}
use Rattle.amr_def.specs.Domain.{domain}
use Rattle.amr_def.specs.State.{Masses}
use Rattle.amr_ghost.specs.GhostCells.{KeepsCells}
use Rattle.amr_ghost.specs.Messages.{CarriesMasses, HasPacked, HasPlaces, IsMessageFrom, IsTaken}
use Rattle.amr_ghost.specs.declared.messages.Message.{Message}
use Rattle.amr_ghost.specs.declared.outer.OuterGhosts.{OuterGhosts}
use Rattle.amr_ghost.specs.declared.parts.FrameCopy.{FrameCopy}
use Rattle.amr_ghost.specs.declared.parts.FrameParts.{FrameParts}
use Rattle.amr_ghost.proofs.Carrying.{packed_carries, taken_of_boxes}
use Rattle.amr_ghost.proofs.PartLaws.{copies_taken}
use Rattle.amr_ghost.proofs.Zips.{keeps_refl, zip_refl}
use Rattle.amr_layout.specs.Surroundings.{Around}
use Rattle.amr_lots.specs.declared.lot.Duty.{Duty}
use Rattle.amr_lots.specs.declared.lot.Lot.{Lot}
use Rattle.amr_lots.specs.declared.lot.Workspace.{Workspace}
use Rattle.amr_lots.specs.FrameValues.{HasValuesBy}
use Rattle.amr_lots.specs.Runs.{KeepOthers, run}
use Rattle.amr_lots.specs.Duties.{IsServed}
use Rattle.amr_patch.specs.declared.patches.Patch.{Patch}
use Rattle.amr_patch.specs.Patches.{ArePatchesApart, box, masses_in}
use Rattle.amr_register.specs.declared.edges.EdgeCell.{EdgeCell}
use Rattle.amr_advance.specs.declared.lots.Lots.{Lots}
use Rattle.amr_advance.specs.Lots.{AreLots, AreLotsFor, AreMade, AreSeveralLots, CarryMasses, HasOthersOf, HasValues, AreMessagesOf, IsLotOf, StillServe, is_one}
use Rattle.amr_advance.proofs.Boxes.{all_packed, box_copies, box_packed}
use Rattle.amr_advance.proofs.LotsAgain.{lots_again, several_again}
use Rattle.amr_advance.proofs.LotsHanded.{when_lent}
use Rattle.amr_advance.proofs.RunLists.{count_of_boxes, run_boxes, run_is}
use Rattle.amr_advance.proofs.Served.{KeepsPlan, plan_same, same_inbox, same_outbox, still_lot}

-- ---- one lot

-- all but its patches and those that keep masses, of which it has as many, and what corrects it is as before
pub record KeepsRun (a b : Lot) : Type 0 where
  pub workspace : b.workspace ≡ a.workspace
  pub patches : length b.patches.items ≡ length a.patches.items
  pub before : length b.before.items ≡ length a.before.items
  pub edges : b.edges ≡ a.edges

-- the same but for its messages, which were packed from these patches
pub record PacksRun (rs : List Patch) (a b : Lot) : Type 0 where
  pub workspace : b.workspace ≡ record a.workspace { outbox = b.workspace.outbox }
  pub packed : AllZip (HasPacked rs) a.workspace.outbox.items b.workspace.outbox.items
  pub patches : length b.patches.items ≡ length a.patches.items
  pub before : length b.before.items ≡ length a.before.items
  pub edges : b.edges ≡ a.edges

module _ {s : Around} {each k runs : ℕ} {parts : FrameParts} (a b : Lot) (of : IsLotOf s each k runs parts a) where
  others_still : length b.patches.items ≡ length a.patches.items → length b.before.items ≡ length a.before.items → b.edges ≡ a.edges → HasOthersOf (run each k s.patches) b
  others_still patches before edges = record {
    count = patches ∙ of.others.count;
    before = before ∙ of.others.before;
    edges = ap (λ (v : Vec (Vec EdgeCell)). length v.items) edges ∙ of.others.edges;
    no_edges = subst (λ (v : Vec (Vec EdgeCell)). All (λ (u : Vec EdgeCell). u.items ≡ []) v.items) (sym edges) of.others.no_edges;
  }

  -- it then is the lot of the same run
  still_of : KeepsRun a b → IsLotOf s each k runs parts b
  still_of h =
      let plan = plan_same a.workspace b.workspace h.workspace in
      still_lot of b plan (same_outbox of.serves b.workspace plan (ap (λ (z : Workspace). z.outbox) h.workspace)) (same_inbox of.serves b.workspace plan (ap (λ (z : Workspace). z.inbox) h.workspace)) (others_still h.patches h.before h.edges)

  packed_of : (rs : List Patch) → k < runs → PacksRun rs a b → IsLotOf s each k runs parts b
  packed_of rs lt h =
      let plan : KeepsPlan a.workspace b.workspace = subst (KeepsPlan a.workspace) (sym h.workspace) (record { layouts = refl; flows = refl; sides = refl; words = refl; totals = refl; copies = refl; spans = refl; places = λ q. q; room = refl; sizes = refl }) in
      still_lot of b plan (box_packed of.serves.outbox rs b.workspace.outbox.items lt h.packed) (same_inbox of.serves b.workspace plan (ap (λ (z : Workspace). z.inbox) h.workspace)) (others_still h.patches h.before h.edges)

-- ---- all lots

pub record KeepRuns (xs ys : List (Box Lot)) : Type 0 where
  pub count : length ys ≡ length xs
  pub each : (k : ℕ) (x : Box Lot) → k < length xs → KeepsRun (get_or xs k x).value (get_or ys k x).value

pub record PackRuns (each : ℕ) (qs : List Patch) (xs ys : List (Box Lot)) : Type 0 where
  pub count : length ys ≡ length xs
  pub lots : (k : ℕ) (x : Box Lot) → k < length xs → PacksRun (run each k qs) (get_or xs k x).value (get_or ys k x).value

-- they send what they sent
all_carry : (M : Masses) (xs ys : List (Box Lot)) → KeepRuns xs ys → CarryMasses M xs → CarryMasses M ys
all_carry M xs ys new h k x lt =
    let below : k < length xs = omega (arith, lt, new.count) in
    subst (λ (w : Workspace). All (CarriesMasses M) w.outbox.items) (sym (new.each k x below).workspace) (h k x below)

-- and have the values of outer ghost cells that they had
value_still : (p : Problem) (l : ℕ) (old : Masses) (a b : Box Lot) → b.value.workspace.outer ≡ a.value.workspace.outer → HasValues p l old a → HasValues p l old b
value_still p l old a b same h = record { values = subst (HasValuesBy p l old) (sym same) h.values; not_lent = ap (λ (o : OuterGhosts). o.coarser) same ∙ h.not_lent }

all_valued : (p : Problem) (l : ℕ) (old : Masses) (xs ys : List (Box Lot)) → KeepRuns xs ys → All (HasValues p l old) xs → All (HasValues p l old) ys
all_valued p l old xs ys kept h k x lt =
    let below : k < length xs = omega (arith, lt, kept.count) in
    value_still p l old (get_or xs k x) (get_or ys k x) (ap (λ (w : Workspace). w.outer) (kept.each k x below).workspace) (h k x below)

packed_valued : (p : Problem) (l : ℕ) (old : Masses) (each : ℕ) (qs : List Patch) (xs ys : List (Box Lot)) → PackRuns each qs xs ys → All (HasValues p l old) xs → All (HasValues p l old) ys
packed_valued p l old each qs xs ys new h k x lt =
    let below : k < length xs = omega (arith, lt, new.count) in
    value_still p l old (get_or xs k x) (get_or ys k x) (ap (λ (w : Workspace). w.outer) (new.lots k x below).workspace) (h k x below)

-- as many lots, each of the same run still, serve the same level
module _ (t : Lots) (xs : Vec (Box Lot)) (packed : Bool) (several : is_one t ≡ false) (count : length xs.items ≡ length t.lots.items) where
  lots_by : (s : Around) → ((parts : FrameParts) (k : ℕ) (x : Box Lot) → k < length t.lots.items → IsLotOf s t.each k (length t.lots.items) parts (get_or t.lots.items k x).value → IsLotOf s t.each k (length t.lots.items) parts (get_or xs.items k x).value) → AreLots s t
      → AreLots s (record t { lots = xs; packed = packed })
  lots_by s same h = lots_again s t xs t.totals packed t.valued count h (subst (λ b. AreMade b s h.parts (record t { lots = xs; packed = packed })) (sym several) (several_again s t xs t.totals packed t.valued count h.parts refl was (λ k x lt. same h.parts k x lt (was.lots k x lt))))
    where
      was : AreSeveralLots s h.parts t
      was = subst (λ b. AreMade b s h.parts t) several h.made

-- where they keep their runs, they keep what they have of masses
pub still_serve : (t : Lots) (xs : Vec (Box Lot)) → is_one t ≡ false → KeepRuns t.lots.items xs.items → StillServe (λ m. m) t (record t { lots = xs })
still_serve t xs several new = record {
  lots = λ s. lots_by t xs t.packed several new.count s (λ parts k x below of. still_of (get_or t.lots.items k x).value (get_or xs.items k x).value of (new.each k x below));
  masses = λ p l own old h. record { packed = λ is. all_carry own t.lots.items xs.items new (h.packed is); valued = λ is. all_valued p l old t.lots.items xs.items new (h.valued is) };
}

-- where they have packed others, these are of the masses that they carry
pub now_serve : (t : Lots) (xs : Vec (Box Lot)) (m : Masses) (qs : List Patch) → is_one t ≡ false → PackRuns t.each qs t.lots.items xs.items → CarryMasses m xs.items → StillServe (λ own. m) t (record t { lots = xs; packed = true })
now_serve t xs m qs several new carry = record {
  lots = λ s. lots_by t xs true several new.count s (λ parts k x below of. packed_of (get_or t.lots.items k x).value (get_or xs.items k x).value of (run t.each k qs) below (new.lots k x below));
  masses = λ p l own old h. record { packed = λ _. carry; valued = λ is. packed_valued p l old t.each qs t.lots.items xs.items new (h.valued is) };
}

-- ---- what the calls do with lots

-- patches ps became qs, and lots xs became ys: they exchanged patches
pub record AreTraded (each : ℕ) (ps qs : List Patch) (xs ys : List (Box Lot)) : Type 0 where
  pub handed : (k : ℕ) (x : Box Lot) → k < length xs → (get_or ys k x).value.patches.items ≡ run each k ps
  pub back : (k : ℕ) (x : Box Lot) → k < length xs → run each k qs ≡ (get_or xs k x).value.patches.items
  pub count : length qs ≡ length ps
  pub others : AllZip KeepOthers xs ys

pub all_traded : (each : ℕ) (ps qs : List Patch) (v : Vec (Box Lot)) (lent xs : List (Box Lot)) → lent ≡ v.items → AreTraded each ps qs lent xs → AreTraded each ps qs v.items (with_items v xs).items
all_traded each ps qs v lent xs is h = when_lent (AreTraded each ps qs) v lent xs is (length_all_zip KeepOthers lent xs h.others) h

-- each was served
pub record AreServed (duty : Duty) (xs ys : List (Box Lot)) : Type 0 where
  pub served : AllZip (λ (a b : Box Lot). IsServed duty a.value b.value) xs ys

-- ---- the lots of a level, before they are handed its patches

module _ {t : Lots} (ps : List Patch) (made : AreLotsFor (map box ps) t) where
  pub several_of : AreSeveralLots made.made_for made.lots.parts t
  several_of = subst (λ b. AreMade b made.made_for made.lots.parts t) made.several made.lots.made

  pub boxes_of_run : (k : ℕ) → map box (run t.each k ps) ≡ map box (run t.each k made.made_for.patches)
  boxes_of_run k = run_boxes t.each k made.made_for.patches ps made.on_boxes

  pub same_count : length made.made_for.patches ≡ length ps
  same_count = count_of_boxes made.made_for.patches ps made.on_boxes

  pub counts : (k : ℕ) (x : Box Lot) → k < length t.lots.items → length (get_or t.lots.items k x).value.patches.items ≡ length (run t.each k ps)
  counts k x lt = (several_of.lots k x lt).others.count ∙ count_of_boxes (run t.each k made.made_for.patches) (run t.each k ps) (sym (boxes_of_run k))

  pub enough : length ps ≤ length t.lots.items * t.each
  enough = omega (arith, made.lots.enough, same_count)

  pub few_lots : length t.lots.items < 2 ^ 32
  few_lots = omega (arith, made.lots.many)

  -- what is copied from a run is taken from patches over its boxes
  taken_from : (u k : ℕ) (v : Vec FrameCopy) → u < length t.lots.items → k < length t.lots.items → All (IsTaken (run t.each u ps)) (get_or made.lots.parts.copies.items (u * length t.lots.items + k) v).items
  taken_from u k v from_there there = λ i c lt.
      taken_of_boxes (run t.each u made.made_for.patches) (run t.each u ps) (sym (boxes_of_run u)) _
      (copies_taken (domain made.made_for.problem made.made_for.level) made.made_for.patches made.made_for.patches made.lots.plan t.each (length t.lots.items) made.lots.parts (lot_spans made.made_for t made.lots) made.lots.parted (zip_refl KeepsCells keeps_refl made.made_for.patches) u k (run t.each u made.made_for.patches) v from_there there (run_is t.each u made.made_for.patches) i c lt)

  -- so each lot has messages from its run of them
  pub sends_run : (k : ℕ) (x : Box Lot) → k < length t.lots.items → All (IsMessageFrom (run t.each k ps)) (get_or t.lots.items k x).value.workspace.outbox.items
  sends_run k x lt = box_copies (several_of.lots k x lt).serves.outbox (IsTaken (run t.each k ps)) (get_or t.lots.items k x).value.workspace.copies (λ i there. taken_from k i (get_or t.lots.items k x).value.workspace.copies lt there)

  -- and once they are packed from it, they carry its masses
  pub packed_carry : ArePatchesApart ps → (ys : List (Box Lot)) → PackRuns t.each ps t.lots.items ys → CarryMasses (masses_in ps) ys
  packed_carry apart ys new = λ k x lt i m below.
      let there : k < length t.lots.items = omega (arith, lt, new.count) in
      let a : Lot = (get_or t.lots.items k x).value in
      let b : Lot = (get_or ys k x).value in
      let y : Message = get_or b.workspace.outbox.items i m in
      let of = (several_of.lots k x there).serves in
      let packed = (new.lots k x there).packed in
      let out : AreMessagesOf made.lots.parts (λ n. k * length t.lots.items + n) k (length t.lots.items) b.workspace.outbox.items = box_packed of.outbox (run t.each k ps) b.workspace.outbox.items there packed in
      let takes : All (λ (m : Message). All (IsTaken (run t.each k ps)) m.copies.items × HasPlaces m) b.workspace.outbox.items = box_copies out (IsTaken (run t.each k ps)) b.workspace.copies (λ j to. taken_from k j b.workspace.copies there to) in
      packed_carries t.each k ps (run t.each k ps) apart (run_is t.each k ps) y.copies.items y.masses.items (takes i m below).0 (all_packed (run t.each k ps) a.workspace.outbox.items b.workspace.outbox.items packed i m below)
