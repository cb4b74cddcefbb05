use Rattle.std.proofs.Common.{◌≡◌, ℕ, ◌<◌, Bool, true, false, List, length, get_or, refl, sym, subst}
use Rattle.std.specs.Global.{Box, Vec}
use Rattle.std.specs.Option.{option_copied}
use Rattle.std.specs.Vec.{with_items}
use Rattle.amr_ghost.specs.Frames.{old_masses}
use Rattle.amr_lots.specs.declared.lot.Lot.{Lot}
use Rattle.amr_lots.specs.Runs.{run}
use Rattle.amr_patch.specs.declared.patches.Patch.{Patch}
use Rattle.amr_register.specs.declared.edges.EdgeCell.{EdgeCell}
use Rattle.amr_advance.specs.declared.level.StepInput.{StepInput}
use Rattle.amr_advance.specs.declared.lots.Lots.{Lots}
use Rattle.amr_advance.specs.Handed.{AreHanded, AreLent}
use Rattle.amr_advance.specs.InLots.{StandInLots}
use Rattle.amr_advance.specs.Steps.{around_of}
use Rattle.amr_advance.proofs.InLots.{IsInStep, in_step}
use Rattle.amr_advance.proofs.LotsHanded.{all_handed, all_lent}
use Rattle.amr_advance.proofs.SteppedLots.{edges_same, lists_back, now_made, patches_back, patches_same}
use Rattle.amr_advance.proofs.level.take_from_lots.Goals.{After-exchange_lists, After-exchange_runs, Start}
use Rattle.amr_advance.proofs.level.take_from_lots.Goals as goal

-- ---- the stages

in_its_step : (g : StepInput) (b : Bool) (ps : List Patch) (es : List (Vec EdgeCell)) (t : Lots) (qs : List Patch) (ds : List (Vec EdgeCell)) (u : Lots) → StandInLots g b ps es t qs ds u → IsInStep (around_of g ps) (old_masses (option_copied g.old)) t
in_its_step g b ps es t qs ds u h = in_step (around_of g ps) (old_masses (option_copied g.old)) t h.may.step.level h.may.lots.lots

module _ (g : StepInput) (b : Bool) (ps : List Patch) (es : List (Vec EdgeCell)) (t : Lots) where
  module _ (c : After-exchange_lists) (h : StandInLots g b ps es t c.args.patches.now c.args.edges.now c.args.lots.now) where
    -- the lists taken back
    lists : AreLent t.each c.args.edges.now c.exchange_lists.new.edges c.args.lots.now.lots.items (with_items c.args.lots.now.lots c.exchange_lists.new.lots).items
    lists =
        let call = c.exchange_lists.ensures in
        let u = c.args.lots.now in
        subst (λ n. AreLent n c.args.edges.now c.exchange_lists.new.edges u.lots.items (with_items u.lots c.exchange_lists.new.lots).items) (λ i. (h.rest i).each)
        (all_lent u.each c.args.edges.now c.exchange_lists.new.edges u.lots c.deref_mut.result.now c.exchange_lists.new.lots c.deref_mut.ensures.value
        (record { none = call.none; handed = call.handed; back = call.back; count = call.count; others = call.others }))

  module _ (c : After-exchange_runs) (h : StandInLots g b ps es t c.args.patches.now c.args.edges.now c.args.lots.now) where
    -- the lots with the patches that they had before
    last : AreHanded t.each c.args.patches.now (with_items c.args.lots.now.lots c.exchange_lists.new.lots).items (with_items (with_items c.args.lots.now.lots c.exchange_lists.new.lots) c.exchange_runs.new.lots).items
    last =
        let call = c.exchange_runs.ensures in
        let v = with_items c.args.lots.now.lots c.exchange_lists.new.lots in
        subst (λ n. AreHanded n c.args.patches.now v.items (with_items v c.exchange_runs.new.lots).items) (λ i. (h.rest i).each)
        (all_handed c.args.lots.now.each c.args.patches.now v c.deref_mut-2.result.now c.exchange_runs.new.lots c.deref_mut-2.ensures.value (record { patches = call.handed; others = call.others }))

    -- and the patches that came back
    back : (k : ℕ) (x : Box Lot) → k < length (with_items c.args.lots.now.lots c.exchange_lists.new.lots).items
        → run t.each k c.exchange_runs.new.patches ≡ (get_or (with_items c.args.lots.now.lots c.exchange_lists.new.lots).items k x).value.patches.items
    back =
        let zs = c.exchange_runs.new.patches in
        let v = with_items c.args.lots.now.lots c.exchange_lists.new.lots in
        subst (λ (n : ℕ). (k : ℕ) (x : Box Lot) → k < length v.items → run n k zs ≡ (get_or v.items k x).value.patches.items) (λ i. (h.rest i).each)
        (subst (λ (ys : List (Box Lot)). (k : ℕ) (x : Box Lot) → k < length ys → run c.args.lots.now.each k zs ≡ (get_or ys k x).value.patches.items) c.deref_mut-2.ensures.value c.exchange_runs.ensures.back)

-- ---- the goals

pub exchange_lists-requires : goal.exchange_lists-requires
exchange_lists-requires c =
    let at = goal.at.exchange_lists-requires c in
    let g = c.requires.0 in
    let t = c.requires.4 in
    let h = c.requires.5 in
    let u = c.args.lots.now in
    let ds = c.args.edges.now in
    record {
      counts = λ some.
          subst (λ (n : ℕ). (k : ℕ) (x : Box Lot) → k < length c.deref_mut.result.now → length (get_or c.deref_mut.result.now k x).value.edges.items ≡ length (run n k ds)) (λ i. (sym h.rest i).each)
          (subst (λ (ys : List (Box Lot)). (k : ℕ) (x : Box Lot) → k < length ys → length (get_or ys k x).value.edges.items ≡ length (run t.each k ds)) (sym c.deref_mut.ensures.value)
          (lists_back (in_its_step g c.requires.1 c.requires.2 c.requires.3 t c.args.patches.now ds u h) h.may.several h.may.lots.values h.given h.may.edges h.may.lots.packed u.lots.items h.as_many some));
    }

pub exchange_runs-requires : goal.exchange_runs-requires
exchange_runs-requires c =
    let at = goal.at.exchange_runs-requires c in
    let g = c.requires.0 in
    let t = c.requires.4 in
    let h = c.requires.5 in
    let u = c.args.lots.now in
    let qs = c.args.patches.now in
    record {
      counts = subst (λ (n : ℕ). (k : ℕ) (x : Box Lot) → k < length c.deref_mut-2.result.now → length (get_or c.deref_mut-2.result.now k x).value.patches.items ≡ length (run n k qs)) (λ i. (sym h.rest i).each)
          (subst (λ (ys : List (Box Lot)). (k : ℕ) (x : Box Lot) → k < length ys → length (get_or ys k x).value.patches.items ≡ length (run t.each k qs)) (sym c.deref_mut-2.ensures.value)
          (patches_back (in_its_step g c.requires.1 c.requires.2 c.requires.3 t qs c.args.edges.now u h) h.may.several h.may.lots.values h.given h.may.edges h.may.lots.packed u.lots.items h.as_many
          (lists g c.requires.1 c.requires.2 c.requires.3 t at.After-exchange_lists h)));
    }

pub returns-clause-unmade : goal.returns-clause-unmade
returns-clause-unmade c = λ g ps es t h.
    let at = goal.at.returns-clause-unmade c in
    let u = c.args.lots.now in
    let level = in_its_step g false ps es t c.args.patches.now c.args.edges.now u h in (
      patches_same level h.may.several h.may.lots.values h.given h.may.edges h.may.lots.packed u.lots.items h.as_many (lists g false ps es t at.After-exchange_lists h)
          c.exchange_runs.new.patches (last g false ps es t at.After-exchange_runs h) (back g false ps es t at.After-exchange_runs h) c.exchange_runs.ensures.count (h.unmade refl),
      edges_same level h.may.several h.may.lots.values h.given h.may.edges h.may.lots.packed u.lots.items h.as_many (lists g false ps es t at.After-exchange_lists h)
          c.exchange_runs.new.patches (last g false ps es t at.After-exchange_runs h) (back g false ps es t at.After-exchange_runs h) c.exchange_runs.ensures.count (h.unmade refl),
    )

pub returns-clause-made : goal.returns-clause-made
returns-clause-made c = λ g ps es t h.
    let at = goal.at.returns-clause-made c in
    let u' = c.args.lots.now in
    let done = h.made refl in
    let rest = h.rest in
    let u = record u' { lots = with_items (with_items u'.lots c.exchange_lists.new.lots) c.exchange_runs.new.lots } in
    now_made (in_its_step g true ps es t c.args.patches.now c.args.edges.now u' h) h.may.several h.may.lots.values h.given h.may.edges h.may.lots.packed u'.lots.items h.as_many (lists g true ps es t at.After-exchange_lists h)
    c.exchange_runs.new.patches (last g true ps es t at.After-exchange_runs h) (back g true ps es t at.After-exchange_runs h) c.exchange_runs.ensures.count g.basis.now (option_copied g.old) h.may.step.basis refl u' refl done
    u (record { level = (λ i. (rest i).level); wanted = (λ i. (rest i).wanted); each = (λ i. (rest i).each); shape = (λ i. (rest i).shape); totals = done.words; lots = refl }) refl
