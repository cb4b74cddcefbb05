use Rattle.std.proofs.Common.{◌≡◌, ◌∙◌, ◌+◌, ◌-◌, ℕ, List, length, get_or, take, sym, ap, arith}
use Rattle.std.specs.Prelude.{slice_get}
use Rattle.std.specs.Option.{option_copied}
use Rattle.std.proofs.lemmas.List.{get_or-drop}
use Rattle.std.proofs.lemmas.Result.{IfOk-weaker}
use Rattle.amr_def.specs.State as defined
use Rattle.amr_def.specs.State.{level_at, masses_below}
use Rattle.amr_def.specs.Tags.{is_tagged_by}
use Rattle.amr_ghost.specs.Frames.{old_masses}
use Rattle.amr_patch.specs.declared.levels.Level.{Level}
use Rattle.amr_patch.specs.Levels.{level_of}
use Rattle.amr_regrid.specs.Outlines.{with_levels}
use Rattle.amr_regrid.proofs.OutlineLaws.{below_masses, level_at_is}
use Rattle.amr_regrid.proofs.boxes.tags_at.Goals as goal

pub returns-clause-cells : goal.returns-clause-cells
returns-clause-cells c =
    let p = c.args.p.now in
    let l = c.args.l in
    let ks = c.args.levels.now in
    let k = c.index-above-0.result in
    let split = c.split_at_mut-below.ensures in
    let none : l + 0 ≡ l = omega arith in
    let place : k ≡ get_or ks l k = c.index-above-0.is ∙ ap (λ (js : List Level). get_or js 0 k) split.back ∙ get_or-drop l ks 0 k ∙ ap (λ (n : ℕ). get_or ks n k) none in
    let here : level_of (get_or c.split_at_mut-below.result.1.now 0 k) ≡ level_at (with_levels ks) l = ap level_of (sym c.index-above-0.is) ∙ sym (level_at_is ks l k c.requires.there place) in
    let many : length (take l ks) ≡ l = sym (ap length split.front) ∙ split.front_len in
    let last : option_copied c.last.result ≡ slice_get (take l ks) (length (take l ks) - 1) = c.last.ensures.value ∙ ap (λ (js : List Level). slice_get js (length js - 1)) split.front in
    let under : old_masses (option_copied c.last.result) ≡ masses_below (with_levels ks) l = below_masses ks l (option_copied c.last.result) c.requires.there many last in
    IfOk-weaker c.tags.result _ _ (λ t e q. e q ∙ ap (λ (j : defined.Level). is_tagged_by p l j.masses (old_masses (option_copied c.last.result)) q) here ∙ ap (λ (m : defined.Masses). is_tagged_by p l (level_at (with_levels ks) l).masses m q) under) c.tags.ensures.cells
