use Rattle.std.proofs.Common.{◌≡◌, ℕ, zero, suc, ◌/◌, ◌<◌, false, List, length, take, drop, get_or, IsTrue, sym, ap, subst, ◌∙◌, arith}
use Rattle.std.specs.Prelude.{slice_index, slice_set}
use Rattle.std.proofs.lemmas.List.{get_or-set_same, get_or_append_left, length-take-le}
use Rattle.amr_box.specs.declared.Cell.{Cell}
use Rattle.amr_box.specs.Cells.{holds, parent}
use Rattle.amr_def.specs.State.{mass_of}
use Rattle.amr_patch.specs.declared.patches.Patch.{Patch}
use Rattle.amr_patch.specs.Patches.{box, in_patches, mass_in}
use Rattle.amr_patch.specs.Levels.{level_of}
use Rattle.amr_ghost.specs.Strips.{step}
use Rattle.amr_ghost.proofs.Beyond.{level_mass, no_mass, only_first, over_patch}
use Rattle.amr_ghost.proofs.outer.quarter_first.Goals as goal

part_count : (c : goal.After-quarter_held-arg-1) → length (take c.min-count.result c.args.values.now) ≡ c.min-count.result
part_count c = length-take-le c.min-count.result c.args.values.now (omega (arith, c.min-count.ensures))

pub quarter_held-requires-clause-masses : goal.quarter_held-requires-clause-masses
quarter_held-requires-clause-masses c k t =
    let e = c.index-coarse-j-in-Some.result in
    let held = over_patch c.patches-coarse.result.now c.in-Some.j c.index-coarse-j.result c.bx.result c.args.axis c.args.from c.parent.result c.children_ahead.result k c.in-Some.ensures.found c.parent.ensures.value c.index-coarse-j.is c.bx.ensures.value c.children_ahead.ensures.up_to_high (omega (arith, t, part_count c, c.min-count.ensures)) e in
    subst (λ (q : Patch). IsTrue (holds (box q) (parent (step c.args.axis c.args.from k)))) (sym c.index-coarse-j-in-Some.is) held

pub returns-in-Some-clause-quarters : goal.returns-in-Some-clause-quarters
returns-in-Some-clause-quarters c k t =
    let ps = c.patches-coarse.result.now in
    let m = (level_of c.args.level.now).masses in
    let f : Cell = parent (step c.args.axis c.args.from k) in
    let e = c.index-coarse-j-in-Some.result in
    let xs = c.quarter_held.new.values in
    let part : length (take c.min-count.result c.args.values.now) ≡ c.min-count.result = length-take-le c.min-count.result c.args.values.now (omega (arith, c.min-count.ensures)) in
    let count : length xs ≡ c.min-count.result = c.quarter_held.ensures.count ∙ part in
    let held : (q : Patch) → IsTrue (holds (box (get_or ps c.in-Some.j q)) f) = over_patch ps c.in-Some.j c.index-coarse-j.result c.bx.result c.args.axis c.args.from c.parent.result c.children_ahead.result k c.in-Some.ensures.found c.parent.ensures.value c.index-coarse-j.is c.bx.ensures.value c.children_ahead.ensures.up_to_high (omega (arith, t, c.min-count.ensures)) in
    let is : mass_of m f ≡ mass_in e f = level_mass m ps c.in-Some.j e f c.patches-coarse.ensures.masses c.patches-coarse.ensures.apart (record { inside = c.in-Some.ensures.found.inside; holds_it = held }) ∙ ap (λ (q : Patch). mass_in q f) (sym c.index-coarse-j-in-Some.is) in
    get_or_append_left xs (drop c.min-count.result c.args.values.now) 0 k (omega (arith, t, count))
    ∙ c.quarter_held.ensures.quarters k (omega (arith, t, part))
    ∙ ap (λ (n : ℕ). n / 4) (sym is)

first_set : (vs : List ℕ) (k : ℕ) → 0 < length vs → k < 1 → slice_index (slice_set vs 0 0) k ≡ 0
first_set vs zero some t = get_or-set_same vs 0 0 0 some
first_set vs (suc k) some t = absurd (omega arith)

pub returns-in-None-clause-quarters : goal.returns-in-None-clause-quarters
returns-in-None-clause-quarters c k t =
    let ps = c.patches-coarse.result.now in
    let m = (level_of c.args.level.now).masses in
    let none : in_patches ps (parent c.args.from) ≡ false = subst (λ (s : Cell). in_patches ps s ≡ false) c.parent.ensures.value (sym c.in-None.ensures.some) in
    first_set c.args.values.now k c.requires.some t
    ∙ sym (only_first (λ (s : Cell). mass_of m (parent s) / 4 ≡ 0) c.args.axis c.args.from k t (ap (λ (n : ℕ). n / 4) (no_mass m ps (parent c.args.from) c.patches-coarse.ensures.masses none)))
