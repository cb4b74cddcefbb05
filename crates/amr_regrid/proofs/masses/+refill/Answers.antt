use Rattle.std.proofs.Common.{◌≡◌, ◌∙◌, ◌<◌, List, length, map, sym, ap, subst, arith}
use Rattle.std.specs.List.{All}
use Rattle.std.specs.Option.{option_copied}
use Rattle.amr_box.specs.Cells.{Extent, in_boxes}
use Rattle.amr_def.specs.Regrid.{first_masses, refill}
use Rattle.amr_def.specs.State.{no_masses}
use Rattle.amr_laws.proofs.Refill.{new_level}
use Rattle.amr_patch.specs.declared.levels.Level.{Level}
use Rattle.amr_patch.specs.Levels.{level_of}
use Rattle.amr_patch.specs.Patches.{ArePairwiseApart, AreNear}
use Rattle.amr_regrid.specs.declared.masses.Remade.{Remade}
use Rattle.amr_regrid.specs.declared.masses.Remade.TheVariants.{Made}
use Rattle.amr_regrid.specs.Outlines.{lists_in}
use Rattle.amr_regrid.specs.Remade.{IsChoppedIfMade, HasMassesInBoxes, remade_levels}
use Rattle.amr_regrid.proofs.Refilling.{items_empty, items_some, nil_of, refill_empty, refill_none}
use Rattle.amr_regrid.proofs.Remaking.{all_more, all_none, all_rest, first_filled, first_is, kept_stands, kept_step, made_stands, made_step, none_remade}
use Rattle.amr_regrid.proofs.Standing.{apart, near, parents}
use Rattle.amr_regrid.proofs.masses.+refill.Goals as goal

pub returns-in_default-clause-levels : goal.returns-in_default-clause-levels
returns-in_default-clause-levels g t c =
    ap (λ (rs : List Remade). map level_of (remade_levels c.args.olds.now rs)) c.new.ensures.items ∙ none_remade c.args.olds.now
    ∙ refill_none (level_of c.args.coarse.now).masses (map level_of c.args.olds.now) (lists_in c.args.boxes.now) (ap lists_in (nil_of c.args.boxes.now c.in_default.ensures.cases))

pub returns-in_default-clause-chopped : goal.returns-in_default-clause-chopped
returns-in_default-clause-chopped g t c = all_none (IsChoppedIfMade c.args.p.now.max_grid_size) c.new.result.items c.new.ensures.items

pub returns-then-is_empty-clause-levels : goal.returns-then-is_empty-clause-levels
returns-then-is_empty-clause-levels g t c =
    let none = sym c.as_slice-here.ensures.value ∙ items_empty c.as_slice-here.result.now (sym c.if-is_empty.true ∙ c.is_empty.ensures) in
    ap (λ (rs : List Remade). map level_of (remade_levels c.args.olds.now rs)) c.new-then-is_empty.ensures.items ∙ none_remade c.args.olds.now
    ∙ refill_empty (level_of c.args.coarse.now).masses (map level_of c.args.olds.now) (lists_in c.args.boxes.now) (lists_in c.in-Some.more.now) c.in-Some.here.now.items (ap lists_in c.in-Some.ensures.cases.0) none

pub refill-requires : goal.refill-requires
refill-requires g t c κs within =
    let olds = c.args.olds.now in
    let slice = c.as_slice-here.ensures.value in
    let some : 0 < length c.in-Some.here.now.items = subst (λ (xs : List Extent). 0 < length xs) slice (items_some c.as_slice-here.result.now (sym c.if-is_empty.false ∙ c.is_empty.ensures)) in
    let kept = c.in-Some-unchanged.ensures in
    let filled = first_filled olds kept.0 c.in-Some-unchanged.old.now kept.1 c.requires.filled in (
      omega (arith, c.decreases, c.in-Some.ensures.cases.1),
      (within, (c.requires.shared, (kept_stands c.args.p.now c.requires.stands.0 (level_of c.args.coarse.now) (lists_in c.args.boxes.now) (lists_in c.in-Some.more.now) c.in-Some.here.now.items c.requires.stands.1 (ap lists_in c.in-Some.ensures.cases.0) some (level_of c.in-Some-unchanged.old.now) (kept.2 ∙ slice) filled, subst (λ (os : List Level). All HasMassesInBoxes (map level_of os)) (sym c.rest_of.ensures) (all_rest HasMassesInBoxes olds c.requires.filled)))),
    )

pub returns-in-Some-unchanged-clause-levels : goal.returns-in-Some-unchanged-clause-levels
returns-in-Some-unchanged-clause-levels g t c =
    let olds = c.args.olds.now in
    let old = c.in-Some-unchanged.old.now in
    let slice = c.as_slice-here.ensures.value in
    let some : 0 < length c.in-Some.here.now.items = subst (λ (xs : List Extent). 0 < length xs) slice (items_some c.as_slice-here.result.now (sym c.if-is_empty.false ∙ c.is_empty.ensures)) in
    let kept = c.in-Some-unchanged.ensures in
    let r = c.in_ok-all.all.items in
    let more = lists_in c.in-Some.more.now in
    let finer = subst (λ (os : List Level). map level_of (remade_levels os r) ≡ refill (level_of old).masses (map level_of os) more) c.rest_of.ensures c.in_ok-all.ensures.levels in
    ap (λ (rs : List Remade). map level_of (remade_levels olds rs)) c.in_ok-insert.ensures.items
    ∙ kept_step (level_of c.args.coarse.now).masses olds (lists_in c.args.boxes.now) more c.in-Some.here.now.items (ap lists_in c.in-Some.ensures.cases.0) some r old kept.0 kept.1 (kept.2 ∙ slice) (first_filled olds kept.0 old kept.1 c.requires.filled) finer

pub made-requires-clause-apart : goal.made-requires-clause-apart
made-requires-clause-apart g t c =
    subst (λ (bs : List Extent). ArePairwiseApart bs) (sym c.as_slice-here.ensures.value)
    (apart c.args.p.now c.requires.stands.0 (level_of c.args.coarse.now) (lists_in c.args.boxes.now) (lists_in c.in-Some.more.now) c.in-Some.here.now.items c.requires.stands.1 (ap lists_in c.in-Some.ensures.cases.0))

pub made-requires-clause-near : goal.made-requires-clause-near
made-requires-clause-near g t c =
    subst (λ (bs : List Extent). AreNear bs) (sym c.as_slice-here.ensures.value)
    (near c.args.p.now c.requires.stands.0 (level_of c.args.coarse.now) (lists_in c.args.boxes.now) (lists_in c.in-Some.more.now) c.in-Some.here.now.items c.requires.stands.1 (ap lists_in c.in-Some.ensures.cases.0))

pub made-requires-clause-parents : goal.made-requires-clause-parents
made-requires-clause-parents g t c = λ q h.
    let slice = c.as_slice-here.ensures.value in
    let some : 0 < length c.in-Some.here.now.items = subst (λ (xs : List Extent). 0 < length xs) slice (items_some c.as_slice-here.result.now (sym c.if-is_empty.false ∙ c.is_empty.ensures)) in
    parents c.args.p.now c.requires.stands.0 (level_of c.args.coarse.now) (lists_in c.args.boxes.now) (lists_in c.in-Some.more.now) c.in-Some.here.now.items c.requires.stands.1 (ap lists_in c.in-Some.ensures.cases.0) some no_masses q (sym (ap (λ (bs : List Extent). in_boxes bs q) slice) ∙ h)

pub refill-requires-2 : goal.refill-requires-2
refill-requires-2 g t c κs within =
    let olds = c.args.olds.now in
    let m = (level_of c.args.coarse.now).masses in
    let slice = c.as_slice-here.ensures.value in
    let some : 0 < length c.in-Some.here.now.items = subst (λ (xs : List Extent). 0 < length xs) slice (items_some c.as_slice-here.result.now (sym c.if-is_empty.false ∙ c.is_empty.ensures)) in
    let before = first_is olds (option_copied c.first.result) c.first.ensures.value in
    let is = c.in_ok-level.ensures.level ∙ (λ i. new_level m (before i) (slice i)) in (
      omega (arith, c.decreases, c.in-Some.ensures.cases.1),
      (within, (c.requires.shared, (made_stands c.args.p.now c.requires.stands.0 (level_of c.args.coarse.now) (lists_in c.args.boxes.now) (lists_in c.in-Some.more.now) c.in-Some.here.now.items c.requires.stands.1 (ap lists_in c.in-Some.ensures.cases.0) some (first_masses (map level_of olds)) (level_of c.in_ok-level.level) is, subst (λ (os : List Level). All HasMassesInBoxes (map level_of os)) (sym c.rest_of-2.ensures) (all_rest HasMassesInBoxes olds c.requires.filled)))),
    )

pub returns-clause-levels : goal.returns-clause-levels
returns-clause-levels g t c =
    let olds = c.args.olds.now in
    let m = (level_of c.args.coarse.now).masses in
    let k = c.in_ok-level.level in
    let slice = c.as_slice-here.ensures.value in
    let some : 0 < length c.in-Some.here.now.items = subst (λ (xs : List Extent). 0 < length xs) slice (items_some c.as_slice-here.result.now (sym c.if-is_empty.false ∙ c.is_empty.ensures)) in
    let before = first_is olds (option_copied c.first.result) c.first.ensures.value in
    let is = c.in_ok-level.ensures.level ∙ (λ i. new_level m (before i) (slice i)) in
    let r = c.in_ok-all-2.all.items in
    let more = lists_in c.in-Some.more.now in
    let finer = subst (λ (os : List Level). map level_of (remade_levels os r) ≡ refill (level_of k).masses (map level_of os) more) c.rest_of-2.ensures c.in_ok-all-2.ensures.levels in
    ap (λ (rs : List Remade). map level_of (remade_levels olds rs)) c.in_ok-insert-2.ensures.items
    ∙ made_step m olds (lists_in c.args.boxes.now) more c.in-Some.here.now.items (ap lists_in c.in-Some.ensures.cases.0) some r k is finer

pub returns-clause-chopped : goal.returns-clause-chopped
returns-clause-chopped g t c =
    all_more (IsChoppedIfMade c.args.p.now.max_grid_size) (Made c.in_ok-level.level) c.in_ok-all-2.all.items c.insert-2.new.self.items c.in_ok-insert-2.ensures.items c.in_ok-level.ensures.chopped c.in_ok-all-2.ensures.chopped
