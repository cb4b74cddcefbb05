use Rattle.std.proofs.Common.{◌<◌, ◌∙◌, true, length, refl, sym, ap, subst, arith}
use Rattle.std.proofs.lemmas.Bool.{eqb-true}
use Rattle.amr_patch.specs.Patches.{box}
use Rattle.amr_faces.specs.Faces.{masked_faces}
use Rattle.amr_lots.proofs.ByBorder.{fits_by, kept_by, sizes_small, stepped_by_border}
use Rattle.amr_lots.proofs.Filled.{some_by_test}
use Rattle.amr_lots.proofs.border.step_if_border.Goals as goal

pub returns-then-is_empty-clause-stepped : goal.returns-then-is_empty-clause-stepped
returns-then-is_empty-clause-stepped c = λ some.
    let none = eqb-true (length c.as_slice.result.now) 0 (sym c.is_empty.ensures ∙ c.if-is_empty.true) in
    absurd (omega (arith, some, none, ap length c.as_slice.ensures.value))

pub returns-then-is_empty-clause-stays : goal.returns-then-is_empty-clause-stays
returns-then-is_empty-clause-stays c = λ none. refl

pub update_by-requires : goal.update_by-requires
update_by-requires c =
    let some = some_by_test (length c.as_slice.result.now) (sym c.is_empty.ensures ∙ c.if-is_empty.false) in
    let reads = subst (λ n. 0 < n) (ap length c.as_slice.ensures.value) some in
    let may = c.requires.may reads in
    let sizes = c.requires.sizes reads in
    let mask = c.deref.ensures.value in
    record {
      level = may.step.level;
      inside = may.step.inside;
      border_count = sizes.count ∙ (λ i. length (masked_faces (box c.args.patch.now) (sym mask i)));
      small = may.step.small;
      border_small = sizes_small c.args.p.now c.args.l c.args.sizes.now c.args.layout.now c.args.patch.now may.step sizes;
      kept = kept_by c.args.p.now c.args.l c.args.sizes.now c.args.layout.now c.args.patch.now may.step sizes c.deref.result.now mask;
      fits = fits_by c.args.p.now c.args.l c.args.sizes.now c.args.layout.now c.args.patch.now may.step sizes c.deref.result.now mask;
      room = may.room;
    }

pub returns-clause-stepped : goal.returns-clause-stepped
returns-clause-stepped c = λ reads.
    stepped_by_border c.args.p.now c.args.l c.args.sizes.now c.args.layout.now c.args.patch.now (c.requires.may reads).step (c.requires.sizes reads) c.deref.result.now c.deref.ensures.value c.update_by.new.patch c.update_by.ensures.of_box c.update_by.ensures.masses

pub returns-clause-stays : goal.returns-clause-stays
returns-clause-stays c = λ none.
    let some = some_by_test (length c.as_slice.result.now) (sym c.is_empty.ensures ∙ c.if-is_empty.false) in
    absurd (omega (arith, some, none, ap length c.as_slice.ensures.value))
