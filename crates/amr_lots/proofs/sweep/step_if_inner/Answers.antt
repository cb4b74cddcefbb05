use Rattle.std.proofs.Common.{◌∙◌, length, refl, sym, ap, arith}
use Rattle.std.proofs.lemmas.Bool.{eqb-true}
use Rattle.amr_lots.proofs.Filled.{some_by_test}
use Rattle.amr_lots.proofs.sweep.step_if_inner.Goals as goal

pub returns-then-not-is_empty-clause-stepped : goal.returns-then-not-is_empty-clause-stepped
returns-then-not-is_empty-clause-stepped c = λ none.
    let some = some_by_test (length c.as_slice.result.now) (sym c.is_empty.ensures ∙ c.if-not-is_empty.true) in
    absurd (omega (arith, some, none, ap length c.as_slice.ensures.value))

pub returns-then-not-is_empty-clause-stays : goal.returns-then-not-is_empty-clause-stays
returns-then-not-is_empty-clause-stays c = λ some. refl

pub update_alone-requires : goal.update_alone-requires
update_alone-requires c =
    let none = eqb-true (length c.as_slice.result.now) 0 (sym c.is_empty.ensures ∙ c.if-not-is_empty.false) in
    let may = c.requires (sym (ap length c.as_slice.ensures.value) ∙ none) in
    record { level = may.step.level; inside = may.step.inside; small = may.step.small; kept = may.step.kept; fits = may.step.fits; room = may.room }

pub returns-clause-stepped : goal.returns-clause-stepped
returns-clause-stepped c = λ none. record { of_box = c.update_alone.ensures.of_box; masses = c.update_alone.ensures.masses }

pub returns-clause-stays : goal.returns-clause-stays
returns-clause-stays c = λ some.
    let none = eqb-true (length c.as_slice.result.now) 0 (sym c.is_empty.ensures ∙ c.if-not-is_empty.false) in
    absurd (omega (arith, some, none, ap length c.as_slice.ensures.value))
