use Rattle.std.proofs.Common.{◌≡◌, ◌∙◌, true, false, [], ◌∷◌, ◌++◌, ap, refl, sym}
use Rattle.amr_box.specs.declared.Cell.{Cell}
use Rattle.amr_def.specs.Domain.{domain_of, home_cell, in_domain}
use Rattle.amr_register.specs.Beside.{stands_in}
use Rattle.amr_register.specs.Covers.{covers}
use Rattle.amr_register.specs.Belts.{is_in_belt}
use Rattle.amr_register.proofs.CollectLaws.{none_outside, none_within, nothing_added, one_added, stands}
use Rattle.amr_register.proofs.BeltCells.{none_off_belt, stands_in-yes, stands_there}
use Rattle.amr_register.proofs.beside.push_uncovered.Goals as goal

pub returns-then-not-is_in_belt-clause-collects : goal.returns-then-not-is_in_belt-clause-collects
returns-then-not-is_in_belt-clause-collects c = nothing_added _ _ _ refl

pub returns-then-not-is_in_belt-clause-finds : goal.returns-then-not-is_in_belt-clause-finds
returns-then-not-is_in_belt-clause-finds c = λ t.
    let d = domain_of c.args.dom.now in
    let off : is_in_belt c.args.belt (home_cell d c.args.c) ≡ false = ap (is_in_belt c.args.belt) (sym c.home_cell-home.ensures) ∙ sym c.if-not-is_in_belt.ensures in
    absurd (none_off_belt c.args.belt d (covers c.args.cover.now) (home_cell d c.args.c) off t)

pub returns-then-not-in_domain-clause-collects : goal.returns-then-not-in_domain-clause-collects
returns-then-not-in_domain-clause-collects c = nothing_added _ _ _ refl

pub returns-then-not-in_domain-clause-finds : goal.returns-then-not-in_domain-clause-finds
returns-then-not-in_domain-clause-finds c = λ t.
    let d = domain_of c.args.dom.now in
    let outside : in_domain d (home_cell d c.args.c) ≡ false = ap (in_domain d) (sym c.home_cell-home.ensures) ∙ sym c.if-not-in_domain.ensures in
    absurd (none_outside d (covers c.args.cover.now) (home_cell d c.args.c) outside (stands_there c.args.belt d (covers c.args.cover.now) (home_cell d c.args.c) t))

pub returns-then-covers-clause-collects : goal.returns-then-covers-clause-collects
returns-then-covers-clause-collects c = nothing_added _ _ _ refl

pub returns-then-covers-clause-finds : goal.returns-then-covers-clause-finds
returns-then-covers-clause-finds c = λ t.
    let d = domain_of c.args.dom.now in
    let covered : covers c.args.cover.now (home_cell d c.args.c) ≡ true = ap (covers c.args.cover.now) (sym c.home_cell-home.ensures) ∙ sym c.if-covers.ensures.value in
    absurd (none_within d (covers c.args.cover.now) (home_cell d c.args.c) covered (stands_there c.args.belt d (covers c.args.cover.now) (home_cell d c.args.c) t))

pub returns-clause-collects : goal.returns-clause-collects
returns-clause-collects c =
    let d = domain_of c.args.dom.now in
    let test = covers c.args.cover.now in
    let home = home_cell d c.args.c in
    let within : in_domain d home ≡ true = ap (in_domain d) (sym c.home_cell-home.ensures) ∙ sym c.if-not-in_domain.ensures in
    let free : test home ≡ false = ap test (sym c.home_cell-home.ensures) ∙ sym c.if-covers.ensures.value in
    let items : c.push.new.self.items ≡ c.args.cells.now.items ++ home ∷ [] = c.in_ok-push.ensures.items ∙ ap (λ (q : Cell). c.args.cells.now.items ++ q ∷ []) c.home_cell-home.ensures in
    let here : is_in_belt c.args.belt home ≡ true = ap (is_in_belt c.args.belt) (sym c.home_cell-home.ensures) ∙ sym c.if-not-is_in_belt.ensures in
    one_added (stands_in c.args.belt d test) _ _ home items (stands_in-yes c.args.belt d test home here (stands d test home within free c.requires.beside))
