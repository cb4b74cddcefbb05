use Rattle.std.proofs.Common.{◌≡◌, ◌∙◌, ◌||◌, ◌&&◌, Bool, refl, true, false, ℕ, is_some, sym, ap, pos, negsuc}
use Rattle.std.specs.declared.option.Option.{Option}
use Rattle.std.specs.List.{list_any}
use Rattle.amr_box.specs.declared.Cell.{Cell}
use Rattle.amr_box.specs.Cells.{cell}
use Rattle.amr_def.specs.declared.problem.Problem.{Problem}
use Rattle.amr_def.specs.State.{Masses}
use Rattle.amr_def.specs.Tags.{is_tagged_by, neighbours}
use Rattle.amr_witness.specs.Maps.{masses_of, old_of}
use Rattle.amr_witness_regrid.specs.Wanted.{is_steep}
use Rattle.amr_witness_regrid.proofs.Loops.{fails, four_of, passes}
use Rattle.amr_witness_regrid.proofs.tagged.is_tagged.Goals as goal

pub returns-then-is_none : goal.returns-then-is_none
unfolding is_tagged_by
returns-then-is_none c = fails _ _ (sym (ap (λ (o : Option ℕ). is_some o) c.mass_in.ensures) ∙ c.if-is_none.ensures)

pub is_steep-west-requires-clause-inside : goal.is_steep-west-requires-clause-inside
is_steep-west-requires-clause-inside c = c.requires.inside.at c.args.c (sym (ap (λ (o : Option ℕ). is_some o) c.mass_in.ensures) ∙ c.if-is_none.ensures)

pub is_steep-east-requires-clause-inside : goal.is_steep-east-requires-clause-inside
is_steep-east-requires-clause-inside c = c.requires.inside.at c.args.c (sym (ap (λ (o : Option ℕ). is_some o) c.mass_in.ensures) ∙ c.if-is_none.ensures)

pub is_steep-south-requires-clause-inside : goal.is_steep-south-requires-clause-inside
is_steep-south-requires-clause-inside c = c.requires.inside.at c.args.c (sym (ap (λ (o : Option ℕ). is_some o) c.mass_in.ensures) ∙ c.if-is_none.ensures)

pub is_steep-north-requires-clause-inside : goal.is_steep-north-requires-clause-inside
is_steep-north-requires-clause-inside c = c.requires.inside.at c.args.c (sym (ap (λ (o : Option ℕ). is_some o) c.mass_in.ensures) ∙ c.if-is_none.ensures)

opened : (p : Problem) (l : ℕ) (m coarse : Masses) (k : Cell) → is_tagged_by p l m coarse k ≡ (is_some (m k) && list_any (is_steep p l m coarse k) neighbours)
unfolding is_tagged_by
opened p l m coarse k = refl

four : (test : Cell → Bool) → (test (cell (negsuc 0) (pos 0)) || (test (cell (pos 1) (pos 0)) || (test (cell (pos 0) (negsuc 0)) || (test (cell (pos 0) (pos 1)) || false)))) ≡ list_any test neighbours
four test = refl

tagged_is : (p : Problem) (l : ℕ) (m coarse : Masses) (k : Cell) → is_some (m k) ≡ true
    → (is_steep p l m coarse k (cell (negsuc 0) (pos 0)) || (is_steep p l m coarse k (cell (pos 1) (pos 0)) || (is_steep p l m coarse k (cell (pos 0) (negsuc 0)) || (is_steep p l m coarse k (cell (pos 0) (pos 1)) || false)))) ≡ is_tagged_by p l m coarse k
tagged_is p l m coarse k there = four (is_steep p l m coarse k) ∙ passes (is_some (m k)) (list_any (is_steep p l m coarse k) neighbours) there ∙ sym (opened p l m coarse k)

pub returns : goal.returns
returns c =
    let e0 = c.is_steep-west.ensures in
    let e1 = c.is_steep-east.ensures in
    let e2 = c.is_steep-south.ensures in
    let e3 = c.is_steep-north.ensures in
    four_of c.is_steep-west.result c.is_steep-east.result c.is_steep-south.result c.is_steep-north.result ∙ (λ i. e0 i || (e1 i || (e2 i || (e3 i || false))))
    ∙ tagged_is c.args.p.now c.args.here.level (masses_of c.args.here.masses.now) (old_of c.args.here.coarse) c.args.c (sym (ap (λ (o : Option ℕ). is_some o) c.mass_in.ensures) ∙ c.if-is_none.ensures)
