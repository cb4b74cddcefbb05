use Rattle.std.proofs.Common.{◌≡◌, ◌∙◌, ◌||◌, Bool, sym, pos, ℤ, ◌+ℤ◌, arith}
use Rattle.std.specs.Prelude.{is_some}
use Rattle.std.proofs.lemmas.Int.{ints}
use Rattle.std.proofs.Math.Bool.{or_assoc}
use Rattle.amr_box.specs.Cells.{cell}
use Rattle.amr_def.specs.State.{Masses}
use Rattle.amr_def.proofs.Children.{covered_by}
use Rattle.amr_patch.specs.Levels.{level_of}
use Rattle.amr_layout.proofs.lookup.has_child.Goals as goal

there_at : (m : Masses) (r : Bool) (x y x' y' : ℤ) → r ≡ is_some (m (cell x y)) → x ≡ x' → y ≡ y' → r ≡ is_some (m (cell x' y'))
there_at m r x y x' y' e ex ey = e ∙ (λ i. is_some (m (cell (ex i) (ey i))))

pub returns : goal.returns
returns c =
    let m = (level_of c.args.level.now).masses in
    let x = c.args.c.x in
    let y = c.args.c.y in
    let e0 = there_at m c.has.result _ _ (x +ℤ x) (y +ℤ y) c.has.ensures (omega (arith, ints)) (omega (arith, ints)) in
    let e1 = there_at m c.has-2.result _ _ (x +ℤ x +ℤ pos 1) (y +ℤ y) c.has-2.ensures (omega (arith, ints)) (omega (arith, ints)) in
    let e2 = there_at m c.has-3.result _ _ (x +ℤ x) (y +ℤ y +ℤ pos 1) c.has-3.ensures (omega (arith, ints)) (omega (arith, ints)) in
    let e3 = there_at m c.has-4.result _ _ (x +ℤ x +ℤ pos 1) (y +ℤ y +ℤ pos 1) c.has-4.ensures (omega (arith, ints)) (omega (arith, ints)) in
    sym (or_assoc (c.has.result || c.has-2.result) c.has-3.result c.has-4.result) ∙ (λ i. e0 i || e1 i || e2 i || e3 i) ∙ sym (covered_by c.args.c m)
