use Rattle.std.proofs.Common.{◌≡◌, ◌∙◌, ◌-◌, ℕ, ℤ, ap, to_z, of_z, w32, w64, arith}
use Rattle.std.specs.Prelude.{slice_index_or}
use Rattle.std.proofs.lemmas.Int.{ints}
use Rattle.amr_box.specs.declared.Cell.{Cell}
use Rattle.amr_box.specs.Cells.{cell}
use Rattle.amr_patch.specs.Patches.{box}
use Rattle.amr_patch.specs.Orders.{comes_first}
use Rattle.amr_patch.proofs.Lookups.{is_point}
use Rattle.amr_patch.proofs.lookup.is_count.Goals as goal

pub returns-clause-parts : goal.returns-clause-parts
returns-clause-parts c = λ yes.
    let ps = c.args.patches.now in
    let n : ℕ = c.args.count in
    let x : c.args.x ≡ to_z w32 (of_z w32 c.args.x) = omega (arith, ints) in
    let y : c.args.y ≡ to_z w64 (of_z w64 c.args.y) = omega (arith, ints) in
    let same : cell c.args.x c.args.y ≡ cell (to_z w32 (of_z w32 c.args.x)) (to_z w64 (of_z w64 c.args.y)) = ap (λ (z : ℤ). cell z c.args.y) x ∙ ap (λ (z : ℤ). cell (to_z w32 (of_z w32 c.args.x)) z) y in
    is_point ps (cell c.args.x c.args.y) n c.requires
    (λ p lt. ap (λ (d : Cell). comes_first (box (slice_index_or ps (n - 1) p)).lo d) same ∙ c.starts_last.ensures c.if-not-starts_last.false p lt)
    (λ p lt. ap (λ (d : Cell). comes_first (box (slice_index_or ps n p)).lo d) same ∙ c.starts_later.ensures yes p lt)
    (omega (arith, c.if-patches-count.false))
