use Rattle.std.proofs.Common.{◌≡◌, rules}
use Rattle.std.proofs.lemmas.Fn.{always_returns_same}
use Rattle.amr_box.specs.Cells.{Extent}
use Rattle.amr_patch.proofs.Standing.{boxes_sorted}
use Rattle.amr_patch.proofs.copies.in_rows.Goals as goal

pub returns-clause-in_rows : goal.returns-clause-in_rows
returns-clause-in_rows c =
    boxes_sorted c.sort_unstable_by_key.new.self.items (c.sort_unstable_by_key.ensures.sorted (λ (b : Extent). (b.lo.y, b.lo.x)) (always_returns_same _ (λ a r. r ≡ (a.0.now.lo.y, a.0.now.lo.x)) _ (λ a r q k. search rules)))
