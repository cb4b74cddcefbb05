use Rattle.std.proofs.Common.{◌≡◌, ℕ, ◌+◌, ◌*◌, ◌<◌, cond, get_or}
use Rattle.amr_start.proofs.Filling.{is_in_rows}
use Rattle.amr_start.proofs.blocks.fill_block.Given as goal

-- the block's rows before y have its mass
abbrev pub invariant-loop-y : goal.invariant-loop-y
invariant-loop-y l = (x y : ℕ) → x < l.columns → y < l.rows → get_or l.masses (y * l.columns + x) 0 ≡ cond (is_in_rows l.b l.y x y) l.b.mass (get_or l.fn.masses (y * l.columns + x) 0)
