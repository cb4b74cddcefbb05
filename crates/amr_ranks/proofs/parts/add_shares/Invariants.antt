use Rattle.std.proofs.Common.{◌≡◌, ℕ, ◌+◌, take, get_or}
use Rattle.amr_ranks.specs.Items.{share_in}
use Rattle.amr_ranks.proofs.parts.add_shares.Given as goal

abbrev pub invariant-loop-item : goal.invariant-loop-item
invariant-loop-item l = (w : ℕ) → get_or l.totals w 0 ≡ get_or l.initial.totals w 0 + share_in w (take l.item-index l.items)
