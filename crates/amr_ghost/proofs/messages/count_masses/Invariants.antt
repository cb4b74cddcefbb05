use Rattle.std.proofs.Common.{◌≡◌, take}
use Rattle.amr_ghost.specs.Messages.{mass_count}
use Rattle.amr_ghost.proofs.messages.count_masses.Given as goal

-- the masses of the copies so far are counted
abbrev pub invariant-loop-k : goal.invariant-loop-k
invariant-loop-k l = l.count ≡ mass_count (take l.k l.copies)
