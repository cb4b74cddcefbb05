use Rattle.std.proofs.Common.{◌≡◌, length, take}
use Rattle.amr_ghost.specs.Messages.{ArePacked, mass_count}
use Rattle.amr_ghost.proofs.messages.pack.Given as goal

-- the masses of the copies so far are written
abbrev pub invariant-loop-k : goal.invariant-loop-k
invariant-loop-k l = record {
  done : l.done ≡ mass_count (take l.k l.fn.copies);
  count : length l.masses ≡ length l.initial.masses;
  packed : ArePacked l.fn.patches (take l.k l.fn.copies) l.masses;
}
