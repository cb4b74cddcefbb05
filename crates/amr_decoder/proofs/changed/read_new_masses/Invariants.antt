use Rattle.std.proofs.Common.{◌≡◌, ◌++◌, drop}
use Rattle.std.specs.Int.{w32}
use Rattle.amr_decoder.specs.Numbers.{numbers}
use Rattle.amr_decoder.proofs.changed.read_new_masses.Given as goal

-- the masses before i are added
abbrev pub invariant-loop-i : goal.invariant-loop-i
invariant-loop-i l = l.masses.items ≡ l.initial.masses.items ++ numbers w32 l.i (drop l.from l.bytes)
