-- The cell that a cell stands for: itself where it is inside, and never farther from 0 than the domain or the cell.
use Rattle.std.proofs.Common.{◌≡◌, ℕ, ◌<◌, Bool, true, false, ℤ, pos, negsuc, ◌≤ℤ◌, IsTrue, refl, ap, arith}
use Rattle.std.proofs.lemmas.Int.{ints}
use Rattle.std.proofs.Math.Nat.{mod-eq_of_lt}
use Rattle.amr_def.specs.Domain.{is_inside, wrapped}

pub inside-itself : (wrap : Bool) (n : ℕ) (z : ℤ) → IsTrue (is_inside n z) → wrapped wrap n z ≡ z
inside-itself false n z h = refl
inside-itself true n (pos a) h = ap pos (mod-eq_of_lt (below a n h))
  where
    below : (a n : ℕ) → IsTrue (is_inside n (pos a)) → a < n
    below a n h = grind (arith, ints)
inside-itself true n (negsuc a) h = absurd (grind (arith, ints))

-- between bounds that have the coordinate and the axis between them
pub wrapped_between : (wrap : Bool) (n : ℕ) (z low high : ℤ) → 0 < n → low ≤ℤ pos 0 → pos n ≤ℤ high → low ≤ℤ z → z ≤ℤ high → (low ≤ℤ wrapped wrap n z) × (wrapped wrap n z ≤ℤ high)
wrapped_between false n z low high some l h from to = (from, to)
wrapped_between true n (pos a) low high some l h from to = (omega (arith, ints), omega (arith, ints))
wrapped_between true n (negsuc a) low high some l h from to = (omega (arith, ints), omega (arith, ints))
