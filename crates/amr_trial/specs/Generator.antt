-- The generator of trials: the linear congruential generator of the machine MMIX (Knuth, "The Art of Computer Programming", volume 2,
-- section 3.3.4, whose multiplier is C. E. Haynes's), of which a draw takes the high 31 bits.
use Rattle.std.specs.Prelude.{ℕ, suc, ◌+◌, ◌*◌, ◌/◌, ◌%◌, ◌^◌}
use Rattle.amr_def.specs.Run.{times}

-- the state that a draw leads to
unfoldable pub moved : ℕ → ℕ
moved state = (state * 6364136223846793005 + 1442695040888963407) % 2 ^ 64

-- the high 31 bits of a state
unfoldable pub quotient : ℕ → ℕ
quotient state = state / 2 ^ 33

-- the state after so many draws
abbrev pub after : ℕ → ℕ → ℕ
after draws state = times moved draws state

-- of the draws from a state on, the one after so many others: a number below n
abbrev pub draw : ℕ → ℕ → ℕ → ℕ
draw state others n = quotient (after (suc others) state) % n
