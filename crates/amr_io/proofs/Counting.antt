-- Texts that are counted in turn.
use Rattle.std.proofs.Common.{◌≡◌, ℕ, ◌+◌, ◌<◌, ◌^◌, ◌++◌, List, [], length, length-append, arith, ap, ◌∙◌}
use Rattle.amr_io.specs.Counts.{Counts, capped}

pub counts_none : (a : ℕ) → Counts a a []
counts_none a small = omega (arith, small)

-- one text, and then another
pub counts_then : (a b c : ℕ) (t u : List ℕ) → Counts a b t → Counts b c u → Counts a c (t ++ u)
counts_then a b c t u first second small =
    let one : b ≡ capped (a + length t) = first small in
    let two : c ≡ capped (b + length u) = second (omega (arith, one)) in
    omega (arith, small, one, two, length-append t u)

-- the same text, in other words
pub counts_same : (a b : ℕ) (t u : List ℕ) → t ≡ u → Counts a b t → Counts a b u
counts_same a b t u e counts small = counts small ∙ ap (λ (l : List ℕ). capped (a + length l)) e
