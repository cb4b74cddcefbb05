use Rattle.std.proofs.Common.{◌≡◌, ◌∙◌, ℕ, true, false, List, [], ◌∷◌, length, refl, sym, arith}
use Rattle.std.specs.Prelude.{◌==◌}
use Rattle.std.specs.Global.{Box}
use Rattle.std.specs.List.{AllZip}
use Rattle.std.proofs.lemmas.Bool.Decides.{Decides-eqb}
use Rattle.amr_lots.specs.declared.lot.Lot.{Lot}
use Rattle.amr_lots.specs.Runs.{KeepAllButEdges}
use Rattle.amr_advance.proofs.level.exchange_lists.Goals as goal

all_kept : (xs : List (Box Lot)) → AllZip KeepAllButEdges xs xs
all_kept [] = tt
all_kept (x ∷ xs) = (refl, all_kept xs)

is_none : (n : ℕ) → (n == 0) ≡ true → n ≡ 0
is_none n e = (Decides-eqb n 0).0 e

is_some : (n : ℕ) → (n == 0) ≡ false → n ≡ 0 → ⊥
is_some n e none = let t = sym e ∙ (Decides-eqb n 0).1 none in absurd (cc)

pub returns-then-is_empty : goal.returns-then-is_empty
returns-then-is_empty c =
    let none = is_none (length c.args.edges.now) (sym c.is_empty.ensures ∙ c.if-is_empty.true) in
    record {
      none = λ e. refl;
      handed = λ some k x lt. absurd (omega (arith, none, some));
      back = λ some k x lt. absurd (omega (arith, none, some));
      count = refl;
      others = all_kept c.args.lots.now;
    }

pub returns-clause-none : goal.returns-clause-none
returns-clause-none c = λ e. absurd (is_some (length c.args.edges.now) (sym c.is_empty.ensures ∙ c.if-is_empty.false) e)
