-- Lists of two parts, as those who keep workers have them: the workers so far, and one more.
use Rattle.std.proofs.Common.{◌≡◌, zero, suc, ◌+◌, List, [], ◌∷◌, ◌++◌, length, refl, arith}
use Rattle.std.specs.List.{All}

module _ {X : Type 0} (Q : X → Type 0) where
  pub all_left : (xs ys : List X) → All Q (xs ++ ys) → All Q xs
  all_left [] ys h k d lt = absurd (omega arith)
  all_left (x ∷ xs) ys h zero d lt = h zero d (omega arith)
  all_left (x ∷ xs) ys h (suc k) d lt = all_left xs ys (λ j e l. h (suc j) e (omega arith)) k d (omega arith)

  pub all_right : (xs ys : List X) → All Q (xs ++ ys) → All Q ys
  all_right [] ys h = h
  all_right (x ∷ xs) ys h = all_right xs ys (λ j e l. h (suc j) e (omega arith))

  pub all_init : (xs : List X) (x : X) → All Q (xs ++ x ∷ []) → All Q xs
  all_init xs x h = all_left xs (x ∷ []) h

  pub all_last : (xs : List X) (x : X) → All Q (xs ++ x ∷ []) → Q x
  all_last xs x h = all_right xs (x ∷ []) h 0 x (omega arith)

  pub all_snoc : (xs : List X) (x : X) → All Q xs → Q x → All Q (xs ++ x ∷ [])
  all_snoc [] x h q zero d lt = q
  all_snoc [] x h q (suc k) d lt = absurd (omega arith)
  all_snoc (y ∷ ys) x h q zero d lt = h zero d (omega arith)
  all_snoc (y ∷ ys) x h q (suc k) d lt = all_snoc ys x (λ j e l. h (suc j) e (omega arith)) q k d (omega arith)

pub longer : {X : Type 0} (xs : List X) (x : X) → length (xs ++ x ∷ []) ≡ 1 + length xs
longer [] x = refl
longer (y ∷ ys) x = let r = longer ys x in omega arith
