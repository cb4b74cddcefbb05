-- What a read gives after writes that depend on a test.
use Rattle.std.proofs.Common.{◌≡◌, ◌∙◌, ◌+◌, ◌∷◌, [], refl, ap, ℕ, Bool, true, false, List, Option, Some, None, length, nat_lt}
use Rattle.std.specs.Prelude.{option_map, if◌then◌else◌}
use Rattle.amr_disk.specs.Image.{written_at}
use Rattle.amr_store.specs.Created.{shut_first}
use Rattle.amr_store.specs.Renewed.{shut_past}

pub where_true : (b : Bool) (x y : List ℕ) → b ≡ true → x ≡ (if b then x else y)
where_true true x y is = refl
where_true false x y is = let wrong : false ≡ true = is in cc

pub where_false : (b : Bool) (x y : List ℕ) → b ≡ false → y ≡ (if b then x else y)
where_false true x y is = let wrong : true ≡ false = is in cc
where_false false x y is = refl

-- nothing is written
pub unchanged : (o : Option (List ℕ)) → o ≡ option_map (λ s. s) o
unchanged None = refl
unchanged (Some s) = refl

-- a read, and then a write that is the wanted one on the image that was read
pub written_as : (f g : List ℕ → List ℕ) (o p q : Option (List ℕ)) → p ≡ o → q ≡ option_map f p → ((s : List ℕ) → o ≡ Some s → f s ≡ g s) → q ≡ option_map g o
written_as f g None p q same is e = is ∙ ap (λ (x : Option (List ℕ)). option_map f x) same
written_as f g (Some s) p q same is e = is ∙ ap (λ (x : Option (List ℕ)). option_map f x) same ∙ ap (λ (x : List ℕ). Some x) (e s refl)

-- three writes in turn
pub written_thrice : (f g h : List ℕ → List ℕ) (o p q r : Option (List ℕ)) → p ≡ option_map f o → q ≡ option_map g p → r ≡ option_map h q → r ≡ option_map (λ s. h (g (f s))) o
written_thrice f g h None p q r a b c = c ∙ ap (λ (x : Option (List ℕ)). option_map h x) (b ∙ ap (λ (x : Option (List ℕ)). option_map g x) a)
written_thrice f g h (Some s) p q r a b c = c ∙ ap (λ (x : Option (List ℕ)). option_map h x) (b ∙ ap (λ (x : Option (List ℕ)). option_map g x) a)

pub first_stays : (s : List ℕ) → nat_lt 1 (length s) ≡ true → s ≡ shut_first s
first_stays s is = where_true (nat_lt 1 (length s)) s (written_at 0 (0 ∷ []) s) is

pub first_written : (s : List ℕ) → nat_lt 1 (length s) ≡ false → written_at 0 (0 ∷ []) s ≡ shut_first s
first_written s is = where_false (nat_lt 1 (length s)) s (written_at 0 (0 ∷ []) s) is

pub past_stays : (end : ℕ) (s : List ℕ) → nat_lt (end + 1) (length s) ≡ true → s ≡ shut_past end s
past_stays end s is = where_true (nat_lt (end + 1) (length s)) s (written_at end (0 ∷ []) s) is

pub past_written : (end : ℕ) (s : List ℕ) → nat_lt (end + 1) (length s) ≡ false → written_at end (0 ∷ []) s ≡ shut_past end s
past_written end s is = where_false (nat_lt (end + 1) (length s)) s (written_at end (0 ∷ []) s) is
