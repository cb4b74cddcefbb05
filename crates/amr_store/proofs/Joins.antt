-- The steps of a put in turn.
use Rattle.std.proofs.Common.{◌≡◌, ◌⊎◌, inl, inr, ⊎_elim, ℕ, Bool, true, false, ◌||◌, List, Option, Some, None, refl, ◌∙◌, ap, arith}
use Rattle.std.specs.Prelude.{IsSome, option_map}
use Rattle.amr_disk.specs.Moments.{StopsIn}
use Rattle.amr_disk.specs.Image.{Only}
use Rattle.amr_store.proofs.Runs.{joins, only_at, started, weaker}
use Rattle.amr_store.specs.Created.{EmptyOrWith}
use Rattle.amr_store.specs.Renewed.{SameOrRenewed}
use Rattle.amr_store.specs.Stored.{Stored, Empty, stored}

pub shut_stays : (was is : Bool) → is ≡ (was || false) → was ≡ false → is ≡ false
shut_stays true is e f = let wrong : true ≡ false = f in cc
shut_stays false is e f = e

pub mapped_on : (f : List ℕ → List ℕ) (o p : Option (List ℕ)) (s : List ℕ) → o ≡ Some s → p ≡ option_map f o → p ≡ Some (f s)
mapped_on f o p s was is = is ∙ ap (λ (x : Option (List ℕ)). option_map f x) was

module _ {D : Type 0} (moment : D → ℕ) (leaves : D → ℕ → List ℕ → Type 0) where
  -- the image that a read gives has what each image has
  pub here : (old new : D) (P : List ℕ → Type 0) (t : List ℕ) → StopsIn moment leaves old new P → leaves new (moment new) t → P t
  here old new P t run left = run.each (moment new) t run.later (omega arith) left

  pub one : (old new : D) (s : List ℕ) (W : Stored → Stored) → StopsIn moment leaves old new (λ c. stored c ≡ stored s) → StopsIn moment leaves old new (λ c. (stored c ≡ stored s) ⊎ (stored c ≡ W (stored s)))
  one old new s W run = weaker moment leaves old new (λ c. stored c ≡ stored s) (λ c. (stored c ≡ stored s) ⊎ (stored c ≡ W (stored s))) (λ c e. inl e) run

  pub two : (old mid new : D) (s t : List ℕ) → StopsIn moment leaves old mid (λ c. stored c ≡ stored s) → StopsIn moment leaves mid new (λ c. stored c ≡ stored t) → leaves mid (moment mid) t
      → StopsIn moment leaves old new (λ c. stored c ≡ stored s)
  two old mid new s t first second left =
      let same : stored t ≡ stored s = here old mid (λ c. stored c ≡ stored s) t first left in
      joins moment leaves old mid new (λ c. stored c ≡ stored s) (λ c. stored c ≡ stored t) (λ c. stored c ≡ stored s) first second (λ c e. e) (λ c e. e ∙ same)

  pub three : (old mid new : D) (s t : List ℕ) (W : Stored → Stored) → StopsIn moment leaves old mid (λ c. stored c ≡ stored s)
      → StopsIn moment leaves mid new (λ c. (stored c ≡ stored t) ⊎ (stored c ≡ W (stored t))) → leaves mid (moment mid) t
      → StopsIn moment leaves old new (λ c. (stored c ≡ stored s) ⊎ (stored c ≡ W (stored s)))
  three old mid new s t W first second left =
      let same : stored t ≡ stored s = here old mid (λ c. stored c ≡ stored s) t first left in
      joins moment leaves old mid new (λ c. stored c ≡ stored s) (λ c. (stored c ≡ stored t) ⊎ (stored c ≡ W (stored t))) (λ c. (stored c ≡ stored s) ⊎ (stored c ≡ W (stored s))) first second
      (λ c e. inl e) (λ c either. ⊎_elim (λ e. inl (e ∙ same)) (λ e. inr (e ∙ ap W same)) either)

pub some_of : (o : Option (List ℕ)) → IsSome o → (t : List ℕ) × (o ≡ Some t)
some_of None is = let wrong : false ≡ true = is in cc
some_of (Some t) is = (t, refl)

-- nothing was written: a stop leaves what was there
module _ {D : Type 0} (seen : D → Option (List ℕ)) (moment : D → ℕ) (leaves : D → ℕ → List ℕ → Type 0) (disk : D) where
  pub nothing_made : (version deltas : ℕ) (problem : List ℕ) (size : ℕ) (s : List ℕ) → Only (seen disk) (leaves disk (moment disk)) → seen disk ≡ Some s → stored s ≡ Empty
      → StopsIn moment leaves disk disk (EmptyOrWith version deltas problem size s)
  nothing_made version deltas problem size s settled is empty =
      started moment leaves disk (EmptyOrWith version deltas problem size s) (λ i left. inl (ap stored (only_at moment leaves disk _ s is settled i left) ∙ empty))

  pub nothing_renewed : (problem : List ℕ) (size sequence : ℕ) (payload s : List ℕ) → Only (seen disk) (leaves disk (moment disk)) → seen disk ≡ Some s
      → StopsIn moment leaves disk disk (SameOrRenewed problem size sequence payload s)
  nothing_renewed problem size sequence payload s settled is =
      started moment leaves disk (SameOrRenewed problem size sequence payload s) (λ i left. inl (ap stored (only_at moment leaves disk _ s is settled i left)))
