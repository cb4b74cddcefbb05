-- Ranks noted at the places of their items: what the loops of `note` and `ranks_of` keep.
use Rattle.std.proofs.Common.{◌≡◌, ◌≢◌, ◌∙◌, ℕ, ◌+◌, ◌<◌, ◌≤◌, List, [], length, get_or, set, refl, sym, ap, subst, inl, inr, arith, below_more}
use Rattle.std.proofs.lemmas.Bool.Decides.{eqb_tells}
use Rattle.std.proofs.lemmas.List.{length-set, get_or_default, get_or-set_same, get_or-set_other}
use Rattle.std.specs.List.{All}
use Rattle.amr_owners.specs.Owners.{AreOwners, AreRanksOf, IsNoneOf}
use Rattle.amr_owners.proofs.Members.{of_two}
use Rattle.amr_owners.proofs.Order.{each_owned}

pub record IsNotedTo (ns : List ℕ) (k rank : ℕ) (old new : List ℕ) : Type 0 where
  pub long : length new ≡ length old
  pub noted : (j : ℕ) → j < k → get_or new (get_or ns j 0) 0 ≡ rank
  pub others : (n : ℕ) → ((j : ℕ) → j < k → get_or ns j 0 ≢ n) → get_or new n 0 ≡ get_or old n 0

pub none_noted : (ns : List ℕ) (rank : ℕ) (old : List ℕ) → IsNotedTo ns 0 rank old old
none_noted ns rank old = record { long = refl; noted = λ j h. absurd (omega arith); others = λ n h. refl }

pub one_noted : (ns : List ℕ) (k rank : ℕ) (old new : List ℕ) → get_or ns k 0 < length new → IsNotedTo ns k rank old new
    → IsNotedTo ns (k + 1) rank old (set new (get_or ns k 0) rank)
one_noted ns k rank old new there h =
    let n = get_or ns k 0 in
    record {
      long = length-set new n rank ∙ h.long;
      noted = λ j under. below_more (λ i. get_or (set new n rank) (get_or ns i 0) 0 ≡ rank) k
          (λ i lt. elim (eqb_tells n (get_or ns i 0)) [
            | inl here ↦ subst (λ (m : ℕ). get_or (set new n rank) m 0 ≡ rank) here.1 (get_or-set_same new n rank 0 there)
            | inr other ↦ get_or-set_other new n (get_or ns i 0) rank 0 (λ e. other.1 (sym e)) ∙ h.noted i lt
          ])
          (get_or-set_same new n rank 0 there) j (omega arith);
      others = λ m none. get_or-set_other new n m rank 0 (λ e. none k (omega arith) (sym e)) ∙ h.others m (λ j lt. none j (omega arith));
    }

pub all_noted : (ns : List ℕ) (k rank : ℕ) (old new : List ℕ) → length ns ≤ k → IsNotedTo ns k rank old new → All (λ n. get_or new n 0 ≡ rank) ns
all_noted ns k rank old new low h j d lt = subst (λ (n : ℕ). get_or new n 0 ≡ rank) (get_or_default ns j 0 d lt) (h.noted j (omega arith))

pub others_noted : (ns : List ℕ) (k rank : ℕ) (old new : List ℕ) → k ≤ length ns → IsNotedTo ns k rank old new
    → (n : ℕ) → IsNoneOf ns n → get_or new n 0 ≡ get_or old n 0
others_noted ns k rank old new high h n none = h.others n (λ j lt. none j (omega arith))

-- the ranks below r are noted
pub record AreNotedTo (numbers : List (List ℕ)) (r count : ℕ) (ranks : List ℕ) : Type 0 where
  pub long : length ranks ≡ count
  pub ranked : (q : ℕ) → q < r → All (λ n. get_or ranks n 0 ≡ q) (get_or numbers q [])

pub no_ranks : (numbers : List (List ℕ)) (count : ℕ) (ranks : List ℕ) → length ranks ≡ count → AreNotedTo numbers 0 count ranks
no_ranks numbers count ranks is = record { long = is; ranked = λ q h. absurd (omega arith) }

pub one_ranked : (numbers : List (List ℕ)) (all r count : ℕ) (old new : List ℕ) → AreOwners numbers all count → r < all → length new ≡ length old
    → All (λ n. get_or new n 0 ≡ r) (get_or numbers r []) → ((n : ℕ) → IsNoneOf (get_or numbers r []) n → get_or new n 0 ≡ get_or old n 0)
    → AreNotedTo numbers r count old → AreNotedTo numbers (r + 1) count new
one_ranked numbers all r count old new owners there long noted others h = record {
  long = long ∙ h.long;
  ranked = λ q under. below_more (λ p. All (λ n. get_or new n 0 ≡ p) (get_or numbers p [])) r
      (λ p lt k d k_there. subst (λ (n : ℕ). get_or new n 0 ≡ p) (get_or_default (get_or numbers p []) k 0 d k_there)
      (others (get_or (get_or numbers p []) k 0) (of_two numbers all count owners r p k there (omega arith) (λ e. omega (arith, e)) k_there) ∙ h.ranked p lt k 0 k_there))
      noted q (omega arith);
}

pub all_ranked : (numbers : List (List ℕ)) (r count : ℕ) (ranks : List ℕ) → length numbers ≤ r → AreNotedTo numbers r count ranks → AreRanksOf numbers ranks
all_ranked numbers r count ranks low h q lt = h.ranked q (omega arith)

-- and each item has one of the ranks
pub each_ranked : (numbers : List (List ℕ)) (all count : ℕ) (ranks : List ℕ) → AreOwners numbers all count → length ranks ≡ count → AreRanksOf numbers ranks → All (λ rank. rank < all) ranks
each_ranked numbers all count ranks owners long are k d lt =
    let below : k < count = omega (arith, lt, long) in
    let r = owners.rank_of k in
    let there = owners.ranked k below in
    let own = each_owned numbers all count owners k below in
    let is : get_or ranks k 0 ≡ r = ap (λ n. get_or ranks n 0) (sym own.2) ∙ are r (omega (arith, there, owners.lists)) own.0 k own.1 in
    subst (λ n. n < all) (get_or_default ranks k 0 d lt) (omega (arith, is, there))
