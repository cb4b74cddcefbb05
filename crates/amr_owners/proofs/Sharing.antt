-- Shares of tasks are owners of them.
use Rattle.std.proofs.Common.{◌≡◌, ℕ, List, length, subst}
use Rattle.amr_balance.specs.Shares.{IsShare}
use Rattle.amr_owners.specs.Owners.{AreOwners}

pub owners_by_share : (areas : List ℕ) (ranks count : ℕ) (numbers : List (List ℕ)) → length areas ≡ count → IsShare areas ranks numbers → AreOwners numbers ranks count
owners_by_share areas ranks count numbers is h =
    subst (AreOwners numbers ranks) is (record {
      rank_of = h.owner;
      lists = h.count;
      ranked = λ n below. (h.fair.each n below).there;
      owned_by = λ r below. h.lot r below;
    })
