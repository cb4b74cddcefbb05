-- Items exchanged with the first of a list: what the loop of `trade` keeps.
use Rattle.std.proofs.Common.{◌≡◌, ◌≢◌, ℕ, ◌+◌, ◌<◌, ◌≤◌, List, length, get_or, set, sym, ◌∙◌, refl, arith, below_more}
use Rattle.std.proofs.lemmas.List.{length-set, get_or-set_same, get_or-set_other}
use Rattle.amr_owners.specs.Owners.{HaveTraded, Rises}

pub record HaveTradedTo {X : Type 0} (ns : List ℕ) (k : ℕ) (items parts new_items new_parts : List X) : Type 0 where
  pub item_count : length new_items ≡ length items
  pub part_count : length new_parts ≡ length parts
  pub handed : (j : ℕ) → j < k → (x : X) → get_or new_parts j x ≡ get_or items (get_or ns j 0) x
  pub left : (j : ℕ) → k ≤ j → (x : X) → get_or new_parts j x ≡ get_or parts j x
  pub back : (j : ℕ) → j < k → (x : X) → get_or new_items (get_or ns j 0) x ≡ get_or parts j x
  pub others : (n : ℕ) → ((j : ℕ) → j < k → get_or ns j 0 ≢ n) → (x : X) → get_or new_items n x ≡ get_or items n x

pub none_traded : {X : Type 0} (ns : List ℕ) (items parts : List X) → HaveTradedTo ns 0 items parts items parts
none_traded ns items parts = record {
  item_count = refl;
  part_count = refl;
  handed = λ j h. absurd (omega arith);
  left = λ j h x. refl;
  back = λ j h. absurd (omega arith);
  others = λ n h x. refl;
}

pub one_traded : {X : Type 0} (ns : List ℕ) (items parts its ps : List X) (k : ℕ) (p q : X) → Rises ns → k < length ns → get_or ns k 0 < length its → k < length ps
    → ((x : X) → p ≡ get_or ps k x) → ((x : X) → q ≡ get_or its (get_or ns k 0) x)
    → HaveTradedTo ns k items parts its ps → HaveTradedTo ns (k + 1) items parts (set its (get_or ns k 0) p) (set ps k q)
one_traded ns items parts its ps k p q rises below inside there p_is q_is h =
    let n = get_or ns k 0 in
    let apart : (j : ℕ) → j < k → get_or ns j 0 ≢ n = λ j under e. omega (arith, rises j k under below, e) in
    record {
      item_count = length-set its n p ∙ h.item_count;
      part_count = length-set ps k q ∙ h.part_count;
      handed = λ j under. below_more (λ i. (x : _) → get_or (set ps k q) i x ≡ get_or items (get_or ns i 0) x) k
          (λ i lt x. get_or-set_other ps k i q x (λ e. omega (arith, e)) ∙ h.handed i lt x)
          (λ x. get_or-set_same ps k q x there ∙ q_is x ∙ h.others n apart x) j (omega arith);
      left = λ j over x. get_or-set_other ps k j q x (λ e. omega (arith, e)) ∙ h.left j (omega arith) x;
      back = λ j under. below_more (λ i. (x : _) → get_or (set its n p) (get_or ns i 0) x ≡ get_or parts i x) k
          (λ i lt x. get_or-set_other its n (get_or ns i 0) p x (apart i lt) ∙ h.back i lt x)
          (λ x. get_or-set_same its n p x inside ∙ p_is x ∙ h.left k (omega arith) x) j (omega arith);
      others = λ m none x. get_or-set_other its n m p x (λ e. none k (omega arith) (sym e)) ∙ h.others m (λ j lt. none j (omega arith)) x;
    }

pub all_traded : {X : Type 0} (ns : List ℕ) (k : ℕ) (items parts its ps : List X) → length ns ≤ k → k ≤ length ns → HaveTradedTo ns k items parts its ps → HaveTraded ns items parts its ps
all_traded ns k items parts its ps low high h = record {
  item_count = h.item_count;
  part_count = h.part_count;
  handed = λ j x lt. h.handed j (omega arith) x;
  back = λ j x lt. h.back j (omega arith) x;
  others = λ n x none. h.others n (λ j lt. none j (omega arith)) x;
}
