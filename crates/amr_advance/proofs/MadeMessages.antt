-- Messages that are made for lists of copies, one after another.
use Rattle.std.proofs.Common.{◌≡◌, ◌≢◌, ◌∙◌, ℕ, ◌+◌, ◌*◌, ◌<◌, List, [], ◌∷◌, ◌++◌, length, get_or, below_more, refl, sym, ap, subst, arith}
use Rattle.std.specs.Global.{Vec}
use Rattle.std.specs.List.{All}
use Rattle.std.proofs.lemmas.List.{get_or_append_left, get_or_push, length-append}
use Rattle.std.proofs.lemmas.List.Elements.{All-push}
use Rattle.amr_ghost.specs.Messages.{HasPlaces}
use Rattle.amr_ghost.specs.declared.messages.Message.{Message}
use Rattle.amr_ghost.specs.declared.parts.FrameCopy.{FrameCopy}

-- what holds of each item at its place, where one more is added
pub one_more : {A : Type 0} (P : ℕ → A → Type 0) (xs ys : List A) (y : A) (k : ℕ) → length xs ≡ k → ys ≡ xs ++ y ∷ [] → ((j : ℕ) (d : A) → j < k → P j (get_or xs j d)) → P k y → (j : ℕ) (d : A) → j < k + 1 → P j (get_or ys j d)
one_more P xs ys y k count pushed done last j d lt =
    subst (λ (zs : List _). P j (get_or zs j d)) (sym pushed) (below_more (λ n. P n (get_or (xs ++ y ∷ []) n d)) k
    (λ n below. subst (P n) (sym (get_or_append_left xs (y ∷ []) d n (omega (arith, below, count)))) (done n d below))
    (subst (P k) (sym (get_or_push xs y d k count)) last)
    j
    lt)

-- messages for so many lists of copies: for that at `first`, and for each `stride` places further. That of number `own` is empty.
pub record AreMadeFor (lists : List (Vec FrameCopy)) (first stride own n : ℕ) (xs : List Message) : Type 0 where
  pub count : length xs ≡ n
  pub copies : (t : ℕ) (m : Message) (w : Vec FrameCopy) → t < n → t ≢ own → (get_or xs t m).copies.items ≡ (get_or lists (first + t * stride) w).items
  pub empty : (m : Message) → own < n → (get_or xs own m).copies.items ≡ []
  pub places : All HasPlaces xs

-- one more of them
pub one_message : (lists : List (Vec FrameCopy)) (first stride own n : ℕ) (xs ys : List Message) (x : Message) → AreMadeFor lists first stride own n xs → ys ≡ xs ++ x ∷ [] → (n ≢ own → (w : Vec FrameCopy) → x.copies.items ≡ (get_or lists (first + n * stride) w).items) → (n ≡ own → x.copies.items ≡ []) → HasPlaces x
    → AreMadeFor lists first stride own (n + 1) ys
one_message lists first stride own n xs ys x made pushed copies empty places = record {
  count = omega (arith, ap length pushed, length-append xs (x ∷ []), made.count);
  copies = λ t m w lt other.
      one_more (λ j (y : Message). j ≢ own → y.copies.items ≡ (get_or lists (first + j * stride) w).items) xs ys x n made.count pushed (λ j d below. made.copies j d w below) (λ ne. copies ne w) t m lt other;
  empty = λ m lt. one_more (λ j (y : Message). j ≡ own → y.copies.items ≡ []) xs ys x n made.count pushed (λ j d below e. earlier j d below e) empty own m lt refl;
  places = subst (All HasPlaces) (sym pushed) (All-push HasPlaces xs x made.places places);
}
  where
    earlier : (j : ℕ) (d : Message) → j < n → j ≡ own → (get_or xs j d).copies.items ≡ []
    earlier j d below e = ap (λ i. (get_or xs i d).copies.items) e ∙ made.empty d (omega (arith, below, e))
