-- Both passes over the rows, one after the other.
use Rattle.std.proofs.Common.{◌≡◌, ℕ, zero, suc, ◌+◌, ◌-◌, ◌*◌, ◌/◌, ◌<◌, Bool, true, false, ◌&&◌, ◌||◌, cond, refl, sym, ap, ◌∙◌, subst, arith, List, length}
use Rattle.std.specs.Prelude.{nat_lt}
use Rattle.amr_tags.specs.Bits.{AreRows, bit_of, words_for}
use Rattle.amr_tags.specs.Grown.{AreBits, after, before, beside, grown_bit, heightened, widened}
use Rattle.std.proofs.lemmas.Nat.{mul-add-lt}
use Rattle.std.proofs.lemmas.Bool.{le-ltb, lt-ltb, ltb-true}

before-same : (wrap : Bool) (n : ℕ) (f g : ℕ → Bool) (i : ℕ) → i < n → ((k : ℕ) → k < n → f k ≡ g k) → before wrap n f i ≡ before wrap n g i
before-same wrap n f g zero h e = ap (λ t. wrap && t) (e (n - 1) (omega arith))
before-same wrap n f g (suc i) h e = e i (omega arith)

after-same : (wrap : Bool) (n : ℕ) (f g : ℕ → Bool) (i : ℕ) → i < n → ((k : ℕ) → k < n → f k ≡ g k) → after wrap n f i ≡ after wrap n g i
after-same wrap n f g i h e = step (nat_lt (i + 1) n) refl
  where
    step : (t : Bool) → nat_lt (i + 1) n ≡ t → after wrap n f i ≡ after wrap n g i
    step true m = ap (λ t. cond t (f (i + 1)) (wrap && f 0)) m ∙ e (i + 1) (ltb-true (i + 1) n m) ∙ sym (ap (λ t. cond t (g (i + 1)) (wrap && g 0)) m)
    step false m = ap (λ t. cond t (f (i + 1)) (wrap && f 0)) m ∙ ap (λ t. wrap && t) (e 0 (omega arith)) ∙ sym (ap (λ t. cond t (g (i + 1)) (wrap && g 0)) m)

pub beside-same : (wrap : Bool) (n : ℕ) (f g : ℕ → Bool) (i : ℕ) → i < n → ((k : ℕ) → k < n → f k ≡ g k) → beside wrap n f i ≡ beside wrap n g i
beside-same wrap n f g i h e =
    ap (λ t. t || (before wrap n f i || after wrap n f i)) (e i h)
    ∙ ap (λ t. g i || (t || after wrap n f i)) (before-same wrap n f g i h e)
    ∙ ap (λ t. g i || (before wrap n g i || t)) (after-same wrap n f g i h e)

beside-none : (wrap : Bool) (n i : ℕ) → beside wrap n (λ _. false) i ≡ false
beside-none wrap n i = ap (λ t. t || after wrap n (λ _. false) i) (none-before wrap i) ∙ none-after wrap (nat_lt (i + 1) n)
  where
    none-before : (wrap : Bool) (i : ℕ) → before wrap n (λ _. false) i ≡ false
    none-before true zero = refl
    none-before false zero = refl
    none-before wrap (suc i) = refl

    none-after : (wrap t : Bool) → cond t false (wrap && false) ≡ false
    none-after true true = refl
    none-after false true = refl
    none-after true false = refl
    none-after false false = refl

module _ (wrap_x wrap_y : Bool) (width height : ℕ) (old mid new : List ℕ) (rows : AreRows width height old) (across : AreBits (words_for width) mid (widened wrap_x width (words_for width) old) (length old)) (along : AreBits (words_for width) new (heightened wrap_y height (words_for width) mid) (length mid)) (room : length mid ≡ length old) where
  stands : (i j : ℕ) → i < 64 * words_for width → j < height → j * words_for width + i / 64 < length old
  stands i j h k = subst (λ (n : ℕ). j * words_for width + i / 64 < n) (sym rows.count) (spot i j (words_for width) height h k)
    where
      spot : (i j p height : ℕ) → i < 64 * p → j < height → j * p + i / 64 < height * p
      spot i j p height h k = let w : i / 64 < p = omega arith in let m = mul-add-lt j p (i / 64) height k w in omega (arith, m)

  in_row : (i p : ℕ) → i < 64 * p → i / 64 < p
  in_row i p h = omega arith

  fits : (i : ℕ) → i < width → i < 64 * words_for width
  fits i h = omega arith

  mid-bit : (i j : ℕ) → i < 64 * words_for width → j < height → bit_of (words_for width) mid i j ≡ widened wrap_x width (words_for width) old i j
  mid-bit i j h k = across i j (in_row i (words_for width) h) (stands i j h k)

  new-bit : (i j : ℕ) → i < 64 * words_for width → j < height → bit_of (words_for width) new i j ≡ heightened wrap_y height (words_for width) mid i j
  new-bit i j h k = along i j (in_row i (words_for width) h) (subst (λ (n : ℕ). j * words_for width + i / 64 < n) (sym room) (stands i j h k))

  pub grown-bits : (i j : ℕ) → i < width → j < height → bit_of (words_for width) new i j ≡ grown_bit wrap_x wrap_y width height old i j
  grown-bits i j h k =
      new-bit i j (fits i h) k
      ∙ beside-same wrap_y height (λ r. bit_of (words_for width) mid i r) (λ r. beside wrap_x width (λ q. bit_of (words_for width) old q r) i) j k
      (λ r below. mid-bit i r (fits i h) below ∙ ap (λ t. t && beside wrap_x width (λ q. bit_of (words_for width) old q r) i) (lt-ltb i width h))

  pub grown-rows : length new ≡ length old → AreRows width height new
  grown-rows same = record {
    count = same ∙ rows.count;
    unused = λ i j beyond h k.
        new-bit i j h k
        ∙ beside-same wrap_y height (λ r. bit_of (words_for width) mid i r) (λ _. false) j k
        (λ r below. mid-bit i r h below ∙ ap (λ t. t && beside wrap_x width (λ q. bit_of (words_for width) old q r) i) (le-ltb i width beyond))
        ∙ beside-none wrap_y height j;
  }

-- the same bits, where the words a row and the list are known by other names
pub across-of : (wrap : Bool) (p width : ℕ) (mid a b : List ℕ) → p ≡ words_for width → a ≡ b → AreBits p mid (widened wrap width p a) (length a) → AreBits (words_for width) mid (widened wrap width (words_for width) b) (length b)
across-of wrap p width mid a b e f bits = subst (λ (q : ℕ). AreBits q mid (widened wrap width q b) (length b)) e (subst (λ (words : List ℕ). AreBits p mid (widened wrap width p words) (length words)) f bits)

pub along-of : (wrap : Bool) (p width height : ℕ) (new a b : List ℕ) → p ≡ words_for width → a ≡ b → AreBits p new (heightened wrap height p a) (length a) → AreBits (words_for width) new (heightened wrap height (words_for width) b) (length b)
along-of wrap p width height new a b e f bits = subst (λ (q : ℕ). AreBits q new (heightened wrap height q b) (length b)) e (subst (λ (words : List ℕ). AreBits p new (heightened wrap height p words) (length words)) f bits)
