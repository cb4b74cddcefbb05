-- Entries of a strip that are written in a list: one more, and all of them where they stand side by side.
use Rattle.std.proofs.Common.{◌≡◌, ◌≢◌, ℕ, ◌+◌, ◌-◌, ◌*◌, ◌<◌, ◌≤◌, ◌⊎◌, inl, inr, List, ◌++◌, length, length-take, set, get_or, take, drop, sym, ap, ◌∙◌, arith, below_more}
use Rattle.std.proofs.Math.Nat.{mul-le-mul_right}
use Rattle.std.proofs.lemmas.Bool.{cases_lt}
use Rattle.std.proofs.lemmas.List.{get_or-append_right, get_or-drop, get_or-set_other, get_or-set_same, get_or-take, get_or_append_left, length-append, length-drop, length-set}
use borrow.Rule.Slice.PartMut.{post_of, put_mid}
use Rattle.amr_ghost.specs.declared.entries.Entries.{Entries}
use Rattle.amr_ghost.specs.Strips.{AreWritten, nth_place}

-- two cells of a strip have two entries
next_product : (j s : ℕ) → (j + 1) * s ≡ j * s + s
next_product j s = grind arith

apart_places : (e : Entries) (j k : ℕ) → 0 < e.stride → j < k → nth_place e j ≢ nth_place e k
apart_places e j k apart lt same =
    let further : (j + 1) * e.stride ≤ k * e.stride = mul-le-mul_right {m = j + 1} {n = k} e.stride (omega arith) in
    let next : (j + 1) * e.stride ≡ j * e.stride + e.stride = next_product j e.stride in
    omega (arith, further, next, same, apart)

pub one_more_written : {A : Type 0} (z : A) (e : Entries) (given : ℕ → A) (k : ℕ) (v : A) (xs ys : List A) → 0 < e.stride → nth_place e k < length xs → v ≡ given k → AreWritten z e k given xs ys → AreWritten z e (k + 1) given xs (set ys (nth_place e k) v)
one_more_written z e given k v xs ys apart there is w = record {
  same_length = length-set ys (nth_place e k) v ∙ w.same_length;
  written = below_more (λ j. get_or (set ys (nth_place e k) v) (nth_place e j) z ≡ given j) k
      (λ j lt. get_or-set_other ys (nth_place e k) (nth_place e j) v z (apart_places e j k apart lt) ∙ w.written j lt)
      (get_or-set_same ys (nth_place e k) v z (omega (arith, there, w.same_length)) ∙ is);
  others = λ j other. get_or-set_other ys (nth_place e k) j v z (other k (omega arith)) ∙ w.others j (λ m lt. other m (omega arith));
}

-- the same, told otherwise
pub same_written : {A : Type 0} (z : A) (e : Entries) (given wanted : ℕ → A) (n m : ℕ) (xs ws ys zs : List A) → n ≡ m → ((k : ℕ) → k < n → given k ≡ wanted k) → xs ≡ ws → zs ≡ ys → AreWritten z e n given xs ys → AreWritten z e m wanted ws zs
same_written z e given wanted n m xs ws ys zs counts values before after w = rw (sym counts, sym before, after) (record { same_length = w.same_length; written = λ k t. w.written k t ∙ values k t; others = w.others })

-- ---- entries that stand side by side

pub at_once : (e : Entries) (k : ℕ) → e.stride ≡ 1 → nth_place e k ≡ e.first + k
at_once e k one = ap (λ (s : ℕ). e.first + k * s) one ∙ omega arith

pub room_for : (e : Entries) (n size : ℕ) → e.stride ≡ 1 → 0 < n → ((k : ℕ) → k < n → nth_place e k < size) → e.first + n ≤ size
room_for e n size one some within =
    let last : nth_place e (n - 1) < size = within (n - 1) (omega (arith, some)) in
    let at : nth_place e (n - 1) ≡ e.first + (n - 1) * 1 = ap (λ (s : ℕ). e.first + (n - 1) * s) one in
    omega (arith, last, at, some)

pub span_length : {A : Type 0} (first n : ℕ) (xs : List A) → first + n ≤ length xs → length (take (first + n - first) (drop first xs)) ≡ n
span_length first n xs room =
    let rest : length (drop first xs) ≡ length xs - first = length-drop first xs in
    length-take (first + n - first) (drop first xs) ∙ omega (arith, room, rest)

module _ {A : Type 0} (z : A) (e : Entries) (given : ℕ → A) (n m : ℕ) (xs ys : List A) (one : e.stride ≡ 1) (room : e.first + n ≤ length xs) (span : m ≡ n) (same : length ys ≡ n) (are : (k : ℕ) → k < n → get_or ys k z ≡ given k) where
  front : length (take e.first xs) ≡ e.first
  front = length-take e.first xs ∙ omega (arith, room)

  read : (k : ℕ) → k < n → get_or (put_mid e.first m xs ys) (nth_place e k) z ≡ given k
  read k t =
      let back : e.first + k - e.first ≡ k = omega arith in
      ap (λ (i : ℕ). get_or (put_mid e.first m xs ys) i z) (at_once e k one)
      ∙ get_or-append_right (take e.first xs) (ys ++ post_of e.first m xs) e.first (e.first + k) z front (omega arith)
      ∙ ap (λ (i : ℕ). get_or (ys ++ post_of e.first m xs) i z) back
      ∙ get_or_append_left ys (post_of e.first m xs) z k (omega (arith, t, same))
      ∙ are k t

  kept : (j : ℕ) → (j < e.first) ⊎ (e.first ≤ j) → (j < e.first + n) ⊎ (e.first + n ≤ j) → ((k : ℕ) → k < n → j ≢ nth_place e k) → get_or (put_mid e.first m xs ys) j z ≡ get_or xs j z
  kept j (inl lt) u other = get_or_append_left (take e.first xs) (ys ++ post_of e.first m xs) z j (omega (arith, front, lt)) ∙ get_or-take e.first xs j z lt
  kept j (inr le) (inl lt) other =
      let at : j ≡ e.first + (j - e.first) = omega (arith, le) in
      absurd (other (j - e.first) (omega (arith, le, lt)) (at ∙ sym (at_once e (j - e.first) one)))
  kept j (inr le) (inr past) other =
      let rest : e.first + (m + (j - e.first - n)) ≡ j = omega (arith, past, span) in
      get_or-append_right (take e.first xs) (ys ++ post_of e.first m xs) e.first j z front le
      ∙ get_or-append_right ys (post_of e.first m xs) n (j - e.first) z same (omega (arith, past))
      ∙ get_or-drop m (drop e.first xs) (j - e.first - n) z
      ∙ get_or-drop e.first xs (m + (j - e.first - n)) z
      ∙ ap (λ (i : ℕ). get_or xs i z) rest

  count : length (put_mid e.first m xs ys) ≡ length xs
  count =
      let behind : length (post_of e.first m xs) ≡ length xs - e.first - m = length-drop m (drop e.first xs) ∙ ap (λ (i : ℕ). i - m) (length-drop e.first xs) in
      let both : length (ys ++ post_of e.first m xs) ≡ length ys + length (post_of e.first m xs) = length-append ys (post_of e.first m xs) in
      length-append (take e.first xs) (ys ++ post_of e.first m xs) ∙ omega (arith, front, both, behind, same, span, room)

  pub side_by_side : AreWritten z e n given xs (put_mid e.first m xs ys)
  side_by_side = record {
    same_length = count;
    written = read;
    others = λ j other. kept j (cases_lt j e.first) (cases_lt j (e.first + n)) other;
  }
