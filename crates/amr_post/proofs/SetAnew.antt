-- Amounts set anew in letters, and the parcels that these are in.
use Rattle.std.proofs.Common.{◌≡◌, ◌∙◌, ℕ, zero, suc, ◌+◌, ◌-◌, ◌<◌, refl, sym, ap, subst, true≢false, List, [], ◌∷◌, ◌++◌, length, take, get_or, set, arith, add-one}
use Rattle.std.specs.Prelude.{IsSome, Option, Some, None, map, option_map, option_to_list}
use Rattle.std.specs.List.{All}
use Rattle.std.proofs.lemmas.List.{length-append, length-map, get_or_append_left, get_or-append-add, map-append}
use Rattle.std.proofs.lemmas.List.Elements.{All-cons, All-head, All-map, All-nil, All-same, All-tail, All-weaker}
use Rattle.crossbeam_channel.specs.Claims.{view, IsSeatAt}
use Rattle.crossbeam_channel.specs.Ends.{sends_on}
use Rattle.amr_ranks.specs.declared.item.Item.{Item}
use Rattle.amr_ranks.specs.Items.{with_amount}
use Rattle.amr_ranks.specs.Letters.{LetterOf}
use Rattle.amr_post.specs.declared.post.Parcel.{Parcel}
use Rattle.amr_post.specs.declared.post.RankChannel.{RankChannel}
use Rattle.amr_post.specs.Rounds.{hand}
use Rattle.amr_post.specs.Letters.{IsParcel, IsRankChannel, letter_of, letters_in}
use Rattle.amr_post.specs.Amounts.{IsUnsent, items_with, parcel_with, with_amounts}

-- ---- items

pub items_none : (xs : List Item) → items_with xs [] ≡ xs
items_none [] = refl
items_none (x ∷ xs) = refl

-- the items that no amount was set in yet are those of before
pub not_yet : (xs : List Item) (amounts : List ℕ) (i : ℕ) (d : Item) → get_or (items_with xs (take i amounts)) i d ≡ get_or xs i d
not_yet [] amounts i d = refl
not_yet (x ∷ xs) amounts zero d = refl
not_yet (x ∷ xs) [] (suc i) d = refl
not_yet (x ∷ xs) (a ∷ amounts) (suc i) d = not_yet xs amounts i d

-- one more amount
pub one_more_amount : (xs : List Item) (amounts : List ℕ) (i : ℕ) (d : Item) (e : ℕ) → length xs ≡ length amounts → i < length amounts
    → set (items_with xs (take i amounts)) i (with_amount (get_or (items_with xs (take i amounts)) i d) (get_or amounts i e)) ≡ items_with xs (take (i + 1) amounts)
one_more_amount xs amounts i d e count below = rw add-one (go xs amounts i count below)
  where
    go : (xs : List Item) (amounts : List ℕ) (i : ℕ) → length xs ≡ length amounts → i < length amounts
        → set (items_with xs (take i amounts)) i (with_amount (get_or (items_with xs (take i amounts)) i d) (get_or amounts i e)) ≡ items_with xs (take (suc i) amounts)
    go [] amounts i count below = absurd (omega (arith, count, below))
    go (x ∷ xs) [] i count below = absurd (omega (arith, count, below))
    go (x ∷ xs) (a ∷ amounts) zero count below = ap (λ (ys : List Item). with_amount x a ∷ ys) (sym (items_none xs))
    go (x ∷ xs) (a ∷ amounts) (suc i) count below = ap (λ (ys : List Item). with_amount x a ∷ ys) (go xs amounts i (omega (arith, count)) (omega (arith, below)))

-- ---- parcels

module _ {X : Type 0} (P : X → Type 0) (xs ys : List X) (all : All P (xs ++ ys)) where
  front : All P xs
  front = λ k d lt. subst P (get_or_append_left xs ys d k lt) (all k d (omega (arith, length-append xs ys, lt)))

  back : All P ys
  back = λ k d lt. subst P (get_or-append-add xs ys k d) (all (length xs + k) d (omega (arith, length-append xs ys, lt)))

-- what holds of all letters holds of each parcel's
pub in_parcels : (P : LetterOf → Type 0) (ps : List Parcel) → All P (letters_in ps) → All (λ (q : Parcel). (l : LetterOf) → q.letter ≡ Some l → P l) ps
in_parcels P [] all = All-nil (λ (q : Parcel). (l : LetterOf) → q.letter ≡ Some l → P l)
in_parcels P (p ∷ ps) all =
    All-cons (λ (q : Parcel). (l : LetterOf) → q.letter ≡ Some l → P l) p ps
    (λ l is. (let own : All P (letter_of p) = front P (letter_of p) (letters_in ps) all in
    All-head P l (view p.pass).sent (subst (λ (o : Option LetterOf). All P (option_to_list o ++ (view p.pass).sent)) is own)))
    (in_parcels P ps (back P (letter_of p) (letters_in ps) all))

module _ (f : LetterOf → LetterOf) where
  same_count : (o : Option LetterOf) (sent : List LetterOf) → length (option_to_list (option_map f o) ++ sent) ≡ length (option_to_list o ++ sent)
  same_count None sent = refl
  same_count (Some l) sent = refl

  still_there : (o : Option LetterOf) → IsSome o → IsSome (option_map f o)
  still_there None there = there
  still_there (Some l) there = refl

  -- a letter that is still there is the only one of its parcel
  only_letter : (o : Option LetterOf) (sent : List LetterOf) → IsSome o → length (option_to_list o ++ sent) ≡ 1 → option_to_list (option_map f o) ++ sent ≡ map f (option_to_list o ++ sent)
  only_letter None sent there one = absurd (true≢false (sym there))
  only_letter (Some l) [] there one = refl
  only_letter (Some l) (m ∷ sent) there one = absurd (omega (arith, one))

module _ (number : ℕ) (amounts : List ℕ) where
  parcel_kept : (q : Parcel) → IsParcel q → IsParcel (parcel_with number amounts q)
  parcel_kept q own = record { one = same_count (with_amounts number amounts) q.letter (view q.pass).sent ∙ own.one; room = own.room; none_got = own.none_got }

  letters_with : (ps : List Parcel) → All IsParcel ps → All (λ (q : Parcel). IsSome q.letter) ps
      → letters_in (map (parcel_with number amounts) ps) ≡ map (with_amounts number amounts) (letters_in ps)
  letters_with [] own there = refl
  letters_with (p ∷ ps) own there =
      let f : LetterOf → LetterOf = with_amounts number amounts in
      let here : letter_of (parcel_with number amounts p) ≡ map f (letter_of p)
      = only_letter f p.letter (view p.pass).sent (All-head (λ (q : Parcel). IsSome q.letter) p ps there) (All-head IsParcel p ps own).one in
      let rest = letters_with ps (All-tail IsParcel p ps own) (All-tail (λ (q : Parcel). IsSome q.letter) p ps there) in
      let both : letters_in (map (parcel_with number amounts) (p ∷ ps)) ≡ map f (letter_of p) ++ map f (letters_in ps) = λ i. here i ++ rest i in
      both ∙ sym (map-append f (letter_of p) (letters_in ps))

  module _ (p : RankChannel) (post : IsRankChannel p) (unsent : IsUnsent p) (rs : List Parcel) (items : rs ≡ map (parcel_with number amounts) p.parcels.items) where
    pub letters_set : letters_in rs ≡ map (with_amounts number amounts) (letters_in p.parcels.items)
    letters_set = ap letters_in items ∙ letters_with p.parcels.items post.parcels unsent

    pub unsent_kept : All (λ (q : Parcel). IsSome q.letter) rs
    unsent_kept =
        let P : Parcel → Type 0 = λ (q : Parcel). IsSome q.letter in
        All-same P rs (map (parcel_with number amounts) p.parcels.items) items
        (All-map P (parcel_with number amounts) p.parcels.items (All-weaker P (λ (q : Parcel). P (parcel_with number amounts q)) (λ q there. still_there (with_amounts number amounts) q.letter there) p.parcels.items unsent))

  module _ (p r : RankChannel) (post : IsRankChannel p) (items : r.parcels.items ≡ map (parcel_with number amounts) p.parcels.items) where
    count : length r.parcels.items ≡ length p.parcels.items
    count = ap length items ∙ length-map p.parcels.items (parcel_with number amounts)

    pub channel_kept : r.outlet ≡ p.outlet → r.inlet ≡ p.inlet → r.pass ≡ p.pass → IsRankChannel r
    channel_kept out inn pass =
        let At : Parcel → Type 0 = λ (q : Parcel). IsSeatAt (sends_on p.outlet) q.pass in
        let here : IsRankChannel (record p { parcels = r.parcels }) = record {
          capacity = post.capacity;
          channel = post.channel;
          seat = post.seat;
          seats = All-same At r.parcels.items (map (parcel_with number amounts) p.parcels.items) items (All-map At (parcel_with number amounts) p.parcels.items post.seats);
          parcels = All-same IsParcel r.parcels.items (map (parcel_with number amounts) p.parcels.items) items
              (All-map IsParcel (parcel_with number amounts) p.parcels.items (All-weaker IsParcel (λ (q : Parcel). IsParcel (parcel_with number amounts q)) parcel_kept p.parcels.items post.parcels));
          few = (let a = count in let b = post.few in omega arith);
          unused = post.unused ∙ ap (λ n. hand (9 - n) [] []) (sym count);
        } in
        let same : r ≡ record p { parcels = r.parcels } = λ i. record { outlet = out i; inlet = inn i; pass = pass i; parcels = r.parcels } in
        subst (λ (c : RankChannel). IsRankChannel c) (sym same) here
