-- Letters under way to their node: each is taken, and then the node has just these.
use Rattle.std.proofs.Common.{◌≡◌, ◌∙◌, ℕ, ◌+◌, ◌≤◌, true, Some, None, sym, ap, refl, subst, List, [], ◌∷◌, ◌++◌, length, arith}
use Rattle.std.specs.Prelude.{MatchOption, Option, option_to_list}
use Rattle.std.proofs.lemmas.List.{nil_from_length}
use Rattle.std.proofs.lemmas.List.FromFn.{length-map-range_with_len}
use Rattle.crossbeam_channel.specs.Claims.{view}
use Rattle.amr_ranks.specs.declared.node.Taken.TheVariants.{New}
use Rattle.amr_ranks.specs.Items.{total}
use Rattle.amr_ranks.specs.Letters.{LetterOf, shares_of}
use Rattle.amr_ranks.specs.Laws.{HasJust}
use Rattle.amr_ranks.specs.Nodes.{NodeOf, Fits, is_ready, answer, taking}
use Rattle.amr_ranks.proofs.Sums.{total-append, total_ones}
use Rattle.amr_post.specs.declared.channel.Hand.{Hand}
use Rattle.amr_post.specs.declared.post.Parcel.{Parcel}
use Rattle.amr_post.specs.Rounds.{HasLeft}
use Rattle.amr_post.specs.Letters.{AreSame, Expects, IsSameNode, IsUnderWay, having, letter_of, letters_in}
use Rattle.amr_post.proofs.Parcels.{one_more}
use Rattle.amr_post.proofs.Taking.{own, fits, takes, none_yet, has_just, ready}

-- what its end sent, and the letter that is still there
own_weighs : (weight : LetterOf → ℕ) (q : Parcel) (o : Option LetterOf) → q.letter ≡ o → total weight (letter_of q) ≡ total weight (option_to_list o) + total weight (view q.pass).sent
own_weighs weight q o is = ap (λ (p : Option LetterOf). total weight (option_to_list p ++ (view q.pass).sent)) is ∙ total-append weight (option_to_list o) (view q.pass).sent

module _ (first : NodeOf) (all ls : List LetterOf) (same : AreSame all ls) (e : Expects first ls) where
  pub begun : (ps : List Parcel) → all ≡ letters_in ps → IsUnderWay first all (letters_in ps) [] [] first
  begun ps is = record { taken = []; has = none_yet first ls e; letters = λ weight. (let a = ap (total weight) is in omega arith) }

  module _ (rest sent got : List LetterOf) (n : NodeOf) (u : IsUnderWay first all rest sent got n) (l : LetterOf) (beside : (g : LetterOf → ℕ) → total g u.taken + g l ≤ total g ls) where
    pub to_node : l.to ≡ n.rank
    to_node = own first ls e u.taken l beside ∙ sym (ap (λ (d : NodeOf). d.rank) u.has)

    pub fits_node : Fits n l
    fits_node = subst (λ (d : NodeOf). Fits d l) (sym u.has) (fits first ls e u.taken l beside)

    pub taken_on : (n' : NodeOf) → n' ≡ taking (answer n l) n l → n' ≡ having first (u.taken ++ l ∷ [])
    taken_on n' after = takes first ls e u.taken l beside (answer (having first u.taken) l) n' refl (after ∙ ap (λ (d : NodeOf). taking (answer d l) d l) u.has)

  -- ---- a parcel that is taken back

  module _ (ps rest : List Parcel) (q : Parcel) (sent : List LetterOf) (n : NodeOf) (popped : ps ≡ rest ++ q ∷ []) (u : IsUnderWay first all (letters_in ps) sent [] n) where
    in_parcel : (weight : LetterOf → ℕ) (o : Option LetterOf) → q.letter ≡ o
        → total weight u.taken + total weight sent + (total weight (letters_in rest) + (total weight (option_to_list o) + total weight (view q.pass).sent)) ≡ total weight ls
    in_parcel weight o is =
        let a : total weight u.taken + total weight sent + total weight (letters_in ps) ≡ 0 + total weight all = u.letters weight in
        let b = ap (λ (xs : List Parcel). total weight (letters_in xs)) popped in
        let c = one_more weight rest q in
        let d = own_weighs weight q o is in
        let f = same weight in
        omega arith

    beside_back : (l : LetterOf) → q.letter ≡ Some l → (g : LetterOf → ℕ) → total g u.taken + g l ≤ total g ls
    beside_back l is g = let a : total g u.taken + total g sent + (total g (letters_in rest) + ((g l + 0) + total g (view q.pass).sent)) ≡ total g ls = in_parcel g (Some l) is in omega arith

    pub fits_back : (l : LetterOf) → q.letter ≡ Some l → (l.to ≡ n.rank) × (answer n l ≡ New → Fits n l)
    fits_back l is = (to_node (letters_in ps) sent [] n u l (beside_back l is), λ _. fits_node (letters_in ps) sent [] n u l (beside_back l is))

    pub back_on : (n' : NodeOf) → MatchOption q.letter (n' ≡ n) (λ l. n' ≡ taking (answer n l) n l) → IsUnderWay first all (letters_in rest) (sent ++ (view q.pass).sent) [] n'
    back_on n' given = go q.letter refl given
      where
        go : (o : Option LetterOf) → q.letter ≡ o → MatchOption o (n' ≡ n) (λ l. n' ≡ taking (answer n l) n l) → IsUnderWay first all (letters_in rest) (sent ++ (view q.pass).sent) [] n'
        go None is kept = record {
          taken = u.taken;
          has = kept ∙ u.has;
          letters = λ weight.
              let a : total weight u.taken + total weight sent + (total weight (letters_in rest) + (0 + total weight (view q.pass).sent)) ≡ total weight ls = in_parcel weight None is in
              let b = total-append weight sent (view q.pass).sent in
              let c = same weight in
              omega arith;
        }
        go (Some l) is after = record {
          taken = u.taken ++ l ∷ [];
          has = taken_on (letters_in ps) sent [] n u l (beside_back l is) n' after;
          letters = λ weight.
              let a : total weight u.taken + total weight sent + (total weight (letters_in rest) + ((weight l + 0) + total weight (view q.pass).sent)) ≡ total weight ls = in_parcel weight (Some l) is in
              let b = total-append weight sent (view q.pass).sent in
              let d : total weight (u.taken ++ l ∷ []) ≡ total weight u.taken + (weight l + 0) = total-append weight u.taken (l ∷ []) in
              let c = same weight in
              omega arith;
        }

  -- ---- a letter that is got

  module _ (v : Hand) (n : NodeOf) (u : IsUnderWay first all [] v.sent v.got n) (l : LetterOf) (left : HasLeft v l) where
    beside_got : (g : LetterOf → ℕ) → total g u.taken + g l ≤ total g ls
    beside_got g =
        let a : total g u.taken + total g v.sent + 0 ≡ total g v.got + total g all = u.letters g in
        let b = left.1 g in
        let c = same g in
        omega arith

    pub to_got : l.to ≡ n.rank
    to_got = to_node [] v.sent v.got n u l beside_got

    pub fits_got : Fits n l
    fits_got = fits_node [] v.sent v.got n u l beside_got

    pub got_on : (n' : NodeOf) → n' ≡ taking (answer n l) n l → IsUnderWay first all [] v.sent (v.got ++ l ∷ []) n'
    got_on n' after = record {
      taken = u.taken ++ l ∷ [];
      has = taken_on [] v.sent v.got n u l beside_got n' after;
      letters = λ weight.
          let a : total weight u.taken + total weight v.sent + 0 ≡ total weight v.got + total weight all = u.letters weight in
          let b : total weight (v.got ++ l ∷ []) ≡ total weight v.got + (weight l + 0) = total-append weight v.got (l ∷ []) in
          let d : total weight (u.taken ++ l ∷ []) ≡ total weight u.taken + (weight l + 0) = total-append weight u.taken (l ∷ []) in
          let r : total weight (u.taken ++ l ∷ []) + total weight v.sent + 0 ≡ total weight (v.got ++ l ∷ []) + total weight all = omega arith in r;
    }

  -- ---- all are taken

  module _ (sent got items : List LetterOf) (n : NodeOf) (u : IsUnderWay first all [] sent got n) (left : (weight : LetterOf → ℕ) → total weight sent ≡ total weight got + total weight items) (count : length got ≡ length sent) where
    nothing_left : items ≡ []
    nothing_left =
        nil_from_length items
        (let a = left (λ (x : LetterOf). 1) in
        let b = total_ones sent in
        let c = total_ones got in
        let d = total_ones items in
        omega arith)

    all_taken : AreSame u.taken all
    all_taken weight =
        let a : total weight u.taken + total weight sent + 0 ≡ total weight got + total weight all = u.letters weight in
        let b = left weight in
        let c : total weight items ≡ 0 = ap (total weight) nothing_left in
        omega arith

    pub has_all : (xs : List LetterOf) → AreSame all xs → HasJust n (length first.totals) xs
    has_all xs is =
        subst (λ (d : NodeOf). HasJust d (length first.totals) xs) (sym u.has) (has_just first ls e u.taken (λ w. all_taken w ∙ same w) xs (λ w. all_taken w ∙ is w))

    pub stays : IsSameNode first n
    stays = record {
      rank = ap (λ (d : NodeOf). d.rank) u.has;
      numbers = ap (λ (d : NodeOf). d.numbers) u.has;
      room = ap (λ (d : NodeOf). d.room) u.has;
      words = ap (λ (d : NodeOf). length d.totals) u.has ∙ length-map-range_with_len (λ w. shares_of w u.taken) 0 (length first.totals);
    }

    pub all_ready : is_ready n ≡ true
    all_ready = subst (λ (d : NodeOf). is_ready d ≡ true) (sym u.has) (ready first ls e u.taken (λ w. all_taken w ∙ same w))

-- what is left to get, after one more
pub left_on : (v : Hand) (l : LetterOf) (left : HasLeft v l) (weight : LetterOf → ℕ) → total weight v.sent ≡ total weight (v.got ++ l ∷ []) + total weight left.0
left_on v l left weight =
    let a = left.1 weight in
    let b : total weight (v.got ++ l ∷ []) ≡ total weight v.got + (weight l + 0) = total-append weight v.got (l ∷ []) in
    omega arith
