-- Each move keeps the round balanced.
use Rattle.std.proofs.Common.{◌≡◌, ◌≢◌, ℕ, zero, suc, ◌+◌, ◌-◌, ◌<◌, ◌≤◌, List, [], ◌∷◌, ◌++◌, length, set, refl, sym, ap, ◌∙◌, subst, ⊎_elim, arith}
use mathlib.Core.Option.{some, some-ne-none}
use lib.ListN.{get_elem?}
use Rattle.std.proofs.lemmas.List.{length-append, nil_from_length}
use Rattle.crossbeam_channel.specs.Fifo.{Pushes, Pops, Forks, Merges, Learns}
use Rattle.atomic_table.proofs.Lists.{at_set, at_snoc}
use Rattle.amr_ranks.specs.Items.{total}
use Rattle.amr_ranks.specs.Letters.{LetterOf}
use Rattle.amr_ranks.proofs.Sums.{total-append, total_ones}
use Rattle.amr_post.specs.declared.channel.Hand.{Hand}
use Rattle.amr_post.specs.Rounds.{hand, rooms, HasLeft, Balanced}

total_set : (f : Hand → ℕ) (views : List Hand) (pass : ℕ) (v w : Hand) → get_elem? views pass ≡ some v → total f (set views pass w) + f v ≡ total f views + f w
total_set f [] pass v w at = absurd (some-ne-none v (sym at))
total_set f (u ∷ views) zero v w at = let e : u ≡ v = cc in let g = ap f e in let r : (f w + total f views) + f v ≡ (f u + total f views) + f w = omega arith in r
total_set f (u ∷ views) (suc pass) v w at = let k = total_set f views pass v w at in let r : (f u + total f (set views pass w)) + f v ≡ (f u + total f views) + f w = omega arith in r

-- one end weighs at most as all
total_at : (f : Hand → ℕ) (views : List Hand) (pass : ℕ) (v : Hand) → get_elem? views pass ≡ some v → f v ≤ total f views
total_at f [] pass v at = absurd (some-ne-none v (sym at))
total_at f (u ∷ views) zero v at = let e : u ≡ v = cc in let g = ap f e in let r : f v ≤ f u + total f views = omega arith in r
total_at f (u ∷ views) (suc pass) v at = let k = total_at f views pass v at in let r : f v ≤ f u + total f views = omega arith in r

abbrev room_of : Hand → ℕ
room_of v = v.room

abbrev sent_by : (LetterOf → ℕ) → Hand → ℕ
sent_by weight v = total weight v.sent

abbrev got_by : (LetterOf → ℕ) → Hand → ℕ
got_by weight v = total weight v.got

-- rooms left, and one for each letter sent
rooms_are : (views : List Hand) → total rooms views ≡ total room_of views + total (sent_by (λ (x : LetterOf). 1)) views
rooms_are [] = refl
rooms_are (v ∷ views) =
    let k = rooms_are views in
    let n = total_ones v.sent in
    let r : (v.room + length v.sent) + total rooms views ≡ (v.room + total room_of views) + (total (λ (x : LetterOf). 1) v.sent + total (sent_by (λ (x : LetterOf). 1)) views) = omega arith in r

-- what holds of each end, where no end without room got anything
abbrev IsIdleEmpty : List Hand → Type 0
IsIdleEmpty views = (pass : ℕ) (v : Hand) → get_elem? views pass ≡ some v → rooms v ≡ 0 → v.got ≡ []

idle_set : (views : List Hand) (pass : ℕ) (w : Hand) → (rooms w ≡ 0 → w.got ≡ []) → IsIdleEmpty views → IsIdleEmpty (set views pass w)
idle_set views pass w mine others j u e none =
    ⊎_elim
    (λ (x : (j ≡ pass) × (w ≡ u)). subst (λ (y : Hand). rooms y ≡ 0 → y.got ≡ []) x.1 mine none)
    (λ (x : (j ≢ pass) × (get_elem? views j ≡ some u)). others j u x.1 none)
    (at_set views pass j w u e)

pub begins : Balanced [] (hand 9 [] [] ∷ [])
begins = record { room = refl; letters = λ weight. refl; idle = only }
  where
    only : IsIdleEmpty (hand 9 [] [] ∷ [])
    only zero v at none = let e : hand 9 [] [] ≡ v = cc in ap (λ (y : Hand). y.got) (sym e)
    only (suc pass) v at none = absurd (some-ne-none v (sym at))

pub sends : (n pass : ℕ) (v : Hand) (x : LetterOf) → 0 < v.room → Pushes Balanced n pass v x (λ w. w ≡ hand (v.room - 1) (v.sent ++ x ∷ []) v.got)
sends n pass v x some_room items views _ b at =
    let w : Hand = hand (v.room - 1) (v.sent ++ x ∷ []) v.got in
    let count = length-append v.sent (x ∷ []) in (
      w,
      record {
        room = (let s = total_set rooms views pass v w at in let p = b.room in omega arith);
        letters = λ weight.
            let s = total_set (sent_by weight) views pass v w at in
            let t = total_set (got_by weight) views pass v w at in
            let p = b.letters weight in
            let q : total weight (v.sent ++ x ∷ []) ≡ total weight v.sent + (weight x + 0) = total-append weight v.sent (x ∷ []) in
            let r : total weight (items ++ x ∷ []) ≡ total weight items + (weight x + 0) = total-append weight items (x ∷ []) in
            omega arith;
        idle = idle_set views pass w (λ none. absurd (let c : length (v.sent ++ x ∷ []) ≡ length v.sent + 1 = count in omega arith)) b.idle;
      },
      refl,
    )

pub forks : (pass : ℕ) (v : Hand) → 0 < v.room → 1 < rooms v → Forks Balanced pass v (hand (v.room - 1) v.sent v.got) (hand 1 [] [])
forks pass v some_room more items views b at =
    let l : Hand = hand (v.room - 1) v.sent v.got in
    let r : Hand = hand 1 [] [] in
    let vs : List Hand = set views pass l in
    record {
      room = (let s = total_set rooms views pass v l at in let p = b.room in let q : total rooms (vs ++ r ∷ []) ≡ total rooms vs + 1 = total-append rooms vs (r ∷ []) in omega arith);
      letters = λ weight.
          let s = total_set (sent_by weight) views pass v l at in
          let t = total_set (got_by weight) views pass v l at in
          let p = b.letters weight in
          let q : total (sent_by weight) (vs ++ r ∷ []) ≡ total (sent_by weight) vs + 0 = total-append (sent_by weight) vs (r ∷ []) in
          let g : total (got_by weight) (vs ++ r ∷ []) ≡ total (got_by weight) vs + 0 = total-append (got_by weight) vs (r ∷ []) in
          omega arith;
      idle = λ j u e none.
          ⊎_elim
          (λ x. idle_set views pass l (λ z. absurd (omega arith)) b.idle j u x none)
          (λ (is : r ≡ u). ap (λ (y : Hand). y.got) (sym is))
          (at_snoc vs r u j e);
    }

pub merges : (pass : ℕ) (v : Hand) (other : ℕ) (w : Hand) → 0 < rooms v → Merges Balanced pass v other w (hand (v.room + w.room) (v.sent ++ w.sent) (v.got ++ w.got)) (hand 0 [] [])
merges pass v other w some_room items views b at apart at' =
    let both : Hand = hand (v.room + w.room) (v.sent ++ w.sent) (v.got ++ w.got) in
    let spent : Hand = hand 0 [] [] in
    let vs : List Hand = set views pass both in
    let count = length-append v.sent w.sent in
    record {
      room = (let s = total_set rooms views pass v both at in let t = total_set rooms vs other w spent at' in let p = b.room in omega arith);
      letters = λ weight.
          let s = total_set (sent_by weight) views pass v both at in
          let t = total_set (got_by weight) views pass v both at in
          let s' = total_set (sent_by weight) vs other w spent at' in
          let t' = total_set (got_by weight) vs other w spent at' in
          let p = b.letters weight in
          let q = total-append weight v.sent w.sent in
          let r = total-append weight v.got w.got in
          omega arith;
      idle = idle_set vs other spent (λ _. refl) (idle_set views pass both (λ none. absurd (omega arith)) b.idle);
    }

-- where an end has room, the channel isn't full
pub never_full : (pass : ℕ) (v : Hand) → 0 < v.room → Learns Balanced pass v (λ items. length items < 9)
never_full pass v some_room items views b at =
    let a = total_at room_of views pass v at in
    let d = rooms_are views in
    let e = b.letters (λ (x : LetterOf). 1) in
    let f = total_ones items in
    let g = b.room in
    omega arith

none_weighs : (f : Hand → ℕ) (views : List Hand) → total rooms views ≡ 0 → ((pass : ℕ) (u : Hand) → get_elem? views pass ≡ some u → rooms u ≡ 0 → f u ≡ 0) → total f views ≡ 0
none_weighs f [] none zero_at = refl
none_weighs f (u ∷ views) none zero_at =
    let k : rooms u + total rooms views ≡ 0 = none in
    let a : f u ≡ 0 = zero_at 0 u refl (omega arith) in
    let d : total f views ≡ 0 = none_weighs f views (omega arith) (λ j w e z. zero_at (suc j) w e z) in
    let r : f u + total f views ≡ 0 = omega arith in r

-- what weighs nothing at an end without rooms weighs as the one end with all
alone : (f : Hand → ℕ) (views : List Hand) (pass : ℕ) (v : Hand) → get_elem? views pass ≡ some v → total rooms views ≡ rooms v → ((j : ℕ) (u : Hand) → get_elem? views j ≡ some u → rooms u ≡ 0 → f u ≡ 0) → total f views ≡ f v
alone f [] pass v at all zero_at = absurd (some-ne-none v (sym at))
alone f (u ∷ views) zero v at all zero_at =
    let e : u ≡ v = cc in
    let k : rooms u + total rooms views ≡ rooms v = all in
    let g : rooms u ≡ rooms v = ap rooms e in
    let h : f u ≡ f v = ap f e in
    let d = none_weighs f views (omega arith) (λ j w at_j z. zero_at (suc j) w at_j z) in
    let r : f u + total f views ≡ f v = omega arith in r
alone f (u ∷ views) (suc pass) v at all zero_at =
    let k : rooms u + total rooms views ≡ rooms v = all in
    let g = total_at rooms views pass v at in
    let a : f u ≡ 0 = zero_at 0 u refl (omega arith) in
    let d = alone f views pass v at (omega arith) (λ j w at_j z. zero_at (suc j) w at_j z) in
    let r : f u + total f views ≡ f v = omega arith in r

-- the end that has had all rooms knows what is left
pub left : (pass : ℕ) (v : Hand) → rooms v ≡ 9 → Learns Balanced pass v (λ items. (weight : LetterOf → ℕ) → total weight v.sent ≡ total weight v.got + total weight items)
left pass v all items views b at weight =
    let whole : total rooms views ≡ rooms v = b.room ∙ sym all in
    let a = alone (sent_by weight) views pass v at whole (λ j u e z. ap (total weight) (nil_from_length u.sent (omega arith))) in
    let d = alone (got_by weight) views pass v at whole (λ j u e z. ap (total weight) (b.idle j u e z)) in
    let p = b.letters weight in
    omega arith

pub gets : (pass : ℕ) (v : Hand) → rooms v ≡ 9 → Pops Balanced pass v (λ x w. (w ≡ hand v.room v.sent (v.got ++ x ∷ [])) × HasLeft v x)
gets pass v all x items views b at =
    let w : Hand = hand v.room v.sent (v.got ++ x ∷ []) in (
      w,
      record {
        room = (let s = total_set rooms views pass v w at in let p = b.room in omega arith);
        letters = λ weight.
            let s = total_set (sent_by weight) views pass v w at in
            let t = total_set (got_by weight) views pass v w at in
            let p : total (sent_by weight) views ≡ total (got_by weight) views + (weight x + total weight items) = b.letters weight in
            let q : total weight (v.got ++ x ∷ []) ≡ total weight v.got + (weight x + 0) = total-append weight v.got (x ∷ []) in
            omega arith;
        idle = idle_set views pass w (λ none. absurd (omega arith)) b.idle;
      },
      (refl, (items, left pass v all (x ∷ items) views b at)),
    )
