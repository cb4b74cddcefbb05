-- Three seats to lend from.
use Rattle.std.proofs.Common.{◌≡◌, ℕ, suc, ◌+◌, ◌*◌, ◌-◌, ◌≤◌, ◌^◌, ◌/◌, true, sym, ap, ◌∙◌, cond, subst, arith}
use Rattle.std.proofs.Math.Nat.{pow-suc, pow-le-pow_right}
use Rattle.std.specs.Prelude.{Option}
use Rattle.atomic_table.specs.declared.shared.Seat.{Seat}
use Rattle.amr_board.specs.declared.view.View.{View}
use Rattle.amr_board.specs.BoardOf.{BoardOf, IsSeatOf, view}
use Rattle.amr_board.specs.Views.{HoldsNone, keeps_half, other_half, joined}
use Rattle.amr_workers.specs.declared.shares.Shares.{Shares}
use Rattle.amr_workers.specs.Orders.{MayDraw}
use Rattle.amr_workers.specs.Shares.{MayLend, whole}
use Rattle.amr_workers.proofs.Seats.{first_given, half_may, other_may}

grows : (i j : ℕ) → i ≤ j → 2 ^ i ≤ 2 ^ j
grows i j le = pow-le-pow_right (omega arith) le

module _ {P : Type 0} (board : BoardOf P) where
  -- what is enough for these is enough for fewer
  pub fewer : (m n : ℕ) (seats : Shares P) → m ≤ n → MayLend board n seats → MayLend board m seats
  fewer m n seats le may =
      record {
        first = may.first;
        second = may.second;
        third = may.third;
        first_share = (let p : 2 ^ ((m + 2) / 3) ≤ 2 ^ ((n + 2) / 3) = grows ((m + 2) / 3) ((n + 2) / 3) (omega arith) in let q = may.first_share in omega arith);
        second_share = (let p : 2 ^ ((m + 1) / 3) ≤ 2 ^ ((n + 1) / 3) = grows ((m + 1) / 3) ((n + 1) / 3) (omega arith) in let q = may.second_share in omega arith);
        third_share = (let p : 2 ^ (m / 3) ≤ 2 ^ (n / 3) = grows (m / 3) (n / 3) (omega arith) in let q = may.third_share in omega arith);
      }

  -- the first seat, halved, comes last
  pub turned : (n : ℕ) (seats : Shares P) (half : Seat (Option P) (View P)) → IsSeatOf board half → view half ≡ keeps_half (view seats.first)
      → MayLend board (1 + n) seats → MayLend board n (record { first = seats.second; second = seats.third; third = half })
  turned n seats half of_board is may =
      record {
        first = may.second;
        second = may.third;
        third = half_may board seats.first half of_board is may.first;
        first_share = subst (λ k. 2 ^ k ≤ (view seats.second).share) (let e : (1 + n + 1) / 3 ≡ (n + 2) / 3 = omega arith in e) may.second_share;
        second_share = subst (λ k. 2 ^ k ≤ (view seats.third).share) (let e : (1 + n) / 3 ≡ (n + 1) / 3 = omega arith in e) may.third_share;
        third_share = (let e : (1 + n + 2) / 3 ≡ suc (n / 3) = omega arith in
            let p : 2 ^ ((1 + n + 2) / 3) ≡ 2 ^ (n / 3) * 2 = ap (λ (k : ℕ). 2 ^ k) e ∙ pow-suc 2 (n / 3) in
            let q = may.first_share in
            let s : (view half).share ≡ (view seats.first).share / 2 = ap (λ (v : View P). v.share) is in omega arith);
      }

  -- two seats with which tasks may be drawn, made one
  pub joined_may : (seat other both : Seat (Option P) (View P)) → IsSeatOf board both → view both ≡ joined (view seat) (view other)
      → MayDraw board seat → MayDraw board other → MayDraw board both
  joined_may seat other both of_board is may may' =
      record {
        seat_of = of_board;
        none = subst (λ (v : View P). HoldsNone v) (sym is) (first_given (view seat).tasks (view other).tasks may.none may'.none);
        here = ap (λ (v : View P). v.past) is ∙ (ap (λ b. cond b true (view other).past) may.here ∙ may'.here);
      }

  -- the board's only seat, halved, and one half halved again
  pub in_three : (seat first rest second third : Seat (Option P) (View P)) → MayDraw board seat → (view seat).share ≡ 2 ^ 32
      → IsSeatOf board first → view first ≡ keeps_half (view seat) → IsSeatOf board rest → view rest ≡ other_half (view seat)
      → IsSeatOf board second → view second ≡ keeps_half (view rest) → IsSeatOf board third → view third ≡ other_half (view rest)
      → ((workers : ℕ) → workers ≤ 63 → MayLend board workers (record { first = first; second = second; third = third }))
      × (whole {P = P} (record { first = first; second = second; third = third }) ≡ 2 ^ 32)
  in_three seat first rest second third may alone of₁ is₁ of₂ is₂ of₃ is₃ of₄ is₄ =
      let a : (view first).share ≡ (view seat).share / 2 = ap (λ (v : View P). v.share) is₁ in
      let r : (view rest).share ≡ (view seat).share - (view seat).share / 2 = ap (λ (v : View P). v.share) is₂ in
      let b : (view second).share ≡ (view rest).share / 2 = ap (λ (v : View P). v.share) is₃ in
      let d : (view third).share ≡ (view rest).share - (view rest).share / 2 = ap (λ (v : View P). v.share) is₄ in
      let left = other_may board seat rest of₂ is₂ may in (
        (λ n le. record {
          first = half_may board seat first of₁ is₁ may;
          second = half_may board rest second of₃ is₃ left;
          third = other_may board rest third of₄ is₄ left;
          first_share = (let p : 2 ^ ((n + 2) / 3) ≤ 2 ^ 21 = grows ((n + 2) / 3) 21 (omega arith) in omega arith);
          second_share = (let p : 2 ^ ((n + 1) / 3) ≤ 2 ^ 21 = grows ((n + 1) / 3) 21 (omega arith) in omega arith);
          third_share = (let p : 2 ^ (n / 3) ≤ 2 ^ 21 = grows (n / 3) 21 (omega arith) in omega arith);
        }),
        omega arith,
      )
