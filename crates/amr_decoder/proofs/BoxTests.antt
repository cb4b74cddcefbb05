-- The tests on a box, apart from those against earlier ones.
use Rattle.std.proofs.Common.{◌≡◌, ℕ, zero, suc, ◌-◌, ◌*◌, ◌^◌, ◌≤◌, ◌<◌, true, ◌&&◌, not, pos, ◌-ℤ◌, List, [], refl, sym, ap, ◌∙◌, arith, pow_pos}
use Rattle.std.proofs.Math.Bool.{and-true}
use Rattle.std.specs.Prelude.{nat_eq}
use Rattle.std.specs.Ordering.{int_eq}
use Rattle.std.proofs.lemmas.Int.{ints}
use Rattle.std.proofs.lemmas.Nat.{mul-le}
use Rattle.std.specs.List.{list_any}
use Rattle.std.proofs.lemmas.Bool.{and_parts, eqb-true}
use Rattle.amr_box.specs.Cells.{Extent, is_proper}
use Rattle.amr_def.specs.declared.problem.Problem.{Problem}
use Rattle.amr_def.specs.Limits.{is_blocking}
use Rattle.amr_def.specs.Domain.{domain, domain_box}
use Rattle.amr_decoder.specs.declared.boxes.Corners.{Corners}
use Rattle.amr_decoder.specs.Boxes.{IsSmall}
use Rattle.amr_payload.specs.Tests.{is_aligned, is_box_of, is_same_box, lies_in, meets}

blocking_from : (b : ℕ) → is_blocking b ≡ true → 1 ≤ b
blocking_from zero h = absurd (cc)
blocking_from (suc b) h = omega arith

pub blocking_some : (p : Problem) → 1 ≤ p.blocking
blocking_some p = blocking_from p.blocking p.limits.blocking_factor

pub base_is : (p : Problem) (l : ℕ) (b : Extent) → l ≡ 0 → is_box_of p l [] b ≡ is_same_box b (domain_box (domain p l))
unfolding is_box_of
base_is p zero b h = refl
base_is p (suc l) b h = absurd (omega arith)

pub fine_is : (p : Problem) (l : ℕ) (b : Extent) → (l ≡ 0 → ⊥) → is_box_of p l [] b ≡ (lies_in (domain p l) b && is_proper b && is_aligned p.blocking b)
unfolding is_box_of
fine_is p zero b h = absurd (h refl)
fine_is p (suc l) b h = and-true (lies_in (domain p (suc l)) b && is_proper b && is_aligned p.blocking b)

-- with the earlier ones
pub base_with : (p : Problem) (l : ℕ) (earlier : List Extent) (b : Extent) → l ≡ 0 → is_box_of p l earlier b ≡ is_box_of p l [] b
unfolding is_box_of
base_with p zero earlier b h = refl
base_with p (suc l) earlier b h = absurd (omega arith)

pub fine_with : (p : Problem) (l : ℕ) (earlier : List Extent) (b : Extent) → (l ≡ 0 → ⊥) → is_box_of p l earlier b ≡ (is_box_of p l [] b && not (list_any (meets b) earlier))
unfolding is_box_of
fine_with p zero earlier b h = absurd (h refl)
fine_with p (suc l) earlier b h = ap (λ t. t && not (list_any (meets b) earlier)) (sym (and-true (lies_in (domain p (suc l)) b && is_proper b && is_aligned p.blocking b)))

-- ---- the corners of a domain

pub same_number : (a b : ℕ) → nat_eq a b ≡ int_eq (pos a) (pos b)
same_number a b = grind (arith, ints)

pub last_column : (a n : ℕ) → 1 ≤ n → nat_eq a (n - 1) ≡ int_eq (pos a) (pos n -ℤ pos 1)
last_column a n h = let same : pos n -ℤ pos 1 ≡ pos (n - 1) = omega (arith, ints) in same_number a (n - 1) ∙ sym (ap (λ z. int_eq (pos a) z) same)

pub some_cells : (n l : ℕ) → 2 ≤ n → 1 ≤ n * 2 ^ l
some_cells n l h = mul-le 1 1 n (2 ^ l) (omega arith) (pow_pos l)

pub at_corners : (b : Corners) (x y : ℕ) → ((nat_eq b.west 0 && nat_eq b.south 0) && (nat_eq b.east x && nat_eq b.north y)) ≡ true → x < 4096 → y < 4096 → IsSmall b
at_corners b x y h hx hy =
    let t = and_parts (nat_eq b.west 0 && nat_eq b.south 0) (nat_eq b.east x && nat_eq b.north y) h in
    let low = and_parts (nat_eq b.west 0) (nat_eq b.south 0) t.0 in
    let high = and_parts (nat_eq b.east x) (nat_eq b.north y) t.1 in
    let west : b.west ≡ 0 = eqb-true b.west 0 low.0 in
    let south : b.south ≡ 0 = eqb-true b.south 0 low.1 in
    let east : b.east ≡ x = eqb-true b.east x high.0 in
    let north : b.north ≡ y = eqb-true b.north y high.1 in
    record { wide = omega arith; high = omega arith; east = omega arith; north = omega arith }
