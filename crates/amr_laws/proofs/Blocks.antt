-- Blocks of cells: boxes refined, and the block that a cell lies in.
use Rattle.std.proofs.Common.{◌≡◌, ℕ, suc, ◌+◌, ◌*◌, ◌/◌, ◌<◌, Bool, ◌&&◌, ◌⊎◌, inl, inr, ℤ, pos, negsuc, ◌+ℤ◌, ◌-ℤ◌, ◌*ℤ◌, refl, sym, ap, subst, ◌∙◌, arith, List, [], ◌∷◌, map}
use Rattle.std.specs.Int.{int_div_euclid, int_rem_euclid}
use Rattle.std.proofs.lemmas.Int.{ints, int_rem_euclid_is}
use Rattle.std.proofs.Math.Nat.{mul-mod_right, zero-mod}
use Rattle.amr_box.specs.declared.Cell.{Cell}
use Rattle.amr_box.specs.Cells.{cell, half, parent, Extent, holds, within, in_boxes}
use Rattle.amr_def.specs.Domain.{refined}
use Rattle.amr_def.specs.Facts.{IsAligned}
use Rattle.amr_def.proofs.Nests.{or_same}

-- the sides that blocks may have
abbrev pub IsSide : ℕ → Type 0
IsSide n = (n ≡ 1) ⊎ ((n ≡ 2) ⊎ ((n ≡ 4) ⊎ (n ≡ 8)))

abbrev pub block_at : ℕ → ℤ → ℤ
block_at n z = int_div_euclid z (pos n)

-- the block of n by n cells that a cell lies in
abbrev pub block_of : ℕ → Cell → Cell
block_of n c = cell (block_at n c.x) (block_at n c.y)

-- ---- a refined box holds the cells of its blocks

within_1 : (lo hi z : ℤ) → within (pos 1 *ℤ lo) (pos 1 *ℤ hi +ℤ (pos 1 -ℤ pos 1)) z ≡ within lo hi (block_at 1 z)
within_1 lo hi (pos a) = grind (arith, ints)
within_1 lo hi (negsuc a) = grind (arith, ints)

within_2 : (lo hi z : ℤ) → within (pos 2 *ℤ lo) (pos 2 *ℤ hi +ℤ (pos 2 -ℤ pos 1)) z ≡ within lo hi (block_at 2 z)
within_2 lo hi (pos a) = grind (arith, ints)
within_2 lo hi (negsuc a) = grind (arith, ints)

within_4 : (lo hi z : ℤ) → within (pos 4 *ℤ lo) (pos 4 *ℤ hi +ℤ (pos 4 -ℤ pos 1)) z ≡ within lo hi (block_at 4 z)
within_4 lo hi (pos a) = grind (arith, ints)
within_4 lo hi (negsuc a) = grind (arith, ints)

within_8 : (lo hi z : ℤ) → within (pos 8 *ℤ lo) (pos 8 *ℤ hi +ℤ (pos 8 -ℤ pos 1)) z ≡ within lo hi (block_at 8 z)
within_8 lo hi (pos a) = grind (arith, ints)
within_8 lo hi (negsuc a) = grind (arith, ints)

within_refined : (n : ℕ) → IsSide n → (lo hi z : ℤ) → within (pos n *ℤ lo) (pos n *ℤ hi +ℤ (pos n -ℤ pos 1)) z ≡ within lo hi (block_at n z)
within_refined n (inl e) lo hi z = subst (λ k. within (pos k *ℤ lo) (pos k *ℤ hi +ℤ (pos k -ℤ pos 1)) z ≡ within lo hi (block_at k z)) (sym e) (within_1 lo hi z)
within_refined n (inr (inl e)) lo hi z = subst (λ k. within (pos k *ℤ lo) (pos k *ℤ hi +ℤ (pos k -ℤ pos 1)) z ≡ within lo hi (block_at k z)) (sym e) (within_2 lo hi z)
within_refined n (inr (inr (inl e))) lo hi z = subst (λ k. within (pos k *ℤ lo) (pos k *ℤ hi +ℤ (pos k -ℤ pos 1)) z ≡ within lo hi (block_at k z)) (sym e) (within_4 lo hi z)
within_refined n (inr (inr (inr e))) lo hi z = subst (λ k. within (pos k *ℤ lo) (pos k *ℤ hi +ℤ (pos k -ℤ pos 1)) z ≡ within lo hi (block_at k z)) (sym e) (within_8 lo hi z)

both_same : {a b c d : Bool} → a ≡ b → c ≡ d → (a && c) ≡ (b && d)
both_same e f i = e i && f i

pub holds-refined : (n : ℕ) → IsSide n → (b : Extent) (c : Cell) → holds (refined n b) c ≡ holds b (block_of n c)
holds-refined n side b c = both_same (within_refined n side b.lo.x b.hi.x c.x) (within_refined n side b.lo.y b.hi.y c.y)

pub in_boxes-refined : (n : ℕ) → IsSide n → (bs : List Extent) (c : Cell) → in_boxes (map (refined n) bs) c ≡ in_boxes bs (block_of n c)
in_boxes-refined n side [] c = refl
in_boxes-refined n side (b ∷ bs) c = or_same (holds-refined n side b c) (in_boxes-refined n side bs c)

-- ---- refined boxes are aligned

pub side_positive : (n : ℕ) → IsSide n → 0 < n
side_positive n (inl e) = omega (arith, e)
side_positive n (inr (inl e)) = omega (arith, e)
side_positive n (inr (inr (inl e))) = omega (arith, e)
side_positive n (inr (inr (inr e))) = omega (arith, e)

product : (n a : ℕ) → pos n *ℤ negsuc a +ℤ pos (suc a * n) ≡ pos 0
product n a = omega (arith, ints)

multiple : (n : ℕ) → 0 < n → (z : ℤ) → int_rem_euclid (pos n *ℤ z) (pos n) ≡ pos 0
multiple n some (pos a) = ap pos (mul-mod_right n a)
multiple n some (negsuc a) = int_rem_euclid_is (pos n *ℤ negsuc a) (pos n) n (suc a) 0 some refl (product n a) ∙ ap pos (zero-mod n)

next_1 : (z : ℤ) → pos 1 *ℤ z +ℤ (pos 1 -ℤ pos 1) +ℤ pos 1 ≡ pos 1 *ℤ (z +ℤ pos 1)
next_1 z = omega (arith, ints)

next_2 : (z : ℤ) → pos 2 *ℤ z +ℤ (pos 2 -ℤ pos 1) +ℤ pos 1 ≡ pos 2 *ℤ (z +ℤ pos 1)
next_2 z = omega (arith, ints)

next_4 : (z : ℤ) → pos 4 *ℤ z +ℤ (pos 4 -ℤ pos 1) +ℤ pos 1 ≡ pos 4 *ℤ (z +ℤ pos 1)
next_4 z = omega (arith, ints)

next_8 : (z : ℤ) → pos 8 *ℤ z +ℤ (pos 8 -ℤ pos 1) +ℤ pos 1 ≡ pos 8 *ℤ (z +ℤ pos 1)
next_8 z = omega (arith, ints)

next_multiple : (n : ℕ) → IsSide n → (z : ℤ) → pos n *ℤ z +ℤ (pos n -ℤ pos 1) +ℤ pos 1 ≡ pos n *ℤ (z +ℤ pos 1)
next_multiple n (inl e) z = subst (λ k. pos k *ℤ z +ℤ (pos k -ℤ pos 1) +ℤ pos 1 ≡ pos k *ℤ (z +ℤ pos 1)) (sym e) (next_1 z)
next_multiple n (inr (inl e)) z = subst (λ k. pos k *ℤ z +ℤ (pos k -ℤ pos 1) +ℤ pos 1 ≡ pos k *ℤ (z +ℤ pos 1)) (sym e) (next_2 z)
next_multiple n (inr (inr (inl e))) z = subst (λ k. pos k *ℤ z +ℤ (pos k -ℤ pos 1) +ℤ pos 1 ≡ pos k *ℤ (z +ℤ pos 1)) (sym e) (next_4 z)
next_multiple n (inr (inr (inr e))) z = subst (λ k. pos k *ℤ z +ℤ (pos k -ℤ pos 1) +ℤ pos 1 ≡ pos k *ℤ (z +ℤ pos 1)) (sym e) (next_8 z)

pub refined-aligned : (n : ℕ) → IsSide n → (b : Extent) → IsAligned n (refined n b)
refined-aligned n side b =
    let some = side_positive n side in
    record {
      west = multiple n some b.lo.x;
      south = multiple n some b.lo.y;
      east = ap (λ (z : ℤ). int_rem_euclid z (pos n)) (next_multiple n side b.hi.x) ∙ multiple n some (b.hi.x +ℤ pos 1);
      north = ap (λ (z : ℤ). int_rem_euclid z (pos n)) (next_multiple n side b.hi.y) ∙ multiple n some (b.hi.y +ℤ pos 1);
    }

-- ---- half of a block

half_2 : (z : ℤ) → block_at 2 z ≡ block_at 1 (half z)
half_2 (pos a) = ap pos (omega arith)
half_2 (negsuc a) = ap negsuc (omega arith)

half_4 : (z : ℤ) → block_at 4 z ≡ block_at 2 (half z)
half_4 (pos a) = ap pos (omega arith)
half_4 (negsuc a) = ap negsuc (omega arith)

half_8 : (z : ℤ) → block_at 8 z ≡ block_at 4 (half z)
half_8 (pos a) = ap pos (omega arith)
half_8 (negsuc a) = ap negsuc (omega arith)

-- half of a blocking factor, and the block of a cell's parent
pub record IsBlocking (b : ℕ) : Type 0 where
  pub side : IsSide b
  pub half_side : IsSide (b / 2)
  pub twice : b ≡ b / 2 + b / 2
  pub parent_block : (z : ℤ) → block_at b z ≡ block_at (b / 2) (half z)

pub blocking : (b : ℕ) → (b ≡ 2) ⊎ ((b ≡ 4) ⊎ (b ≡ 8)) → IsBlocking b
blocking b (inl e) = subst (λ k. IsBlocking k) (sym e) (record { side = inr (inl refl); half_side = inl refl; twice = refl; parent_block = half_2 })
blocking b (inr (inl e)) = subst (λ k. IsBlocking k) (sym e) (record { side = inr (inr (inl refl)); half_side = inr (inl refl); twice = refl; parent_block = half_4 })
blocking b (inr (inr e)) = subst (λ k. IsBlocking k) (sym e) (record { side = inr (inr (inr refl)); half_side = inr (inr (inl refl)); twice = refl; parent_block = half_8 })

pub parent-block : (b : ℕ) → IsBlocking b → (q : Cell) → block_of b q ≡ block_of (b / 2) (parent q)
parent-block b is q i = cell (is.parent_block q.x i) (is.parent_block q.y i)
