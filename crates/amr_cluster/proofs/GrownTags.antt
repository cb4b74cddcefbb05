-- Tags over the domain of a level grow as the definition's tags do.
use Rattle.std.proofs.Common.{◌≡◌, ℕ, Bool, true, false, ◌&&◌, ◌||◌, ℤ, pos, ◌+ℤ◌, ◌-ℤ◌, List, [], ◌∷◌, refl, ap, ◌∙◌, arith}
use Rattle.std.specs.List.{list_any}
use Rattle.std.specs.Int.{int_rem_euclid}
use Rattle.std.proofs.lemmas.Int.{ints}
use Rattle.amr_box.specs.declared.Cell.{Cell}
use Rattle.amr_box.specs.Cells.{Extent, cell, height, holds, moved, square, width}
use Rattle.amr_box.proofs.Numbers.{domain_side}
use Rattle.amr_def.specs.Domain.{Domain, domain_box, home_cell, in_domain, is_near}
use Rattle.amr_def.specs.Domain.{wrapped as wrapped_from_zero}
use Rattle.amr_def.proofs.Uncovered.{domain_box_cells}
use Rattle.amr_tags.specs.TagSets.{TagSet, has, home, wrapped}
use Rattle.amr_tags.specs.TagSets.{is_near_tag}
use Rattle.amr_cluster.specs.Grown.{IsOverDomain}

zero_left : (z : ℤ) → (pos 0 +ℤ z) ≡ z
zero_left z = omega (arith, ints)

zero_off : (z : ℤ) → (z -ℤ pos 0) ≡ z
zero_off z = omega (arith, ints)

wrapped_is : (w : Bool) (n : ℕ) (z : ℤ) → wrapped w (pos 0) n z ≡ wrapped_from_zero w n z
wrapped_is true n z = ap (λ (y : ℤ). pos 0 +ℤ int_rem_euclid y (pos n)) (zero_off z) ∙ zero_left (int_rem_euclid z (pos n))
wrapped_is false n z = refl

-- the cell that a cell stands for, on a box whose axes are periodic or open
home_in : Extent → Bool → Bool → Cell → Cell
home_in b x y c = cell (wrapped x b.lo.x (width b) c.x) (wrapped y b.lo.y (height b) c.y)

home_is : (d : Domain) (t : TagSet) → IsOverDomain d t → (c : Cell) → home t c ≡ home_cell d c
unfolding home_in
home_is d t is c =
    ap (λ (b : Extent). home_in b t.wrap_x t.wrap_y c) is.bx
    ∙ ap (λ (x : Bool). home_in (domain_box d) x t.wrap_y c) is.x
    ∙ ap (λ (y : Bool). home_in (domain_box d) d.wrap_x y c) is.y
    ∙ ap (λ (n : ℕ). cell (wrapped d.wrap_x (pos 0) n c.x) (wrapped d.wrap_y (pos 0) (height (domain_box d)) c.y)) (domain_side d.columns)
    ∙ ap (λ (n : ℕ). cell (wrapped d.wrap_x (pos 0) d.columns c.x) (wrapped d.wrap_y (pos 0) n c.y)) (domain_side d.rows)
    ∙ ap (λ (z : ℤ). cell z (wrapped d.wrap_y (pos 0) d.rows c.y)) (wrapped_is d.wrap_x d.columns c.x)
    ∙ ap (cell (wrapped_from_zero d.wrap_x d.columns c.x)) (wrapped_is d.wrap_y d.rows c.y)

any_same : (p q : Cell → Bool) → ((c : Cell) → p c ≡ q c) → (cs : List Cell) → list_any p cs ≡ list_any q cs
any_same p q same [] = refl
any_same p q same (c ∷ cs) = ap (λ (b : Bool). b || list_any p cs) (same c) ∙ ap (λ (b : Bool). q c || b) (any_same p q same cs)

near_is : (d : Domain) (t : TagSet) → IsOverDomain d t → (tagged : Cell → Bool) → ((c : Cell) → has t c ≡ tagged c) → (n : ℕ) (c : Cell) → is_near_tag t n c ≡ is_near d n tagged c
near_is d t is tagged same n c =
    any_same (λ o. has t (home t (moved c o))) (λ o. tagged (home_cell d (moved c o))) (λ o. ap (has t) (home_is d t is (moved c o)) ∙ same (home_cell d (moved c o))) (square n)

pub grown-is : (d : Domain) (t : TagSet) → IsOverDomain d t → (tagged : Cell → Bool) → ((c : Cell) → has t c ≡ tagged c) → (n : ℕ) (c : Cell) → (holds t.bx c && is_near_tag t n c) ≡ (in_domain d c && is_near d n tagged c)
grown-is d t is tagged same n c =
    ap (λ (b : Extent). holds b c && is_near_tag t n c) is.bx
    ∙ ap (λ (b : Bool). b && is_near_tag t n c) (domain_box_cells d c)
    ∙ ap (λ (b : Bool). in_domain d c && b) (near_is d t is tagged same n c)
