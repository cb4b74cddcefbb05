-- A level that was read: its boxes lie in the domain, near and with no cell in common.
use Rattle.std.proofs.Common.{◌≡◌, ℕ, zero, suc, ◌+◌, ◌*◌, ◌^◌, ◌<◌, ◌≤◌, true, List, [], ◌∷◌, length, get_or, drop, refl, sym, ap, subst, ◌∙◌, arith, inl, inr, mul-le-mul_left}
use Rattle.std.specs.Prelude.{◌==◌}
use Rattle.std.specs.List.{All}
use Rattle.std.proofs.lemmas.Int.{ints}
use Rattle.std.proofs.lemmas.Nat.{mul-le}
use Rattle.std.proofs.lemmas.List.{get_or-drop}
use Rattle.amr_codec.specs.declared.numbers.MassWidth.{MassWidth}
use Rattle.amr_codec.specs.declared.numbers.MassWidth.TheVariants.{Four, Eight}
use Rattle.amr_codec.specs.declared.basis.Basis.{Basis}
use Rattle.amr_codec.specs.declared.basis.Basis.TheVariants.{Alone, Older}
use Rattle.amr_codec.specs.Forms.{IsBasisOf, basis_of}
use Rattle.amr_codec.specs.MassWidths.{width_of}
use Rattle.amr_patch.proofs.Corners.{corners}
use Rattle.amr_def.specs.declared.problem.Problem.{Problem}
use Rattle.amr_def.specs.Domain.{domain, domain_box}
use Rattle.amr_box.specs.declared.Cell.{Cell}
use Rattle.amr_def.specs.Facts.{IsAligned, IsLevel, growth}
use Rattle.amr_patch.specs.Meshes.{state_of}
use Rattle.amr_def.specs.Limits.{between}
use Rattle.amr_def.specs.State.{Level, level_at, mass_of}
use Rattle.amr_def.proofs.Nesting.{in_domain-inside}
use Rattle.amr_def.proofs.Sizes.{doubled_small}
use Rattle.amr_patch.specs.Patches.{AreNear}
use Rattle.amr_patch.proofs.Apart.{in_boxes_at}
use Rattle.amr_payload.specs.Payload.{Form, whole, changed, IsMassWidth, level_cells}
use Rattle.amr_payload.specs.Tests.{Left, Grid, is_box_count, level_of, read, read_grids}
use Rattle.amr_payload.proofs.Grids.{AreGrids, grids_took}
use Rattle.amr_payload.proofs.GridLevels.{all_aligned, base_boxes, is_level}
use Rattle.amr_payload.proofs.Forms.{IsForm, changed_form, whole_form}
use Rattle.amr_payload.proofs.Readings.{AreBytes}
use Rattle.amr_decoder.specs.Filled.{IsPlaced}
use Rattle.amr_decoder.specs.ReadLevels.{IsReadLevel, IsReadable}

pub is_mass_width : (m : MassWidth) → IsMassWidth (width_of m)
is_mass_width Four = inr refl
is_mass_width Eight = inl refl

pub are_bytes : (bs : List ℕ) → ((k : ℕ) → get_or bs k 0 < 256) → AreBytes bs
are_bytes [] h = tt
are_bytes (b ∷ bs) h = (h 0, are_bytes bs (λ k. h (suc k)))

pub bytes_after : (n : ℕ) (bs : List ℕ) → ((k : ℕ) → get_or bs k 0 < 256) → AreBytes (drop n bs)
bytes_after n bs h = are_bytes (drop n bs) (λ k. subst (λ b. b < 256) (sym (get_or-drop n bs k 0)) (h (n + k)))

-- a form that can be read by is read exactly
pub readable_form : (f : Form) (p : Problem) (n l : ℕ) → IsReadable p n l f → IsForm f p n l
readable_form (whole w) p n l h = whole_form w p n l h
readable_form (changed old) p n l h = changed_form old p n l h

-- each level of a basis has one
pub basis_forms : (p : Problem) (b : Basis) (n l : ℕ) → IsBasisOf p b → length (basis_of b).rows ≤ n → IsReadable p n l ((basis_of b).forms l)
basis_forms p (Alone w) n l h after = is_mass_width w
basis_forms p (Older m) n l h after = λ c. grown c
  where
    grown : (c : Cell) → 4 ^ l * mass_of (level_at (state_of m.now) l).masses c ≤ 2 ^ 30 + growth p.max_level * (n + 1)
    grown c =
        let least : (state_of m.now).step + 1 ≤ n + 1 = omega (arith, h.1.telescoped.count, after) in
        omega (arith, h.1.bounded.at l c, mul-le-mul_left (growth p.max_level) least)

pub level_read : (f : Form) (p : Problem) (n l k : ℕ) (r e : Left) (gs : List Grid) → IsReadable p n l f → AreBytes r.bytes → is_box_count p l k ≡ true → read_grids f p n l k [] r ≡ read gs e → IsReadLevel p l gs
level_read f p n l k r e gs form small count h =
    let took = grids_took f p n l (readable_form f p n l form) k [] r e gs small h in
    let counted = ap (is_box_count p l) took.count ∙ count in
    record { level = is_level p n l gs counted took.each; base = base l took.each counted; aligned = aligned l took.each }
  where
    base : (l : ℕ) → AreGrids p n l [] gs → is_box_count p l (length gs) ≡ true → l ≡ 0 → (level_of gs).boxes ≡ domain_box (domain p 0) ∷ []
    base zero each counted none = base_boxes p n gs counted each
    base (suc l) each counted none = absurd (omega arith)

    aligned : (l : ℕ) → AreGrids p n l [] gs → 0 < l → All (IsAligned p.blocking) (level_of gs).boxes
    aligned zero each some = absurd (omega arith)
    aligned (suc l) each some = all_aligned p n l gs each

-- ---- boxes in a domain

pub all_placed : (p : Problem) (l : ℕ) (k : Level) → l ≤ 4 → IsLevel p l k → All IsPlaced k.boxes
all_placed p l k fine level i d lt =
    let b = get_or k.boxes i d in
    let c = corners p l b fine (level.proper i d lt) (λ c held. level.inside c (in_boxes_at k.boxes c i d lt held)) in
    record { near = c.near; west = c.west; south = c.south }

pub all_near : (p : Problem) (l : ℕ) (k : Level) → l ≤ 4 → IsLevel p l k → AreNear k.boxes
all_near p l k fine level c h =
    let i = in_domain-inside p l c (level.inside c h) in
    let wide : p.nx * 2 ^ l ≤ 4096 = doubled_small p.nx l p.limits.greatest_nx fine in
    let flat : p.ny * 2 ^ l ≤ 4096 = doubled_small p.ny l p.limits.greatest_ny fine in
    record { west = omega (arith, ints, i.west); east = omega (arith, ints, i.east, wide); south = omega (arith, ints, i.south); north = omega (arith, ints, i.north, flat) }

-- ---- counts

pub four_small : (l : ℕ) → l ≤ 4 → 4 ^ l ≤ 256
four_small zero h = omega arith
four_small (suc zero) h = omega arith
four_small (suc (suc zero)) h = omega arith
four_small (suc (suc (suc zero))) h = omega arith
four_small (suc (suc (suc (suc zero)))) h = omega arith
four_small (suc (suc (suc (suc (suc l))))) h = absurd (omega arith)

pub few_cells : (nx ny four : ℕ) → nx ≤ 256 → ny ≤ 256 → four ≤ 256 → nx * ny * four ≤ 2 ^ 24
few_cells nx ny four x y h = mul-le (nx * ny) four 65536 256 (mul-le nx ny 256 256 x y) h

pub one_box : (p : Problem) (l k : ℕ) → l ≡ 0 → (k == 1) ≡ is_box_count p l k
one_box p zero k h = refl
one_box p (suc l) k h = absurd (omega arith)

pub some_boxes : (p : Problem) (l k m : ℕ) → (l ≡ 0 → ⊥) → l ≡ suc m → between 1 (level_cells p m) k ≡ is_box_count p l k
some_boxes p zero k m h is = absurd (h refl)
some_boxes p (suc l) k m h is = let same : m ≡ l = omega (arith, is) in ap (λ n. between 1 (level_cells p n) k) same
