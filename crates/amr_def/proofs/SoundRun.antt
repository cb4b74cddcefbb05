-- Every state of a run is sound, where a regrid keeps states sound; and a regrid of one level alone does nothing.
use Rattle.std.proofs.Common.{◌≡◌, ℕ, zero, suc, ◌+◌, ◌-◌, ◌*◌, ◌^◌, ◌<◌, ◌≤◌, min, Bool, true, false, cond, ◌||◌, ℤ, pos, ◌-ℤ◌, is_some, refl, sym, ap, subst, ◌∙◌, arith, List, [], ◌∷◌, length}
use Rattle.std.specs.Prelude.{int_le, int_lt, nat_le}
use Rattle.std.specs.List.{fold, list_all}
use Rattle.std.specs.declared.option.Option.TheVariants.{None, Some}
use Rattle.std.specs.Option.{unwrap_or}
use Rattle.std.proofs.lemmas.Int.{ints}
pub use Rattle.std.proofs.lemmas.Bool.{and_parts as both_parts, and_from as and_true}
pub use Rattle.std.proofs.Math.Bool.{or-false as or_nothing}
use Rattle.std.proofs.lemmas.Bool.Decides.{nat_tests}
use Rattle.amr_box.specs.declared.Cell.{Cell}
use Rattle.amr_box.specs.Cells.{IsProper, holds, within}
use Rattle.amr_def.specs.declared.problem.Problem.{Problem}
use Rattle.amr_def.specs.declared.problem.Block.{Block}
use Rattle.amr_def.specs.declared.problem.Row.{Row}
use Rattle.amr_def.specs.Limits.{is_block}
use Rattle.amr_def.specs.Domain.{domain, domain_box, in_domain, is_inside, columns, rows}
use Rattle.amr_def.specs.State.{Level, State, level_at, mass_of}
use Rattle.amr_def.specs.Tags.{is_tagged}
use Rattle.amr_def.specs.NewBoxes.{new_boxes}
use Rattle.amr_def.specs.Regrid.{regrid, regridded_levels, refill, regrid_by}
use Rattle.amr_def.specs.Run.{block_extent, block_mass, base_level, plain_start, start, stepped, next, regrid_is_due, times, finish, run}
use Rattle.amr_def.specs.Facts.{IsLevel, IsSmallRow, IsSound, growth}
use Rattle.amr_def.proofs.Runs.{step-next}
use Rattle.amr_def.proofs.SoundStep.{step-sound}
pub use Rattle.amr_def.proofs.Stepping.{cond_within}
use Rattle.amr_def.proofs.Totals.{total_within}
use Rattle.amr_def.proofs.Courants.{power_positive, some_columns}
use Rattle.amr_def.specs.Ledger.{total_mass}
use Rattle.std.proofs.lemmas.List.Elements.{All-nil, All-push}

-- ---- the start before any regrid

pub axis_inside : (n : ℕ) (z : ℤ) → within (pos 0) (pos n -ℤ pos 1) z ≡ true → is_inside n z ≡ true
axis_inside n z h =
    let parts = both_parts (int_le (pos 0) z) (int_le z (pos n -ℤ pos 1)) h in
    and_true (int_le (pos 0) z) (int_lt z (pos n)) parts.0 (below z n parts.1)
  where
    below : (z : ℤ) (n : ℕ) → int_le z (pos n -ℤ pos 1) ≡ true → int_lt z (pos n) ≡ true
    below z n h = grind (arith, ints)

pub box_inside : (p : Problem) (l : ℕ) (c : Cell) → holds (domain_box (domain p l)) c ≡ true → in_domain (domain p l) c ≡ true
unfolding in_domain
box_inside p l c h =
    let parts = both_parts _ _ h in
    and_true (is_inside (columns p l) c.x) (is_inside (rows p l) c.y) (axis_inside (columns p l) c.x parts.0) (axis_inside (rows p l) c.y parts.1)

pub is_some-given : (t : Bool) (m : ℕ) → is_some (cond t (Some m) None) ≡ (t || false)
is_some-given true m = refl
is_some-given false m = refl

pub domain_proper : (p : Problem) (l : ℕ) → IsProper (domain_box (domain p l))
domain_proper p l = record {
  wide = omega (arith, ints, power_positive p.nx l (some_columns p).x);
  high = omega (arith, ints, power_positive p.ny l (some_columns p).y);
}

pub base_is_level : (p : Problem) → IsLevel p 0 (base_level p)
base_is_level p = record {
  some = omega arith;
  proper = All-push IsProper [] (domain_box (domain p 0)) (All-nil IsProper) (domain_proper p 0);
  disjoint = λ i j d lower fits. absurd (omega arith);
  inside = λ c h. box_inside p 0 c (sym (or_nothing (holds (domain_box (domain p 0)) c)) ∙ h);
  filled = λ c. is_some-given (holds (domain_box (domain p 0)) c) (block_mass p.blocks c);
}

pub mass_within : (m : ℕ) → nat_le m (2 ^ 30) ≡ true → m ≤ 2 ^ 30
mass_within m h = grind (arith, nat_tests)

pub fold_within : (nx ny : ℕ) (bs : List Block) (c : Cell) (m : ℕ) → list_all (is_block nx ny) bs ≡ true → m ≤ 2 ^ 30 → fold (λ m b. cond (holds (block_extent b) c) b.mass m) m bs ≤ 2 ^ 30
fold_within nx ny [] c m h k = k
fold_within nx ny (b ∷ bs) c m h k =
    let parts = both_parts (is_block nx ny b) (list_all (is_block nx ny) bs) h in
    let small : b.mass ≤ 2 ^ 30 = mass_within b.mass (both_parts _ _ parts.0).1 in
    fold_within nx ny bs c (cond (holds (block_extent b) c) b.mass m) parts.1 (cond_within (holds (block_extent b) c) b.mass m (2 ^ 30) small k)

pub given_within : (t : Bool) (m b : ℕ) → m ≤ b → unwrap_or (cond t (Some m) None) 0 ≤ b
given_within true m b h = h
given_within false m b h = omega arith

pub base_within : (p : Problem) (c : Cell) → mass_of (base_level p).masses c ≤ 2 ^ 30
base_within p c = given_within (holds (domain_box (domain p 0)) c) (block_mass p.blocks c) (2 ^ 30) (fold_within p.nx p.ny p.blocks c 0 p.limits.blocks_inside (omega arith))

pub base_bounded : (p : Problem) (l : ℕ) (c : Cell) → 4 ^ l * mass_of (level_at (plain_start p) l).masses c ≤ 2 ^ 30 + growth p.max_level * (0 + 1)
base_bounded p zero c = omega (arith, base_within p c)
base_bounded p (suc l) c = nothing (4 ^ suc l) (2 ^ 30 + growth p.max_level * (0 + 1))
  where
    nothing : (w b : ℕ) → w * 0 ≤ b
    nothing w b = omega arith

-- the row of the start
abbrev first_row : Problem → Row
first_row p = record { mass = total_mass p (base_level p).masses; inflow = 0; outflow = 0 }

first_row-small : (p : Problem) → IsSmallRow (first_row p)
first_row-small p = record {
  mass = omega (arith, total_within p (base_level p).masses (λ c. omega (arith, base_within p c)));
  inflow = omega arith;
  outflow = omega arith;
}

pub plain_start-sound : (p : Problem) → IsSound p (plain_start p)
plain_start-sound p = record {
  within = omega arith;
  base = refl;
  some_level = omega arith;
  few_levels = omega arith;
  nested = record { each = first; nested = λ l h. absurd (omega arith) };
  synced = record { at = λ l c h. absurd (omega arith) };
  bounded = record { at = base_bounded p };
  telescoped = record { count = refl; no_inflow = refl; no_outflow = refl; each = λ k h. absurd (omega arith); last = refl };
  small_rows = All-push IsSmallRow [] (first_row p) (All-nil IsSmallRow) (first_row-small p);
}
  where
    first : (l : ℕ) → l < 1 → IsLevel p l (level_at (plain_start p) l)
    first zero h = base_is_level p
    first (suc l) h = absurd (omega arith)

-- ---- runs, where regrids keep states sound

pub regrid_step : (p : Problem) (s : State) → (regrid p s).step ≡ s.step
unfolding regrid regrid_by
regrid_step p s = refl

abbrev pub RegridKeeps : Problem → Type 0
RegridKeeps p = (s : State) → IsSound p s → IsSound p (regrid p s)

module _ (p : Problem) (keeps : RegridKeeps p) where
  regrids-sound : (n : ℕ) (s : State) → IsSound p s → IsSound p (times (regrid p) n s)
  regrids-sound zero s sound = sound
  regrids-sound (suc n) s sound = regrids-sound n (regrid p s) (keeps s sound)

  pub start-sound : IsSound p (start p)
  unfolding start
  start-sound = regrids-sound p.max_level (plain_start p) (plain_start-sound p)

  pub next-sound : (s : State) → IsSound p s → s.step < p.steps → IsSound p (next p s)
  unfolding next
  next-sound s sound more = by_due (regrid_is_due p s)
    where
      by_due : (due : Bool) → IsSound p (stepped p (cond due (regrid p s) s))
      by_due true = step-sound p (regrid p s) (keeps s sound) (subst (λ n. n < p.steps) (sym (regrid_step p s)) more)
      by_due false = step-sound p s sound more

  steps-sound : (n : ℕ) (s : State) → IsSound p s → s.step + n ≤ p.steps → IsSound p (times (next p) n s)
  steps-sound zero s sound fits = sound
  steps-sound (suc n) s sound fits = steps-sound n (next p s) (next-sound s sound (omega arith)) (omega (arith, step-next p s))

  pub finish-sound : (s : State) (k : ℕ) → IsSound p s → k ≤ p.steps → IsSound p (finish p s k)
  unfolding finish
  finish-sound s k sound fits = steps-sound (k - s.step) s sound (omega (arith, sound.within))

  pub run-sound : (k : ℕ) → k ≤ p.steps → IsSound p (run p k)
  unfolding run
  run-sound k fits = finish-sound (start p) k start-sound fits

-- ---- one level

pub alone : (p : Problem) (n : ℕ) (rs : List Row) (ks : List Level) → p.max_level ≡ 0 → length ks ≤ 1 → regrid p (record { step = n; rows = rs; levels = ks }) ≡ record { step = n; rows = rs; levels = ks }
unfolding regrid regrid_by refill new_boxes
alone p n rs [] e h = refl
alone p n rs (k ∷ []) e h =
    let none : min 1 p.max_level ≡ 0 = omega (arith, e) in
    ap (λ (t : ℕ). let s : State = record { step = n; rows = rs; levels = regridded_levels (k ∷ []) (new_boxes p (is_tagged p (record { step = n; rows = rs; levels = k ∷ [] })) t 0) } in s) none
alone p n rs (k ∷ k' ∷ ks) e h = absurd (omega arith)

pub regrid_alone : (p : Problem) (s : State) → p.max_level ≡ 0 → IsSound p s → regrid p s ≡ s
regrid_alone p s e sound = alone p s.step s.rows s.levels e (omega (arith, e, sound.few_levels))
