-- A regrid of a sound state, by any tags, gives a sound state.
use Rattle.std.proofs.Common.{◌≡◌, ℕ, zero, suc, ◌+◌, ◌*◌, ◌^◌, ◌<◌, ◌≤◌, min, Bool, false, ◌⊎◌, inl, inr, refl, sym, ap, subst, ◌∙◌, arith, List, [], ◌∷◌, length}
use Rattle.std.proofs.lemmas.Bool.Decides.{nat_tests}
use Rattle.amr_box.specs.declared.Cell.{Cell}
use Rattle.amr_box.specs.Cells.{Extent, holds, in_boxes}
use Rattle.amr_def.specs.declared.problem.Problem.{Problem}
use Rattle.amr_def.specs.declared.problem.Row.{Row}
use Rattle.amr_def.specs.Domain.{domain, domain_box}
use Rattle.amr_def.specs.State.{Level, State, mass_of}
use Rattle.amr_def.specs.Tags.{is_tagged}
use Rattle.amr_def.specs.NewBoxes.{first_boxes, new_boxes}
use Rattle.amr_def.specs.Regrid.{refill, first_masses, new_level_count, regrid, regrid_by}
use Rattle.amr_def.specs.Facts.{IsBounded, IsSound, growth}
use Rattle.amr_def.proofs.Nesting.{in_domain-inside, children}
use Rattle.amr_def.proofs.Greatest.{AllUpTo}
use Rattle.amr_def.proofs.Chain.{Chain, chain_first, nth, state_chain, state_nested, state_synced}
use Rattle.amr_def.proofs.Stepping.{masses_in, all_up}
use Rattle.amr_laws.proofs.CellSets.{left}
use Rattle.amr_laws.proofs.NewLevels.{box_holds}
use Rattle.amr_laws.proofs.Refill.{NewFacts, new_facts, Surrounds, SyncedWithin}
use Rattle.amr_laws.proofs.RefillAll.{no_children_at_all, nothing_synced, OldFacts, refill_chain, refill_count, IsScaled, refill_up, up_to_each}

-- ---- what the levels of a sound state give

old_facts : (p : Problem) (k : Level) (ks : List Level) → Chain p 0 (k ∷ ks) → OldFacts p 0 ks
old_facts p k [] x = record { children = no_children_at_all; links = tt }
old_facts p k (a ∷ more) x = record { children = children p 0 k a x.0 (chain_first p 1 a more x.3) x.1; links = x.3 }

old_synced : (p : Problem) (k : Level) (ks : List Level) → Chain p 0 (k ∷ ks) → SyncedWithin k.masses (first_masses ks)
old_synced p k [] x = nothing_synced k.masses
old_synced p k (a ∷ more) x = record { at = λ c there h. x.2.at c h }

-- level 0 is the whole domain
base_surrounds : (p : Problem) (k : Level) (bs : List Extent) → k.boxes ≡ domain_box (domain p 0) ∷ [] → Surrounds p 0 k bs
base_surrounds p k bs base = record {
  at = λ c inside near.
      let i = in_domain-inside p 0 c inside in
      ap (λ xs. in_boxes xs c) base ∙ left (holds (domain_box (domain p 0)) c) false (box_holds (domain p 0) c (record { from_west = i.west; to_east = i.east; from_south = i.south; to_north = i.north }));
}

pub new_boxes_count : (p : Problem) (tagged : ℕ → Cell → Bool) (n l : ℕ) → length (new_boxes p tagged n l) ≡ n
unfolding new_boxes
new_boxes_count p tagged zero l = refl
new_boxes_count p tagged (suc n) l = ap suc (new_boxes_count p tagged n (suc l))

-- ---- the bound is a multiple of what a cell of each level weighs

growth_parts : (m : ℕ) → (growth m ≡ 2048) ⊎ (growth m ≡ 131072)
growth_parts m = grind (arith, nat_tests)

scaled_by : (t : ℕ) → IsScaled (2048 * t)
scaled_by t = record { at = at }
  where
    at : (l : ℕ) → l < 4 → (q : ℕ) × (2048 * t ≡ 4 ^ l * (4 * q)) × (2048 * t ≡ 4 ^ suc l * q)
    at zero h = (512 * t, omega arith, omega arith)
    at (suc zero) h = (128 * t, omega arith, omega arith)
    at (suc (suc zero)) h = (32 * t, omega arith, omega arith)
    at (suc (suc (suc zero))) h = (8 * t, omega arith, omega arith)
    at (suc (suc (suc (suc l)))) h = absurd (omega arith)

bound_parts : (g n : ℕ) → (g ≡ 2048) ⊎ (g ≡ 131072) → (t : ℕ) × (2 ^ 30 + g * (n + 1) ≡ 2048 * t)
bound_parts g n (inl e) = (524288 + (n + 1), rw e (omega arith))
bound_parts g n (inr e) = (524288 + 64 * (n + 1), rw e (omega arith))

bound_scaled : (m n : ℕ) → IsScaled (2 ^ 30 + growth m * (n + 1))
bound_scaled m n = let parts = bound_parts (growth m) n (growth_parts m) in subst (λ b. IsScaled b) (sym parts.1) (scaled_by parts.0)

-- ---- the state

module _ (p : Problem) (tagged : ℕ → Cell → Bool) (n : ℕ) (rs : List Row) (k : Level) (ks : List Level) where
  abbrev pub before : State
  before = record { step = n; rows = rs; levels = k ∷ ks }

  abbrev pub boxes : List (List Extent)
  boxes = new_boxes p tagged (new_level_count p before) 0

  pub count : length boxes ≡ min (length (k ∷ ks)) p.max_level
  count = new_boxes_count p tagged (new_level_count p before) 0

  module _ (sound : IsSound p before) where
    links : Chain p 0 (k ∷ ks)
    links = state_chain p before sound.nested sound.synced

    facts : NewFacts p tagged 0 boxes
    facts = new_facts p tagged (new_level_count p before) 0

    new_links : Chain p 0 (k ∷ refill k.masses ks boxes)
    new_links = refill_chain p tagged 0 k ks boxes (chain_first p 0 k ks links) (base_surrounds p k (first_boxes boxes) sound.base) (old_synced p k ks links) (old_facts p k ks links) facts

    bound : ℕ
    bound = 2 ^ 30 + growth p.max_level * (n + 1)

    up : AllUpTo 0 (masses_in (k ∷ ks)) bound
    unfolding bound
    up = all_up 0 (k ∷ ks) (2 ^ 30 + growth p.max_level * (n + 1)) (λ j c. let e : j ≡ 0 + j = omega arith in subst (λ i. 4 ^ i * mass_of (nth (k ∷ ks) j).masses c ≤ 2 ^ 30 + growth p.max_level * (n + 1)) e (sound.bounded.at j c))

    few : 0 + length boxes ≤ 4
    few = omega (arith, count, p.limits.greatest_max_level)

    new_up : AllUpTo 0 (masses_in (k ∷ refill k.masses ks boxes)) bound
    unfolding bound
    new_up = (up.0, refill_up 0 k.masses ks boxes bound few (bound_scaled p.max_level n) up.0 up.1)

    new_bounded : IsBounded p (regrid_by p tagged before)
    unfolding bound regrid_by
    new_bounded = record {
      at = λ l c. let e : 0 + l ≡ l = omega arith in
          subst (λ i. 4 ^ i * mass_of (nth (k ∷ refill k.masses ks boxes) l).masses c ≤ 2 ^ 30 + growth p.max_level * (n + 1)) e (up_to_each 0 (k ∷ refill k.masses ks boxes) (2 ^ 30 + growth p.max_level * (n + 1)) new_up l c);
    }

    pub sound_after : IsSound p (regrid_by p tagged before)
    unfolding regrid_by
    sound_after = record {
      within = sound.within;
      base = sound.base;
      some_level = omega arith;
      few_levels = omega (arith, refill_count k.masses ks boxes, count);
      nested = state_nested p (regrid_by p tagged before) new_links;
      synced = state_synced p (regrid_by p tagged before) new_links;
      bounded = new_bounded;
      telescoped = record {
        count = sound.telescoped.count;
        no_inflow = sound.telescoped.no_inflow;
        no_outflow = sound.telescoped.no_outflow;
        each = sound.telescoped.each;
        last = sound.telescoped.last;
      };
      small_rows = sound.small_rows;
    }

sound_from : (p : Problem) (tagged : ℕ → Cell → Bool) (n : ℕ) (rs : List Row) (ks : List Level) → IsSound p (record { step = n; rows = rs; levels = ks }) → IsSound p (regrid_by p tagged (record { step = n; rows = rs; levels = ks }))
sound_from p tagged n rs [] sound = absurd (omega (arith, sound.some_level))
sound_from p tagged n rs (k ∷ ks) sound = sound_after p tagged n rs k ks sound

pub regrid_by-sound : (p : Problem) (tagged : ℕ → Cell → Bool) (s : State) → IsSound p s → IsSound p (regrid_by p tagged s)
regrid_by-sound p tagged s sound = sound_from p tagged s.step s.rows s.levels sound

pub regrid-sound : (p : Problem) (s : State) → IsSound p s → IsSound p (regrid p s)
unfolding regrid
regrid-sound p s sound = regrid_by-sound p (is_tagged p s) s sound
