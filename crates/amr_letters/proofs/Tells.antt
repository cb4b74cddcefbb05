-- A node that has the cells that come from ranks tells whole frames: what comes from no rank is 0 in the domain, and outside its inflow.
use Rattle.std.proofs.Common.{◌≡◌, ◌∙◌, ℕ, ◌/◌, ◌^◌, ◌<◌, cond, Bool, true, false, length, refl, sym, ap}
use Rattle.std.specs.Prelude.{slice_index}
use Rattle.std.specs.declared.option.Option.{Option}
use Rattle.std.specs.declared.option.Option.TheVariants.{None, Some}
use Rattle.std.specs.Option.{unwrap_or}
use Rattle.amr_box.specs.declared.Cell.{Cell}
use Rattle.amr_box.specs.Cells.{parent}
use Rattle.amr_def.specs.Cut.{or_else}
use Rattle.amr_def.specs.Domain.{domain, home_cell, in_domain}
use Rattle.amr_def.specs.State.{mass_of}
use Rattle.amr_def.specs.Value.{home_value, inflow_at, value_at}
use Rattle.amr_patch.specs.Patches.{masses_in}
use Rattle.amr_ranks.specs.Items.{mass_at}
use Rattle.amr_ranks.specs.Nodes.{NodeOf}
use Rattle.amr_letters.specs.Beside.{beside_count}
use Rattle.amr_letters.specs.Told.{TellsFrame, value_by, value_told}
use Rattle.amr_letters.specs.Sources.{Sharing, box_at, ghost_at, holder, source, source_of_home, value_of}
use Rattle.amr_letters.specs.Between.{KnowsSources}
use Rattle.amr_letters.proofs.Holders.{none_holds}

module _ (s : Sharing) (own : length s.owners ≡ length s.patches) (coarser : length s.coarser_owners ≡ length s.coarser) where
  -- the value of a cell that comes from no rank
  from_none : (h : Cell) → source_of_home s h ≡ None → value_told s.problem s.level h None ≡ home_value s.problem s.level (masses_in s.patches) (masses_in s.coarser) h
  from_none h none = by_holder (holder s.patches s.owners h) refl none
    where
      by_domain : (b : Bool) → cond b (holder s.coarser s.coarser_owners (parent h)) None ≡ None → cond b 0 (inflow_at s.problem s.level h / 4 ^ s.level) ≡ cond b (mass_of (masses_in s.coarser) (parent h) / 4) (inflow_at s.problem s.level h / 4 ^ s.level)
      by_domain true e = sym (ap (λ o. unwrap_or o 0 / 4) (none_holds s.coarser s.coarser_owners (parent h) coarser e))
      by_domain false e = refl

      by_holder : (o : Option ℕ) → holder s.patches s.owners h ≡ o → or_else o (cond (in_domain (domain s.problem s.level) h) (holder s.coarser s.coarser_owners (parent h)) None) ≡ None
          → value_told s.problem s.level h None ≡ home_value s.problem s.level (masses_in s.patches) (masses_in s.coarser) h
      by_holder None is e =
          by_domain (in_domain (domain s.problem s.level) h) e
          ∙ sym (ap (λ o. unwrap_or o (cond (in_domain (domain s.problem s.level) h) (mass_of (masses_in s.coarser) (parent h) / 4) (inflow_at s.problem s.level h / 4 ^ s.level))) (none_holds s.patches s.owners h own is))
      by_holder (Some rank) is e = cc

  value_none : (c : Cell) → source s c ≡ None → value_told s.problem s.level (home_cell (domain s.problem s.level) c) None ≡ value_of s c
  unfolding value_at
  value_none c none = from_none (home_cell (domain s.problem s.level) c) none

  pub tells : (rank k : ℕ) (n : NodeOf) → KnowsSources s rank n → k < length s.patches → slice_index s.owners k ≡ rank → TellsFrame s.problem s.level (masses_in s.patches) (masses_in s.coarser) k (box_at s k) n
  tells rank k n knows there owner = record { at = λ slot lt. by_source slot lt (source s (ghost_at s k slot)) refl }
    where
      told_as : (slot : ℕ) (o : Option ℕ) → mass_at k slot n.cells ≡ o → value_by s.problem s.level k (box_at s k) n slot ≡ value_told s.problem s.level (home_cell (domain s.problem s.level) (ghost_at s k slot)) o
      told_as slot o e = ap (value_told s.problem s.level (home_cell (domain s.problem s.level) (ghost_at s k slot))) e

      by_source : (slot : ℕ) → slot < beside_count (box_at s k) → (o : Option ℕ) → source s (ghost_at s k slot) ≡ o → value_by s.problem s.level k (box_at s k) n slot ≡ value_of s (ghost_at s k slot)
      by_source slot lt None is = told_as slot None (knows.untold k slot is) ∙ value_none (ghost_at s k slot) is
      by_source slot lt (Some from) is = told_as slot (Some (value_of s (ghost_at s k slot))) (knows.told k slot from there owner lt is)
