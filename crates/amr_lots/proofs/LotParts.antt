-- A lot after one of its parts was lent and written.
use Rattle.std.proofs.Common.{◌≡◌, ◌∙◌, ℕ, ◌+◌, ◌<◌, ◌≤◌, List, length, refl, sym, ap, subst, arith}
use Rattle.std.specs.Prelude.{slice_index}
use Rattle.std.specs.Global.{Vec}
use Rattle.std.specs.Vec.{with_items}
use Rattle.std.specs.List.{All}
use Rattle.amr_def.specs.declared.problem.Problem.{Problem}
use Rattle.amr_patch.specs.declared.patches.Patch.{Patch}
use Rattle.amr_flux.specs.Rooms.{widest}
use Rattle.amr_flux.specs.declared.room.Room.{Room}
use Rattle.amr_layout.specs.declared.PatchLayout.{PatchLayout}
use Rattle.amr_register.specs.declared.edges.EdgeCell.{EdgeCell}
use Rattle.amr_lots.specs.declared.lot.Lot.{Lot}
use Rattle.amr_lots.specs.declared.lot.Workspace.{Workspace}
use Rattle.amr_lots.specs.Ready.{CanStep}
use Rattle.amr_lots.specs.LotSteps.{AreSizesOf, CanStepWhere, HasRead, HasSteppedWhere, HasSweptAll, HasSweptLot, HaveStepped, IsReadable, KeepsButSizes}
use Rattle.amr_lots.specs.Works.{places_read}
use Rattle.amr_lots.proofs.Filled.{given_items}

module _ (p : Problem) (l : ℕ) (lot : Lot) (lent : List Patch) (lent_is : lent ≡ lot.patches.items) where
  -- ---- all is swept

  module _ (lists : List (Vec EdgeCell)) (lists_are : lists ≡ lot.edges.items) where
    pub can_lent : CanStep p l lot.patches.items lot.edges.items lot.workspace → CanStep p l lent lists lot.workspace
    can_lent can = subst (λ qs. CanStep p l qs lists lot.workspace) (sym lent_is) (subst (λ (es : List (Vec EdgeCell)). CanStep p l lot.patches.items es lot.workspace) (sym lists_are) can)

    pub swept_lot : (rs : List Patch) (found : List (Vec EdgeCell)) (after : Workspace) → length lent ≡ length rs → length lists ≡ length found → HasSweptAll p l lent lists lot.workspace rs found after
        → HasSweptLot p l lot (record lot { patches = with_items lot.patches rs; edges = with_items lot.edges found; workspace = after })
    swept_lot rs found after same same_lists h = record {
      all = subst (λ qs. HasSweptAll p l qs lot.edges.items lot.workspace (with_items lot.patches rs).items (with_items lot.edges found).items after) lent_is
          (subst (λ (es : List (Vec EdgeCell)). HasSweptAll p l lent es lot.workspace (with_items lot.patches rs).items (with_items lot.edges found).items after) lists_are
          (subst (λ us. HasSweptAll p l lent lists lot.workspace us (with_items lot.edges found).items after) (sym (given_items lot.patches lent rs lent_is same))
          (subst (λ (es : List (Vec EdgeCell)). HasSweptAll p l lent lists lot.workspace rs es after) (sym (given_items lot.edges lists found lists_are same_lists)) h)));
      others = refl;
    }

  -- ---- some patches made their step

  module _ (ts : List PatchLayout) (ts_are : ts ≡ lot.workspace.layouts.items) where
    pub may_lent : (Steps : PatchLayout → Type 0) → CanStepWhere p l (widest lot.workspace.room) Steps lot.workspace.layouts.items lot.patches.items → CanStepWhere p l (widest lot.workspace.room) Steps ts lent
    may_lent Steps can = subst (λ (us : List PatchLayout). CanStepWhere p l (widest lot.workspace.room) Steps us lent) (sym ts_are) (subst (CanStepWhere p l (widest lot.workspace.room) Steps lot.workspace.layouts.items) (sym lent_is) can)

    pub sizes_lent : (sizes : List ℕ) → sizes ≡ lot.workspace.sizes.items → AreSizesOf p l lot.workspace.sizes.items lot.workspace.layouts.items lot.patches.items → AreSizesOf p l sizes ts lent
    sizes_lent sizes is are =
        subst (λ ns. AreSizesOf p l ns ts lent) (sym is)
        (subst (λ (us : List PatchLayout). AreSizesOf p l lot.workspace.sizes.items us lent) (sym ts_are) (subst (AreSizesOf p l lot.workspace.sizes.items lot.workspace.layouts.items) (sym lent_is) are))

    pub stepped_lot : (Steps Stays : PatchLayout → Type 0) (rs : List Patch) (room : Room) → length lent ≡ length rs → HaveStepped p l Steps Stays ts lent rs → widest room ≡ widest lot.workspace.room
        → HasSteppedWhere p l Steps Stays lot (record lot { patches = with_items lot.patches rs; workspace = record lot.workspace { room = room } })
    stepped_lot Steps Stays rs room same h wide = record {
      patches = subst (λ (us : List PatchLayout). HaveStepped p l Steps Stays us lot.patches.items (with_items lot.patches rs).items) ts_are
          (subst (λ qs. HaveStepped p l Steps Stays ts qs (with_items lot.patches rs).items) lent_is
          (subst (HaveStepped p l Steps Stays ts lent) (sym (given_items lot.patches lent rs lent_is same)) h));
      room = wide;
      others = refl;
    }

-- ---- sizes were read

module _ (faces : ℕ → ℕ) (lot : Lot) (ts : List PatchLayout) (ts_are : ts ≡ lot.workspace.layouts.items) (lent : List ℕ) (lent_is : lent ≡ lot.workspace.sizes.items) where
  pub room_lent : length (places_read lot.workspace.layouts.items) ≤ length lot.workspace.sizes.items → length (places_read ts) ≤ length lent
  room_lent room = omega (arith, room, ap (λ (us : List PatchLayout). length (places_read us)) ts_are, ap length lent_is)

  pub readable_lent : (places : ℕ) → All (IsReadable faces places) (places_read lot.workspace.layouts.items) → All (IsReadable faces places) (places_read ts)
  readable_lent places all = subst (λ (us : List PatchLayout). All (IsReadable faces places) (places_read us)) (sym ts_are) all

  module _ (xs : List ℕ) (same : length xs ≡ length lent) where
    pub keeps_sizes : KeepsButSizes lot (record lot { workspace = record lot.workspace { sizes = with_items lot.workspace.sizes xs } })
    keeps_sizes = record { count = ap length (given_items lot.workspace.sizes lent xs lent_is (sym same)) ∙ same ∙ ap length lent_is; others = refl }

    pub read_lot : ((k : ℕ) → k < length (places_read ts) → faces (slice_index (places_read ts) k) ≡ slice_index xs k + 1) → HasRead faces (record lot { workspace = record lot.workspace { sizes = with_items lot.workspace.sizes xs } })
    read_lot read =
        subst (λ ns. (k : ℕ) → k < length (places_read lot.workspace.layouts.items) → faces (slice_index (places_read lot.workspace.layouts.items) k) ≡ slice_index ns k + 1) (sym (given_items lot.workspace.sizes lent xs lent_is (sym same)))
        (subst (λ (us : List PatchLayout). (k : ℕ) → k < length (places_read us) → faces (slice_index (places_read us) k) ≡ slice_index xs k + 1) ts_are read)
