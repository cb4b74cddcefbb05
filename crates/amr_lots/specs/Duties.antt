-- What is done with a lot in a phase without posts: what it has to be, and what it becomes.
use Rattle.std.specs.Prelude.{◌≡◌, map}
use Rattle.std.specs.List.{All, AllZip}
use Rattle.amr_alike.specs.Copied.{IsCopied}
use Rattle.amr_patch.specs.Patches.{box}
use Rattle.amr_ghost.specs.Messages.{HasPacked, IsMessageFrom}
use Rattle.amr_lots.specs.declared.lot.Duty.{Duty}
use Rattle.amr_lots.specs.declared.lot.Duty.TheVariants.{Correct, Keep, Send, Step}
use Rattle.amr_lots.specs.declared.lot.Lot.{Lot}
use Rattle.amr_lots.specs.Corrections.{HasCorrected, MayCorrect}
use Rattle.amr_lots.specs.Runs.{with_before, with_outbox}

-- its messages take masses of its patches
abbrev pub MaySend : Lot → Type 0
MaySend lot = All (IsMessageFrom lot.patches.items) lot.workspace.outbox.items

-- its messages were given masses of its patches, and all else stayed
pub record HasSent (lot after : Lot) : Type 0 where
  pub packed : AllZip (HasPacked lot.patches.items) lot.workspace.outbox.items after.workspace.outbox.items
  pub others : after ≡ with_outbox after.workspace.outbox lot

-- it was corrected, and then packed what other lots need for their next step
pub record HasMadeCorrection (lot after : Lot) : Type 0 where
  pub corrected : Lot
  pub corrects : HasCorrected lot corrected
  pub sends : HasSent corrected after

-- patches with the boxes of its own stand in it, that may keep their masses
abbrev pub MayKeepMasses : Lot → Type 0
MayKeepMasses lot = map box lot.before.items ≡ map box lot.patches.items

-- those got the masses of its own, and all else stayed
pub record HasKeptMasses (lot after : Lot) : Type 0 where
  pub copied : AllZip IsCopied lot.patches.items after.before.items
  pub others : after ≡ with_before after.before lot

-- a lot may be served: a step posts, and is not served so
abbrev pub MayServe : Duty → Lot → Type 0
MayServe Send lot = MaySend lot
MayServe Correct lot = MayCorrect lot × MaySend lot
MayServe Keep lot = MayKeepMasses lot
MayServe Step lot = ⊥

-- it was served
abbrev pub IsServed : Duty → Lot → Lot → Type 0
IsServed Send lot after = HasSent lot after
IsServed Correct lot after = HasMadeCorrection lot after
IsServed Keep lot after = HasKeptMasses lot after
IsServed Step lot after = ⊥
