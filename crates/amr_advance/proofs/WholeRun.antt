-- The run that is all of a level: its patches, and the message that its lot has for itself.
use Rattle.std.proofs.Common.{◌≡◌, ◌∙◌, ℕ, zero, suc, ◌*◌, ◌<◌, ◌≤◌, List, [], ◌∷◌, length, get_or, take, drop, sym, ap, subst, arith}
use Rattle.std.specs.Global.{Box}
use Rattle.std.specs.List.{All}
use Rattle.std.proofs.lemmas.List.{take_all}
use Rattle.amr_def.specs.State.{Masses}
use Rattle.amr_ghost.specs.Messages.{AreMassesOf, ArePacked, CarriesMasses}
use Rattle.amr_ghost.specs.Parts.{IsRun}
use Rattle.amr_ghost.specs.declared.messages.Message.{Message}
use Rattle.amr_ghost.specs.declared.parts.FrameCopy.{FrameCopy}
use Rattle.amr_ghost.specs.declared.parts.FrameParts.{FrameParts}
use Rattle.amr_lots.specs.declared.lot.Lot.{Lot}
use Rattle.amr_lots.specs.Runs.{run}
use Rattle.amr_patch.specs.declared.patches.Patch.{Patch}
use Rattle.amr_advance.specs.Lots.{CarryMasses, AreMessagesOf}

-- run 0 of patches that are no more than a run is all of them
pub whole_run : (each : ℕ) (ps : List Patch) → length ps ≤ each → run each 0 ps ≡ ps
whole_run each ps le = let none : 0 * each ≡ 0 = omega arith in ap (λ n. take each (drop n ps)) none ∙ take_all each ps le

-- a message to itself is empty
module _ {parts : FrameParts} {place : ℕ → ℕ} {xs : List Message} (b : AreMessagesOf parts place 0 1 xs) where
  at_zero : (u : ℕ) → u < 1 → u ≡ 0
  at_zero u lt = omega (arith, lt)

  -- so it has all that it is for
  pub alone_messages : (each : ℕ) (ps : List Patch) → (u : ℕ) (x : Message) (us : List Patch) → u < 1 → IsRun each u ps us → ArePacked us (get_or xs u x).copies.items (get_or xs u x).masses.items
  alone_messages each ps u x us lt is =
      let none : (get_or xs u x).copies.items ≡ [] = (λ i. (get_or xs (at_zero u lt i) x).copies.items) ∙ b.own x in
      subst (λ (cs : List FrameCopy). ArePacked us cs (get_or xs u x).masses.items) (sym none) tt

  -- and carries any masses
  pub alone_carries : (M : Masses) → All (CarriesMasses M) xs
  alone_carries M u x lt =
      let here : u < 1 = let n = b.count in omega (arith, lt, n) in
      let none : (get_or xs u x).copies.items ≡ [] = (λ i. (get_or xs (at_zero u here i) x).copies.items) ∙ b.own x in
      subst (λ (cs : List FrameCopy). AreMassesOf M cs (get_or xs u x).masses.items) (sym none) tt

pub one_carries : (M : Masses) (b : Box Lot) → All (CarriesMasses M) b.value.workspace.outbox.items → CarryMasses M (b ∷ [])
one_carries M b h zero x lt = h
one_carries M b h (suc k) x lt = absurd (omega (arith, lt))
