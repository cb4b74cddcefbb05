-- Messages unpacked one after the other, and lists of messages packed.
use Rattle.std.proofs.Common.{◌≡◌, ◌∙◌, ℕ, suc, ◌+◌, ◌<◌, Bool, List, [], ◌∷◌, length, get_or, sym, subst, below_more, arith}
use Rattle.std.specs.List.{All, AllZip}
use Rattle.std.proofs.lemmas.List.{get_or_default}
use Rattle.amr_box.specs.declared.Cell.{Cell}
use Rattle.amr_patch.specs.declared.patches.Patch.{Patch}
use Rattle.amr_ghost.specs.GhostCells.{KeepsCells, KeepsGhosts}
use Rattle.amr_ghost.specs.Messages.{AreMassesFor, HasCopy, HasUnpacked, IsMessageFor, IsMessageTo, IsReceived}
use Rattle.amr_ghost.specs.declared.parts.FrameCopy.{FrameCopy}
use Rattle.amr_ghost.specs.declared.messages.Message.{Message}
use Rattle.amr_ghost.proofs.Copies.{all_still_set, still_received}

-- message k has copies cs and masses ms
module _ (xs : List Message) (k : ℕ) (x : Message) (cs : List FrameCopy) (ms : List ℕ) (there : k < length xs) (is : x ≡ get_or xs k x) (copies_are : cs ≡ x.copies.items) (masses_are : ms ≡ x.masses.items) (ps qs : List Patch) (kept : AllZip KeepsCells ps qs) (messages : All (IsMessageTo ps) xs) where
  here : IsMessageTo ps x
  here = subst (IsMessageTo ps) (sym is) (messages k x there)

  pub received_here : All (IsReceived qs) cs
  received_here = subst (All (IsReceived qs)) (sym copies_are) (λ j c lt. still_received ps qs kept (get_or x.copies.items j c) (here.0 j c lt))

  -- and is unpacked
  module _ (rs : List Patch) (unpacked : HasUnpacked cs ms qs rs) (V : Cell → ℕ) (M : Cell → Bool) (all : All (IsMessageFor V M) xs) where
    given_here : AreMassesFor V M cs ms
    given_here = subst (λ (ns : List ℕ). AreMassesFor V M cs ns) (sym masses_are) (subst (λ (us : List FrameCopy). AreMassesFor V M us x.masses.items) (sym copies_are) (subst (IsMessageFor V M) (sym is) (all k x there)))

    pub unpacked_keeps : AllZip (KeepsGhosts V M) qs rs
    unpacked_keeps = unpacked.ghosts V M given_here

    pub messages_set : ((j : ℕ) (y : Message) → j < k → All (HasCopy V M qs) (get_or xs j y).copies.items) → (j : ℕ) (y : Message) → j < k + 1 → All (HasCopy V M rs) (get_or xs j y).copies.items
    messages_set before j y lt = below_more (λ m. All (HasCopy V M rs) (get_or xs m y).copies.items) k earlier now j lt
      where
        earlier : (m : ℕ) → m < k → All (HasCopy V M rs) (get_or xs m y).copies.items
        earlier m below = all_still_set ps qs kept rs V M unpacked_keeps (get_or xs m y).copies.items (messages m y (omega (arith, below, there))).0 (before m y below)

        now : All (HasCopy V M rs) (get_or xs k y).copies.items
        now = subst (λ (z : Message). All (HasCopy V M rs) z.copies.items) (is ∙ get_or_default xs k x y there) (subst (All (HasCopy V M rs)) copies_are (unpacked.set V M given_here))

-- messages that are related one by one
pub zip_messages : (R : Message → Message → Type 0) (xs ys : List Message) → length ys ≡ length xs → ((k : ℕ) (d : Message) → k < length xs → R (get_or xs k d) (get_or ys k d)) → AllZip R xs ys
zip_messages R [] [] e h = tt
zip_messages R [] (y ∷ ys) e h = absurd (omega (arith, e))
zip_messages R (x ∷ xs) [] e h = absurd (omega (arith, e))
zip_messages R (x ∷ xs) (y ∷ ys) e h = (h 0 x (omega arith), zip_messages R xs ys (omega (arith, e)) (λ k d lt. h (suc k) d (omega (arith, lt))))
