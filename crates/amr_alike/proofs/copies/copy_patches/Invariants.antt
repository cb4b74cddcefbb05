use Rattle.std.proofs.Common.{◌≡◌, ℕ, ◌≤◌, length, get_or}
use Rattle.amr_patch.specs.declared.patches.Patch.{Patch}
use Rattle.amr_patch.specs.Patches.{box}
use Rattle.amr_alike.specs.Copied.{AreCopied}
use Rattle.amr_alike.proofs.copies.copy_patches.Given as goal

-- the first k are copied, and the boxes of the others are still the same
abbrev pub invariant-loop-k : goal.invariant-loop-k
invariant-loop-k l = record {
  count : length l.to ≡ length l.from;
  copied : AreCopied l.k l.from l.to;
  boxes : (j : ℕ) (d e : Patch) → l.k ≤ j → box (get_or l.to j e) ≡ box (get_or l.initial.to j e);
}
