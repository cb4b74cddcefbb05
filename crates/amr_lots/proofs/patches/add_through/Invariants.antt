use Rattle.std.proofs.Common.{◌≡◌, ℕ, ◌+◌, length, take}
use Rattle.std.specs.Prelude.{slice_index, unsigned_abs}
use Rattle.amr_box.specs.declared.Face.{Face}
use Rattle.amr_patch.specs.Patches.{flux_in}
use Rattle.amr_layout.specs.Adds.{word_total}
use Rattle.amr_lots.proofs.patches.add_through.Given as goal

-- the words have what the first flows add
abbrev pub invariant-loop-x : goal.invariant-loop-x
invariant-loop-x l = record {
  count : length l.totals ≡ length l.initial.totals;
  totals : (word : ℕ) → slice_index l.totals word ≡ slice_index l.initial.totals word + word_total (λ (f : Face). unsigned_abs (flux_in l.patch f)) word (take l.x-index l.flows);
}
