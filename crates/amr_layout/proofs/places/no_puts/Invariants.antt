use Rattle.std.proofs.Common.{◌≡◌, ℕ, ◌<◌, [], length}
use Rattle.std.specs.Prelude.{slice_index_or}
use Rattle.std.specs.Global.{Vec}
use Rattle.amr_layout.specs.declared.PutAt.{PutAt}
use Rattle.amr_layout.proofs.places.no_puts.Given as goal

abbrev pub invariant-loop-i : goal.invariant-loop-i
invariant-loop-i l = record {
  count : length l.lists.items ≡ l.i;
  empty : (k : ℕ) (v : Vec PutAt) → k < l.i → (slice_index_or l.lists.items k v).items ≡ [];
}
