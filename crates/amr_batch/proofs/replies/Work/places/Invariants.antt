use Rattle.std.proofs.Common.{◌≡◌, ℕ, ◌<◌, None, length, get_or}
use Rattle.std.specs.declared.option.Option.{Option}
use Rattle.amr_batch.proofs.replies.Work.places.Given as goal

-- so many places, none filled
abbrev pub invariant-loop : goal.invariant-loop
invariant-loop g l = record {
  long : length l.places.items ≡ l.counter;
  none : (k : ℕ) (d : Option _) → k < length l.places.items → get_or l.places.items k d ≡ None;
}
