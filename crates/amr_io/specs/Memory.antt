-- Sources and sinks in memory, as contracts see them. Their calls are counted from 1, and a counter stays at its last value. (profile)
use Rattle.std.specs.Prelude.{ℕ, ◌+◌, ◌-◌, ◌^◌, min, Bool, nat_eq, nat_le, ◌||◌, List, ◌++◌, length, take, Result, Ok, Err}
use Rattle.std.specs.List.{list_any}

-- one more
abbrev pub counted : ℕ → ℕ
counted n = min (n + 1) (2 ^ 64 - 1)

-- a call of this number is in the list
abbrev pub is_listed : List ℕ → ℕ → Bool
is_listed calls n = list_any (λ k. nat_eq k n) calls

-- A source: the bytes that are left, how many a call gives at most, the calls that fail, the calls made and the faults among them.
pub record SourceState : Type 0 where
  pub left : List ℕ
  pub most : ℕ
  pub fails : List ℕ
  pub calls : ℕ
  pub faults : ℕ

-- A sink: the bytes that it holds and how many it has room for, how many a call takes at most, the calls that fail, the calls made and
-- the faults among them.
pub record SinkState : Type 0 where
  pub held : List ℕ
  pub capacity : ℕ
  pub most : ℕ
  pub fails : List ℕ
  pub calls : ℕ
  pub faults : ℕ

-- A sink that grows: the bytes that it holds, how many it has memory for, and its faults.
pub record PageState : Type 0 where
  pub held : List ℕ
  pub room : ℕ
  pub faults : ℕ

-- the next read fails: its number is listed
abbrev pub read_fails : SourceState → Bool
read_fails s = is_listed s.fails (counted s.calls)

-- the next write fails: its number is listed, or there is no room left
abbrev pub write_fails : SinkState → Bool
write_fails s = is_listed s.fails (counted s.calls) || nat_le s.capacity (length s.held)

-- the source after a call: it stands as before but for its counters and what it gave
abbrev pub source_after : {E : Type 0} → SourceState → List ℕ → Result ℕ E → SourceState
source_after s left (Ok n) = record s { left = left; calls = counted s.calls }
source_after s left (Err e) = record s { calls = counted s.calls; faults = counted s.faults }

-- the sink after a call: it stands as before but for its counters and what it took
abbrev pub sink_after : {E : Type 0} → SinkState → List ℕ → Result ℕ E → SinkState
sink_after s chunk (Ok n) = record s { held = s.held ++ take n chunk; calls = counted s.calls }
sink_after s chunk (Err e) = record s { calls = counted s.calls; faults = counted s.faults }
