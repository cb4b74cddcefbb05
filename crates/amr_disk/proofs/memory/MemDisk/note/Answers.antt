use Rattle.std.proofs.Common.{arith, ◌≡◌, ◌∙◌, ◌+◌, ◌≤◌, refl, sym, length, true, false}
use Rattle.amr_disk.proofs.Logs.{room_is, room_ends, with_write-room, with_write-none, log_write, replayed_write, whole_after, fits_after, reach_after_write}
use Rattle.amr_disk.specs.Limits.{has_room}
use Rattle.amr_disk.specs.Memory.{limits_of, calls_in}
use Rattle.amr_disk.proofs.memory.MemDisk.note.Goals as goal

pub returns-then-not-fits-clause-taken : goal.returns-then-not-fits-clause-taken
returns-then-not-fits-clause-taken c =
    let s = c.args.self.now in
    c.if-not-fits.ensures ∙ sym (room_is (limits_of s) s.steps.items s.written.items c.args.at s.written.len s.steps.len c.args.chunk.now (omega arith) s.whole s.written.ok.0 s.steps.ok.0)

pub returns-then-not-fits-clause-log : goal.returns-then-not-fits-clause-log
returns-then-not-fits-clause-log c =
    let s = c.args.self.now in
    let room : has_room (limits_of s) (calls_in s) c.args.at c.args.chunk.now ≡ false =
    room_is (limits_of s) s.steps.items s.written.items c.args.at s.written.len s.steps.len c.args.chunk.now (omega arith) s.whole s.written.ok.0 s.steps.ok.0 ∙ sym c.if-not-fits.ensures in
    sym (with_write-none (limits_of s) (calls_in s) c.args.at c.args.chunk.now (omega arith) room)

pub invariant_of-self : goal.invariant_of-self
invariant_of-self c =
    let s = c.args.self.now in
    let ends : c.args.at + length c.args.chunk.now ≤ s.capacity = room_ends (c.args.at + length c.args.chunk.now) s.capacity _ _ c.if-not-fits.ensures in
    record {
      replayed = replayed_write s.made.items s.bytes.items c.place.new.buffer.items s.steps.items c.keep.new.steps.items s.written.items c.append.new.buffer.items c.args.chunk.now c.args.at (length c.args.chunk.now) s.written.len
          s.replayed s.whole s.written.ok.0 refl c.keep.ensures.items c.append.ensures.items c.place.ensures.items;
      whole = whole_after s.steps.items c.keep.new.steps.items c.args.at s.written c.append.new.buffer c.args.chunk.now c.keep.ensures.items s.whole c.append.ensures.items;
      within = reach_after_write s.steps.items c.keep.new.steps.items c.args.at (length c.args.chunk.now) s.capacity c.keep.ensures.items s.within ends;
      made_fits = s.made_fits;
      bytes_fit = fits_after c.args.at s.capacity c.args.chunk.now s.bytes c.place.new.buffer ends s.bytes_fit c.place.ensures.items;
      made_room = s.made_room;
      bytes_room = omega (arith, s.bytes_room, c.place.ensures.room);
      written_room = omega (arith, s.written_room, c.append.ensures.room);
      steps_room = omega (arith, s.steps_room, c.keep.ensures.room);
    }

pub returns-clause-taken : goal.returns-clause-taken
returns-clause-taken c =
    let s = c.args.self.now in
    c.if-not-fits.ensures ∙ sym (room_is (limits_of s) s.steps.items s.written.items c.args.at s.written.len s.steps.len c.args.chunk.now (omega arith) s.whole s.written.ok.0 s.steps.ok.0)

pub returns-clause-log : goal.returns-clause-log
returns-clause-log c =
    let s = c.args.self.now in
    let room : has_room (limits_of s) (calls_in s) c.args.at c.args.chunk.now ≡ true =
    room_is (limits_of s) s.steps.items s.written.items c.args.at s.written.len s.steps.len c.args.chunk.now (omega arith) s.whole s.written.ok.0 s.steps.ok.0 ∙ sym c.if-not-fits.ensures in
    log_write s.steps.items c.keep.new.steps.items s.written.items c.append.new.buffer.items c.args.chunk.now c.args.at (length c.args.chunk.now) s.written.len s.whole s.written.ok.0 refl c.keep.ensures.items c.append.ensures.items
    ∙ sym (with_write-room (limits_of s) (calls_in s) c.args.at c.args.chunk.now (omega arith) room)
