-- Calls that keep checkpoints, one after another.
use Rattle.std.proofs.Common.{◌≡◌, ℕ, ◌+◌, ◌≤◌, Bool, true, false, cond, List, [], ◌∷◌, ◌++◌, map, Option, Some, None, refl, sym, ◌∙◌, ap, subst, arith}
use Rattle.std.proofs.lemmas.List.{append-nil, append_assoc, map-append}
use Rattle.std.proofs.lemmas.List.Elements.{filter-append}
use Rattle.std.proofs.lemmas.Option.{none-some, same_Some}
use Rattle.std.specs.List.{filter}
use Rattle.std.specs.Prelude.{◌≢◌, ◌⊎◌, slice_get}
use Rattle.amr_causes.specs.Bytes.{Grows}
use Rattle.amr_causes.specs.Causes.{Rose}
use Rattle.amr_io.specs.Short.{FallsShort}
use Rattle.amr_def.specs.State.{State}
use Rattle.amr_disk.specs.Image.{Only}
use Rattle.amr_disk.specs.Moments.{StopsIn}
use Rattle.amr_checkpoint.specs.declared.faults.KeepFault.{KeepFault}
use Rattle.amr_checkpoint.specs.declared.faults.KeepFault.TheVariants as fault
use Rattle.amr_checkpoint.specs.Checkpoints.{StaysTold}
use Rattle.amr_checkpoint.specs.Contents.{Content, At, Holds}
use Rattle.amr_checkpoint.specs.Made.{MakesAll, ReadsWith}
use Rattle.amr_checkpoint.specs.KeptCheckpoints.{ErrFailsBy, FailsBy, IsBegunBy, IsSaid, Keeps, KeptRun, StandsBy, StopsThrough, checkpoints_of}
use Rattle.amr_checkpoint.specs.Laws.{AreRising}
use Rattle.amr_checkpoint.specs.Marks.{acknowledgement, acknowledgements, is_mark}
use Rattle.amr_checkpoint.specs.Times.{IsFrontOf, StopsAlong, Time, contents_of, last_of}
use Rattle.amr_checkpoint.specs.Outside.{IsDurable, SaysMore, OutsideAt, outside_at}
use Rattle.amr_checkpoint.proofs.Stopping.{along_joined, along_now, between_now, last_on, rising_back, rising_front}

-- ---- lists

pub acks_on : (xs ys : List Content) → acknowledgements (xs ++ ys) ≡ acknowledgements xs ++ acknowledgements ys
acks_on [] ys = refl
acks_on (x ∷ xs) ys = ap (λ (t : List ℕ). acknowledgement x ++ t) (acks_on xs ys) ∙ sym (append_assoc (acknowledgement x) (acknowledgements xs) (acknowledgements ys))

times_on : (xs ys : List Time) → contents_of (xs ++ ys) ≡ contents_of xs ++ contents_of ys
times_on xs ys = map-append (λ (t : Time). t.content) xs ys

pub checkpoints_on : (run : KeptRun) (xs ys : List State) → checkpoints_of run (xs ++ ys) ≡ checkpoints_of run xs ++ checkpoints_of run ys
checkpoints_on run xs ys =
    ap (map (λ (s : State). At run.bytes run.problem s (s.step + 1))) (filter-append (λ (s : State). is_mark run.every run.target s.step) xs ys)
    ∙ map-append (λ (s : State). At run.bytes run.problem s (s.step + 1)) (filter (λ (s : State). is_mark run.every run.target s.step) xs) (filter (λ (s : State). is_mark run.every run.target s.step) ys)

-- ---- what was said

whole_on : (a b : List ℕ) (front made : List Content) → a ≡ acknowledgements front → b ≡ acknowledgements made → a ++ b ≡ acknowledgements (front ++ made)
whole_on a b front made first next = ap (λ (t : List ℕ). t ++ b) first ∙ ap (λ (t : List ℕ). acknowledgements front ++ t) next ∙ sym (acks_on front made)

says_on : (ended : Option KeepFault) (a b : List ℕ) (front made : List Content) → a ≡ acknowledgements front → IsSaid ended b made → IsSaid ended (a ++ b) (front ++ made)
says_on None a b front made same says = whole_on a b front made same says
says_on (Some fault.DiskFault) a b front made same says = whole_on a b front made same says
says_on (Some fault.NoMemory) a b front made same says = whole_on a b front made same says
says_on (Some fault.WriteFault) a b front made same says = record {
  front = front ++ says.front;
  last = says.last;
  part = says.part;
  split = append_assoc front says.front (says.last ∷ []) ∙ ap (λ (t : List Content). front ++ t) says.split;
  all = ap (λ (t : List ℕ). t ++ says.part) (acks_on front says.front)
      ∙ append_assoc (acknowledgements front) (acknowledgements says.front) says.part
      ∙ ap (λ (t : List ℕ). acknowledgements front ++ t) says.all
      ∙ ap (λ (t : List ℕ). t ++ b) (sym same);
  cut = says.cut;
}

-- ---- what was made

makes_on : (deltas : Option ℕ) (xs ys : List Content) (a b c : List ℕ) → MakesAll deltas xs a b → MakesAll deltas ys b c → MakesAll deltas (xs ++ ys) a c
makes_on deltas [] ys a b c same more = subst (λ (i : List ℕ). MakesAll deltas ys i c) same more
makes_on deltas (x ∷ xs) ys a b c first more = (first.0, first.1, makes_on deltas xs ys first.0 b c first.2 more)

-- ---- what stands

stands_on : (ended : Option KeepFault) (all more first next : List Content) → first ≡ all → StandsBy ended more next → StandsBy ended (all ++ more) (first ++ next)
stands_on None all more first next same stands = cc
stands_on (Some reason) all more first next same stands = record {
  rest = stands.rest;
  split = append_assoc first next stands.rest ∙ ap (λ (t : List Content). first ++ t) stands.split ∙ ap (λ (t : List Content). t ++ more) same;
}

-- after all of these comes what comes after the first of the others
front_on : (xs ys : List Content) (times more : List Time) (attempt : Option Content) → contents_of times ≡ xs → IsFrontOf ys (contents_of more) attempt → IsFrontOf (xs ++ ys) (contents_of (times ++ more)) attempt
front_on xs ys times more attempt made front = record {
  rest = front.rest;
  split = ap (λ (t : List Content). t ++ front.rest) (times_on times more)
      ∙ append_assoc (contents_of times) (contents_of more) front.rest
      ∙ ap (λ (t : List Content). contents_of times ++ t) front.split
      ∙ ap (λ (t : List Content). t ++ ys) made;
  next = front.next;
}

-- what is made next is so where more was to be made
next_more : (rest ys : List Content) (content : Content) → slice_get rest 0 ≡ Some content → slice_get (rest ++ ys) 0 ≡ Some content
next_more [] ys content next = absurd (cc)
next_more (x ∷ rest) ys content next = next

front_more : (xs ys made : List Content) (attempt : Option Content) → IsFrontOf xs made attempt → IsFrontOf (xs ++ ys) made attempt
front_more xs ys made None front = record {
  rest = front.rest ++ ys;
  split = sym (append_assoc made front.rest ys) ∙ ap (λ (t : List Content). t ++ ys) front.split;
  next = tt;
}
front_more xs ys made (Some content) front = record {
  rest = front.rest ++ ys;
  split = sym (append_assoc made front.rest ys) ∙ ap (λ (t : List Content). t ++ ys) front.split;
  next = next_more front.rest ys content front.next;
}

-- ---- streams

says_none : (a : OutsideAt) → SaysMore a a []
says_none a = λ held has. subst a.holds (sym (append-nil held)) has

says_more : (a b c : OutsideAt) (first next : List ℕ) → SaysMore a b first → SaysMore b c next → SaysMore a c (first ++ next)
says_more a b c first next h k = λ held has. subst c.holds (append_assoc held first next) (k (held ++ first) (h held has))

-- ---- several

-- a stop during calls that made all that they were to make, and then during others
stops_on : (a b c : OutsideAt) (xs ys one two : List Content) (ended : Option KeepFault) (found : Content) → one ≡ xs → StopsThrough a.disk b.disk found xs one None
    → StopsThrough b.disk c.disk (last_of found one) ys two ended → StopsThrough a.disk c.disk found (xs ++ ys) (one ++ two) ended
stops_on a b c xs ys one two ended found all h k =
    let first : Time = record { moment = a.disk.moment; content = found } in
    let along : StopsAlong b.disk.leaves first h.times b.disk.moment None = subst (λ (o : Option Content). StopsAlong b.disk.leaves first h.times b.disk.moment o) h.begun h.leave.along in
    let later : a.disk.moment ≤ b.disk.moment = along_now b.disk.leaves first h.times b.disk.moment None along in
    record {
      times = h.times ++ k.times;
      made = times_on h.times k.times ∙ ap (λ (t : List Content). t ++ contents_of k.times) h.made ∙ ap (λ (t : List Content). one ++ t) k.made;
      attempt = k.attempt;
      begun = k.begun;
      leave = record {
        front = front_on xs ys h.times k.times k.attempt (h.made ∙ all) k.leave.front;
        along = along_joined b.disk.leaves c.disk.leaves first h.times b.disk.moment k.times c.disk.moment k.attempt k.past.kept along
            (subst (λ (cs : List Content). StopsAlong c.disk.leaves (record { moment = b.disk.moment; content = last_of found cs }) k.times c.disk.moment k.attempt) (sym h.made) k.leave.along);
      };
      past = record {
        still = λ t image le left. k.past.still t image (omega (arith, le, later)) (h.past.still t image le left);
        kept = λ t image le left. h.past.kept t image le (k.past.kept t image (omega (arith, le, later)) left);
      };
      held = λ no image told. subst (Holds image) (sym (last_on found one two)) (k.held no image told);
    }

no_fault : None ≢ Some fault.DiskFault
no_fault = λ is. none-some fault.DiskFault is

pub keeps_on : (deltas : Option ℕ) (a b c : OutsideAt) (xs ys : List Content) (ended : Option KeepFault) → Keeps deltas a b xs None → Keeps deltas b c ys ended → Keeps deltas a c (xs ++ ys) ended
keeps_on deltas a b c xs ys ended h k = record {
  stood = h.stood ++ k.stood;
  said = h.said ++ k.said;
  stands = stands_on ended xs ys h.stood k.stood h.stands k.stands;
  grows = says_more a b c h.said k.said h.grows k.grows;
  says = says_on ended h.said k.said h.stood k.stood h.says k.says;
  err_fails = subst (λ n. ErrFailsBy ended n c.err_faults) h.err_fails k.err_fails;
  later = omega (arith, h.later, k.later);
  fails = subst (λ n. FailsBy ended n c.disk_faults) h.fails k.fails;
  settled = λ no only. k.settled no (h.settled no_fault only);
  made = λ no image told.
      let first = h.made no_fault image told in
      let next = k.made no first.0 first.1 in (next.0, next.1, makes_on deltas h.stood k.stood image first.0 next.0 first.2 next.2);
  stops = λ image found told held settled rising.
      let read = h.made no_fault image told in
      let first = h.stops image found told held settled (rising_front found xs ys rising) in
      let next = k.stops read.0 (last_of found h.stood) read.1 (first.held no_fault read.0 read.1) (h.settled no_fault settled)
      (subst (λ (cs : List Content). AreRising (last_of found cs) ys) (sym h.stands) (rising_back found xs ys rising)) in
      stops_on a b c xs ys h.stood k.stood ended found h.stands first next;
}

-- memory ran out after them
pub keeps_ended : (deltas : Option ℕ) (a b : OutsideAt) (xs : List Content) → Keeps deltas a b xs None → Keeps deltas a b xs (Some fault.NoMemory)
keeps_ended deltas a b xs h = record {
  stood = h.stood;
  said = h.said;
  stands = record { rest = []; split = append-nil h.stood ∙ h.stands };
  grows = h.grows;
  says = h.says;
  err_fails = h.err_fails;
  later = h.later;
  fails = h.fails;
  settled = λ no only. h.settled no_fault only;
  made = λ no image told. h.made no_fault image told;
  stops = λ image found told held settled rising.
      let s = h.stops image found told held settled rising in
      record { times = s.times; made = s.made; attempt = s.attempt; begun = s.begun; leave = s.leave; past = s.past; held = λ no. s.held no_fault };
}

-- and more of them were to be made
pub keeps_longer : (deltas : Option ℕ) (a b : OutsideAt) (xs ys : List Content) (reason : KeepFault) → Keeps deltas a b xs (Some reason) → Keeps deltas a b (xs ++ ys) (Some reason)
keeps_longer deltas a b xs ys reason h = record {
  stood = h.stood;
  said = h.said;
  stands = record { rest = h.stands.rest ++ ys; split = sym (append_assoc h.stood h.stands.rest ys) ∙ ap (λ (t : List Content). t ++ ys) h.stands.split };
  grows = h.grows;
  says = h.says;
  err_fails = h.err_fails;
  later = h.later;
  fails = h.fails;
  settled = h.settled;
  made = h.made;
  stops = λ image found told held settled rising.
      let s = h.stops image found told held settled (rising_front found xs ys rising) in
      record {
        times = s.times;
        made = s.made;
        attempt = s.attempt;
        begun = s.begun;
        leave = record { front = front_more xs ys (contents_of s.times) s.attempt s.leave.front; along = s.leave.along };
        past = s.past;
        held = s.held;
      };
}

-- ---- none

-- a stop before any call
stops_none : (a : OutsideAt) (all : List Content) (ended : Option KeepFault) (image : List ℕ) (found : Content) → IsBegunBy ended None → a.disk.seen ≡ Some image → Holds image found → IsDurable a.disk
    → StopsThrough a.disk a.disk found all [] ended
stops_none a all ended image found begun told held settled = record {
  times = [];
  made = refl;
  attempt = None;
  begun = begun;
  leave = record { front = record { rest = all; split = refl; next = tt }; along = between_now a.disk.seen a.disk.moment a.disk.leaves image found told settled held };
  past = record { still = λ t c le left. left; kept = λ t c le left. left };
  held = λ no c is. subst (λ (i : List ℕ). Holds i found) (same_Some image c (sym told ∙ is)) held;
}

pub keeps_none : (deltas : Option ℕ) (a : OutsideAt) → Keeps deltas a a [] None
keeps_none deltas a = record {
  stood = [];
  said = [];
  stands = refl;
  grows = says_none a;
  says = refl;
  err_fails = refl;
  later = omega arith;
  fails = refl;
  settled = λ no only. only;
  made = λ no image told. (image, told, refl);
  stops = λ image found told held settled rising. stops_none a [] None image found refl told held settled;
}

-- memory ran out before them
pub keeps_nothing : (deltas : Option ℕ) (a : OutsideAt) (xs : List Content) → Keeps deltas a a xs (Some fault.NoMemory)
keeps_nothing deltas a xs = record {
  stood = [];
  said = [];
  stands = record { rest = xs; split = refl };
  grows = says_none a;
  says = refl;
  err_fails = refl;
  later = omega arith;
  fails = refl;
  settled = λ no only. only;
  made = λ no image told. (image, told, refl);
  stops = λ image found told held settled rising. stops_none a xs (Some fault.NoMemory) image found refl told held settled;
}

-- ---- one

module _ {D E : Type 0} (seen : D → Option (List ℕ)) (moment : D → ℕ) (leaves : D → ℕ → List ℕ → Type 0) (disk_faults : D → ℕ) (holds : E → List ℕ → Type 0) (err_faults : E → ℕ) where
  abbrev at : D → E → OutsideAt
  at d e = outside_at seen moment leaves disk_faults holds err_faults d e

  -- memory ran out in a call that left the disk as it was
  pub keeps_untouched : (deltas : Option ℕ) (d later_d : D) (e : E) (xs : List Content) → later_d ≡ d → Keeps deltas (at d e) (at later_d e) xs (Some fault.NoMemory)
  keeps_untouched deltas d later_d e xs same = subst (λ (x : D). Keeps deltas (at d e) (at x e) xs (Some fault.NoMemory)) (sym same) (keeps_nothing deltas (at d e) xs)

  -- a call at which the disk failed
  pub keeps_refused : (deltas : Option ℕ) (d later_d : D) (e : E) (content : Content) → disk_faults d ≤ disk_faults later_d → Rose (disk_faults d) (disk_faults later_d)
      → ((image : List ℕ) (found : Content) → seen d ≡ Some image → Holds image found → StopsIn moment leaves d later_d (λ c. Holds c found ⊎ Holds c content))
      → Keeps deltas (at d e) (at later_d e) (content ∷ []) (Some fault.DiskFault)
  keeps_refused deltas d later_d e content later rose stops = record {
    stood = [];
    said = [];
    stands = record { rest = content ∷ []; split = refl };
    grows = says_none (at d e);
    says = refl;
    err_fails = refl;
    later = later;
    fails = rose;
    settled = λ no. absurd (no refl);
    made = λ no. absurd (no refl);
    stops = λ image found told held settled rising.
        let run = stops image found told held in
        record {
          times = [];
          made = refl;
          attempt = Some content;
          begun = tt;
          leave = record { front = record { rest = content ∷ []; split = refl; next = refl }; along = record { later = run.later; each = run.each } };
          past = record { still = run.still; kept = run.kept };
          held = λ no. absurd (no refl);
        };
  }

  -- a stop during one that is done
  stops_stood : (d later_d : D) (e later_e : E) (content : Content) (ended : Option KeepFault) → IsBegunBy ended None → StaysTold (seen d) (seen later_d) → Only (seen later_d) (leaves later_d (moment later_d))
      → ((t : List ℕ) → seen later_d ≡ Some t → Holds t content)
      → ((image : List ℕ) (found : Content) → seen d ≡ Some image → Holds image found → StopsIn moment leaves d later_d (λ c. Holds c found ⊎ Holds c content))
      → (image : List ℕ) (found : Content) → seen d ≡ Some image → Holds image found → AreRising found (content ∷ [])
      → StopsThrough (at d e).disk (at later_d later_e).disk found (content ∷ []) (content ∷ []) ended
  stops_stood d later_d e later_e content ended begun told_on settled holds_now stops image found told held rising =
      let run = stops image found told held in
      let now = told_on image told in
      record {
        times = record { moment = moment later_d; content = content } ∷ [];
        made = refl;
        attempt = None;
        begun = begun;
        leave = record {
          front = record { rest = []; split = refl; next = tt };
          along = (record { later = run.later; each = run.each }, rising.0, between_now (seen later_d) (moment later_d) (leaves later_d) now.0 content now.1 settled (holds_now now.0 now.1));
        };
        past = record { still = run.still; kept = run.kept };
        held = λ no t is. holds_now t is;
      }

  -- one that is done and acknowledged
  pub keeps_stood : (deltas : Option ℕ) (d later_d : D) (e later_e : E) (content : Content) → Grows holds e later_e (acknowledgement content) → err_faults later_e ≡ err_faults e → disk_faults later_d ≡ disk_faults d
      → StaysTold (seen d) (seen later_d) → Only (seen later_d) (leaves later_d (moment later_d)) → ((t : List ℕ) → seen later_d ≡ Some t → Holds t content)
      → ((image : List ℕ) → seen d ≡ Some image → ReadsWith deltas (seen later_d) image (content ∷ []))
      → ((image : List ℕ) (found : Content) → seen d ≡ Some image → Holds image found → StopsIn moment leaves d later_d (λ c. Holds c found ⊎ Holds c content))
      → Keeps deltas (at d e) (at later_d later_e) (content ∷ []) None
  keeps_stood deltas d later_d e later_e content grows no_err same told settled holds_now puts stops = record {
    stood = content ∷ [];
    said = acknowledgement content;
    stands = refl;
    grows = grows;
    says = sym (append-nil (acknowledgement content));
    err_fails = no_err;
    later = omega (arith, same);
    fails = same;
    settled = λ no only. settled;
    made = λ no image is. puts image is;
    stops = λ image found is held only rising. stops_stood d later_d e later_e content None refl told settled holds_now stops image found is held rising;
  }

  -- one whose line did not go out whole
  pub keeps_unsaid : (deltas : Option ℕ) (d later_d : D) (e later_e : E) (content : Content) → FallsShort holds e later_e (acknowledgement content) → Rose (err_faults e) (err_faults later_e) → disk_faults later_d ≡ disk_faults d
      → StaysTold (seen d) (seen later_d) → Only (seen later_d) (leaves later_d (moment later_d)) → ((t : List ℕ) → seen later_d ≡ Some t → Holds t content)
      → ((image : List ℕ) → seen d ≡ Some image → ReadsWith deltas (seen later_d) image (content ∷ []))
      → ((image : List ℕ) (found : Content) → seen d ≡ Some image → Holds image found → StopsIn moment leaves d later_d (λ c. Holds c found ⊎ Holds c content))
      → Keeps deltas (at d e) (at later_d later_e) (content ∷ []) (Some fault.WriteFault)
  keeps_unsaid deltas d later_d e later_e content short rose same told settled holds_now puts stops = record {
    stood = content ∷ [];
    said = short.0;
    stands = record { rest = []; split = refl };
    grows = short.2;
    says = record { front = []; last = content; part = short.0; split = refl; all = refl; cut = short.1 };
    err_fails = rose;
    later = omega (arith, same);
    fails = same;
    settled = λ no only. settled;
    made = λ no image is. puts image is;
    stops = λ image found is held only rising. stops_stood d later_d e later_e content (Some fault.WriteFault) refl told settled holds_now stops image found is held rising;
  }

-- ---- a state

-- one whose step is no mark, and one whose step is
pub unmarked_state : (run : KeptRun) (s : State) → is_mark run.every run.target s.step ≡ false → checkpoints_of run (s ∷ []) ≡ []
unmarked_state run s no_mark = ap (λ (b : Bool). map (λ (t : State). At run.bytes run.problem t (t.step + 1)) (cond b (s ∷ []) [])) no_mark

pub marked_state : (run : KeptRun) (s : State) → is_mark run.every run.target s.step ≡ true → checkpoints_of run (s ∷ []) ≡ At run.bytes run.problem s (s.step + 1) ∷ []
marked_state run s mark = ap (λ (b : Bool). map (λ (t : State). At run.bytes run.problem t (t.step + 1)) (cond b (s ∷ []) [])) mark
