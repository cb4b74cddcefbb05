-- A level over the next coarser one, and several, read one after another.
use Rattle.std.proofs.Common.{◌≡◌, ℕ, suc, ◌+◌, ◌-◌, ◌<◌, Bool, ◌&&◌, List, [], add-one, refl, sym, ap, subst, ◌∙◌}
use Rattle.std.specs.Int.{w8}
use Rattle.amr_def.specs.declared.problem.Problem.{Problem}
use Rattle.amr_def.specs.Domain.{domain}
use Rattle.amr_def.specs.Limits.{between}
use Rattle.amr_def.specs.State.{Level}
use Rattle.amr_payload.specs.Payload.{Form}
use Rattle.amr_payload.specs.Tests.{Left, Reading, bad, is_in_sync, read, read_all_finer, read_also, read_finer, read_level, read_levels, read_number, surrounds, tested, then_read}
use Rattle.amr_decoder.specs.declared.faults.CodecFault.{CodecFault}
use Rattle.amr_decoder.specs.Faults.{IsFaultOf}
use Rattle.amr_decoder.specs.ReadLevels.{read_level_count, read_over}
use Rattle.amr_decoder.proofs.Lists.{one_left}
use Rattle.amr_decoder.proofs.Readings.{fault_first, fault_same}

-- whether a level stands over another
abbrev pub stands : Problem → ℕ → Level → Level → Bool
stands p l below k = surrounds (domain p l) below.boxes k.boxes && is_in_sync (domain p l) below.masses k.masses

module _ (f : Form) (p : Problem) (n l : ℕ) (below : Level) where
  pub finer_tested : (m : ℕ) (k : Level) (r e : Left) (t : Bool) → m ≡ l + 1 → read_level f p n m r ≡ read k e → stands p l below k ≡ t → read_finer f p n l below r ≡ tested t r.place k e
  unfolding read_finer
  finer_tested m k r e t is first test =
      ap (λ (m : ℕ). then_read (read_level f p n m r) (λ k a. tested (stands p l below k) r.place k a)) (sym (add-one l) ∙ sym is)
      ∙ ap (λ (q : Reading Level). then_read q (λ k a. tested (stands p l below k) r.place k a)) first
      ∙ ap (λ t. tested t r.place k e) test

module _ (fs : ℕ → Form) (p : Problem) (n t l : ℕ) (below : Level) where
  next_form : (f : Form) → f ≡ fs (l + 1) → f ≡ fs (suc l)
  next_form f is = is ∙ ap fs (add-one l)

  pub over_next : (f : Form) (k : Level) (r e : Left) → f ≡ fs (l + 1) → l < t → read_finer f p n l below r ≡ read k e → read_all_finer fs p n (t - l) l below r ≡ read_also k (read_all_finer fs p n (t - (l + 1)) (l + 1) k e)
  over_next f k r e is inside first =
      ap (λ j. read_all_finer fs p n j l below r) (one_left t l inside)
      ∙ ap (λ (f : Form). then_read (read_finer f p n l below r) (λ k a. read_also k (read_all_finer fs p n (t - (l + 1)) (suc l) k a))) (sym (next_form f is))
      ∙ ap (λ (q : Reading Level). then_read q (λ k a. read_also k (read_all_finer fs p n (t - (l + 1)) (suc l) k a))) first
      ∙ ap (λ m. read_also k (read_all_finer fs p n (t - (l + 1)) m k e)) (sym (add-one l))

  pub over_bad : (f : Form) (r : Left) (e : CodecFault) → f ≡ fs (l + 1) → l < t → IsFaultOf (read_finer f p n l below r) e → IsFaultOf (read_all_finer fs p n (t - l) l below r) e
  over_bad f r e is inside h =
      fault_same (read_all_finer fs p n (t - l) l below r) (read_all_finer fs p n (suc (t - (l + 1))) l below r) e (ap (λ j. read_all_finer fs p n j l below r) (one_left t l inside))
      (fault_first (read_finer (fs (suc l)) p n l below r) (λ k a. read_also k (read_all_finer fs p n (t - (l + 1)) (suc l) k a)) e (subst (λ (f : Form). IsFaultOf (read_finer f p n l below r) e) (next_form f is) h))

  pub over_end : (r : Left) → t - l ≡ 0 → read_all_finer fs p n (t - l) l below r ≡ read [] r
  over_end r none = ap (λ j. read_all_finer fs p n j l below r) none

-- ---- all levels

-- the number of levels and its test come first
count_first : {B : Type 0} (q : Reading ℕ) (f : ℕ → Left → Reading ℕ) (g : ℕ → Left → Reading B) → then_read q (λ t a. then_read (f t a) g) ≡ then_read (then_read q f) g
count_first (bad place) f g = refl
count_first (read t a) f g = refl

module _ (fs : ℕ → Form) (p : Problem) (n : ℕ) where
  after_count : ℕ → Left → Reading (List Level)
  after_count t a = then_read (read_level (fs 0) p n 0 a) (λ k b. read_over fs p n (t - 1) k b)

  levels_by_count : (r : Left) → read_levels fs p n r ≡ then_read (read_level_count p r) after_count
  unfolding read_levels after_count
  levels_by_count r = count_first (read_number w8 r) (λ t a. tested (between 1 (p.max_level + 1) t) r.place t a) after_count

  pub count_bad : (r : Left) (e : CodecFault) → IsFaultOf (read_level_count p r) e → IsFaultOf (read_levels fs p n r) e
  count_bad r e h = fault_same (read_levels fs p n r) (then_read (read_level_count p r) after_count) e (levels_by_count r) (fault_first (read_level_count p r) after_count e h)

  pub base_next : (t : ℕ) (r a : Left) → read_level_count p r ≡ read t a → read_levels fs p n r ≡ then_read (read_level (fs 0) p n 0 a) (λ k b. read_over fs p n (t - 1) k b)
  unfolding after_count
  base_next t r a h = levels_by_count r ∙ ap (λ q. then_read q after_count) h

  pub base_bad : (t : ℕ) (r a : Left) (e : CodecFault) → read_level_count p r ≡ read t a → IsFaultOf (read_level (fs 0) p n 0 a) e → IsFaultOf (read_levels fs p n r) e
  base_bad t r a e count h =
      fault_same (read_levels fs p n r) (then_read (read_level (fs 0) p n 0 a) (λ k b. read_over fs p n (t - 1) k b)) e (base_next t r a count)
      (fault_first (read_level (fs 0) p n 0 a) (λ k b. read_over fs p n (t - 1) k b) e h)

  pub finer_next : (t : ℕ) (k : Level) (r a b : Left) → read_level_count p r ≡ read t a → read_level (fs 0) p n 0 a ≡ read k b → read_levels fs p n r ≡ read_over fs p n (t - 1) k b
  finer_next t k r a b count first = base_next t r a count ∙ ap (λ (q : Reading Level). then_read q (λ k b. read_over fs p n (t - 1) k b)) first
