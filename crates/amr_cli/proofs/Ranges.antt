-- A command's numbers lie in the ranges of its options and places.
use Rattle.std.proofs.Common.{◌≡◌, ℕ, ◌≤◌, ◌<◌, ◌^◌, ◌&&◌, IfSome, List, Bool, Option, Some, None, true, false, cond, nat_le, codes, refl, subst, arith, option_map, option_and_then, leb-true}
use Rattle.std.specs.Str.{bytes_eq}
use Rattle.std.proofs.lemmas.Bool.{and_parts}
use Rattle.std.proofs.lemmas.Option.{cond_some, none-some, same_Some, IfSome_then, option_and_then_some}
use Rattle.clap.specs.Words.{Row, Text, first_of}
use Rattle.amr_cli.specs.Table.{NumberRow, deltas, keep, level, number, size, species, to, workers, x0, x1, y0, y1}
use Rattle.amr_cli.specs.Numbers.{in_range, number_of}
use Rattle.amr_cli.specs.Words.{AreShort, HasRanges, HasWorkers, batch_of, command_from, corners_by, corners_of, option_of, option_or, value_or, place_of, run_by, run_of, species_of, trial_of, view_by, view_of, workers_of}
use Rattle.amr_cli.specs.declared.command.Command.{Command}
use Rattle.amr_cli.specs.declared.command.Corners.{Corners}
use Rattle.amr_cli.specs.declared.command.Command.TheVariants.{Check, Show, Trial, Batch}

-- a number that was taken lies in the range
in_range_within : (low high n m : ℕ) → in_range low high n ≡ Some m → (low ≤ m) × (m ≤ high)
in_range_within low high n m is =
    let taken = cond_some (nat_le low n && nat_le n high) n m is in
    let tests = and_parts (nat_le low n) (nat_le n high) taken.0 in
    subst (λ (k : ℕ). (low ≤ k) × (k ≤ high)) taken.1 (leb-true low n tests.0, leb-true n high tests.1)

-- the value of an option, read from the text that was found for it
value_within : (option : NumberRow) (text : Text) (m : ℕ) → option_map (λ n. Some n) (option_and_then (in_range option.low option.high) (number_of text)) ≡ Some (Some m) → (option.low ≤ m) × (m ≤ option.high)
value_within option text m is = within (option_and_then (in_range option.low option.high) (number_of text)) refl is
  where
    within : (value : Option ℕ) → option_and_then (in_range option.low option.high) (number_of text) ≡ value → option_map (λ n. Some n) value ≡ Some (Some m) → (option.low ≤ m) × (m ≤ option.high)
    within None from is = absurd (none-some (Some m) is)
    within (Some k) from is =
        option_and_then_some (in_range option.low option.high) (number_of text) k from
        (λ n number ranged. subst (λ (i : ℕ). (option.low ≤ i) × (i ≤ option.high)) (same_Some k m (same_Some (Some k) (Some m) is)) (in_range_within option.low option.high n k ranged))

-- an option that is there has a value in its range
pub option_within : (option : NumberRow) (rows : List Row) (m : ℕ) → option_of option rows ≡ Some (Some m) → (option.low ≤ m) × (m ≤ option.high)
option_within option rows m = found (first_of option.name rows) refl
  where
    found : (text : Option Text) → first_of option.name rows ≡ text → option_of option rows ≡ Some (Some m) → (option.low ≤ m) × (m ≤ option.high)
    found None is = rw is (λ none. absurd (none-some m (same_Some None (Some m) none)))
    found (Some text) is = rw is (value_within option text m)

-- an option that may be absent has a value in its range, where it is there
option_ranged : (option : NumberRow) (rows : List Row) (value : Option ℕ) → option_of option rows ≡ Some value → IfSome value (λ m. (option.low ≤ m) × (m ≤ option.high))
option_ranged option rows None is = tt
option_ranged option rows (Some m) is = option_within option rows m is

-- the number in a place lies in the place's range
pub place_within : (place : NumberRow) (rows : List Row) (m : ℕ) → place_of place rows ≡ Some m → (place.low ≤ m) × (m ≤ place.high)
place_within place rows m is =
    option_and_then_some (λ (text : Text). option_and_then (in_range place.low place.high) (number_of text)) (first_of place.name rows) m is
    (λ text there read. option_and_then_some (in_range place.low place.high) (number_of text) m read (λ n number ranged. in_range_within place.low place.high n m ranged))

-- so does the value of an option, or what stands for it where it is absent
or_within : (absent : ℕ) (option : NumberRow) (rows : List Row) (n : ℕ) → option.low ≤ absent → absent ≤ option.high → option_or absent option rows ≡ Some n → (option.low ≤ n) × (n ≤ option.high)
or_within absent option rows n low high is = valued (option_of option rows) refl is
  where
    valued : (value : Option (Option ℕ)) → option_of option rows ≡ value → option_map (value_or absent) value ≡ Some n → (option.low ≤ n) × (n ≤ option.high)
    valued None from is = absurd (none-some n is)
    valued (Some None) from is = let same = same_Some absent n is in (omega arith, omega arith)
    valued (Some (Some m)) from is =
        let within = option_within option rows m from in
        let same = same_Some m n is in
        (omega arith, omega arith)

-- from 1 to 64 workers
workers_within : (rows : List Row) (w : ℕ) → workers_of rows ≡ Some w → (1 ≤ w) × (w ≤ 64)
workers_within rows w is = or_within 1 workers rows w (omega arith) (omega arith) is

-- what a mapped option that is there was made of
mapped_some : {A B P : Type 0} (f : A → B) (o : Option A) (y : B) → option_map f o ≡ Some y → ((x : A) → o ≡ Some x → f x ≡ y → P) → P
mapped_some f None y is then = absurd (none-some y is)
mapped_some f (Some x) y is then = then x refl (same_Some (f x) y is)

abbrev pub Has : Command → Type 0
Has command = HasWorkers command × HasRanges command

run_has : (command : Command) (rows : List Row) → run_of rows ≡ Some command → Has command
run_has command rows is =
    let last = λ (w : ℕ) (k e : Option ℕ). option_map (λ (d : Option ℕ). run_by w k e d) (option_of deltas rows) in
    option_and_then_some (λ (w : ℕ). option_and_then (λ (k : Option ℕ). option_and_then (last w k) (option_of keep rows)) (option_of to rows)) (workers_of rows) command is
    (λ w w_is rest. option_and_then_some (λ (k : Option ℕ). option_and_then (last w k) (option_of keep rows)) (option_of to rows) command rest
    (λ k k_is more. option_and_then_some (last w k) (option_of keep rows) command more
    (λ e e_is end. mapped_some (λ (d : Option ℕ). run_by w k e d) (option_of deltas rows) command end
    (λ d d_is made. subst Has made
    (workers_within rows w w_is, (IfSome_then k (option_ranged to rows k k_is) (λ _ p. p.1), option_ranged keep rows e e_is, option_ranged deltas rows d d_is))))))

trial_has : (command : Command) (rows : List Row) → trial_of rows ≡ Some command → Has command
trial_has command rows is =
    option_and_then_some (λ (n : ℕ). option_and_then (λ (m : ℕ). option_map (λ (w : ℕ). Trial n m w) (workers_of rows)) (place_of size rows)) (place_of number rows) command is
    (λ n n_is rest. option_and_then_some (λ (m : ℕ). option_map (λ (w : ℕ). Trial n m w) (workers_of rows)) (place_of size rows) command rest
    (λ m m_is last. mapped_some (λ (w : ℕ). Trial n m w) (workers_of rows) command last
    (λ w w_is made. subst Has made
    (let sized = place_within size rows m m_is in (workers_within rows w w_is, (short n (place_within number rows n n_is), sized.0, sized.1))))))
  where
    short : (n : ℕ) → (number.low ≤ n) × (n ≤ number.high) → n < 2 ^ 32
    short n within = omega arith

batch_has : (command : Command) (rows : List Row) → batch_of rows ≡ Some command → Has command
batch_has command rows is = mapped_some (λ (w : ℕ). Batch w) (workers_of rows) command is (λ w w_is made. subst Has made (workers_within rows w w_is, tt))

corners_short : (b : Corners) (rows : List Row) → corners_of rows ≡ Some b → AreShort b
corners_short b rows is =
    let last = λ (x y z : ℕ). option_map (λ (w : ℕ). corners_by x y z w) (place_of y1 rows) in
    let third = λ (x y : ℕ). option_and_then (last x y) (place_of x1 rows) in
    let second = λ (x : ℕ). option_and_then (third x) (place_of y0 rows) in
    option_and_then_some second (place_of x0 rows) b is
    (λ x x_is rest. option_and_then_some (third x) (place_of y0 rows) b rest
    (λ y y_is more. option_and_then_some (last x y) (place_of x1 rows) b more
    (λ z z_is end. mapped_some (λ (w : ℕ). corners_by x y z w) (place_of y1 rows) b end
    (λ w w_is made. subst AreShort made
    ((place_within x0 rows x x_is).1, (place_within y0 rows y y_is).1, (place_within x1 rows z z_is).1, (place_within y1 rows w w_is).1)))))

view_has : (command : Command) (rows : List Row) → view_of rows ≡ Some command → Has command
view_has command rows is =
    let last = λ (l : ℕ) (b : Corners) (s : ℕ). option_map (λ (w : ℕ). view_by l b s w) (workers_of rows) in
    let third = λ (l : ℕ) (b : Corners). option_and_then (last l b) (species_of rows) in
    let second = λ (l : ℕ). option_and_then (third l) (corners_of rows) in
    option_and_then_some second (place_of level rows) command is
    (λ l l_is rest. option_and_then_some (third l) (corners_of rows) command rest
    (λ b b_is more. option_and_then_some (last l b) (species_of rows) command more
    (λ s s_is end. mapped_some (λ (w : ℕ). view_by l b s w) (workers_of rows) command end
    (λ w w_is made. subst Has made
    (workers_within rows w w_is, ((place_within level rows l l_is).1, corners_short b rows b_is, (or_within 0 species rows s (omega arith) (omega arith) s_is).1))))))

-- what was found in the words is a command whose numbers lie in their ranges
pub found_has : (command : Command) (found : Option (Text × List Row)) → command_from found ≡ Some command → Has command
found_has command None is = absurd (none-some command is)
found_has command (Some found) is = named (bytes_eq found.0 (codes "run")) (bytes_eq found.0 (codes "check")) (bytes_eq found.0 (codes "show")) (bytes_eq found.0 (codes "trial")) (bytes_eq found.0 (codes "batch")) (bytes_eq found.0 (codes "view")) is
  where
    named : (run check show trial batch view : Bool) → cond run (run_of found.1) (cond check (Some Check) (cond show (Some Show) (cond trial (trial_of found.1) (cond batch (batch_of found.1) (cond view (view_of found.1) None))))) ≡ Some command → Has command
    named true check show trial batch view is = run_has command found.1 is
    named false true show trial batch view is = subst Has (same_Some Check command is) (tt, tt)
    named false false true trial batch view is = subst Has (same_Some Show command is) (tt, tt)
    named false false false true batch view is = trial_has command found.1 is
    named false false false false true view is = batch_has command found.1 is
    named false false false false false true is = view_has command found.1 is
    named false false false false false false is = absurd (none-some command is)
