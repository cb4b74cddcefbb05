-- A stop at any moment of a run: what the store came to hold, when, by the disk's clock, and what each image holds in between. (profile)
use Rattle.std.specs.Prelude.{ℕ, ◌≡◌, ◌≤◌, ◌<◌, ◌⊎◌, List, [], ◌∷◌, ◌++◌, map, slice_get, Option, Some, None, IfSome}
use Rattle.amr_checkpoint.specs.Contents.{Content, Holds, rank}

-- the moment at which a call returned that found or made this
pub record Time : Type 0 where
  pub moment : ℕ
  pub content : Content

abbrev pub contents_of : List Time → List Content
contents_of times = map (λ time. time.content) times

-- what was found, or made last
abbrev pub last_of : Content → List Content → Content
last_of found [] = found
last_of found (next ∷ rest) = last_of next rest

-- the image holds the one, or the other where there is another
abbrev pub HoldsOneOf : Content → Option Content → List ℕ → Type 0
HoldsOneOf content None image = Holds image content
HoldsOneOf content (Some other) image = Holds image content ⊎ Holds image other

-- at each moment from one to another a stop leaves an image that holds the one or the other
pub record StopsBetween (leaves : ℕ → List ℕ → Type 0) (first last : ℕ) (content : Content) (other : Option Content) : Type 0 where
  pub later : first ≤ last
  pub each : (t : ℕ) (image : List ℕ) → first ≤ t → t ≤ last → leaves t image → HoldsOneOf content other image

-- From one time through the later ones until now. Between two of them an image holds what the earlier made or what the later makes, and
-- ranks rise. After the last it holds what that made, or what a call that failed was about to make.
abbrev pub StopsAlong : (ℕ → List ℕ → Type 0) → Time → List Time → ℕ → Option Content → Type 0
StopsAlong leaves time [] now attempt = StopsBetween leaves time.moment now time.content attempt
StopsAlong leaves time (next ∷ rest) now attempt =
    StopsBetween leaves time.moment next.moment time.content (Some next.content)
    × (rank time.content < rank next.content)
    × StopsAlong leaves next rest now attempt

-- what was made is the front of what was to be made, and a call that failed was about to make what comes next
pub record IsFrontOf (all made : List Content) (attempt : Option Content) : Type 0 where
  pub rest : List Content
  pub split : made ++ rest ≡ all
  pub next : IfSome attempt (λ content. slice_get rest 0 ≡ Some content)

-- A run that found this at a time, and was to make all that of it. At each moment from then until now a stop leaves what was found or made
-- last, or what is made next.
pub record StopsLeave (leaves : ℕ → List ℕ → Type 0) (found : Time) (now : ℕ) (all : List Content) (times : List Time)
    (attempt : Option Content) : Type 0 where
  pub front : IsFrontOf all (contents_of times) attempt
  pub along : StopsAlong leaves found times now attempt
