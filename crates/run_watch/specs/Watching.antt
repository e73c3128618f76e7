-- The stretches and the turns of a server, found from its packets, works and leaves. Own choice.
use Rattle.std.specs.Prelude.{◌≡◌, ℕ, pos, Bool, ◌&&◌, List, [], ◌∷◌, ◌++◌, Option, Some, None, if◌then◌else◌}
use Rattle.std.specs.Option.{option_to_list}
use Rattle.rational.specs.Rational.{ℚ, int, ◌≤ℚ◌, lt_q, le_q}
use Rattle.rational.specs.Compared.{same_q}
use Rattle.run_laws.specs.declared.steps.Step.{Step}
use Rattle.flow_watch.specs.watch_laws.Affine.{Among}
use Rattle.run_watch.specs.declared.span.Ramp.{Ramp}
use Rattle.run_watch.specs.declared.watched.Watched.{Watched}
use Rattle.run_watch.specs.declared.watched.Stretch.{Stretch}
use Rattle.run_watch.specs.declared.watched.Progress.{Progress}
use Rattle.run_watch.specs.Ramps.{amount, rate_before, rate_after, ramps_after, AreRamps, spans_of, ReadsRamp, EachRamp, EndsBefore}
use Rattle.run_watch.specs.Seen.{works_at, leaves_at, arrivals_at}

-- ---- what it sees, up to t
abbrev pub arrived_by : Watched → ℚ → ℚ
arrived_by w t = amount (spans_of w.arrivals.items) t

abbrev pub worked_by : Watched → ℚ → ℚ
worked_by w t = amount (spans_of w.works.items) t

-- all that arrived before t is worked
abbrev pub is_caught_up : Watched → ℚ → Bool
is_caught_up w t = le_q (arrived_by w t) (worked_by w t)

-- its numbers at t can be read
pub record ReadsAt (w : Watched) (t : ℚ) : Type 0 where
  pub arrivals : AreRamps w.arrivals.items
  pub works : AreRamps w.works.items
  pub arrived : EachRamp (ReadsRamp t) w.arrivals.items
  pub worked : EachRamp (ReadsRamp t) w.works.items

-- how many of the arrivals and of the works end before t
pub record AreReached (w : Watched) (t : ℚ) (r : Progress) : Type 0 where
  pub arrived : EndsBefore t w.arrivals.items r.arrived
  pub worked : EndsBefore t w.works.items r.worked

-- ---- stretches
-- the times at which a packet leaves and all that arrived before is worked
abbrev pub stops_in : Watched → List ℚ → List ℚ
stops_in w [] = []
stops_in w (t ∷ ts) = if is_caught_up w t then t ∷ stops_in w ts else stops_in w ts

abbrev pub stops : Watched → List ℚ
stops w = stops_in w w.leaves.items

abbrev pub RiseFrom : ℚ → List ℚ → Type 0
RiseFrom from [] = Unit {0}
RiseFrom from (t ∷ ts) = (from ≤ℚ t) × RiseFrom t ts

-- the first of these times after u, or the end
abbrev pub next_after : ℚ → ℚ → List ℚ → ℚ
next_after u end [] = end
next_after u end (t ∷ ts) = if lt_q u t then t else next_after u end ts

-- the stretch that begins with a packet, if one does: before the end, and all packets before it are worked
abbrev pub begins : Watched → Ramp → Bool
begins w r = lt_q r.span.start w.end && le_q r.before (worked_by w r.span.start)

abbrev pub stretch_from : Watched → List ℚ → Ramp → Option Stretch
stretch_from w stops r =
    if begins w r then Some record { start = r.span.start; end = next_after r.span.start w.end stops } else None

abbrev pub stretches_in : Watched → List ℚ → List Ramp → List Stretch
stretches_in w stops [] = []
stretches_in w stops (r ∷ rs) = option_to_list (stretch_from w stops r) ++ stretches_in w stops rs

abbrev pub stretches : Watched → List Stretch
stretches w = stretches_in w (stops w) w.arrivals.items

-- ---- turns
-- t, where the pace changes there
abbrev pub change_at : Watched → ℚ → List ℚ
change_at w t =
    if same_q (rate_before (spans_of w.works.items) t) (rate_after (spans_of w.works.items) t) then [] else t ∷ []

abbrev pub changes_in : Watched → List Ramp → List ℚ
changes_in w [] = []
changes_in w (r ∷ rs) = change_at w r.span.start ++ change_at w r.span.end ++ changes_in w rs

abbrev pub ends_of : List Stretch → List ℚ
ends_of [] = []
ends_of (s ∷ ss) = s.start ∷ s.end ∷ ends_of ss

abbrev pub turns : Watched → List Stretch → List ℚ
turns w ss = ends_of ss ++ changes_in w w.works.items

-- the others are those of these times that are in the stretch
pub record HoldsTimes (s : Stretch) (ts own : List ℚ) : Type 0 where
  pub inside : (t : ℚ) → Among t ts → s.start ≤ℚ t → t ≤ℚ s.end → Among t own
  pub are : (t : ℚ) → Among t own → Among t ts
  pub from : (t : ℚ) → Among t own → s.start ≤ℚ t
  pub upto : (t : ℚ) → Among t own → t ≤ℚ s.end

-- ---- made from a run
-- what the server of a number sees
pub record Sees (w : Watched) (firsts : List ℕ) (s : ℕ) (xs : List Step) (until : ℚ) : Type 0 where
  pub arrivals : w.arrivals.items ≡ ramps_after (int (pos 0)) (arrivals_at firsts s [] xs)
  pub works : w.works.items ≡ ramps_after (int (pos 0)) (works_at s xs)
  pub leaves : w.leaves.items ≡ leaves_at s xs
  pub end : w.end ≡ until
