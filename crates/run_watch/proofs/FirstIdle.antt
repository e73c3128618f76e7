-- The ends of a stretch, and what the search asks of its times, as the code has them.
use Rattle.std.specs.Prelude.{◌≡◌, ℕ, zero, suc, ◌<◌, List, [], ◌∷◌, length}
use Rattle.std.specs.List.{slice_index_or}
use Rattle.std.proofs.Common.{arith, sym, subst}
use Rattle.rational.specs.Rational.{ℚ}
use Rattle.upp_curve.specs.Curve.{SpecCurve}
use Rattle.flow_watch.specs.watch_laws.Affine.{EachTime}
use Rattle.flow_watch.specs.declared.watch_laws.point.Segment.{Segment}
use Rattle.flow_watch.specs.watch_laws.MarkSizes.{IsTime}
use Rattle.run_watch.specs.declared.span.Ramp.{Ramp}
use Rattle.run_watch.specs.declared.watched.Watched.{Watched}
use Rattle.run_watch.specs.declared.watched.Stretch.{Stretch}
use Rattle.run_watch.specs.Watching.{stops, stretches, ends_of}
use Rattle.run_watch.specs.IdleWindows.{TimeFits, SegmentsFit}
use Rattle.run_watch.specs.Held.{IsHeld}
use Rattle.run_watch.proofs.HeldTimes.{ends_time, end_time, stops_time}

ends_at : (P : ℚ → Type 0) (ss : List Stretch) (k : ℕ) (s : Stretch) → EachTime P (ends_of ss) → k < length ss → s ≡ slice_index_or ss k s → P s.start × P s.end
ends_at P [] k s h l e = absurd (omega arith)
ends_at P (q ∷ ss) zero s h l e = (subst (λ (r : Stretch). P r.start) (sym e) h.0, subst (λ (r : Stretch). P r.end) (sym e) h.1.0)
ends_at P (q ∷ ss) (suc k) s h l e = ends_at P ss k s h.1.1 (omega arith) e

pub stretch_times : (w : Watched) (c : SpecCurve) (ss : List Stretch) (k : ℕ) (s : Stretch) (h : IsHeld w c) → ss ≡ stretches w → k < length ss → s ≡ slice_index_or ss k s
    → IsTime h.sizes w.end s.start × IsTime h.sizes w.end s.end
stretch_times w c ss k s h same l e =
    let all = ends_time w h.sizes (stops w) w.arrivals.items (end_time h.sizes w.end h.limited) (stops_time w c h) h.arrivals.each in
    ends_at (IsTime h.sizes w.end) ss k s (subst (λ (qs : List Stretch). EachTime (IsTime h.sizes w.end) (ends_of qs)) (sym same) all) l e

pub times_as : (ss gs : List Segment) (works rs : List Ramp) (ts : List ℚ) → gs ≡ ss → rs ≡ works → EachTime (TimeFits ss works) ts → EachTime (TimeFits gs rs) ts
times_as ss gs works rs ts e f h = subst (λ (xs : List Segment). EachTime (TimeFits xs rs) ts) (sym e) (subst (λ (xs : List Ramp). EachTime (TimeFits ss xs) ts) (sym f) h)

pub gaps_as : (ss gs : List Segment) → gs ≡ ss → SegmentsFit ss → SegmentsFit gs
gaps_as ss gs e h = subst SegmentsFit (sym e) h
