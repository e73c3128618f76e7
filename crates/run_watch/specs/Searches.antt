-- The search of one stretch for its first window that is short of work. Own choice.
use Rattle.std.specs.Prelude.{◌≡◌, ◌⊎◌, ℕ, ◌<◌, List, length, Option, IfSome, MatchOption}
use Rattle.std.specs.List.{slice_index_or}
use Rattle.rational.specs.Rational.{ℚ, ◌-ℚ◌, ◌≤ℚ◌, ◌<ℚ◌}
use Rattle.upp_curve.specs.Curve.{SpecCurve}
use Rattle.upp_curve.specs.Unrolled.{unroll}
use Rattle.flow_watch.specs.watch_laws.Affine.{Among}
use Rattle.flow_watch.specs.declared.watch_laws.point.Segment.{Segment}
use Rattle.flow_watch.specs.watch_laws.Segments.{segments}
use Rattle.flow_watch.specs.watch_laws.Reaches.{HasReach}
use Rattle.flow_watch.specs.watch_laws.Shorts.{IsPastEnd}
use Rattle.run_watch.specs.declared.watched.Watched.{Watched}
use Rattle.run_watch.specs.declared.watched.Stretch.{Stretch}
use Rattle.run_watch.specs.Watching.{stretches, turns, RiseFrom, HoldsTimes}
use Rattle.run_watch.specs.WatchTimes.{watched_from}
use Rattle.run_watch.specs.IdleWindows.{NoneIsShort, IsFirstShort}
use Rattle.run_watch.specs.NearWindows.{EndsShort}
use Rattle.run_watch.specs.Reaches.{within_reach}

-- a stretch as far as its first turn at `until` or later; all of it, where there is no such time or turn
pub record IsPart (until : Option ℚ) (turns : List ℚ) (s part : Stretch) : Type 0 where
  pub start : part.start ≡ s.start
  pub inside : part.end ≤ℚ s.end
  pub end : (part.end ≡ s.end) ⊎ (Among part.end turns × IsPastEnd until part.end)

-- a stretch of what a server sees, or as much of it as ends with a turn; `all` are the server's turns, `own` those in it,
-- in order
pub record IsLookedAt (w : Watched) (s : Stretch) (own all : List ℚ) : Type 0 where
  pub whole : Stretch
  pub number : ℕ
  pub in_range : number < length (stretches w)
  pub is : whole ≡ slice_index_or (stretches w) number whole
  pub start : s.start ≡ whole.start
  pub forward : s.start <ℚ s.end
  pub inside : s.end ≤ℚ whole.end
  pub turn : (s.end ≡ whole.end) ⊎ Among s.end all
  pub turns_are : all ≡ turns w (stretches w)
  pub holds : HoldsTimes s all own
  pub rise : (from : ℚ) × RiseFrom from own

-- the curve's segments up to the length of the stretch, but not beyond the reach
abbrev pub segments_near : SpecCurve → Stretch → Option ℚ → List Segment
segments_near c s reach = within_reach reach (segments (unroll c (s.end -ℚ s.start)))

-- its own turns and these show no short window
abbrev pub IsClearStretch : Watched → SpecCurve → Stretch → List ℚ → Type 0
IsClearStretch w c s own = (reach : Option ℚ) × IfSome reach (HasReach c)
    × ((t : ℚ) → ¬ EndsShort (segments_near c s reach) w.works.items s own t)

-- t is the stretch's start, or one of its own turns before `end`
abbrev pub IsCut : List ℚ → ℚ → ℚ → ℚ → Type 0
IsCut own start end t = (t ≡ start) ⊎ (Among t own × (t <ℚ end))

-- between its watch points, by all turns and the pieces up to the run's end
abbrev pub NoneWatched : Watched → SpecCurve → Stretch → List ℚ → Type 0
NoneWatched w c s all = NoneIsShort (segments (unroll c w.end)) w.works.items (watched_from s (unroll c w.end) all)

abbrev pub IsFirstWatched : Watched → SpecCurve → Stretch → List ℚ → ℚ × ℚ → Type 0
IsFirstWatched w c s all p =
    IsFirstShort (segments (unroll c w.end)) w.works.items (watched_from s (unroll c w.end) all) p.0 p.1

-- neither; or the first between its watch points
abbrev pub FindsIn : Watched → SpecCurve → Stretch → List ℚ → List ℚ → Option (ℚ × ℚ) → Type 0
FindsIn w c s own all found = MatchOption found (IsClearStretch w c s own ⊎ NoneWatched w c s all)
    (IsFirstWatched w c s all)
