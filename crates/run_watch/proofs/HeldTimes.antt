-- The times of the search stand on the grid of times, within the run.
use Rattle.std.specs.Prelude.{◌≡◌, pos, List, [], ◌∷◌, ◌++◌}
use Rattle.std.proofs.Common.{sym, subst, inl, inr}
use Rattle.std.proofs.lemmas.Bool.{cases_Bool}
use Rattle.rational.specs.Rational.{ℚ, int, ◌≤ℚ◌, ◌<ℚ◌, lt_q}
use Rattle.rational.proofs.Laws.{le_refl, le_trans, lt_le_trans, lt_irrefl}
use Rattle.rational.specs.Grid.{Whole}
use Rattle.rational.proofs.Grid.{whole_add, whole_sub}
use Rattle.upp_curve.specs.declared.affine_segment.line.Piece.{Piece}
use Rattle.upp_curve.specs.Curve.{SpecCurve}
use Rattle.upp_limits.specs.Limits.{Sizes}
use Rattle.upp_normal.specs.Operand.{AreLimited, OperandPieces}
use Rattle.upp_curve.specs.Unrolled.{unroll}
use Rattle.upp_normal.specs.Unrolling.{IsOperandTo}
use Rattle.upp_normal.proofs.UnrolledPieces.{operand_pieces}
use Rattle.run_laws.specs.Cards.{ServerStep}
use Rattle.run_laws.specs.Servers.{Server}
use Rattle.flow_watch.specs.watch_laws.Affine.{EachTime, Among}
use Rattle.flow_watch.specs.watch_laws.Breaches.{IsIdle}
use Rattle.flow_watch.specs.watch_laws.Laws.{MayServe}
use Rattle.flow_watch.specs.watch_laws.MarkSizes.{IsTime}
use Rattle.flow_watch.specs.watch_laws.Segments.{segments}
use Rattle.run_watch.specs.declared.span.Ramp.{Ramp}
use Rattle.run_watch.specs.declared.watched.Watched.{Watched}
use Rattle.run_watch.specs.declared.watched.Stretch.{Stretch}
use Rattle.run_watch.specs.Ramps.{EachRamp}
use Rattle.run_watch.specs.Watching.{ReadsAt, stops, RiseFrom, next_after, begins, stretches_in, stretches, change_at, changes_in, ends_of, turns}
use Rattle.run_watch.specs.WatchTimes.{watched_from, TimesFit}
use Rattle.run_watch.specs.IdleWindows.{SegmentsFit}
use Rattle.run_watch.specs.Held.{IsSightOf, IsHeldRamp, IsHeld}
use Rattle.run_watch.proofs.ViewStretches.{stops_rise, stops_each}
use Rattle.run_watch.proofs.FoundStretches.{HasStretch, StretchesRise, stretch_found, stretches_rise}
use Rattle.run_watch.proofs.FoundTurns.{change_is, turn_found, found_turn}
use Rattle.run_watch.proofs.FoundTimes.{in_watched}
use Rattle.run_watch.proofs.HeldSizes.{ramps_read, segments_fit, moves_fit, start_time}
use Rattle.run_watch.proofs.SortedPoints.{each_time_from}
use Rattle.run_watch.proofs.IdleIn.{IsSearched}
use Rattle.run_laws.proofs.Times.{each_time_map, each_time_append}

-- ---- reading
pub reads_at : (w : Watched) (c : SpecCurve) (t : ℚ) (h : IsHeld w c) → IsTime h.sizes w.end t → ReadsAt w t
reads_at w c t h T = record {
  arrivals = h.arrivals.ramps;
  works = h.works.ramps;
  arrived = ramps_read h.sizes w.end t w.arrivals.items h.limited h.arrivals.each T;
  worked = ramps_read h.sizes w.end t w.works.items h.limited h.works.each T;
}

pub leaves_read : (w : Watched) (c : SpecCurve) → IsHeld w c → EachTime (ReadsAt w) w.leaves.items
leaves_read w c h = each_time_map (IsTime h.sizes w.end) (ReadsAt w) (λ t k. reads_at w c t h k) w.leaves.items h.leaves

ramp_map : (P Q : Ramp → Type 0) → ((r : Ramp) → P r → Q r) → (rs : List Ramp) → EachRamp P rs → EachRamp Q rs
ramp_map P Q f [] h = tt
ramp_map P Q f (r ∷ rs) h = (f r h.0, ramp_map P Q f rs h.1)

pub arrivals_read : (w : Watched) (c : SpecCurve) → IsHeld w c → EachRamp (λ r. ReadsAt w r.span.start) w.arrivals.items
arrivals_read w c h = ramp_map (IsHeldRamp h.sizes w.end) (λ r. ReadsAt w r.span.start) (λ r k. reads_at w c r.span.start h k.start) w.arrivals.items h.arrivals.each

pub stops_in_order : (w : Watched) (c : SpecCurve) (ts : List ℚ) → IsHeld w c → ts ≡ stops w → RiseFrom (int (pos 0)) ts
stops_in_order w c ts h e = subst (RiseFrom (int (pos 0))) (sym e) (stops_rise w (int (pos 0)) w.leaves.items h.rise)

-- ---- where the times stand
pub end_time : (z : Sizes) (end : ℚ) → AreLimited z end → IsTime z end end
end_time z end A = record { whole = A.sizes.window; low = A.some; high = le_refl end }

next_time : (P : ℚ → Type 0) (u end : ℚ) (ts : List ℚ) → P end → EachTime P ts → P (next_after u end ts)
next_time P u end [] e h = e
next_time P u end (t ∷ ts) e h = elim (cases_Bool (lt_q u t)) [
  | inl is ↦ rw is h.0
  | inr is ↦ rw is (next_time P u end ts e h.1)
]

pub stops_time : (w : Watched) (c : SpecCurve) (h : IsHeld w c) → EachTime (IsTime h.sizes w.end) (stops w)
stops_time w c h = stops_each (IsTime h.sizes w.end) w w.leaves.items (each_time_map (IsTime h.sizes w.end) _ (λ t k _. k) w.leaves.items h.leaves)

pub ends_time : (w : Watched) (z : Sizes) (ts : List ℚ) (rs : List Ramp) → IsTime z w.end w.end → EachTime (IsTime z w.end) ts → EachRamp (IsHeldRamp z w.end) rs → EachTime (IsTime z w.end) (ends_of (stretches_in w ts rs))
ends_time w z ts [] e T h = tt
ends_time w z ts (r ∷ rs) e T h = elim (cases_Bool (begins w r)) [
  | inl is ↦ rw is (h.0.start, (next_time (IsTime z w.end) r.span.start w.end ts e T, ends_time w z ts rs e T h.1))
  | inr is ↦ rw is (ends_time w z ts rs e T h.1)
]

change_time : (P : ℚ → Type 0) (w : Watched) (t : ℚ) → P t → EachTime P (change_at w t)
change_time P w t h = each_time_from P (change_at w t) (λ u k. subst P (sym (change_is w t u k).0) h)

changes_time : (w : Watched) (z : Sizes) (rs : List Ramp) → EachRamp (IsHeldRamp z w.end) rs → EachTime (IsTime z w.end) (changes_in w rs)
changes_time w z [] h = tt
changes_time w z (r ∷ rs) h =
    each_time_append (IsTime z w.end) (change_at w r.span.start ++ change_at w r.span.end) (changes_in w rs)
    (each_time_append (IsTime z w.end) (change_at w r.span.start) (change_at w r.span.end) (change_time (IsTime z w.end) w r.span.start h.0.start) (change_time (IsTime z w.end) w r.span.end h.0.last))
    (changes_time w z rs h.1)

pub turns_time : (w : Watched) (c : SpecCurve) (ps : List ℚ) (h : IsHeld w c) → ps ≡ turns w (stretches w) → EachTime (IsTime h.sizes w.end) ps
turns_time w c ps h e =
    subst (EachTime (IsTime h.sizes w.end)) (sym e)
    (each_time_append (IsTime h.sizes w.end) (ends_of (stretches w)) (changes_in w w.works.items)
    (ends_time w h.sizes (stops w) w.arrivals.items (end_time h.sizes w.end h.limited) (stops_time w c h) h.arrivals.each)
    (changes_time w h.sizes w.works.items h.works.each))

-- ---- the curve
pub operand_to : (w : Watched) (c : SpecCurve) → IsHeld w c → IsOperandTo w.end c
operand_to w c h = record { sizes = h.sizes; limited = h.limited; stands = h.curve }

pub pieces_stand : (w : Watched) (c : SpecCurve) (h : IsHeld w c) → int (pos 0) <ℚ w.end → OperandPieces h.sizes w.end (unroll c w.end)
pieces_stand w c h some = operand_pieces h.sizes w.end c h.is h.limited some h.curve

-- ---- what the search of a stretch asks
pub moves : (w : Watched) (c : SpecCurve) (ps : List ℚ) (qs : List Piece) → IsHeld w c → int (pos 0) <ℚ w.end → ps ≡ turns w (stretches w) → qs ≡ unroll c w.end → TimesFit qs ps
moves w c ps qs h some e f =
    subst (λ (xs : List Piece). TimesFit xs ps) (sym f) (moves_fit h.sizes w.end (unroll c w.end) ps h.limited (pieces_stand w c h some) (turns_time w c ps h e))

pub watched_time : (w : Watched) (c : SpecCurve) (ps : List ℚ) (s : Stretch) (h : IsHeld w c) → int (pos 0) <ℚ w.end → ps ≡ turns w (stretches w) → int (pos 0) ≤ℚ s.start → s.end ≤ℚ w.end
    → (t : ℚ) → Among t (watched_from s (unroll c w.end) ps) → IsTime h.sizes w.end t
watched_time w c ps s h some e low high t k =
    let r = in_watched s (unroll c w.end) ps t k in
    let p = among_time ps (turns_time w c ps h e) r.has in
    let x = start_time h.sizes w.end r.around_it.x (unroll c w.end) (pieces_stand w c h some) r.around_it.start in
    record {
      whole = elim r.around_it.is [
        | inl f ↦ subst (λ y. Whole h.sizes.dt y) (sym f) (whole_add h.sizes.dt r.turn r.around_it.x p.whole x.whole)
        | inr f ↦ subst (λ y. Whole h.sizes.dt y) (sym f) (whole_sub h.sizes.dt r.turn r.around_it.x p.whole x.whole)
      ];
      low = le_trans low r.around_it.from;
      high = le_trans r.around_it.upto high;
    }
  where
    among_time : {p : ℚ} (ps : List ℚ) → EachTime (IsTime h.sizes w.end) ps → Among p ps → IsTime h.sizes w.end p
    among_time [] a k = absurd k
    among_time (q ∷ ps) a k = elim k [ inl is ↦ subst (IsTime h.sizes w.end) (sym is) a.0 | inr l ↦ among_time ps a.1 l ]

pub gaps_fit : (w : Watched) (c : SpecCurve) (qs : List Piece) → IsHeld w c → int (pos 0) <ℚ w.end → qs ≡ unroll c w.end → SegmentsFit (segments qs)
gaps_fit w c qs h some f = subst (λ (xs : List Piece). SegmentsFit (segments xs)) (sym f) (segments_fit h.sizes w.end (unroll c w.end) h.limited (pieces_stand w c h some))

-- ---- and what it is sure of
pub searched : (server : Server) (V : List ServerStep) (w : Watched) (c : SpecCurve) (ps : List ℚ) → IsHeld w c → IsSightOf server w.end V w → MayServe c → int (pos 0) <ℚ w.end → ps ≡ turns w (stretches w) → IsSearched server V w c ps
searched server V w c ps h S M some e = record {
  seen = S;
  serves = M;
  some = some;
  turns_are = record {
    found = λ t k. subst (Among t) (sym e) (turn_found server w.end V w t S k);
    are = λ t k. found_turn server w.end V w t S (subst (Among t) e k);
    in_run = each_time_map (IsTime h.sizes w.end) _ (λ t k. (k.low, k.high)) ps (turns_time w c ps h e);
  };
  starts = (segments_fit h.sizes w.end (unroll c w.end) h.limited (pieces_stand w c h some)).starts;
}

pub no_time : (server : Server) (V : List ServerStep) (w : Watched) (c : SpecCurve) → IsSightOf server w.end V w → w.end ≤ℚ int (pos 0) → (a b : ℚ) → ¬ IsIdle w.end V c a b
no_time server V w c S l a b idle =
    let (u, g, r) = idle.stretch in
    let low = start_low u g (int (pos 0)) (stretches w) (stretches_rise server w.end V w S) (stretch_found server w.end V w u g S r.stretch) in
    lt_irrefl u (lt_le_trans r.stretch.forward (le_trans r.stretch.in_run (le_trans l low)))
  where
    start_low : (u g x : ℚ) (ss : List Stretch) → StretchesRise x ss → HasStretch u g ss → x ≤ℚ u
    start_low u g x [] h m = absurd m
    start_low u g x (q ∷ ss) h m = elim m [ inl is ↦ subst (λ z. x ≤ℚ z) is.0 h.0 | inr n ↦ le_trans h.0 (start_low u g q.start ss h.1 n) ]
