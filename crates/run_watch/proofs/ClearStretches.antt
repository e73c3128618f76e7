-- A stretch whose own turns, and times as far from one as a piece starts, show no short window has no idle one.
use Rattle.std.specs.Prelude.{◌≡◌, false, List, [], ◌∷◌, Option, None, IfSome}
use Rattle.std.proofs.Common.{arith, refl, sym, subst, inl, inr}
use Rattle.rational.specs.Rational.{ℚ, ◌+ℚ◌, ◌-ℚ◌, ◌≤ℚ◌, ◌<ℚ◌}
use Rattle.rational.specs.Extended.{◌<ₑ◌, ◌+ₑ◌}
use Rattle.rational.specs.declared.Extended.TheVariants.{Fin}
use Rattle.rational.proofs.Laws.{le_trans, le_of_lt, le_or_lt, lt_le_trans, lt_irrefl, antisym}
use Rattle.rational.proofs.Linear.{with3, with4, sub_pos}
use Rattle.upp_curve.specs.affine_segment.Pieces.{HasStart}
use Rattle.upp_curve.specs.Curve.{SpecCurve, value_at}
use Rattle.upp_curve.specs.Unrolled.{unroll}
use Rattle.run_laws.specs.Cards.{all, ServerStep}
use Rattle.run_laws.specs.Counts.{worked}
use Rattle.run_laws.specs.Servers.{Server}
use Rattle.flow_watch.specs.watch_laws.Affine.{Among}
use Rattle.flow_watch.specs.watch_laws.Stretches.{IsTurn}
use Rattle.flow_watch.specs.watch_laws.Breaks.{IsBreak}
use Rattle.flow_watch.specs.watch_laws.Windows.{IsPair}
use Rattle.flow_watch.specs.watch_laws.Breaches.{IsIdle}
use Rattle.flow_watch.specs.declared.watch_laws.point.Segment.{Segment}
use Rattle.flow_watch.specs.watch_laws.Segments.{segments}
use Rattle.flow_watch.specs.watch_laws.Reaches.{HasReach}
use Rattle.flow_watch.specs.watch_laws.Shorts.{EachSegment, HasSegment, IsShortBy}
use Rattle.flow_watch.proofs.watch_laws.CurveSegments.{segments_tell, starts_tell}
use Rattle.flow_watch.proofs.watch_laws.UnrolledStarts.{start_before}
use Rattle.run_watch.specs.declared.watched.Watched.{Watched}
use Rattle.run_watch.specs.declared.watched.Stretch.{Stretch}
use Rattle.run_watch.specs.Watching.{HoldsTimes}
use Rattle.run_watch.specs.declared.span.Ramp.{Ramp}
use Rattle.run_watch.specs.WatchTimes.{point_at}
use Rattle.run_watch.specs.NearWindows.{EndsShort}
use Rattle.run_watch.specs.Reaches.{is_beyond}
use Rattle.run_watch.specs.Searches.{segments_near, IsClearStretch, IsCut, IsLookedAt, FindsIn}
use Rattle.run_watch.proofs.FoundTimes.{AreTurns}
use Rattle.run_watch.proofs.IdleIn.{IsSearched, IsPlaced, within, less_seen, placed, none_here}
use Rattle.run_watch.proofs.Reaches.{kept_segment, between_near}
use Rattle.run_watch.proofs.SortedPoints.{has_point_at}

-- a turn of the stretch is one of its own
own_turn : (end : ℚ) (V : List ServerStep) (s : Stretch) (ps own : List ℚ) (t : ℚ) → AreTurns end V ps → HoldsTimes s ps own → IsTurn end V t → s.start ≤ℚ t → t ≤ℚ s.end → Among t own
own_turn end V s ps own t A H turn a b = H.inside t (A.found t turn) a b

-- what holds of each segment holds of one of them
pub each_segment_has : (P : Segment → Type 0) (ss : List Segment) (g : Segment) → EachSegment P ss → HasSegment g ss → P g
each_segment_has P [] g h k = absurd k
each_segment_has P (r ∷ ss) g h k = elim k [ inl e ↦ subst P (sym e) h.0 | inr l ↦ each_segment_has P ss g h.1 l ]

-- the ends of a window as long as a segment's start
after_end : (p q x : ℚ) → x ≡ q -ℚ p → p +ℚ x ≡ q
after_end p q x e = with3 p q x (λ c. omega (arith, c.le, c.lt, c.same))

before_end : (p q x : ℚ) → x ≡ q -ℚ p → q -ℚ x ≡ p
before_end p q x e = with3 p q x (λ c. omega (arith, c.le, c.lt, c.same))

shown_after : (ss : List Segment) (works : List Ramp) (s : Stretch) (own : List ℚ) (p q : ℚ) (g : Segment) → Among p own → HasSegment g ss → g.start ≡ q -ℚ p → q ≤ℚ s.end → IsShortBy g (point_at works p) (point_at works q)
    → EndsShort ss works s own q
shown_after ss works s own p q g m has e l short =
    let same = sym (after_end p q g.start e) in
    inr (
      point_at works p,
      has_point_at works own p m,
      (
        g,
        has,
        inr (
          record {
            inside = subst (λ t. t ≤ℚ s.end) same l;
            short = subst (λ t. IsShortBy g (point_at works p) (point_at works t)) same short;
          },
          same,
        ),
      ),
    )

shown_before : (ss : List Segment) (works : List Ramp) (s : Stretch) (own : List ℚ) (p q : ℚ) (g : Segment) → Among q own → HasSegment g ss → g.start ≡ q -ℚ p → s.start ≤ℚ p → IsShortBy g (point_at works p) (point_at works q)
    → EndsShort ss works s own q
shown_before ss works s own p q g m has e l short =
    let same = sym (before_end p q g.start e) in
    inr (
      point_at works q,
      has_point_at works own q m,
      (
        g,
        has,
        inl (
          record {
            inside = subst (λ t. s.start ≤ℚ t) same l;
            short = subst (λ t. IsShortBy g (point_at works t) (point_at works q)) same short;
          },
          refl,
        ),
      ),
    )

-- a window within a stretch is no longer than it; one as long is the whole stretch

pub no_longer : (p q u e : ℚ) → u ≤ℚ p → q ≤ℚ e → q -ℚ p ≤ℚ e -ℚ u
no_longer p q u e h k = with4 p q u e (λ c. omega (arith, c.le, c.lt, c.same))

at_last : (p q u e : ℚ) → u ≤ℚ p → q ≤ℚ e → e -ℚ u ≤ℚ q -ℚ p → q ≡ e
at_last p q u e h k l = antisym (k, with4 p q u e (λ c. omega (arith, c.le, c.lt, c.same)))

at_first : (p q u e : ℚ) → u ≤ℚ p → q ≤ℚ e → e -ℚ u ≤ℚ q -ℚ p → p ≡ u
at_first p q u e h k l = antisym (with4 p q u e (λ c. omega (arith, c.le, c.lt, c.same)), h)

-- a window that is short between two times of the law is one that the look finds
pair_shows : (server : Server) (V : List ServerStep) (w : Watched) (c : SpecCurve) (ps own : List ℚ) (s : Stretch) (e : ℚ) (reach : Option ℚ) (p q : ℚ) → IsSearched server V w c ps → HoldsTimes s ps own → IsPlaced V w s e → s.start ≤ℚ p → p <ℚ q → q ≤ℚ s.end
    → IsPair (IsTurn w.end V) (IsBreak c) p q → is_beyond reach (q -ℚ p) ≡ false → Fin (worked all V q) <ₑ (Fin (worked all V p) +ₑ value_at c (q -ℚ p)) → EndsShort (segments_near c s reach) w.works.items s own q
pair_shows server V w c ps own s e reach p q S H P low forward high pair near less =
    let I = within V w s e P in
    let works = w.works.items in
    let far = s.end -ℚ s.start in
    let some = sub_pos s.start s.end I.forward in
    let most = no_longer p q s.start s.end low high in
    let n = S.serves.normal in
    let seen = (less_seen server V w (value_at c (q -ℚ p)) p q S.seen).1 less in
    let at = λ (t : ℚ) (turn : IsTurn w.end V t) (x : s.start ≤ℚ t) (y : t ≤ℚ s.end). own_turn w.end V s ps own t S.turns_are H turn x y in
    let at_p = λ (turn : IsTurn w.end V p). at p turn low (le_trans (le_of_lt forward) high) in
    let at_q = λ (turn : IsTurn w.end V q). at q turn (le_trans low (le_of_lt forward)) high in
    let (g0, listed, told) = (segments_tell c far (point_at works p) (point_at works q) S.serves some (le_of_lt forward) most).1 seen in
    let kept : HasSegment g0 (segments_near c s reach) = kept_segment reach (segments (unroll c far)) g0 (q -ℚ p) listed told.from near in
    let both : Among p own → Among q own → EndsShort (segments_near c s reach) works s own q = λ (x : Among p own) (y : Among q own). inl (p, record { from = x; to = y; short = (g0, kept, told) }) in
    let begun = λ (g : ℚ) (start : HasStart (q -ℚ p) (unroll c g)) (m : q -ℚ p <ℚ far). starts_tell c far (point_at works p) (point_at works q) S.serves some (le_of_lt forward) most (start_before c far g (q -ℚ p) n start m) seen in
    elim pair [
      | inl two ↦ both (at_p two.0) (at_q two.1)
      | inr d ↦ elim d [
        | inl one ↦
            let (g, start) = one.1 in
            elim (le_or_lt far (q -ℚ p)) [
              | inr m ↦ let (r, has, is, short) = begun g start m in shown_after (segments_near c s reach) works s own p q r (at_p one.0) (kept_segment reach (segments (unroll c far)) r (q -ℚ p) has short.from near) is high short
              | inl m ↦ both (at_p one.0) (at_q (subst (IsTurn w.end V) (sym (at_last p q s.start s.end low high m)) I.last))
            ]
        | inr one ↦
            let (g, start) = one.1 in
            elim (le_or_lt far (q -ℚ p)) [
              | inr m ↦ let (r, has, is, short) = begun g start m in shown_before (segments_near c s reach) works s own p q r (at_q one.0) (kept_segment reach (segments (unroll c far)) r (q -ℚ p) has short.from near) is low short
              | inl m ↦ both (at_p (subst (IsTurn w.end V) (sym (at_first p q s.start s.end low high m)) I.first)) (at_q one.0)
            ]
      ]
    ]

pub none_clear : (server : Server) (V : List ServerStep) (w : Watched) (c : SpecCurve) (ps own : List ℚ) (s : Stretch) (e : ℚ) → IsSearched server V w c ps → HoldsTimes s ps own → IsPlaced V w s e
    → IsClearStretch w c s own → (a b : ℚ) → IsIdle w.end V c a b → s.start ≤ℚ a → b ≤ℚ s.end → ⊥
none_clear server V w c ps own s e S H P clear a b idle from upto =
    let I = within V w s e P in
    let (reach, R, none) = clear in
    let (p, q, first, forward, last, pair, near, less) = between_near server w.end V c reach s.start s.end a b S.seen.lawful S.serves R I.first I.last from idle.forward upto idle.less in
    none q (pair_shows server V w c ps own s e reach p q S H P first forward last pair near less)

-- where the look finds none that ends before `least`, no window at all that is too short of work ends by a turn before it
pub none_by_cut : (server : Server) (V : List ServerStep) (w : Watched) (c : SpecCurve) (ps own : List ℚ) (s : Stretch) (e : ℚ) (reach : Option ℚ) (least cut a b : ℚ) → IsSearched server V w c ps → HoldsTimes s ps own → IsPlaced V w s e
    → IfSome reach (HasReach c) → ((t : ℚ) → EndsShort (segments_near c s reach) w.works.items s own t → least ≤ℚ t) → IsCut own s.start least cut → s.start ≤ℚ a → a <ℚ b
    → Fin (worked all V b) <ₑ (Fin (worked all V a) +ₑ value_at c (b -ℚ a)) → cut <ℚ b
none_by_cut server V w c ps own s e reach least cut a b S H P R none is from forward less = elim (le_or_lt b cut) [
  | inr m ↦ m
  | inl m ↦ absurd (elim is [
    | inl at ↦ lt_irrefl a (lt_le_trans forward (le_trans (subst (λ x. b ≤ℚ x) at m) from))
    | inr d ↦
        let I = within V w s e P in
        let turn = S.turns_are.are cut (H.are cut d.0) in
        let (p, q, first, after, last, pair, near, short) = between_near server w.end V c reach s.start cut a b S.seen.lawful S.serves R I.first turn from forward m less in
        let high = le_trans last (H.upto cut d.0) in
        lt_irrefl cut (lt_le_trans d.1 (le_trans (none q (pair_shows server V w c ps own s e reach p q S H P first after high pair near short)) last))
  ])
]

-- what the search of a stretch finds: where it finds nothing, the stretch has no idle window
pub none_found : (server : Server) (V : List ServerStep) (w : Watched) (c : SpecCurve) (ps own : List ℚ) (s : Stretch) → IsSearched server V w c ps → IsLookedAt w s own ps
    → FindsIn w c s own ps None → (a b : ℚ) → IsIdle w.end V c a b → s.start ≤ℚ a → b ≤ℚ s.end → ⊥
none_found server V w c ps own s S L none =
    let P = placed server V w s own ps S.seen S.turns_are L in
    elim none [
      | inl clear ↦ none_clear server V w c ps own s L.whole.end S L.holds P clear
      | inr seen ↦ none_here server V w c ps s L.whole.end S P seen
    ]
