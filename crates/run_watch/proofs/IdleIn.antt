-- The short windows of a stretch are its idle windows, and the first of the first stretch that has one is the first of all.
use Rattle.std.specs.Prelude.{◌≡◌, ◌⊎◌, ℕ, zero, suc, ◌+◌, ◌<◌, ◌≤◌, pos, List, [], ◌∷◌, length, take, Option, Some, None}
use Rattle.std.specs.List.{slice_index_or}
use Rattle.std.proofs.Common.{arith, refl, sym, subst, ap, ◌∙◌, inl, inr, add-one}
use Rattle.rational.specs.Rational.{ℚ, int, ◌-ℚ◌, ◌≤ℚ◌, ◌<ℚ◌}
use Rattle.rational.specs.Extended.{Ext, ◌≤ₑ◌, ◌<ₑ◌, ◌+ₑ◌}
use Rattle.rational.specs.declared.Extended.TheVariants.{Fin}
use Rattle.rational.proofs.Laws.{le_refl, le_trans, le_or_lt, le_of_lt, le_lt_trans, antisym}
use Rattle.rational.proofs.Linear.{with2, with3}
use Rattle.upp_curve.specs.Curve.{SpecCurve, value_at}
use Rattle.upp_curve.specs.Unrolled.{unroll}
use Rattle.min_plus.specs.Functions.{zero_q}
use Rattle.run_laws.specs.Cards.{all, ServerStep}
use Rattle.run_laws.specs.Servers.{Server}
use Rattle.run_laws.specs.Counts.{worked}
use Rattle.flow_watch.specs.watch_laws.Breaches.{IsIdle}
use Rattle.flow_watch.specs.watch_laws.Laws.{MayServe}
use Rattle.flow_watch.specs.watch_laws.Shorts.{EachSegment, IsPastEnd}
use Rattle.flow_watch.specs.watch_laws.Segments.{segments}
use Rattle.flow_watch.specs.watch_laws.Stretches.{IsStretch, IsTurn}
use Rattle.flow_watch.proofs.watch_laws.CurveSegments.{segments_tell}
use Rattle.flow_watch.proofs.watch_laws.Idle.{below_number}
use Rattle.run_watch.specs.declared.watched.Watched.{Watched}
use Rattle.run_watch.specs.declared.watched.Stretch.{Stretch}
use Rattle.run_watch.specs.Watching.{stretches}
use Rattle.run_watch.specs.WatchTimes.{watched_from, point_at}
use Rattle.run_watch.specs.IdleWindows.{IsShortWindow, NoneIsShort, IsFirstShort}
use Rattle.run_watch.specs.Held.{IsSightOf, IsFirstIdle, FindsIdle}
use Rattle.run_watch.specs.Searches.{IsLookedAt}
use Rattle.run_watch.proofs.SortedPoints.{ordered}
use Rattle.run_watch.proofs.FoundStretches.{HasStretch, StretchesRise, stretch_found, found_stretch, stretches_rise}
use Rattle.run_watch.proofs.FoundTimes.{AreTurns, IsWithin, watched_found, found_watched}

-- what is known while the stretches are gone through
pub record IsSearched (server : Server) (V : List ServerStep) (w : Watched) (c : SpecCurve) (ps : List ℚ) : Type 0 where
  pub seen : IsSightOf server w.end V w
  pub serves : MayServe c
  pub some : int (pos 0) <ℚ w.end
  pub turns_are : AreTurns w.end V ps
  pub starts : EachSegment (λ s. int (pos 0) ≤ℚ s.start) (segments (unroll c w.end))

-- a stretch that ends at e, as far as one of its turns
pub record IsPlaced (V : List ServerStep) (w : Watched) (s : Stretch) (e : ℚ) : Type 0 where
  pub is : IsStretch w.end V s.start e
  pub low : int (pos 0) ≤ℚ s.start
  pub forward : s.start <ℚ s.end
  pub inside : s.end ≤ℚ e
  pub turn : IsTurn w.end V s.end

pub within : (V : List ServerStep) (w : Watched) (s : Stretch) (e : ℚ) → IsPlaced V w s e → IsWithin w.end V s
within V w s e P = record { first = inl (e, P.is); last = P.turn; low = P.low; forward = P.forward; high = le_trans P.inside P.is.in_run }

-- ---- one stretch
pub less_seen : (server : Server) (V : List ServerStep) (w : Watched) (x : Ext) (a b : ℚ) → IsSightOf server w.end V w
    → ((Fin (point_at w.works.items b).work <ₑ (Fin (point_at w.works.items a).work +ₑ x)) → Fin (worked all V b) <ₑ (Fin (worked all V a) +ₑ x))
    × ((Fin (worked all V b) <ₑ (Fin (worked all V a) +ₑ x)) → Fin (point_at w.works.items b).work <ₑ (Fin (point_at w.works.items a).work +ₑ x))
less_seen server V w x a b S = (
  λ h. subst (λ y. Fin y <ₑ (Fin (worked all V a) +ₑ x)) (S.worked_is b) (subst (λ y. Fin (point_at w.works.items b).work <ₑ (Fin y +ₑ x)) (S.worked_is a) h),
  λ h. subst (λ y. Fin y <ₑ (Fin (point_at w.works.items a).work +ₑ x)) (sym (S.worked_is b)) (subst (λ y. Fin (worked all V b) <ₑ (Fin y +ₑ x)) (sym (S.worked_is a)) h),
)

pub short_from : (a b end u e : ℚ) → int (pos 0) ≤ℚ u → u ≤ℚ a → b ≤ℚ e → e ≤ℚ end → b -ℚ a ≤ℚ end
short_from a b end u e h k l m = let lo = le_trans h k in let hi = le_trans l m in with3 a b end (λ w. omega (arith, w.le, w.lt, w.same))

pub idle_is_short : (server : Server) (V : List ServerStep) (w : Watched) (c : SpecCurve) (ps : List ℚ) (s : Stretch) (e a b : ℚ) → IsSearched server V w c ps → IsPlaced V w s e
    → IsIdle w.end V c a b → s.start ≤ℚ a → b ≤ℚ s.end → IsShortWindow (segments (unroll c w.end)) w.works.items (watched_from s (unroll c w.end) ps) a b
idle_is_short server V w c ps s e a b S P idle from upto =
    let I = within V w s e P in
    let long = short_from a b w.end s.start s.end P.low from upto I.high in
    record {
      from = watched_found w.end V c s ps a S.some S.serves.normal S.turns_are I idle.first from (le_trans (le_of_lt idle.forward) upto);
      to = watched_found w.end V c s ps b S.some S.serves.normal S.turns_are I idle.last (le_trans from (le_of_lt idle.forward)) upto;
      short = (segments_tell c w.end (point_at w.works.items a) (point_at w.works.items b) S.serves S.some (le_of_lt idle.forward) long).1 ((less_seen server V w (value_at c (b -ℚ a)) a b S.seen).1 idle.less);
    }

pub not_at_once : (c : SpecCurve) (x d : ℚ) → MayServe c → d ≡ int (pos 0) → Fin x <ₑ (Fin x +ₑ value_at c d) → ⊥
not_at_once c x d M e h =
    let (v, is) = M.finite zero_q (le_refl zero_q) in
    let at : value_at c d ≡ Fin v = ap (value_at c) e ∙ is in
    let none : v ≤ℚ int (pos 0) = subst (λ y. y ≤ₑ Fin (int (pos 0))) is M.at_zero in
    let more = below_number x x (value_at c d) v at h in
    with2 x v (λ w. omega (arith, w.le, w.lt, w.same))

pub short_is_idle : (server : Server) (V : List ServerStep) (w : Watched) (c : SpecCurve) (ps : List ℚ) (s : Stretch) (e a b : ℚ) → IsSearched server V w c ps → IsPlaced V w s e
    → IsShortWindow (segments (unroll c w.end)) w.works.items (watched_from s (unroll c w.end) ps) a b → IsIdle w.end V c a b
short_is_idle server V w c ps s e a b S P is =
    let fa = found_watched w.end V c s ps a S.turns_are is.from in
    let fb = found_watched w.end V c s ps b S.turns_are is.to in
    let order = ordered (segments (unroll c w.end)) (point_at w.works.items a) (point_at w.works.items b) S.starts is.short in
    let long = short_from a b w.end s.start s.end P.low fa.from fb.upto (within V w s e P).high in
    let less = (less_seen server V w (value_at c (b -ℚ a)) a b S.seen).0 ((segments_tell c w.end (point_at w.works.items a) (point_at w.works.items b) S.serves S.some order long).0 is.short) in
    record {
      first = fa.watch;
      last = fb.watch;
      forward = elim (le_or_lt b a) [
        | inr l ↦ l
        | inl l ↦
            let same : a ≡ b = antisym (order, l) in
            absurd (not_at_once c (worked all V b) (b -ℚ a) S.serves (nothing a b same) (subst (λ t. Fin (worked all V b) <ₑ (Fin (worked all V t) +ₑ value_at c (b -ℚ a))) same less))
      ];
      stretch = (s.start, e, record { stretch = P.is; first = fa.from; last = le_trans fb.upto P.inside });
      less = less;
    }
  where
    nothing : (a b : ℚ) → a ≡ b → b -ℚ a ≡ int (pos 0)
    nothing a b e = with2 a b (λ w. omega (arith, w.le, w.lt, w.same))

-- ---- the stretches one after another
-- no idle window in any of these
abbrev pub NoneIdleIn : ℚ → List ServerStep → SpecCurve → List Stretch → Type 0
NoneIdleIn end V c ss = (u e a b : ℚ) → HasStretch u e ss → IsIdle end V c a b → u ≤ℚ a → b ≤ℚ e → ⊥

pub none_idle_more : (end : ℚ) (V : List ServerStep) (c : SpecCurve) (ss : List Stretch) (k : ℕ) (s : Stretch) → k < length ss → s ≡ slice_index_or ss k s → NoneIdleIn end V c (take k ss)
    → ((a b : ℚ) → IsIdle end V c a b → s.start ≤ℚ a → b ≤ℚ s.end → ⊥) → NoneIdleIn end V c (take (k + 1) ss)
none_idle_more end V c ss k s l e none here = rw add-one (λ u f a b has idle from upto. elim (split u f ss k l e has) [
  | inl h ↦ none u f a b h idle from upto
  | inr h ↦ here a b idle (subst (λ x. x ≤ℚ a) (sym h.0) from) (subst (λ x. b ≤ℚ x) (sym h.1) upto)
])
  where
    split : (u f : ℚ) (ss : List Stretch) (k : ℕ) → k < length ss → s ≡ slice_index_or ss k s → HasStretch u f (take (suc k) ss) → HasStretch u f (take k ss) ⊎ ((s.start ≡ u) × (s.end ≡ f))
    split u f [] k l e h = absurd h
    split u f (q ∷ ss) zero l e h = elim h [
      | inl is ↦ inr (subst (λ (r : Stretch). (r.start ≡ u) × (r.end ≡ f)) (sym e) is)
      | inr m ↦ absurd m
    ]
    split u f (q ∷ ss) (suc k) l e h = elim h [
      | inl is ↦ inl (inl is)
      | inr m ↦ elim (split u f ss k (omega arith) e m) [ inl n ↦ inl (inr n) | inr n ↦ inr n ]
    ]

-- a stretch is one of those before the k-th, or begins no earlier than it
before_or_later : (x u f : ℚ) (ss : List Stretch) (k : ℕ) (s : Stretch) → StretchesRise x ss → k < length ss → s ≡ slice_index_or ss k s → HasStretch u f ss → HasStretch u f (take k ss) ⊎ (s.start ≤ℚ u)
before_or_later x u f [] k s h l e has = absurd has
before_or_later x u f (q ∷ ss) zero s h l e has = elim has [
  | inl is ↦ inr (subst (λ (r : Stretch). r.start ≤ℚ u) (sym e) (subst (λ y. q.start ≤ℚ y) is.0 (le_refl q.start)))
  | inr m ↦ inr (subst (λ (r : Stretch). r.start ≤ℚ u) (sym e) (rest q.start ss h.1 m))
]
  where
    rest : (y : ℚ) (ss : List Stretch) → StretchesRise y ss → HasStretch u f ss → y ≤ℚ u
    rest y [] h m = absurd m
    rest y (r ∷ ss) h m = elim m [ inl is ↦ subst (λ z. y ≤ℚ z) is.0 h.0 | inr n ↦ le_trans h.0 (rest r.start ss h.1 n) ]
before_or_later x u f (q ∷ ss) (suc k) s h l e has = elim has [
  | inl is ↦ inl (inl is)
  | inr m ↦ elim (before_or_later q.start u f ss k s h.1 (omega arith) e m) [ inl n ↦ inl (inr n) | inr n ↦ inr n ]
]

pub has_at : (ss : List Stretch) (k : ℕ) (s : Stretch) → k < length ss → s ≡ slice_index_or ss k s → HasStretch s.start s.end ss
has_at [] k s l e = absurd (omega arith)
has_at (q ∷ ss) zero s l e = inl (ap (λ (r : Stretch). r.start) (sym e), ap (λ (r : Stretch). r.end) (sym e))
has_at (q ∷ ss) (suc k) s l e = inr (has_at ss k s (omega arith) e)

start_low : (x u f : ℚ) (ss : List Stretch) → StretchesRise x ss → HasStretch u f ss → x ≤ℚ u
start_low x u f [] h m = absurd m
start_low x u f (r ∷ ss) h m = elim m [ inl is ↦ subst (λ z. x ≤ℚ z) is.0 h.0 | inr n ↦ le_trans h.0 (start_low r.start u f ss h.1 n) ]

pub placed : (server : Server) (V : List ServerStep) (w : Watched) (s : Stretch) (own ps : List ℚ) → IsSightOf server w.end V w → AreTurns w.end V ps → (L : IsLookedAt w s own ps) → IsPlaced V w s L.whole.end
placed server V w s own ps S A L =
    let r = L.whole in
    let has = has_at (stretches w) L.number r L.in_range L.is in
    let it = found_stretch server w.end V w r.start r.end S has in
    record {
      is = subst (λ x. IsStretch w.end V x r.end) (sym L.start) it;
      low = subst (λ x. int (pos 0) ≤ℚ x) (sym L.start) (start_low (int (pos 0)) r.start r.end (stretches w) (stretches_rise server w.end V w S) has);
      forward = L.forward;
      inside = L.inside;
      turn = elim L.turn [ inl e ↦ subst (IsTurn w.end V) (sym e) (inr (inl (r.start, it))) | inr m ↦ A.are s.end m ];
    }

pub none_here : (server : Server) (V : List ServerStep) (w : Watched) (c : SpecCurve) (ps : List ℚ) (s : Stretch) (e : ℚ) → IsSearched server V w c ps → IsPlaced V w s e
    → NoneIsShort (segments (unroll c w.end)) w.works.items (watched_from s (unroll c w.end) ps) → (a b : ℚ) → IsIdle w.end V c a b → s.start ≤ℚ a → b ≤ℚ s.end → ⊥
none_here server V w c ps s e S P none a b idle from upto = none a b (idle_is_short server V w c ps s e a b S P idle from upto)

-- an idle window that is in none of the stretches before the k-th begins no earlier than it
record IsFrom (s : Stretch) (a b : ℚ) : Type 0 where
  later : s.start ≤ℚ a
  forward : a <ℚ b

from_here : (server : Server) (V : List ServerStep) (w : Watched) (c : SpecCurve) (ss : List Stretch) (k : ℕ) (s : Stretch) (a b : ℚ) → IsSightOf server w.end V w → ss ≡ stretches w → k < length ss → s ≡ slice_index_or ss k s
    → NoneIdleIn w.end V c (take k ss) → IsIdle w.end V c a b → IsFrom s a b
from_here server V w c ss k s a b S same l e none idle =
    let (u, g, r) = idle.stretch in
    let has = stretch_found server w.end V w u g S r.stretch in
    let rise = stretches_rise server w.end V w S in
    elim (before_or_later (int (pos 0)) u g ss k s (subst (StretchesRise (int (pos 0))) (sym same) rise) l e (subst (HasStretch u g) (sym same) has)) [
      | inl h ↦ absurd (none u g a b h idle r.first r.last)
      | inr h ↦ record { later = le_trans h r.first; forward = idle.forward }
    ]

pub first_here : (server : Server) (V : List ServerStep) (w : Watched) (c : SpecCurve) (ps own : List ℚ) (ss : List Stretch) (k : ℕ) (r s : Stretch) (a b : ℚ) → IsSearched server V w c ps → ss ≡ stretches w → k < length ss
    → r ≡ slice_index_or ss k r → s.start ≡ r.start → NoneIdleIn w.end V c (take k ss) → IsLookedAt w s own ps → IsFirstShort (segments (unroll c w.end)) w.works.items (watched_from s (unroll c w.end) ps) a b
    → IsFirstIdle w.end V c a b
first_here server V w c ps own ss k r s a b S same l e begun none L f =
    let P = placed server V w s own ps S.seen S.turns_are L in
    let fb = found_watched w.end V c s ps b S.turns_are f.is.to in
    record {
      is = short_is_idle server V w c ps s L.whole.end a b S P f.is;
      least = λ x y idle.
          let it = from_here server V w c ss k r x y S.seen same l e none idle in
          elim (le_or_lt y s.end) [
            | inr m ↦ inl (le_lt_trans fb.upto m)
            | inl m ↦ f.least x y (idle_is_short server V w c ps s L.whole.end x y S P idle (subst (λ z. z ≤ℚ x) (sym begun) it.later) m)
          ];
    }

-- ---- what ends late
pub late_on : (until : Option ℚ) (s t : ℚ) → IsPastEnd until s → s ≤ℚ t → IsPastEnd until t
late_on None s t h l = h
late_on (Some end) s t h l = le_trans h l

pub late_after : (until : Option ℚ) (s t : ℚ) → ¬ IsPastEnd until s → IsPastEnd until t → s <ℚ t
late_after None s t n h = absurd h
late_after (Some end) s t n h = elim (le_or_lt t s) [ inl m ↦ absurd (n (le_trans h m)) | inr m ↦ m ]

-- where the k-th stretch begins late, all that is left ends late
pub late_from : (server : Server) (V : List ServerStep) (w : Watched) (c : SpecCurve) (until : Option ℚ) (ss : List Stretch) (k : ℕ) (s : Stretch) → IsSightOf server w.end V w → ss ≡ stretches w → k < length ss → s ≡ slice_index_or ss k s
    → NoneIdleIn w.end V c (take k ss) → IsPastEnd until s.start → FindsIdle until w.end V c None
late_from server V w c until ss k s S same l e none late a b idle =
    let it = from_here server V w c ss k s a b S same l e none idle in
    late_on until s.start b late (le_trans it.later (le_of_lt it.forward))

-- so where a part of it ends late and has none
pub late_rest : (server : Server) (V : List ServerStep) (w : Watched) (c : SpecCurve) (until : Option ℚ) (ss : List Stretch) (k : ℕ) (s part : Stretch) → IsSightOf server w.end V w → ss ≡ stretches w → k < length ss
    → s ≡ slice_index_or ss k s → NoneIdleIn w.end V c (take k ss) → part.start ≡ s.start → ((a b : ℚ) → IsIdle w.end V c a b → part.start ≤ℚ a → b ≤ℚ part.end → ⊥) → IsPastEnd until part.end
    → FindsIdle until w.end V c None
late_rest server V w c until ss k s part S same l e none begun here late a b idle =
    let it = from_here server V w c ss k s a b S same l e none idle in
    elim (le_or_lt b part.end) [
      | inl m ↦ absurd (here a b idle (subst (λ z. z ≤ℚ a) (sym begun) it.later) m)
      | inr m ↦ late_on until part.end b late (le_of_lt m)
    ]

pub none_at_all : (server : Server) (V : List ServerStep) (w : Watched) (c : SpecCurve) (ss : List Stretch) (k : ℕ) → IsSightOf server w.end V w → ss ≡ stretches w → length ss ≤ k → NoneIdleIn w.end V c (take k ss)
    → (a b : ℚ) → ¬ IsIdle w.end V c a b
none_at_all server V w c ss k S same l none a b idle =
    let (u, g, r) = idle.stretch in
    let has = subst (HasStretch u g) (sym (taken ss k l)) (subst (HasStretch u g) (sym same) (stretch_found server w.end V w u g S r.stretch)) in
    none u g a b has idle r.first r.last
  where
    taken : (ss : List Stretch) (k : ℕ) → length ss ≤ k → take k ss ≡ ss
    taken [] zero h = refl
    taken [] (suc k) h = refl
    taken (q ∷ ss) zero h = absurd (omega arith)
    taken (q ∷ ss) (suc k) h = ap (λ (rs : List Stretch). q ∷ rs) (taken ss k (omega arith))
