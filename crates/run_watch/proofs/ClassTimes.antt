-- Of turns that are whole periods apart the first moved on and the last moved back come to all that the others are moved to.
use Rattle.std.specs.Prelude.{◌≡◌, ◌⊎◌, ℕ, zero, suc, ◌+◌, ◌<◌, ◌≤◌, pos, List, [], ◌∷◌, ◌++◌, length, take, Option, Some, None, IfSome}
use Rattle.std.specs.List.{slice_index_or}
use Rattle.std.proofs.Common.{arith, add-one, refl, sym, subst, ap, ◌∙◌, inl, inr}
use Rattle.rational.specs.Rational.{ℚ, int, ◌+ℚ◌, ◌-ℚ◌, ◌*ℚ◌, ◌/ℚ◌, ◌≤ℚ◌, ◌<ℚ◌}
use Rattle.rational.specs.Whole.{whole_part}
use Rattle.rational.proofs.Laws.{div_mul, not_zero}
use Rattle.rational.proofs.Linear.{with_atoms}
use Rattle.upp_curve.specs.declared.affine_segment.line.Piece.{Piece}
use Rattle.upp_curve.specs.affine_segment.Pieces.{Each, HasStart}
use Rattle.flow_watch.specs.watch_laws.Affine.{Among}
use Rattle.run_watch.specs.declared.classes.Side.{Side}
use Rattle.run_watch.specs.declared.classes.Side.TheVariants.{Later, Earlier}
use Rattle.run_watch.specs.declared.watched.Stretch.{Stretch}
use Rattle.run_watch.specs.Classes.{moved, moves_of, all_moves, IsPeriodsAfter, Leads, IsLed, AddsLed, AreLeads, AreLeadsBy, Recurs}
use Rattle.run_watch.specs.WatchTimes.{inside, around, watched_from, HaveSameTimes, AroundFits, TimesFit}
use Rattle.run_watch.proofs.FoundTimes.{inside_in, in_inside, around_after, around_before, watched_in, in_watched}
use Rattle.run_watch.proofs.SortedPoints.{each_time_from, each_time_among, among_at}
use Rattle.run_watch.proofs.FoundTurns.{among_left, among_right, among_parts}

-- ---- moves
moves_in : (side : Side) (s : Stretch) (p x : ℚ) (qs : List Piece) → HasStart x qs → s.start ≤ℚ moved side p x → moved side p x ≤ℚ s.end → Among (moved side p x) (moves_of side s p qs)
moves_in side s p x [] h a b = absurd h
moves_in side s p x (q ∷ qs) h a b = elim h [
  | inl e ↦ among_left (moved side p x) (inside s (moved side p q.x)) (moves_of side s p qs) (subst (λ y. Among (moved side p x) (inside s (moved side p y))) (sym e) (inside_in s (moved side p x) a b))
  | inr k ↦ among_right (moved side p x) (inside s (moved side p q.x)) (moves_of side s p qs) (moves_in side s p x qs k a b)
]

record IsMove (side : Side) (s : Stretch) (p t : ℚ) (qs : List Piece) : Type 0 where
  x : ℚ
  start : HasStart x qs
  is : t ≡ moved side p x
  from : s.start ≤ℚ t
  upto : t ≤ℚ s.end

in_moves : (side : Side) (s : Stretch) (p t : ℚ) (qs : List Piece) → Among t (moves_of side s p qs) → IsMove side s p t qs
in_moves side s p t [] h = absurd h
in_moves side s p t (q ∷ qs) h = elim (among_parts t (inside s (moved side p q.x)) (moves_of side s p qs) h) [
  | inl k ↦ let r = in_inside s t (moved side p q.x) k in record { x = q.x; start = inl refl; is = r.is; from = r.from; upto = r.upto }
  | inr k ↦ let r = in_moves side s p t qs k in record { x = r.x; start = inr r.start; is = r.is; from = r.from; upto = r.upto }
]

all_moves_in : (side : Side) (s : Stretch) (qs : List Piece) (ps : List ℚ) (p t : ℚ) → Among p ps → Among t (moves_of side s p qs) → Among t (all_moves side s qs ps)
all_moves_in side s qs [] p t h k = absurd h
all_moves_in side s qs (q ∷ ps) p t h k = elim h [
  | inl e ↦ among_left t (moves_of side s q qs) (all_moves side s qs ps) (subst (λ x. Among t (moves_of side s x qs)) e k)
  | inr l ↦ among_right t (moves_of side s q qs) (all_moves side s qs ps) (all_moves_in side s qs ps p t l k)
]

record IsMoveOf (side : Side) (s : Stretch) (qs : List Piece) (ps : List ℚ) (t : ℚ) : Type 0 where
  turn : ℚ
  has : Among turn ps
  move : IsMove side s turn t qs

in_all_moves : (side : Side) (s : Stretch) (qs : List Piece) (ps : List ℚ) (t : ℚ) → Among t (all_moves side s qs ps) → IsMoveOf side s qs ps t
in_all_moves side s qs [] t h = absurd h
in_all_moves side s qs (p ∷ ps) t h = elim (among_parts t (moves_of side s p qs) (all_moves side s qs ps) h) [
  | inl k ↦ record { turn = p; has = inl refl; move = in_moves side s p t qs k }
  | inr k ↦ let r = in_all_moves side s qs ps t k in record { turn = r.turn; has = inr r.has; move = r.move }
]

-- a move of a turn is a watch point
watched_move : (side : Side) (s : Stretch) (qs : List Piece) (ps : List ℚ) (p t : ℚ) → Among p ps → IsMove side s p t qs → Among t (watched_from s qs ps)
watched_move Later s qs ps p t h m =
    watched_in s qs ps p t h (subst (λ y. Among y (around s p qs)) (sym m.is) (around_after s p m.x qs m.start (subst (λ y. s.start ≤ℚ y) m.is m.from) (subst (λ y. y ≤ℚ s.end) m.is m.upto)))
watched_move Earlier s qs ps p t h m =
    watched_in s qs ps p t h (subst (λ y. Among y (around s p qs)) (sym m.is) (around_before s p m.x qs m.start (subst (λ y. s.start ≤ℚ y) m.is m.from) (subst (λ y. y ≤ℚ s.end) m.is m.upto)))

-- ---- what one leads
led_move : (side : Side) (s : Stretch) (qs : List Piece) (ls : List ℚ) (end period l p x : ℚ) → Recurs end s qs period → Among l ls → HasStart x qs → Leads side end period l p → s.start ≤ℚ moved side p x → moved side p x ≤ℚ s.end
    → Among (moved side p x) (all_moves side s qs ls)
led_move Later s qs ls end period l p x R has start lead from upto =
    let (n, at) = lead.0 in
    let late = lead.1 in
    let by = int (pos n) *ℚ period in
    let last = s.end in
    let high = R.high in
    let same : l +ℚ (x +ℚ by) ≡ p +ℚ x = with_atoms (l ∷ x ∷ by ∷ p ∷ []) (λ c. omega (arith, c.le, c.lt, c.same)) in
    let early : x +ℚ by <ℚ end = with_atoms (l ∷ x ∷ by ∷ p ∷ last ∷ end ∷ []) (λ c. omega (arith, c.le, c.lt, c.same)) in
    subst (λ y. Among y (all_moves Later s qs ls)) same
    (all_moves_in Later s qs ls l (l +ℚ (x +ℚ by)) has
    (moves_in Later s l (x +ℚ by) qs (R.on x n start early) (subst (λ y. s.start ≤ℚ y) (sym same) from) (subst (λ y. y ≤ℚ s.end) (sym same) upto)))
led_move Earlier s qs ls end period l p x R has start lead from upto =
    let (n, at) = lead.0 in
    let soon = lead.1 in
    let by = int (pos n) *ℚ period in
    let first = s.start in
    let low = R.low in
    let same : l -ℚ (x +ℚ by) ≡ p -ℚ x = with_atoms (l ∷ x ∷ by ∷ p ∷ []) (λ c. omega (arith, c.le, c.lt, c.same)) in
    let early : x +ℚ by <ℚ end = with_atoms (l ∷ x ∷ by ∷ p ∷ first ∷ end ∷ []) (λ c. omega (arith, c.le, c.lt, c.same)) in
    subst (λ y. Among y (all_moves Earlier s qs ls)) same
    (all_moves_in Earlier s qs ls l (l -ℚ (x +ℚ by)) has
    (moves_in Earlier s l (x +ℚ by) qs (R.on x n start early) (subst (λ y. s.start ≤ℚ y) (sym same) from) (subst (λ y. y ≤ℚ s.end) (sym same) upto)))

reached : (side : Side) (s : Stretch) (qs : List Piece) (ts ls : List ℚ) (cycle : Option ℚ) (end p x : ℚ) → IfSome cycle (Recurs end s qs) → AreLeadsBy side end cycle ts ls → Among p ts → HasStart x qs
    → s.start ≤ℚ moved side p x → moved side p x ≤ℚ s.end → Among (moved side p x) (all_moves side s qs ls)
reached side s qs ts ls None end p x R A has start from upto =
    all_moves_in side s qs ls p (moved side p x) (subst (Among p) (sym A) has) (moves_in side s p x qs start from upto)
reached side s qs ts ls (Some period) end p x R A has start from upto =
    let L = A.led p has in
    elim L.is [
      | inl e ↦ all_moves_in side s qs ls p (moved side p x) (subst (λ y. Among y ls) e L.has) (moves_in side s p x qs start from upto)
      | inr lead ↦ led_move side s qs ls end period L.by p x R L.has start lead from upto
    ]

are_turns : (side : Side) (ts ls : List ℚ) (cycle : Option ℚ) (end t : ℚ) → AreLeadsBy side end cycle ts ls → Among t ls → Among t ts
are_turns side ts ls None end t A h = subst (Among t) A h
are_turns side ts ls (Some period) end t A h = A.are t h

-- what fits for all of them
pub fit_leads : (side : Side) (qs : List Piece) (ts ls xs : List ℚ) (cycle : Option ℚ) (end : ℚ) → AreLeadsBy side end cycle ts ls → xs ≡ ls → TimesFit qs ts → TimesFit qs xs
fit_leads side qs ts ls xs cycle end A e h =
    subst (TimesFit qs) (sym e) (each_time_from (λ p. Each (λ q. AroundFits p q.x) qs) ls (λ t m. each_time_among (λ p. Each (λ q. AroundFits p q.x) qs) ts t h (are_turns side ts ls cycle end t A m)))

pub watched_moves : (s : Stretch) (qs : List Piece) (ts later earlier : List ℚ) (cycle : Option ℚ) (end : ℚ) → IfSome cycle (Recurs end s qs) → AreLeadsBy Later end cycle ts later → AreLeadsBy Earlier end cycle ts earlier
    → HaveSameTimes (watched_from s qs ts) (all_moves Later s qs later ++ all_moves Earlier s qs earlier)
watched_moves s qs ts later earlier cycle end R A B = record {
  into = λ t h.
      let r = in_watched s qs ts t h in
      let x = r.around_it.x in
      let from = r.around_it.from in
      let upto = r.around_it.upto in
      elim r.around_it.is [
        | inl e ↦ among_left t (all_moves Later s qs later) (all_moves Earlier s qs earlier)
            (subst (λ y. Among y (all_moves Later s qs later)) (sym e) (reached Later s qs ts later cycle end r.turn x R A r.has r.around_it.start (subst (λ y. s.start ≤ℚ y) e from) (subst (λ y. y ≤ℚ s.end) e upto)))
        | inr e ↦ among_right t (all_moves Later s qs later) (all_moves Earlier s qs earlier)
            (subst (λ y. Among y (all_moves Earlier s qs earlier)) (sym e) (reached Earlier s qs ts earlier cycle end r.turn x R B r.has r.around_it.start (subst (λ y. s.start ≤ℚ y) e from) (subst (λ y. y ≤ℚ s.end) e upto)))
      ];
  back = λ t h. elim (among_parts t (all_moves Later s qs later) (all_moves Earlier s qs earlier) h) [
    | inl k ↦ let r = in_all_moves Later s qs later t k in watched_move Later s qs ts r.turn t (are_turns Later ts later cycle end r.turn A r.has) r.move
    | inr k ↦ let r = in_all_moves Earlier s qs earlier t k in watched_move Earlier s qs ts r.turn t (are_turns Earlier ts earlier cycle end r.turn B r.has) r.move
  ];
}

-- ---- step by step
-- a gap that is a whole number of periods
pub periods_seen : (u t period gap count whole : ℚ) → int (pos 0) <ℚ period → gap ≡ t -ℚ u → count ≡ gap /ℚ period → whole ≡ int (pos (whole_part count)) → whole ≡ count → IsPeriodsAfter period u t
periods_seen u t period gap count whole some g q w e =
    let n = whole_part count in
    let is : int (pos n) ≡ gap /ℚ period = sym w ∙ e ∙ q in
    let by : int (pos n) *ℚ period ≡ gap = ap (λ x. x *ℚ period) is ∙ div_mul gap period (not_zero period some) in
    let m = int (pos n) *ℚ period in
    (n, with_atoms (u ∷ t ∷ gap ∷ m ∷ []) (λ c. omega (arith, c.le, c.lt, c.same)))

pub led_by : (side : Side) (end period : ℚ) (ls : List ℚ) (k : ℕ) (l t : ℚ) → k < length ls → l ≡ slice_index_or ls k l → Leads side end period l t → IsLed side end period ls t
led_by side end period ls k l t inside at lead = record { by = l; has = among_at ls k l inside at; is = inr lead }

led_kept : (side : Side) (end period : ℚ) (had now : List ℚ) (t : ℚ) → ((u : ℚ) → Among u had → Among u now) → IsLed side end period had t → IsLed side end period now t
led_kept side end period had now t f L = record { by = L.by; has = f L.by L.has; is = L.is }

pub led_now : (side : Side) (end period : ℚ) (had : List ℚ) (t : ℚ) → IsLed side end period had t → AddsLed side end period had t had
led_now side end period had t L = record { kept = λ u h. h; are = λ u h. inl h; led = L }

pub led_pushed : (side : Side) (end period : ℚ) (had now : List ℚ) (t : ℚ) → now ≡ had ++ (t ∷ []) → AddsLed side end period had t now
led_pushed side end period had now t e = subst (AddsLed side end period had t) (sym e) record {
  kept = λ u h. among_left u had (t ∷ []) h;
  are = λ u h. elim (among_parts u had (t ∷ []) h) [ inl k ↦ inl k | inr k ↦ elim k [ inl is ↦ inr is | inr l ↦ absurd l ] ];
  led = record { by = t; has = among_right t had (t ∷ []) (inl refl); is = inl refl };
}

-- those of the first times are led by what has been found
pub record AreLed (side : Side) (end period : ℚ) (ts ls : List ℚ) (k : ℕ) : Type 0 where
  pub are : (t : ℚ) → Among t ls → Among t ts
  pub led : (t : ℚ) → Among t (take k ts) → IsLed side end period ls t

taken_more : (ts : List ℚ) (k : ℕ) (t u : ℚ) → k < length ts → t ≡ slice_index_or ts k t → Among u (take (suc k) ts) → Among u (take k ts) ⊎ (u ≡ t)
taken_more [] k t u l e h = absurd h
taken_more (x ∷ ts) zero t u l e h = elim h [ inl is ↦ inr (subst (λ y. u ≡ y) (sym e) is) | inr k ↦ absurd k ]
taken_more (x ∷ ts) (suc k) t u l e h = elim h [
  | inl is ↦ inl (inl is)
  | inr m ↦ elim (taken_more ts k t u (omega arith) e m) [ inl n ↦ inl (inr n) | inr n ↦ inr n ]
]

taken_all : (ts : List ℚ) (k : ℕ) (u : ℚ) → length ts ≤ k → Among u ts → Among u (take k ts)
taken_all [] k u l h = absurd h
taken_all (x ∷ ts) zero u l h = absurd (omega arith)
taken_all (x ∷ ts) (suc k) u l h = elim h [ inl e ↦ inl e | inr m ↦ inr (taken_all ts k u (omega arith) m) ]

pub none_led : (side : Side) (end period : ℚ) (ts ls : List ℚ) → ls ≡ [] → AreLed side end period ts ls 0
none_led side end period ts ls e = subst (λ (xs : List ℚ). AreLed side end period ts xs 0) (sym e) record { are = λ t h. absurd h; led = λ t h. absurd h }

pub one_led : (side : Side) (end period : ℚ) (ts had now : List ℚ) (k : ℕ) (t : ℚ) → k < length ts → t ≡ slice_index_or ts k t → AddsLed side end period had t now → AreLed side end period ts had k → AreLed side end period ts now (k + 1)
one_led side end period ts had now k t l e A h = rw add-one record {
  are = λ u m. elim (A.are u m) [ inl n ↦ h.are u n | inr is ↦ subst (λ y. Among y ts) (sym is) (among_at ts k t l e) ];
  led = λ u m. elim (taken_more ts k t u l e m) [
    | inl n ↦ led_kept side end period had now u A.kept (h.led u n)
    | inr is ↦ subst (IsLed side end period now) (sym is) A.led
  ];
}

pub all_led : (side : Side) (end period : ℚ) (ts ls : List ℚ) (k : ℕ) → length ts ≤ k → AreLed side end period ts ls k → AreLeads side end period ts ls
all_led side end period ts ls k l h = record { are = h.are; led = λ t m. h.led t (taken_all ts k t l m) }

pub leads_same : (side : Side) (end period : ℚ) (ts xs ls : List ℚ) → HaveSameTimes ts xs → AreLeads side end period xs ls → AreLeads side end period ts ls
leads_same side end period ts xs ls same A = record { are = λ t h. same.back t (A.are t h); led = λ t h. A.led t (same.into t h) }
