-- The times that are looked at in a stretch are its watch points.
use Rattle.std.specs.Prelude.{◌≡◌, ◌⊎◌, pos, ◌&&◌, List, [], ◌∷◌, ◌++◌}
use Rattle.std.proofs.Common.{arith, refl, sym, subst, inl, inr}
use Rattle.std.proofs.lemmas.Bool.{cases_Bool, and_from, and_parts}
use Rattle.rational.specs.Rational.{ℚ, int, ◌+ℚ◌, ◌-ℚ◌, ◌≤ℚ◌, ◌<ℚ◌, le_q}
use Rattle.rational.proofs.Laws.{le_or_lt, antisym}
use Rattle.rational.proofs.Over.{le_q_out, le_q_in}
use Rattle.rational.proofs.Linear.{with2, with3, with4}
use Rattle.upp_curve.specs.declared.affine_segment.line.Piece.{Piece}
use Rattle.upp_curve.specs.Curve.{SpecCurve}
use Rattle.upp_curve.specs.affine_segment.Pieces.{HasStart, StartsAtZero}
use Rattle.upp_curve.specs.Normal.{IsNormal}
use Rattle.upp_curve.specs.Unrolled.{unroll}
use Rattle.upp_normal.proofs.UnrolledPieces.{unroll_starts}
use Rattle.run_laws.specs.Cards.{ServerStep}
use Rattle.flow_watch.specs.watch_laws.Affine.{EachTime, Among}
use Rattle.flow_watch.specs.watch_laws.Breaks.{IsBreak}
use Rattle.flow_watch.specs.watch_laws.Stretches.{IsTurn, IsWatchPoint}
use Rattle.flow_watch.proofs.watch_laws.UnrolledStarts.{start_before}
use Rattle.run_watch.specs.declared.watched.Stretch.{Stretch}
use Rattle.run_watch.specs.WatchTimes.{inside, around, watched_from}
use Rattle.run_watch.proofs.FoundTurns.{among_left, among_right, among_parts}
use Rattle.run_watch.proofs.SortedPoints.{each_time_among}

-- ---- one time
pub inside_in : (s : Stretch) (t : ℚ) → s.start ≤ℚ t → t ≤ℚ s.end → Among t (inside s t)
inside_in s t h k = rw (and_from (le_q s.start t) (le_q t s.end) (le_q_out s.start t h) (le_q_out t s.end k)) (inl refl)

pub record IsIn (s : Stretch) (u t : ℚ) : Type 0 where
  pub is : u ≡ t
  pub from : s.start ≤ℚ u
  pub upto : u ≤ℚ s.end

pub in_inside : (s : Stretch) (u t : ℚ) → Among u (inside s t) → IsIn s u t
in_inside s u t h = elim (cases_Bool (le_q s.start t && le_q t s.end)) [
  | inl e ↦
      let is = one (rw e at h) in
      let tests = and_parts (le_q s.start t) (le_q t s.end) e in record {
        is = is;
        from = subst (λ x. s.start ≤ℚ x) (sym is) (le_q_in s.start t tests.0);
        upto = subst (λ x. x ≤ℚ s.end) (sym is) (le_q_in t s.end tests.1);
      }
  | inr e ↦ absurd (none (rw e at h))
]
  where
    none : Among u [] → ⊥
    none k = k

    one : Among u (t ∷ []) → u ≡ t
    one k = elim k [ inl e ↦ e | inr l ↦ absurd l ]

-- ---- around a turn
pub around_after : (s : Stretch) (p x : ℚ) (qs : List Piece) → HasStart x qs → s.start ≤ℚ p +ℚ x → p +ℚ x ≤ℚ s.end → Among (p +ℚ x) (around s p qs)
around_after s p x [] h a b = absurd h
around_after s p x (q ∷ qs) h a b = elim h [
  | inl e ↦ among_left (p +ℚ x) (inside s (p +ℚ q.x) ++ inside s (p -ℚ q.x)) (around s p qs)
      (among_left (p +ℚ x) (inside s (p +ℚ q.x)) (inside s (p -ℚ q.x)) (subst (λ y. Among (p +ℚ x) (inside s (p +ℚ y))) (sym e) (inside_in s (p +ℚ x) a b)))
  | inr k ↦ among_right (p +ℚ x) (inside s (p +ℚ q.x) ++ inside s (p -ℚ q.x)) (around s p qs) (around_after s p x qs k a b)
]

pub around_before : (s : Stretch) (p x : ℚ) (qs : List Piece) → HasStart x qs → s.start ≤ℚ p -ℚ x → p -ℚ x ≤ℚ s.end → Among (p -ℚ x) (around s p qs)
around_before s p x [] h a b = absurd h
around_before s p x (q ∷ qs) h a b = elim h [
  | inl e ↦ among_left (p -ℚ x) (inside s (p +ℚ q.x) ++ inside s (p -ℚ q.x)) (around s p qs)
      (among_right (p -ℚ x) (inside s (p +ℚ q.x)) (inside s (p -ℚ q.x)) (subst (λ y. Among (p -ℚ x) (inside s (p -ℚ y))) (sym e) (inside_in s (p -ℚ x) a b)))
  | inr k ↦ among_right (p -ℚ x) (inside s (p +ℚ q.x) ++ inside s (p -ℚ q.x)) (around s p qs) (around_before s p x qs k a b)
]

pub record IsAround (s : Stretch) (p t : ℚ) (qs : List Piece) : Type 0 where
  pub x : ℚ
  pub start : HasStart x qs
  pub is : (t ≡ p +ℚ x) ⊎ (t ≡ p -ℚ x)
  pub from : s.start ≤ℚ t
  pub upto : t ≤ℚ s.end

pub in_around : (s : Stretch) (p t : ℚ) (qs : List Piece) → Among t (around s p qs) → IsAround s p t qs
in_around s p t [] h = absurd h
in_around s p t (q ∷ qs) h = elim (among_parts t (inside s (p +ℚ q.x) ++ inside s (p -ℚ q.x)) (around s p qs) h) [
  | inl k ↦ elim (among_parts t (inside s (p +ℚ q.x)) (inside s (p -ℚ q.x)) k) [
    | inl l ↦ let r = in_inside s t (p +ℚ q.x) l in record { x = q.x; start = inl refl; is = inl r.is; from = r.from; upto = r.upto }
    | inr l ↦ let r = in_inside s t (p -ℚ q.x) l in record { x = q.x; start = inl refl; is = inr r.is; from = r.from; upto = r.upto }
  ]
  | inr k ↦ let r = in_around s p t qs k in record { x = r.x; start = inr r.start; is = r.is; from = r.from; upto = r.upto }
]

-- ---- around all turns
pub watched_in : (s : Stretch) (qs : List Piece) (ps : List ℚ) (p t : ℚ) → Among p ps → Among t (around s p qs) → Among t (watched_from s qs ps)
watched_in s qs [] p t h k = absurd h
watched_in s qs (q ∷ ps) p t h k = elim h [
  | inl e ↦ among_left t (around s q qs) (watched_from s qs ps) (subst (λ x. Among t (around s x qs)) e k)
  | inr l ↦ among_right t (around s q qs) (watched_from s qs ps) (watched_in s qs ps p t l k)
]

pub record FromTurn (s : Stretch) (qs : List Piece) (ps : List ℚ) (t : ℚ) : Type 0 where
  pub turn : ℚ
  pub has : Among turn ps
  pub around_it : IsAround s turn t qs

pub in_watched : (s : Stretch) (qs : List Piece) (ps : List ℚ) (t : ℚ) → Among t (watched_from s qs ps) → FromTurn s qs ps t
in_watched s qs [] t h = absurd h
in_watched s qs (p ∷ ps) t h = elim (among_parts t (around s p qs) (watched_from s qs ps) h) [
  | inl k ↦ record { turn = p; has = inl refl; around_it = in_around s p t qs k }
  | inr k ↦ let r = in_watched s qs ps t k in record { turn = r.turn; has = inr r.has; around_it = r.around_it }
]

pub zero_start : (qs : List Piece) → StartsAtZero qs → HasStart (int (pos 0)) qs
zero_start [] h = absurd h
zero_start (q ∷ qs) h = inl h.0

-- ---- watch points. Turns are between 0 and the end of the run, and so is the stretch, whose ends are turns
pub record AreTurns (end : ℚ) (V : List ServerStep) (ps : List ℚ) : Type 0 where
  pub found : (t : ℚ) → IsTurn end V t → Among t ps
  pub are : (t : ℚ) → Among t ps → IsTurn end V t
  pub in_run : EachTime (λ t. (int (pos 0) ≤ℚ t) × (t ≤ℚ end)) ps

pub record IsWithin (end : ℚ) (V : List ServerStep) (s : Stretch) : Type 0 where
  pub first : IsTurn end V s.start
  pub last : IsTurn end V s.end
  pub low : int (pos 0) ≤ℚ s.start
  pub forward : s.start <ℚ s.end
  pub high : s.end ≤ℚ end

here : (end : ℚ) (V : List ServerStep) (c : SpecCurve) (s : Stretch) (ps : List ℚ) (t : ℚ) → int (pos 0) <ℚ end → IsNormal c → AreTurns end V ps → IsTurn end V t → s.start ≤ℚ t → t ≤ℚ s.end
    → Among t (watched_from s (unroll c end) ps)
here end V c s ps t some n A turn a b =
    let z = int (pos 0) in
    let same : t +ℚ z ≡ t = with2 t z (λ k. omega (arith, k.le, k.lt, k.same)) in
    let near = around_after s t z (unroll c end) (zero_start (unroll c end) (unroll_starts c end some n)) (subst (λ x. s.start ≤ℚ x) (sym same) a) (subst (λ x. x ≤ℚ s.end) (sym same) b) in
    watched_in s (unroll c end) ps t t (A.found t turn) (subst (λ x. Among x (around s t (unroll c end))) same near)

pub watched_found : (end : ℚ) (V : List ServerStep) (c : SpecCurve) (s : Stretch) (ps : List ℚ) (t : ℚ) → int (pos 0) <ℚ end → IsNormal c → AreTurns end V ps → IsWithin end V s
    → IsWatchPoint end V (IsBreak c) t → s.start ≤ℚ t → t ≤ℚ s.end → Among t (watched_from s (unroll c end) ps)
watched_found end V c s ps t some n A I watch a b =
    let (p, turn, is) = watch in
    let bounds = each_time_among (λ t. (int (pos 0) ≤ℚ t) × (t ≤ℚ end)) ps p A.in_run (A.found p turn) in
    elim is [
      | inl e ↦ here end V c s ps t some n A (subst (IsTurn end V) e turn) a b
      | inr d ↦ elim d [
        | inl x ↦
            let (far, start) = x in
            elim (le_or_lt end (t -ℚ p)) [
              | inr l ↦
                  let same : p +ℚ (t -ℚ p) ≡ t = with2 p t (λ k. omega (arith, k.le, k.lt, k.same)) in
                  let near = around_after s p (t -ℚ p) (unroll c end) (start_before c end far (t -ℚ p) n start l) (subst (λ y. s.start ≤ℚ y) (sym same) a) (subst (λ y. y ≤ℚ s.end) (sym same) b) in
                  watched_in s (unroll c end) ps p t (A.found p turn) (subst (λ y. Among y (around s p (unroll c end))) same near)
              | inl l ↦
                  let at_end : t ≡ s.end = at_last p t end s.end bounds.0 I.high l b in
                  here end V c s ps t some n A (subst (IsTurn end V) (sym at_end) I.last) a b
            ]
        | inr x ↦
            let (far, start) = x in
            elim (le_or_lt end (p -ℚ t)) [
              | inr l ↦
                  let same : p -ℚ (p -ℚ t) ≡ t = with2 p t (λ k. omega (arith, k.le, k.lt, k.same)) in
                  let near = around_before s p (p -ℚ t) (unroll c end) (start_before c end far (p -ℚ t) n start l) (subst (λ y. s.start ≤ℚ y) (sym same) a) (subst (λ y. y ≤ℚ s.end) (sym same) b) in
                  watched_in s (unroll c end) ps p t (A.found p turn) (subst (λ y. Among y (around s p (unroll c end))) same near)
              | inl l ↦
                  let at_start : t ≡ s.start = at_first p t end s.start bounds.1 I.low l a in
                  here end V c s ps t some n A (subst (IsTurn end V) (sym at_start) I.first) a b
            ]
      ]
    ]
  where
    at_last : (p t end e : ℚ) → int (pos 0) ≤ℚ p → e ≤ℚ end → end ≤ℚ t -ℚ p → t ≤ℚ e → t ≡ e
    at_last p t end e h k l m = antisym (m, with4 p t end e (λ w. omega (arith, w.le, w.lt, w.same)))

    at_first : (p t end u : ℚ) → p ≤ℚ end → int (pos 0) ≤ℚ u → end ≤ℚ p -ℚ t → u ≤ℚ t → t ≡ u
    at_first p t end u h k l m = antisym (with4 p t end u (λ w. omega (arith, w.le, w.lt, w.same)), m)

pub record IsFoundPoint (end : ℚ) (V : List ServerStep) (c : SpecCurve) (s : Stretch) (t : ℚ) : Type 0 where
  pub watch : IsWatchPoint end V (IsBreak c) t
  pub from : s.start ≤ℚ t
  pub upto : t ≤ℚ s.end

pub found_watched : (end : ℚ) (V : List ServerStep) (c : SpecCurve) (s : Stretch) (ps : List ℚ) (t : ℚ) → AreTurns end V ps → Among t (watched_from s (unroll c end) ps) → IsFoundPoint end V c s t
found_watched end V c s ps t A h =
    let r = in_watched s (unroll c end) ps t h in
    let p = r.turn in
    let x = r.around_it.x in record {
      watch = (
        p,
        A.are p r.has,
        elim r.around_it.is [
          | inl e ↦ inr (inl (end, subst (λ y. HasStart y (unroll c end)) (after p x t e) r.around_it.start))
          | inr e ↦ inr (inr (end, subst (λ y. HasStart y (unroll c end)) (before p x t e) r.around_it.start))
        ],
      );
      from = r.around_it.from;
      upto = r.around_it.upto;
    }
  where
    after : (p x t : ℚ) → t ≡ p +ℚ x → x ≡ t -ℚ p
    after p x t e = with3 p x t (λ k. omega (arith, k.le, k.lt, k.same))

    before : (p x t : ℚ) → t ≡ p -ℚ x → x ≡ p -ℚ t
    before p x t e = with3 p x t (λ k. omega (arith, k.le, k.lt, k.same))
