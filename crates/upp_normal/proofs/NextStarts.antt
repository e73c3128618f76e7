-- The spans of a curve in normal form end where its next unrolled pieces start.
use Rattle.std.specs.Prelude.{◌≡◌, ◌⊎◌, ℕ, zero, suc, ◌<◌, ◌≤◌, pos, Bool, cond, List, [], ◌∷◌, Contains, Option, Some, None}
use Rattle.std.proofs.Common.{arith, sym, ap, ◌∙◌, refl, subst, inl, inr}
use Rattle.std.proofs.lemmas.Bool.{cases_lt}
use Rattle.std.specs.List.{AllByRecursion}
use Rattle.rational.specs.Rational.{ℚ, ◌+ℚ◌, ◌-ℚ◌, ◌*ℚ◌, ◌≤ℚ◌, ◌<ℚ◌, int}
use Rattle.rational.proofs.Integers.{nat_le, nat_nonneg}
use Rattle.rational.proofs.Laws.{add_lt_add, antisym, le_lt_trans, le_of_lt, le_or_lt, le_refl, le_trans, lt_irrefl, lt_le_trans, mul_le_mul_right, mul_nonneg}
use Rattle.rational.proofs.Linear.{with3, with4, with6}
use Rattle.rational.proofs.MinMax.{lt_q_not}
use Rattle.rational.proofs.Over.{lt_q_out}
use Rattle.rational.proofs.Whole.{one_more_times}
use Rattle.upp_curve.specs.declared.affine_segment.line.Piece.{Piece}
use Rattle.upp_curve.specs.declared.curve.Tail.{Tail}
use Rattle.upp_curve.specs.declared.curve.Tail.TheVariants.{Periodic, Affine, Infinite}
use Rattle.upp_curve.specs.Curve.{SpecCurve}
use Rattle.upp_curve.specs.affine_segment.Pieces.{Each, HasStart, RisesFrom, StartsAtZero, start_after}
use Rattle.upp_curve.specs.Normal.{IsNormal}
use Rattle.upp_normal.specs.PieceLaws.{IsNext, IsNextStart, SpansAreUnrolled}
use Rattle.upp_limits.specs.Spans.{Span, copies_of, end_of, next_later, once_below, span_below, spans, spans_below}
use Rattle.upp_curve.specs.Unrolled.{copies_below, later, unroll, unrolled, upto}
use Rattle.upp_limits.proofs.Copies.{every_copy}
use Rattle.upp_limits.proofs.Every.{every_flat, every_weaken}
use Rattle.upp_curve.proofs.affine_segment.PieceOrder.{each_map}
use Rattle.upp_normal.proofs.NormaliseLists.{each_upto}
use Rattle.upp_normal.proofs.SamePieces.{each_at, each_contained, each_whole, once_in, periodic_given, same_pieces}
use Rattle.upp_normal.proofs.UnrolledPieces.{IsGiven, each_with, no_later, periodic_each}
use Rattle.upp_curve.proofs.affine_segment.PieceIn.{low_start}
use Rattle.upp_normal.proofs.NormaliseRank.{rises_late}

-- ---- where the next of a curve's own pieces starts
-- the first start after x is e
record Follows (ps : List Piece) (x e : ℚ) : Type 0 where
  later : x <ℚ e
  has : HasStart e ps
  gap : Each (λ q. x <ℚ q.x → e ≤ℚ q.x) ps

-- the next start after x, and `after` where there is none
abbrev StepsTo : List Piece → Option ℚ → ℚ → Option ℚ → Type 0
StepsTo ps after x next = ((e : ℚ) × ((next ≡ Some e) × Follows ps x e)) ⊎ ((next ≡ after) × Each (λ q. q.x ≤ℚ x) ps)

record Step (ps : List Piece) (after : Option ℚ) (s : Span) : Type 0 where
  has : HasStart s.piece.x ps
  is : StepsTo ps after s.piece.x s.next

record StepFrom (p : Piece) (qs : List Piece) (after : Option ℚ) (s : Span) : Type 0 where
  low : p.x ≤ℚ s.piece.x
  has : HasStart s.piece.x (p ∷ qs)
  is : StepsTo (p ∷ qs) after s.piece.x s.next

first_step : (p : Piece) (qs : List Piece) (after : Option ℚ) → RisesFrom p.x qs → StepsTo (p ∷ qs) after p.x (start_after qs after)
first_step p [] after r = inr (refl, (le_refl p.x, tt))
first_step p (q ∷ qs) after r =
    let rest : Each (λ z. p.x <ℚ z.x → q.x ≤ℚ z.x) qs =
    each_map (λ z. q.x ≤ℚ z.x) (λ z. p.x <ℚ z.x → q.x ≤ℚ z.x) (λ z l h. l) qs (rises_late q.x q.x qs (le_refl q.x) r.1) in
    inl (q.x, (refl, record { later = r.0; has = inr (inl refl); gap = (λ l. absurd (lt_irrefl p.x l), (λ l. le_refl q.x, rest)) }))

one_more : (p q : Piece) (qs : List Piece) (after : Option ℚ) (s : Span) → p.x <ℚ q.x → StepFrom q qs after s → StepFrom p (q ∷ qs) after s
one_more p q qs after s l S =
    let past : p.x <ℚ s.piece.x = lt_le_trans l S.low in
    record {
      low = le_of_lt past;
      has = inr S.has;
      is = elim S.is [
        | inl w ↦
            let F = w.1.1 in
            inl (w.0, (w.1.0, record { later = F.later; has = inr F.has; gap = (λ k. absurd (lt_irrefl p.x (le_lt_trans (le_of_lt past) k)), F.gap) }))
        | inr w ↦ inr (w.0, (le_of_lt past, w.1))
      ];
    }

steps_from : (tail : Tail) (p : Piece) (qs : List Piece) → RisesFrom p.x qs → AllByRecursion (StepFrom p qs (end_of tail)) (spans tail (p ∷ qs))
unfolding spans
steps_from tail p [] r = (record { low = le_refl p.x; has = inl refl; is = first_step p [] (end_of tail) r }, tt)
steps_from tail p (q ∷ qs) r =
    let rest = every_weaken {P = StepFrom q qs (end_of tail)} {Q = StepFrom p (q ∷ qs) (end_of tail)} (λ s S. one_more p q qs (end_of tail) s r.0 S) (spans tail (q ∷ qs)) (steps_from tail q qs r.1) in
    (record { low = le_refl p.x; has = inl refl; is = first_step p (q ∷ qs) (end_of tail) r }, rest)

steps : (tail : Tail) (ps : List Piece) → StartsAtZero ps → AllByRecursion (Step ps (end_of tail)) (spans tail ps)
steps tail [] h = absurd h
steps tail (p ∷ qs) h =
    every_weaken {P = StepFrom p qs (end_of tail)} {Q = Step (p ∷ qs) (end_of tail)} (λ s S. record { has = S.has; is = S.is }) (spans tail (p ∷ qs)) (steps_from tail p qs h.1)

-- the piece that starts at e, with what holds of each
at_start : (F : Piece → Type 0) (e : ℚ) (ps : List Piece) → HasStart e ps → Each F ps → (p : Piece) × ((p.x ≡ e) × F p)
at_start F e [] h k = absurd h
at_start F e (p ∷ ps) (inl i) k = (p, (i, k.0))
at_start F e (p ∷ ps) (inr h) k = at_start F e ps h k.1

-- what holds of each start holds of e
of_start : (F : ℚ → Type 0) (e : ℚ) (ps : List Piece) → HasStart e ps → Each (λ q. F q.x) ps → F e
of_start F e ps h k = let w = at_start (λ q. F q.x) e ps h k in subst F w.1.0 w.1.1

-- ---- of pieces that no tail repeats
plain_there : (ps : List Piece) (e far : ℚ) → StartsAtZero ps → HasStart e ps → e <ℚ far → (p : Piece) × (Contains (upto far ps) p × (p.x ≡ e))
plain_there ps e far at0 h l =
    let us = upto far ps in
    let w = at_start (λ p. p.x <ℚ far → Contains us p) e ps h (each_whole (Contains us) far (int (pos 0) -ℚ int (pos 1)) ps (low_start ps at0) (each_contained us)) in
    (w.0, (w.1.1 (subst (λ x. x <ℚ far) (sym w.1.0) l), w.1.0))

plain_first : (P : Piece → Type 0) (ps : List Piece) (far : ℚ) (p : Piece) → Each P ps → Contains (upto far ps) p → P p
plain_first P ps far p h k = each_at P (upto far ps) p (each_upto P far ps h) k

-- the start that follows, of a curve whose pieces are not repeated
plain_next : (c : SpecCurve) (x e : ℚ) → ((far : ℚ) → unroll c far ≡ upto far c.pieces) → StartsAtZero c.pieces → Follows c.pieces x e → IsNext c x (Some e)
plain_next c x e same starts F = inl record {
  later = F.later;
  there = λ far l. subst (λ us. (p : Piece) × (Contains us p × (p.x ≡ e))) (sym (same far)) (plain_there c.pieces e far starts F.has l);
  first = λ far p h l. plain_first (λ q. x <ℚ q.x → e ≤ℚ q.x) c.pieces far p F.gap (subst (λ us. Contains us p) (same far) h) l;
}

affine_next : (ps : List Piece) (rank : ℚ) (s : Span) → IsNormal record { pieces = ps; tail = Affine rank } → Step ps None s → IsNext record { pieces = ps; tail = Affine rank } s.piece.x s.next
unfolding unroll
affine_next ps rank s n S =
    let c : SpecCurve = record { pieces = ps; tail = Affine rank } in
    let x = s.piece.x in
    elim S.is [
      | inl w ↦ subst (IsNext c x) (sym w.1.0) (plain_next c x w.0 (λ far. refl) n.raw.starts w.1.1)
      | inr w ↦ subst (IsNext c x) (sym w.0) (λ far p h. plain_first (λ q. q.x ≤ℚ x) ps far p w.1 h)
    ]

infinite_next : (ps : List Piece) (rank : ℚ) (s : Span) → IsNormal record { pieces = ps; tail = Infinite rank } → Step ps (Some rank) s → IsNext record { pieces = ps; tail = Infinite rank } s.piece.x s.next
unfolding unroll
infinite_next ps rank s n S =
    let c : SpecCurve = record { pieces = ps; tail = Infinite rank } in
    let x = s.piece.x in
    elim S.is [
      | inl w ↦ subst (IsNext c x) (sym w.1.0) (plain_next c x w.0 (λ far. refl) n.raw.starts w.1.1)
      | inr w ↦
          let low : rank ≤ℚ x = of_start (λ y. y ≤ℚ x) rank ps n.rank_is_start w.1 in
          let high : x ≤ℚ rank = of_start (λ y. y ≤ℚ rank) x ps S.has n.raw.tail.starts in
          subst (IsNext c x) (sym w.0) (inr (antisym (low, high), λ far p h. plain_first (λ q. q.x ≤ℚ x) ps far p w.1 h))
    ]

-- ---- whole periods
turn_nonneg : (m : ℕ) (d : ℚ) → int (pos 0) <ℚ d → int (pos 0) ≤ℚ int (pos m) *ℚ d
turn_nonneg m d some = mul_nonneg (nat_nonneg m) (le_of_lt some)

turn_le : (m k : ℕ) (d : ℚ) → int (pos 0) <ℚ d → m ≤ k → int (pos m) *ℚ d ≤ℚ int (pos k) *ℚ d
turn_le m k d some h = mul_le_mul_right d (le_of_lt some) (nat_le m k h)

turn_next : (m k : ℕ) (d : ℚ) → int (pos 0) <ℚ d → m < k → int (pos m) *ℚ d +ℚ d ≤ℚ int (pos k) *ℚ d
turn_next m k d some h = subst (λ x. x ≤ℚ int (pos k) *ℚ d) (one_more_times m d) (turn_le (suc m) k d some h)

-- a copy in the same period, in one after it or in one before it
same_turn : (x y e M : ℚ) → (x <ℚ y → e ≤ℚ y) → x +ℚ M <ℚ y +ℚ M → e +ℚ M ≤ℚ y +ℚ M
same_turn x y e M g l =
    let inside : x <ℚ y = with3 x y M (λ c. omega (arith, c.le, c.lt, c.lt_in)) in
    let up : e ≤ℚ y = g inside in
    with3 e y M (λ c. omega (arith, c.le, c.lt, c.same))

later_turn : (r d e y M K : ℚ) → e ≤ℚ r +ℚ d → r ≤ℚ y → M +ℚ d ≤ℚ K → e +ℚ M ≤ℚ y +ℚ K
later_turn r d e y M K a b h = with6 r d e y M K (λ c. omega (arith, c.le, c.lt, c.same))

earlier_turn : (r d x y M K : ℚ) → r ≤ℚ x → y <ℚ r +ℚ d → K +ℚ d ≤ℚ M → x +ℚ M <ℚ y +ℚ K → ⊥
earlier_turn r d x y M K a b h l = with6 r d x y M K (λ c. omega (arith, c.le, c.lt, c.same))

once_turn : (r x y M : ℚ) → r ≤ℚ x → int (pos 0) ≤ℚ M → y <ℚ r → x +ℚ M <ℚ y → ⊥
once_turn r x y M a b h l = with4 r x y M (λ c. omega (arith, c.le, c.lt, c.same))

no_turn : (x y M K : ℚ) → y ≤ℚ x → K ≤ℚ M → x +ℚ M <ℚ y +ℚ K → ⊥
no_turn x y M K a h l = with4 x y M K (λ c. omega (arith, c.le, c.lt, c.same))

-- ---- of a curve that repeats
periodic_next : (ps : List Piece) (r d c x e : ℚ) → IsNormal record { pieces = ps; tail = Periodic r d c } → x <ℚ e
    → ((far : ℚ) → e <ℚ far → (p : Piece) × (Contains (unrolled ps (Periodic r d c) far) p × (p.x ≡ e)))
    → ((far : ℚ) → Each (IsGiven (λ q. x <ℚ q.x → e ≤ℚ q.x) r d c far) ps) → IsNextStart record { pieces = ps; tail = Periodic r d c } x e
unfolding unroll
periodic_next ps r d c x e n l there gap = record {
  later = l;
  there = there;
  first = λ far p h k.
      let P = λ (q : Piece). x <ℚ q.x → e ≤ℚ q.x in
      each_at P (unrolled ps (Periodic r d c) far) p (periodic_each P ps r d c far n.raw.starts (gap far)) h k;
}

-- the copies of each piece are among the unrolled ones
given_there : (ps : List Piece) (r d c far : ℚ) → IsNormal record { pieces = ps; tail = Periodic r d c }
    → Each (IsGiven (Contains (unrolled ps (Periodic r d c) far)) r d c far) ps
given_there ps r d c far n =
    let us = unrolled ps (Periodic r d c) far in
    periodic_given (Contains us) ps r d c far n (each_contained us)

-- a piece before the rank
early_next : (ps : List Piece) (r d c : ℚ) (s : Span) → IsNormal record { pieces = ps; tail = Periodic r d c } → Step ps (Some (r +ℚ d)) s → s.piece.x <ℚ r
    → IsNext record { pieces = ps; tail = Periodic r d c } s.piece.x s.next
early_next ps r d c s n S before =
    let cur : SpecCurve = record { pieces = ps; tail = Periodic r d c } in
    let x = s.piece.x in
    let some = n.raw.tail.some in
    elim S.is [
      | inl w ↦
          let e = w.0 in
          let F = w.1.1 in
          let P = λ (q : Piece). x <ℚ q.x → e ≤ℚ q.x in
          let high : e ≤ℚ r = of_start (λ y. x <ℚ y → e ≤ℚ y) r ps n.rank_is_start F.gap before in
          let there : (far : ℚ) → e <ℚ far → (p : Piece) × (Contains (unrolled ps (Periodic r d c) far) p × (p.x ≡ e)) =
          λ far l.
          let C = Contains (unrolled ps (Periodic r d c) far) in
          let f = at_start (IsGiven C r d c far) e ps F.has (given_there ps r d c far n) in
          let p = f.0 in
          let inside : p.x <ℚ far = subst (λ y. y <ℚ far) (sym f.1.0) l in
          let same = no_later d c p in
          elim (le_or_lt r p.x) [
            | inl k ↦ (p, (subst C same (f.1.1.again k 0 (subst (λ (q : Piece). q.x <ℚ far) (sym same) inside)), f.1.0))
            | inr k ↦ (p, (f.1.1.once k inside, f.1.0))
          ] in
          let gap : (far : ℚ) → Each (IsGiven P r d c far) ps =
          λ far. each_map P (IsGiven P r d c far)
          (λ q g. record {
            once = λ a b l. g l;
            again = λ a m b l. let o = turn_nonneg m d some in up e r q.x (int (pos m) *ℚ d) high a o;
          }) ps F.gap in
          subst (IsNext cur x) (sym w.1.0) (inl (periodic_next ps r d c x e n F.later there gap))
      | inr w ↦ absurd (lt_irrefl x (lt_le_trans before (of_start (λ y. y ≤ℚ x) r ps n.rank_is_start w.1)))
    ]
  where
    up : (e r y M : ℚ) → e ≤ℚ r → r ≤ℚ y → int (pos 0) ≤ℚ M → e ≤ℚ y +ℚ M
    up e r y M a b o = with4 e r y M (λ c. omega (arith, c.le, c.lt, c.same))

-- the copy of a piece from the rank on, m periods later
follow_copy : (ps : List Piece) (r d c x e : ℚ) (m : ℕ) → IsNormal record { pieces = ps; tail = Periodic r d c } → r ≤ℚ x → Follows ps x e
    → IsNextStart record { pieces = ps; tail = Periodic r d c } (x +ℚ int (pos m) *ℚ d) (e +ℚ int (pos m) *ℚ d)
follow_copy ps r d c x e m n low F =
    let some = n.raw.tail.some in
    let M = int (pos m) *ℚ d in
    let o = turn_nonneg m d some in
    let P = λ (q : Piece). x +ℚ M <ℚ q.x → e +ℚ M ≤ℚ q.x in
    let early : e <ℚ r +ℚ d = of_start (λ y. y <ℚ r +ℚ d) e ps F.has n.raw.tail.starts in
    let there : (far : ℚ) → e +ℚ M <ℚ far → (p : Piece) × (Contains (unrolled ps (Periodic r d c) far) p × (p.x ≡ e +ℚ M)) =
    λ far l.
    let C = Contains (unrolled ps (Periodic r d c) far) in
    let f = at_start (IsGiven C r d c far) e ps F.has (given_there ps r d c far n) in
    let p = f.0 in
    let from : r ≤ℚ p.x = subst (λ y. r ≤ℚ y) (sym f.1.0) (le_trans low (le_of_lt F.later)) in
    let e' : p.x +ℚ M ≡ e +ℚ M = ap (λ y. y +ℚ M) f.1.0 in
    (later M (int (pos m) *ℚ c) p, (f.1.1.again from m (subst (λ y. y <ℚ far) (sym e') l), e')) in
    let gap : (far : ℚ) → Each (IsGiven P r d c far) ps =
    λ far. each_with (λ q. x <ℚ q.x → e ≤ℚ q.x) (λ q. q.x <ℚ r +ℚ d) (IsGiven P r d c far)
    (λ q g h. record {
      once = λ a b l. absurd (once_turn r x q.x M low o a l);
      again = λ a k b l. elim (cases_lt k m) [
        | inl i ↦ absurd (earlier_turn r d x q.x M (int (pos k) *ℚ d) low h (turn_next k m d some i) l)
        | inr i ↦ elim (cases_lt m k) [
          | inl j ↦ later_turn r d e q.x M (int (pos k) *ℚ d) (le_of_lt early) a (turn_next m k d some j)
          | inr j ↦
              let same : k ≡ m = omega arith in
              subst (λ i. x +ℚ M <ℚ q.x +ℚ int (pos i) *ℚ d → e +ℚ M ≤ℚ q.x +ℚ int (pos i) *ℚ d) (sym same) (λ l. same_turn x q.x e M g l) l
        ]
      ];
    }) ps F.gap n.raw.tail.starts in
    periodic_next ps r d c (x +ℚ M) (e +ℚ M) n (add_lt_add F.later (le_refl M)) there gap

-- after the last of them comes the first of the next period
wrap_copy : (ps : List Piece) (r d c x : ℚ) (m : ℕ) → IsNormal record { pieces = ps; tail = Periodic r d c } → r ≤ℚ x → HasStart x ps → Each (λ q. q.x ≤ℚ x) ps
    → IsNextStart record { pieces = ps; tail = Periodic r d c } (x +ℚ int (pos m) *ℚ d) (r +ℚ d +ℚ int (pos m) *ℚ d)
wrap_copy ps r d c x m n low has most =
    let some = n.raw.tail.some in
    let M = int (pos m) *ℚ d in
    let N = int (pos (suc m)) *ℚ d in
    let o = turn_nonneg m d some in
    let e = r +ℚ d in
    let P = λ (q : Piece). x +ℚ M <ℚ q.x → e +ℚ M ≤ℚ q.x in
    let early : x <ℚ e = of_start (λ y. y <ℚ r +ℚ d) x ps has n.raw.tail.starts in
    let there : (far : ℚ) → e +ℚ M <ℚ far → (p : Piece) × (Contains (unrolled ps (Periodic r d c) far) p × (p.x ≡ e +ℚ M)) =
    λ far l.
    let C = Contains (unrolled ps (Periodic r d c) far) in
    let f = at_start (IsGiven C r d c far) r ps n.rank_is_start (given_there ps r d c far n) in
    let p = f.0 in
    let from : r ≤ℚ p.x = subst (λ y. r ≤ℚ y) (sym f.1.0) (le_refl r) in
    let e' : p.x +ℚ N ≡ e +ℚ M = ap (λ y. y +ℚ N) f.1.0 ∙ ap (λ y. r +ℚ y) (one_more_times m d) ∙ turned r d M in
    (later N (int (pos (suc m)) *ℚ c) p, (f.1.1.again from (suc m) (subst (λ y. y <ℚ far) (sym e') l), e')) in
    let gap : (far : ℚ) → Each (IsGiven P r d c far) ps =
    λ far. each_map (λ q. q.x ≤ℚ x) (IsGiven P r d c far)
    (λ q g. record {
      once = λ a b l. absurd (once_turn r x q.x M low o a l);
      again = λ a k b l. elim (cases_lt m k) [
        | inl j ↦ later_turn r d e q.x M (int (pos k) *ℚ d) (le_refl e) a (turn_next m k d some j)
        | inr j ↦ absurd (no_turn x q.x M (int (pos k) *ℚ d) g (turn_le k m d some j) l)
      ];
    }) ps most in
    periodic_next ps r d c (x +ℚ M) (e +ℚ M) n (add_lt_add early (le_refl M)) there gap
  where
    turned : (r d M : ℚ) → r +ℚ (M +ℚ d) ≡ r +ℚ d +ℚ M
    turned r d M =
        let up : r +ℚ (M +ℚ d) ≤ℚ r +ℚ d +ℚ M = with3 r d M (λ c. omega (arith, c.le, c.lt, c.same)) in
        let down : r +ℚ d +ℚ M ≤ℚ r +ℚ (M +ℚ d) = with3 r d M (λ c. omega (arith, c.le, c.lt, c.same)) in
        antisym (up, down)

copy_next : (ps : List Piece) (r d c : ℚ) (s : Span) (m : ℕ) → IsNormal record { pieces = ps; tail = Periodic r d c } → Step ps (Some (r +ℚ d)) s → r ≤ℚ s.piece.x
    → IsNext record { pieces = ps; tail = Periodic r d c } (s.piece.x +ℚ int (pos m) *ℚ d) (next_later (int (pos m) *ℚ d) s.next)
copy_next ps r d c s m n S low =
    let cur : SpecCurve = record { pieces = ps; tail = Periodic r d c } in
    let x = s.piece.x in
    let M = int (pos m) *ℚ d in
    let G : Option ℚ → Type 0 = λ next. IsNext cur (x +ℚ M) (next_later M next) in
    elim S.is [
      | inl w ↦ subst G (sym w.1.0) (inl (follow_copy ps r d c x w.0 m n low w.1.1))
      | inr w ↦ subst G (sym w.0) (inl (wrap_copy ps r d c x m n low S.has w.1))
    ]

periodic_spans : (ps : List Piece) (r d c end : ℚ) (s : Span) → IsNormal record { pieces = ps; tail = Periodic r d c } → Step ps (Some (r +ℚ d)) s
    → AllByRecursion (λ s. IsNext record { pieces = ps; tail = Periodic r d c } s.piece.x s.next) (span_below (Periodic r d c) end s)
periodic_spans ps r d c end s n S =
    let cur : SpecCurve = record { pieces = ps; tail = Periodic r d c } in
    let Q = λ (s : Span). IsNext cur s.piece.x s.next in
    let k = copies_below d end s.piece in
    let choice = λ (b : Bool). AllByRecursion Q (cond b (once_below end s) (copies_of d c s k)) in
    elim (le_or_lt r s.piece.x) [
      | inl l ↦ subst choice (sym (lt_q_not s.piece.x r l)) (every_copy Q d c s k (λ m i. copy_next ps r d c s m n S l))
      | inr l ↦ subst choice (sym (lt_q_out s.piece.x r l)) (once_in Q end s (λ i. early_next ps r d c s n S l))
    ]

-- ---- by the tail
nexts_by_tail : (ps : List Piece) (tail : Tail) (end : ℚ) → IsNormal record { pieces = ps; tail = tail }
    → AllByRecursion (λ s. AllByRecursion (λ s. IsNext record { pieces = ps; tail = tail } s.piece.x s.next) (span_below tail end s)) (spans tail ps)
nexts_by_tail ps (Periodic r d c) end n =
    let Q = λ (s : Span). IsNext record { pieces = ps; tail = Periodic r d c } s.piece.x s.next in
    every_weaken {P = Step ps (Some (r +ℚ d))} {Q = λ s. AllByRecursion Q (span_below (Periodic r d c) end s)}
    (λ s S. periodic_spans ps r d c end s n S) (spans (Periodic r d c) ps) (steps (Periodic r d c) ps n.raw.starts)
nexts_by_tail ps (Affine rank) end n =
    let Q = λ (s : Span). IsNext record { pieces = ps; tail = Affine rank } s.piece.x s.next in
    every_weaken {P = Step ps None} {Q = λ s. AllByRecursion Q (once_below end s)}
    (λ s S. once_in Q end s (λ l. affine_next ps rank s n S)) (spans (Affine rank) ps) (steps (Affine rank) ps n.raw.starts)
nexts_by_tail ps (Infinite rank) end n =
    let Q = λ (s : Span). IsNext record { pieces = ps; tail = Infinite rank } s.piece.x s.next in
    every_weaken {P = Step ps (Some rank)} {Q = λ s. AllByRecursion Q (once_below end s)}
    (λ s S. once_in Q end s (λ l. infinite_next ps rank s n S)) (spans (Infinite rank) ps) (steps (Infinite rank) ps n.raw.starts)

nexts : (c : SpecCurve) (end : ℚ) → IsNormal c → AllByRecursion (λ s. IsNext c s.piece.x s.next) (spans_below c end)
unfolding spans_below
nexts c end n = every_flat (λ s. IsNext c s.piece.x s.next) (span_below c.tail end) (spans c.tail c.pieces) (nexts_by_tail c.pieces c.tail end n)

span_at : (P : Span → Type 0) (ss : List Span) (s : Span) → AllByRecursion P ss → Contains ss s → P s
span_at P [] s h (k, l, e) = absurd (omega arith)
span_at P (t ∷ ss) s h (zero, l, e) = subst P e h.0
span_at P (t ∷ ss) s h (suc k, l, e) = span_at P ss s h.1 (k, omega arith, e)

-- ---- the law
pub spans_are_unrolled : SpansAreUnrolled
spans_are_unrolled = λ c end n. record {
  pieces = same_pieces c end n;
  nexts = λ s h. span_at (λ s. IsNext c s.piece.x s.next) (spans_below c end) s (nexts c end n) h;
}
