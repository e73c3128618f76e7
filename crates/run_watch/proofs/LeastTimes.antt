-- The least of some times, as it is found piece by piece.
use Rattle.std.specs.Prelude.{◌≡◌, ◌⊎◌, ℕ, zero, suc, ◌+◌, ◌<◌, ◌≤◌, List, [], ◌∷◌, ◌++◌, length, take, Option, Some, None}
use Rattle.std.specs.List.{slice_index_or}
use Rattle.std.proofs.Common.{arith, refl, sym, subst, ap, ◌∙◌, inl, inr, true≢false}
use Rattle.std.proofs.lemmas.Bool.{cases_Bool}
use Rattle.rational.specs.Rational.{ℚ, lt_q}
use Rattle.rational.proofs.Laws.{le_trans, le_of_lt, le_of_not_lt}
use Rattle.rational.proofs.Over.{lt_q_in, lt_q_out}
use Rattle.flow_watch.specs.declared.watch_laws.point.Point.{Point}
use Rattle.flow_watch.specs.declared.watch_laws.point.Segment.{Segment}
use Rattle.flow_watch.specs.watch_laws.Shorts.{HasPoint, HasSegment}
use Rattle.run_watch.specs.NearWindows.{earlier_time, IsLeast}

pub least_both : (P Q : ℚ → Type 0) (a b : Option ℚ) → IsLeast P a → IsLeast Q b → IsLeast (λ t. P t ⊎ Q t) (earlier_time a b)
least_both P Q None None h k = λ t e. elim e [ inl x ↦ h t x | inr y ↦ k t y ]
least_both P Q None (Some u) h k = (inr k.0, λ t e. elim e [ inl x ↦ absurd (h t x) | inr y ↦ k.1 t y ])
least_both P Q (Some t) None h k = (inl h.0, λ u e. elim e [ inl x ↦ h.1 u x | inr y ↦ absurd (k u y) ])
least_both P Q (Some t) (Some u) h k = elim (cases_Bool (lt_q u t)) [
  | inl e ↦ rw e (inr k.0, λ x f. elim f [ inl y ↦ le_trans (le_of_lt (lt_q_in u t e)) (h.1 x y) | inr y ↦ k.1 x y ])
  | inr e ↦ rw e (inl h.0, λ x f. elim f [ inl y ↦ h.1 x y | inr y ↦ le_trans (le_of_not_lt (λ l. true≢false (sym (lt_q_out u t l) ∙ e))) (k.1 x y) ])
]

pub least_as : (P Q : ℚ → Type 0) (o : Option ℚ) → ((t : ℚ) → P t → Q t) → ((t : ℚ) → Q t → P t) → IsLeast P o → IsLeast Q o
least_as P Q None f g h = λ t k. h t (g t k)
least_as P Q (Some t) f g h = (f t h.0, λ u k. h.1 u (g u k))

-- where the first have none
pub least_other : (P Q : ℚ → Type 0) (o : Option ℚ) → ((t : ℚ) → ¬ P t) → IsLeast Q o → IsLeast (λ t. P t ⊎ Q t) o
least_other P Q o none h = least_both P Q None o none h

-- ---- one segment more
segment_parts : (g s : Segment) (ss : List Segment) → HasSegment g (ss ++ s ∷ []) → HasSegment g ss ⊎ (g ≡ s)
segment_parts g s [] h = elim h [ inl e ↦ inr e | inr k ↦ absurd k ]
segment_parts g s (r ∷ ss) h = elim h [
  | inl e ↦ inl (inl e)
  | inr k ↦ elim (segment_parts g s ss k) [ inl l ↦ inl (inr l) | inr l ↦ inr l ]
]

segment_before : (g s : Segment) (ss : List Segment) → HasSegment g ss → HasSegment g (ss ++ s ∷ [])
segment_before g s [] h = absurd h
segment_before g s (r ∷ ss) h = elim h [ inl e ↦ inl e | inr k ↦ inr (segment_before g s ss k) ]

segment_last : (s : Segment) (ss : List Segment) → HasSegment s (ss ++ s ∷ [])
segment_last s [] = inl refl
segment_last s (r ∷ ss) = inr (segment_last s ss)

segments_more : (n : ℕ) (ss : List Segment) (s : Segment) → n < length ss → s ≡ slice_index_or ss n s → take (suc n) ss ≡ take n ss ++ s ∷ []
segments_more n [] s h e = absurd (omega arith)
segments_more zero (r ∷ ss) s h e = ap (λ (x : Segment). x ∷ []) (sym e)
segments_more (suc n) (r ∷ ss) s h e = ap (λ (xs : List Segment). r ∷ xs) (segments_more n ss s (omega arith) e)

pub least_segment : (P : Segment → ℚ → Type 0) (ss : List Segment) (k : ℕ) (s : Segment) (a b : Option ℚ) → k < length ss → s ≡ slice_index_or ss k s → IsLeast (λ t. (g : Segment) × HasSegment g (take k ss) × P g t) a → IsLeast (P s) b
    → IsLeast (λ t. (g : Segment) × HasSegment g (take (k + 1) ss) × P g t) (earlier_time a b)
least_segment P ss k s a b l e h f =
    let same : suc k ≡ k + 1 = omega arith in
    subst (λ (n : ℕ). IsLeast (λ t. (g : Segment) × HasSegment g (take n ss) × P g t) (earlier_time a b)) same
    (subst (λ (xs : List Segment). IsLeast (λ t. (g : Segment) × HasSegment g xs × P g t) (earlier_time a b)) (sym (segments_more k ss s l e))
    (least_as (λ t. ((g : Segment) × HasSegment g (take k ss) × P g t) ⊎ P s t) (λ t. (g : Segment) × HasSegment g (take k ss ++ s ∷ []) × P g t) (earlier_time a b)
    (λ t d. elim d [ inl x ↦ let (g, has, p) = x in (g, segment_before g s (take k ss) has, p) | inr p ↦ (s, segment_last s (take k ss), p) ])
    (λ t x. let (g, has, p) = x in elim (segment_parts g s (take k ss) has) [ inl m ↦ inl (g, m, p) | inr m ↦ inr (subst (λ (r : Segment). P r t) m p) ])
    (least_both (λ t. (g : Segment) × HasSegment g (take k ss) × P g t) (P s) a b h f)))

pub segments_taken : (ss : List Segment) (k : ℕ) → length ss ≤ k → take k ss ≡ ss
segments_taken [] zero h = refl
segments_taken [] (suc k) h = refl
segments_taken (s ∷ ss) zero h = absurd (omega arith)
segments_taken (s ∷ ss) (suc k) h = ap (λ (xs : List Segment). s ∷ xs) (segments_taken ss k (omega arith))

pub least_segments : (P : Segment → ℚ → Type 0) (ss : List Segment) (k : ℕ) (a : Option ℚ) → length ss ≤ k → IsLeast (λ t. (g : Segment) × HasSegment g (take k ss) × P g t) a
    → IsLeast (λ t. (g : Segment) × HasSegment g ss × P g t) a
least_segments P ss k a l h = subst (λ (xs : List Segment). IsLeast (λ t. (g : Segment) × HasSegment g xs × P g t) a) (segments_taken ss k l) h

-- ---- one point more
point_parts : (p q : Point) (ps : List Point) → HasPoint p (ps ++ q ∷ []) → HasPoint p ps ⊎ (p ≡ q)
point_parts p q [] h = elim h [ inl e ↦ inr e | inr k ↦ absurd k ]
point_parts p q (r ∷ ps) h = elim h [
  | inl e ↦ inl (inl e)
  | inr k ↦ elim (point_parts p q ps k) [ inl l ↦ inl (inr l) | inr l ↦ inr l ]
]

point_before : (p q : Point) (ps : List Point) → HasPoint p ps → HasPoint p (ps ++ q ∷ [])
point_before p q [] h = absurd h
point_before p q (r ∷ ps) h = elim h [ inl e ↦ inl e | inr k ↦ inr (point_before p q ps k) ]

point_last : (q : Point) (ps : List Point) → HasPoint q (ps ++ q ∷ [])
point_last q [] = inl refl
point_last q (r ∷ ps) = inr (point_last q ps)

points_more : (n : ℕ) (ps : List Point) (p : Point) → n < length ps → p ≡ slice_index_or ps n p → take (suc n) ps ≡ take n ps ++ p ∷ []
points_more n [] p h e = absurd (omega arith)
points_more zero (r ∷ ps) p h e = ap (λ (x : Point). x ∷ []) (sym e)
points_more (suc n) (r ∷ ps) p h e = ap (λ (xs : List Point). r ∷ xs) (points_more n ps p (omega arith) e)

pub least_point : (P : Point → ℚ → Type 0) (ps : List Point) (k : ℕ) (q : Point) (a b : Option ℚ) → k < length ps → q ≡ slice_index_or ps k q → IsLeast (λ t. (p : Point) × HasPoint p (take k ps) × P p t) a → IsLeast (P q) b
    → IsLeast (λ t. (p : Point) × HasPoint p (take (k + 1) ps) × P p t) (earlier_time a b)
least_point P ps k q a b l e h f =
    let same : suc k ≡ k + 1 = omega arith in
    subst (λ (n : ℕ). IsLeast (λ t. (p : Point) × HasPoint p (take n ps) × P p t) (earlier_time a b)) same
    (subst (λ (xs : List Point). IsLeast (λ t. (p : Point) × HasPoint p xs × P p t) (earlier_time a b)) (sym (points_more k ps q l e))
    (least_as (λ t. ((p : Point) × HasPoint p (take k ps) × P p t) ⊎ P q t) (λ t. (p : Point) × HasPoint p (take k ps ++ q ∷ []) × P p t) (earlier_time a b)
    (λ t d. elim d [ inl x ↦ let (p, has, is) = x in (p, point_before p q (take k ps) has, is) | inr is ↦ (q, point_last q (take k ps), is) ])
    (λ t x. let (p, has, is) = x in elim (point_parts p q (take k ps) has) [ inl m ↦ inl (p, m, is) | inr m ↦ inr (subst (λ (r : Point). P r t) m is) ])
    (least_both (λ t. (p : Point) × HasPoint p (take k ps) × P p t) (P q) a b h f)))

pub points_taken : (ps : List Point) (k : ℕ) → length ps ≤ k → take k ps ≡ ps
points_taken [] zero h = refl
points_taken [] (suc k) h = refl
points_taken (p ∷ ps) zero h = absurd (omega arith)
points_taken (p ∷ ps) (suc k) h = ap (λ (xs : List Point). p ∷ xs) (points_taken ps k (omega arith))

pub least_points : (P : Point → ℚ → Type 0) (ps : List Point) (k : ℕ) (a : Option ℚ) → length ps ≤ k → IsLeast (λ t. (p : Point) × HasPoint p (take k ps) × P p t) a
    → IsLeast (λ t. (p : Point) × HasPoint p ps × P p t) a
least_points P ps k a l h = subst (λ (xs : List Point). IsLeast (λ t. (p : Point) × HasPoint p xs × P p t) a) (points_taken ps k l) h
