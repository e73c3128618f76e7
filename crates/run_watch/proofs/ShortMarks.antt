-- A short window is a pair of marks under the segment's rule.
use Rattle.std.specs.Prelude.{◌≡◌, ◌⊎◌, ℕ, zero, suc, ◌+◌, ◌-◌, ◌/◌, ◌<◌, ◌≤◌, List, [], ◌∷◌, ◌++◌, length, take, drop, map, Option, Some, None, slice_get, MatchOption, IfSome}
use Rattle.std.specs.List.{slice_index_or}
use Rattle.std.proofs.Common.{arith, refl, sym, subst, ap, ◌∙◌, inl, inr, add-one}
use Rattle.std.proofs.lemmas.Bool.{cases_lt}
use Rattle.rational.specs.Rational.{ℚ, ◌+ℚ◌, ◌-ℚ◌, ◌*ℚ◌, ◌≤ℚ◌, ◌<ℚ◌}
use Rattle.rational.specs.Ratio.{SumFits}
use Rattle.rational.proofs.Laws.{mul_sub, le_refl, le_trans, le_lt_trans, lt_le_trans, lt_irrefl}
use Rattle.rational.proofs.Linear.{with_atoms, with3, with4}
use Rattle.flow_watch.specs.declared.watch_laws.mark.Mark.{Mark}
use Rattle.flow_watch.specs.declared.watch_laws.mark.Rule.{Rule}
use Rattle.flow_watch.specs.declared.watch_laws.point.Point.{Point}
use Rattle.flow_watch.specs.declared.watch_laws.point.Segment.{Segment}
use Rattle.flow_watch.specs.watch_laws.Marks.{Each, Has, TimesRise, IsPast, IsUnder, IsOver, IsUnderSome, FitsRule, MostFits}
use Rattle.flow_watch.specs.watch_laws.Shorts.{EachPoint, HasPoint, EachSegment, HasSegment, PointsRise, IsPastEnd, IsShortBy, NoneShortTo, IsShortEnd}
use Rattle.run_watch.specs.FirstEnds.{mark_of, rule_of, KeySteps, FitsMarks, IsTooLate, HoldsStarts, IsFirstBy, IsFirstEnd}

-- ---- one window
past_end : (o : Option ℚ) (a b : ℚ) → IsPastEnd o (b -ℚ a) → IsPast o a b
past_end None a b h = h
past_end (Some e) a b h = with3 a b e (λ c. omega (arith, c.le, c.lt, c.same))

end_past : (o : Option ℚ) (a b : ℚ) → IsPast o a b → IsPastEnd o (b -ℚ a)
end_past None a b h = h
end_past (Some e) a b h = with3 a b e (λ c. omega (arith, c.le, c.lt, c.same))

-- s (d - x) = s b - s a - s x, for d = b - a
slope_over : (s a b x : ℚ) → s *ℚ ((b -ℚ a) -ℚ x) ≡ (s *ℚ b -ℚ s *ℚ a) -ℚ s *ℚ x
slope_over s a b x = mul_sub s (b -ℚ a) x ∙ ap (λ y. y -ℚ s *ℚ x) (mul_sub s b a)

pub short_under : (s : Segment) (a b : Point) → IsShortBy s a b → IsUnder (rule_of s) (mark_of s.slope a) (mark_of s.slope b)
short_under s a b h =
    let x = s.start in let t = a.time in let u = b.time in let r = s.slope in
    let e = slope_over r t u x in
    let f = h.from in
    let l = h.less in
    let v = s.value in let p = a.work in let q = b.work in
    record {
      far = with3 x t u (λ c. omega (arith, c.le, c.lt, c.same));
      near = λ k. h.upto (end_past s.end t u k);
      less = with_atoms (p ∷ q ∷ v ∷ (r *ℚ t) ∷ (r *ℚ u) ∷ (r *ℚ x) ∷ (r *ℚ ((u -ℚ t) -ℚ x)) ∷ []) (λ c. omega (arith, c.le, c.lt, c.same));
    }

pub under_short : (s : Segment) (a b : Point) → IsUnder (rule_of s) (mark_of s.slope a) (mark_of s.slope b) → IsShortBy s a b
under_short s a b h =
    let x = s.start in let t = a.time in let u = b.time in let r = s.slope in
    let e = slope_over r t u x in
    let f = h.far in
    let l = h.less in
    let v = s.value in let p = a.work in let q = b.work in
    record {
      from = with3 x t u (λ c. omega (arith, c.le, c.lt, c.same));
      upto = λ k. h.near (past_end s.end t u k);
      less = with_atoms (p ∷ q ∷ v ∷ (r *ℚ t) ∷ (r *ℚ u) ∷ (r *ℚ x) ∷ (r *ℚ ((u -ℚ t) -ℚ x)) ∷ []) (λ c. omega (arith, c.le, c.lt, c.same));
    }

-- ---- all of them
each_marks : (P : Mark → Type 0) (m : Point → Mark) (ps : List Point) → Each P (map m ps) → EachPoint (λ p. P (m p)) ps
each_marks P m [] h = tt
each_marks P m (p ∷ ps) h = (h.0, each_marks P m ps h.1)

marks_each : (P : Mark → Type 0) (m : Point → Mark) (ps : List Point) → EachPoint (λ p. P (m p)) ps → Each P (map m ps)
marks_each P m [] h = tt
marks_each P m (p ∷ ps) h = (h.0, marks_each P m ps h.1)

pub each_point_map : (P Q : Point → Type 0) → ((p : Point) → P p → Q p) → (ps : List Point) → EachPoint P ps → EachPoint Q ps
each_point_map P Q f [] h = tt
each_point_map P Q f (p ∷ ps) h = (f p h.0, each_point_map P Q f ps h.1)

pub points_over : (s : Segment) (ps es : List Point) → Each (IsOver (rule_of s) (map (mark_of s.slope) ps)) (map (mark_of s.slope) es) → EachPoint (NoneShortTo ps s) es
points_over s ps es h =
    each_point_map (λ b. IsOver (rule_of s) (map (mark_of s.slope) ps) (mark_of s.slope b)) (NoneShortTo ps s)
    (λ b k. each_point_map (λ a. ¬ IsUnder (rule_of s) (mark_of s.slope a) (mark_of s.slope b)) (λ a. ¬ IsShortBy s a b) (λ a n sh. n (short_under s a b sh)) ps
    (each_marks (λ m. ¬ IsUnder (rule_of s) m (mark_of s.slope b)) (mark_of s.slope) ps k))
    es (each_marks (IsOver (rule_of s) (map (mark_of s.slope) ps)) (mark_of s.slope) es h)

mark_there : (m : Point → Mark) (ps : List Point) (x : Mark) → Has x (map m ps) → (p : Point) × HasPoint p ps × (x ≡ m p)
mark_there m [] x h = absurd h
mark_there m (p ∷ ps) x h = elim h [
  | inl e ↦ (p, inl refl, e)
  | inr k ↦ let (q, l, e) = mark_there m ps x k in (q, inr l, e)
]

pub marks_rise : (slope : ℚ) (ps : List Point) → PointsRise ps → TimesRise (map (mark_of slope) ps)
marks_rise slope [] h = tt
marks_rise slope (p ∷ ps) h = (marks_each (λ n. p.time ≤ℚ n.time) (mark_of slope) ps h.0, marks_rise slope ps h.1)

pub marks_fit : (s : Segment) (ps : List Point) → FitsMarks ps s → Each (FitsRule (rule_of s)) (map (mark_of s.slope) ps)
marks_fit s ps h = marks_each (FitsRule (rule_of s)) (mark_of s.slope) ps h.marks

-- ---- the first point by one segment
all_taken : (ps : List Point) → take (length ps) ps ≡ ps
all_taken [] = refl
all_taken (p ∷ ps) = ap (λ (qs : List Point). p ∷ qs) (all_taken ps)

length_marks : (m : Point → Mark) (ps : List Point) → length (map m ps) ≡ length ps
length_marks m [] = refl
length_marks m (p ∷ ps) = ap suc (length_marks m ps)

pub none_by : (s : Segment) (ps es : List Point) → Each (IsOver (rule_of s) (map (mark_of s.slope) ps)) (map (mark_of s.slope) es) → IsFirstBy s ps es (length es)
none_by s ps es h = record {
  in_range = omega arith;
  none = subst (λ (qs : List Point). EachPoint (NoneShortTo ps s) qs) (sym (all_taken es)) (points_over s ps es h);
  there = λ l. absurd (omega arith);
}

take_marks : (m : Point → Mark) (k : ℕ) (ps : List Point) → take k (map m ps) ≡ map m (take k ps)
take_marks m zero ps = refl
take_marks m (suc k) [] = refl
take_marks m (suc k) (p ∷ ps) = ap (λ (xs : List Mark). m p ∷ xs) (take_marks m k ps)

pub each_taken : (P : Point → Type 0) (k : ℕ) (ps : List Point) → EachPoint P ps → EachPoint P (take k ps)
each_taken P zero ps h = tt
each_taken P (suc k) [] h = tt
each_taken P (suc k) (p ∷ ps) h = (h.0, each_taken P k ps h.1)

mark_at : (m : Point → Mark) (ps : List Point) (k : ℕ) (x : Mark) → slice_get (map m ps) k ≡ Some x → (p : Point) × (slice_get ps k ≡ Some p) × (x ≡ m p)
mark_at m [] k x h = absurd (cc)
mark_at m (p ∷ ps) zero x h = (p, refl, sym (some_one h))
  where
    unwrapped : Option Mark → Mark → Mark
    unwrapped None d = d
    unwrapped (Some y) d = y

    some_one : {a b : Mark} → Some a ≡ Some b → a ≡ b
    some_one {a} {b} e = ap (λ (o : Option Mark). unwrapped o a) e
mark_at m (p ∷ ps) (suc k) x h = mark_at m ps k x h

pub some_by : (s : Segment) (ps es : List Point) (k : ℕ) → k < length (map (mark_of s.slope) es)
    → Each (IsOver (rule_of s) (map (mark_of s.slope) ps)) (take k (map (mark_of s.slope) es))
    → (b : Mark) × (slice_get (map (mark_of s.slope) es) k ≡ Some b) × IsUnderSome (rule_of s) (map (mark_of s.slope) ps) b → IsFirstBy s ps es k
some_by s ps es k l before there = record {
  in_range = let e = length_marks (mark_of s.slope) es in omega arith;
  none = points_over s ps (take k es) (subst (Each (IsOver (rule_of s) (map (mark_of s.slope) ps))) (take_marks (mark_of s.slope) k es) before);
  there = λ _.
      let (x, at, pair) = there in
      let (a, has, under) = pair in
      let (b, at_b, e) = mark_at (mark_of s.slope) es k x at in
      let (p, has_p, f) = mark_there (mark_of s.slope) ps a has in
      (b, at_b, (p, has_p, under_short s p b (subst (λ (m : Mark). IsUnder (rule_of s) m (mark_of s.slope b)) f (subst (λ (m : Mark). IsUnder (rule_of s) a m) e under))));
}

-- ---- and by several
take_less : (k n : ℕ) (ps : List Point) → k ≤ length (take n ps) → take k (take n ps) ≡ take k ps
take_less zero n ps h = refl
take_less (suc k) zero ps h = absurd (omega arith)
take_less (suc k) (suc n) [] h = refl
take_less (suc k) (suc n) (p ∷ ps) h = ap (λ (qs : List Point). p ∷ qs) (take_less k n ps (omega arith))

get_less : (k n : ℕ) (ps : List Point) (b : Point) → slice_get (take n ps) k ≡ Some b → slice_get ps k ≡ Some b
get_less k zero ps b h = absurd (cc)
get_less k (suc n) [] b h = h
get_less zero (suc n) (p ∷ ps) b h = h
get_less (suc k) (suc n) (p ∷ ps) b h = get_less k n ps b h

length_taken : (n : ℕ) (ps : List Point) → n ≤ length ps → length (take n ps) ≡ n
length_taken zero ps h = refl
length_taken (suc n) [] h = absurd (omega arith)
length_taken (suc n) (p ∷ ps) h = ap suc (length_taken n ps (omega arith))

none_taken : (ss : List Segment) (k : ℕ) (ps es : List Point) → EachSegment (λ s. EachPoint (NoneShortTo ps s) es) ss → EachSegment (λ s. EachPoint (NoneShortTo ps s) (take k es)) ss
none_taken [] k ps es h = tt
none_taken (s ∷ ss) k ps es h = (each_taken (NoneShortTo ps s) k es h.0, none_taken ss k ps es h.1)

segment-push : (P : Segment → Type 0) (ss : List Segment) (s : Segment) → EachSegment P ss → P s → EachSegment P (ss ++ s ∷ [])
segment-push P [] s h k = (k, tt)
segment-push P (r ∷ ss) s h k = (h.0, segment-push P ss s h.1 k)

pub first_more : (some ss : List Segment) (s : Segment) (ps es : List Point) (n k : ℕ) → IsFirstEnd some ss ps es n → HasSegment s ss → IsFirstBy s ps (take n es) k
    → IsFirstEnd (some ++ s ∷ []) ss ps es k
first_more some ss s ps es n k h has_s g =
    let len = length_taken n es h.in_range in
    let cut = take_less k n es g.in_range in
    let few = h.in_range in
    let fewer = g.in_range in
    record {
      in_range = omega arith;
      none = segment-push (λ s. EachPoint (NoneShortTo ps s) (take k es)) some s
          (subst (λ (qs : List Point). EachSegment (λ s. EachPoint (NoneShortTo ps s) qs) some) cut (none_taken some k ps (take n es) h.none))
          (subst (λ (qs : List Point). EachPoint (NoneShortTo ps s) qs) cut g.none);
      there = λ l. elim (cases_lt k n) [
        | inl m ↦
            let (b, at, pair) = g.there (omega arith) in
            let (a, has, short) = pair in
            (b, get_less k n es b at, record { start = a; segment = s; one_of = has; in_curve = has_s; short = short })
        | inr m ↦
            let same : n ≡ k = omega arith in
            subst (λ (j : ℕ). (b : Point) × (slice_get es j ≡ Some b) × IsShortEnd ss ps b) same (h.there (omega arith))
      ];
    }

points_taken : (n : ℕ) (ps : List Point) → PointsRise ps → PointsRise (take n ps)
points_taken zero ps h = tt
points_taken (suc n) [] h = tt
points_taken (suc n) (p ∷ ps) h = (each_taken (λ q. p.time ≤ℚ q.time) n ps h.0, points_taken n ps h.1)

pub rise_taken : (n : ℕ) (ps qs : List Point) → qs ≡ take n ps → PointsRise ps → PointsRise qs
rise_taken n ps qs e h = subst PointsRise (sym e) (points_taken n ps h)

pub segment_at : (P : Segment → Type 0) (ss : List Segment) (n : ℕ) (s : Segment) → EachSegment P ss → n < length ss → s ≡ slice_index_or ss n s → P s
segment_at P [] n s h l e = absurd (omega arith)
segment_at P (r ∷ ss) zero s h l e = subst P (sym e) h.0
segment_at P (r ∷ ss) (suc n) s h l e = segment_at P ss n s h.1 (omega arith) e

pub has_segment : (ss : List Segment) (n : ℕ) (s : Segment) → n < length ss → s ≡ slice_index_or ss n s → HasSegment s ss
has_segment [] n s h e = absurd (omega arith)
has_segment (r ∷ ss) zero s h e = inl e
has_segment (r ∷ ss) (suc n) s h e = inr (has_segment ss n s (omega arith) e)

-- ---- from what the scan says
pub by_none : (s : Segment) (ps es : List Point) (ms ns : List Mark) (r : Rule) (o : Option ℕ) → ms ≡ map (mark_of s.slope) ps → ns ≡ map (mark_of s.slope) es → r ≡ rule_of s → o ≡ None
    → MatchOption o (Each (IsOver r ms) ns) (λ k. k < length ns) → IsFirstBy s ps es (length es)
by_none s ps es ms ns r o e e2 f g h =
    let a : Each (IsOver r ms) ns = subst (λ (p : Option ℕ). MatchOption p (Each (IsOver r ms) ns) (λ k. k < length ns)) g h in
    none_by s ps es (subst (λ (x : Rule). Each (IsOver x (map (mark_of s.slope) ps)) (map (mark_of s.slope) es)) f
    (subst (λ (xs : List Mark). Each (IsOver r (map (mark_of s.slope) ps)) xs) e2 (subst (λ (xs : List Mark). Each (IsOver r xs) ns) e a)))

pub by_some : (s : Segment) (ps es : List Point) (ms ns : List Mark) (r : Rule) (o : Option ℕ) (k : ℕ) → ms ≡ map (mark_of s.slope) ps → ns ≡ map (mark_of s.slope) es → r ≡ rule_of s → o ≡ Some k
    → MatchOption o (Each (IsOver r ms) ns) (λ k. k < length ns)
    → IfSome o (λ k. Each (IsOver r ms) (take k ns))
    → IfSome o (λ k. (b : Mark) × (slice_get ns k ≡ Some b) × IsUnderSome r ms b) → IsFirstBy s ps es k
by_some s ps es ms ns r o k e e2 f g h i j =
    let a : k < length ns = subst (λ (p : Option ℕ). MatchOption p (Each (IsOver r ms) ns) (λ k. k < length ns)) g h in
    let b : Each (IsOver r ms) (take k ns) = subst (λ (p : Option ℕ). IfSome p (λ k. Each (IsOver r ms) (take k ns))) g i in
    let d : (b : Mark) × (slice_get ns k ≡ Some b) × IsUnderSome r ms b = subst (λ (p : Option ℕ). IfSome p (λ k. (b : Mark) × (slice_get ns k ≡ Some b) × IsUnderSome r ms b)) g j in
    some_by s ps es k (subst (λ (xs : List Mark). k < length xs) e2 a)
    (subst (λ (x : Rule). Each (IsOver x (map (mark_of s.slope) ps)) (take k (map (mark_of s.slope) es))) f
    (subst (λ (xs : List Mark). Each (IsOver r (map (mark_of s.slope) ps)) (take k xs)) e2 (subst (λ (xs : List Mark). Each (IsOver r xs) (take k ns)) e b)))
    (subst (λ (x : Rule). (b : Mark) × (slice_get (map (mark_of s.slope) es) k ≡ Some b) × IsUnderSome x (map (mark_of s.slope) ps) b) f
    (subst (λ (xs : List Mark). (b : Mark) × (slice_get xs k ≡ Some b) × IsUnderSome r (map (mark_of s.slope) ps) b) e2
    (subst (λ (xs : List Mark). (b : Mark) × (slice_get ns k ≡ Some b) × IsUnderSome r xs b) e d)))

pub scan_rise : (s : Segment) (ps : List Point) (ms : List Mark) → ms ≡ map (mark_of s.slope) ps → PointsRise ps → TimesRise ms
scan_rise s ps ms e h = subst TimesRise (sym e) (marks_rise s.slope ps h)

pub scan_fits : (s : Segment) (ps : List Point) (ms : List Mark) (r : Rule) → ms ≡ map (mark_of s.slope) ps → r ≡ rule_of s → FitsMarks ps s → Each (FitsRule r) ms
scan_fits s ps ms r e f h = subst (λ (x : Rule). Each (FitsRule x) ms) (sym f) (subst (Each (FitsRule (rule_of s))) (sym e) (marks_fit s ps h))

taken_segment : (ss : List Segment) (n : ℕ) (s : Segment) → n < length ss → s ≡ slice_index_or ss n s → take (suc n) ss ≡ take n ss ++ s ∷ []
taken_segment [] n s h e = absurd (omega arith)
taken_segment (r ∷ ss) zero s h e = ap (λ (x : Segment). x ∷ []) (sym e)
taken_segment (r ∷ ss) (suc n) s h e = ap (λ (xs : List Segment). r ∷ xs) (taken_segment ss n s (omega arith) e)

pub first_step : (ss : List Segment) (j : ℕ) (s : Segment) (ps es : List Point) (n k : ℕ) → IsFirstEnd (take j ss) ss ps es n → j < length ss → s ≡ slice_index_or ss j s
    → IsFirstBy s ps (take n es) k → IsFirstEnd (take (j + 1) ss) ss ps es k
first_step ss j s ps es n k h l e g =
    let same : suc j ≡ j + 1 = omega arith in
    subst (λ (m : ℕ). IsFirstEnd (take m ss) ss ps es k) same
    (subst (λ (xs : List Segment). IsFirstEnd xs ss ps es k) (sym (taken_segment ss j s l e)) (first_more (take j ss) ss s ps es n k h (has_segment ss j s l e) g))

pub fits_taken : (n : ℕ) (ps qs : List Point) (s : Segment) → qs ≡ take n ps → FitsMarks ps s → FitsMarks qs s
fits_taken n ps qs s e h = subst (λ (xs : List Point). FitsMarks xs s) (sym e) record {
  keys = each_taken (KeySteps s.slope) n ps h.keys;
  gap = h.gap;
  marks = each_taken (λ p. FitsRule (rule_of s) (mark_of s.slope p)) n ps h.marks;
}

-- ---- the points in reach
pub has_each : (P : Point → Type 0) (ps : List Point) (p : Point) → EachPoint P ps → HasPoint p ps → P p
has_each P [] p h k = absurd k
has_each P (q ∷ ps) p h k = elim k [ inl e ↦ subst P (sym e) h.0 | inr l ↦ has_each P ps p h.1 l ]

each_has : (P : Point → Type 0) (ps : List Point) → ((p : Point) → HasPoint p ps → P p) → EachPoint P ps
each_has P [] f = tt
each_has P (p ∷ ps) f = (f p (inl refl), each_has P ps (λ q h. f q (inr h)))

has_parts : (n : ℕ) (ps : List Point) (p : Point) → HasPoint p ps → HasPoint p (take n ps) ⊎ HasPoint p (drop n ps)
has_parts zero ps p h = inr h
has_parts (suc n) [] p h = absurd h
has_parts (suc n) (q ∷ ps) p h = elim h [
  | inl e ↦ inl (inl e)
  | inr k ↦ elim (has_parts n ps p k) [ inl l ↦ inl (inr l) | inr l ↦ inr l ]
]

has_taken : (n : ℕ) (ps : List Point) (p : Point) → HasPoint p (take n ps) → HasPoint p ps
has_taken zero ps p h = absurd h
has_taken (suc n) [] p h = absurd h
has_taken (suc n) (q ∷ ps) p h = elim h [ inl e ↦ inl e | inr k ↦ inr (has_taken n ps p k) ]

has_dropped : (n : ℕ) (ps : List Point) (p : Point) → HasPoint p (drop n ps) → HasPoint p ps
has_dropped zero ps p h = h
has_dropped (suc n) [] p h = absurd h
has_dropped (suc n) (q ∷ ps) p h = inr (has_dropped n ps p h)

rise_dropped : (n : ℕ) (ps : List Point) → PointsRise ps → PointsRise (drop n ps)
rise_dropped zero ps h = h
rise_dropped (suc n) [] h = h
rise_dropped (suc n) (q ∷ ps) h = rise_dropped n ps h.1

pub point_in : (ps : List Point) (k : ℕ) (p : Point) → k < length ps → p ≡ slice_index_or ps k p → HasPoint p ps
point_in [] k p l e = absurd (omega arith)
point_in (q ∷ ps) zero p l e = inl e
point_in (q ∷ ps) (suc k) p l e = inr (point_in ps k p (omega arith) e)

pub each_at : (P : Point → Type 0) (ps : List Point) (k : ℕ) (p : Point) → EachPoint P ps → k < length ps → p ≡ slice_index_or ps k p → P p
each_at P ps k p h l e = has_each P ps p h (point_in ps k p l e)

-- what holds at one of them holds at all before it, or at all from it on
pub past_upto : (most : Option ℚ) (t : ℚ) (ps : List Point) (k : ℕ) (p : Point) → PointsRise ps → k < length ps → p ≡ slice_index_or ps k p → IsPast most p.time t → EachPoint (λ q. IsPast most q.time t) (take (suc k) ps)
past_upto most t [] k p rise l e h = absurd (omega arith)
past_upto most t (q ∷ ps) zero p rise l e h = (subst (λ (x : Point). IsPast most x.time t) e h, tt)
past_upto most t (q ∷ ps) (suc k) p rise l e h =
    (earlier most q.time p.time t (has_each (λ x. q.time ≤ℚ x.time) ps p rise.0 (point_in ps k p (omega arith) e)) h, past_upto most t ps k p rise.1 (omega arith) e h)
  where
    earlier : (most : Option ℚ) (a b t : ℚ) → a ≤ℚ b → IsPast most b t → IsPast most a t
    earlier None a b t l h = h
    earlier (Some m) a b t l h = with4 a b m t (λ c. omega (arith, c.le, c.lt, c.same))

pub late_from : (r : Rule) (t : ℚ) (ps : List Point) (k : ℕ) (p : Point) → PointsRise ps → k < length ps → p ≡ slice_index_or ps k p → IsTooLate r t p → EachPoint (IsTooLate r t) (drop k ps)
late_from r t [] k p rise l e h = absurd (omega arith)
late_from r t (q ∷ ps) zero p rise l e h =
    let here : IsTooLate r t q = subst (IsTooLate r t) e h in
    (here, each_point_map (λ x. q.time ≤ℚ x.time) (IsTooLate r t) (λ x m. later q.time x.time t r.least m here) ps rise.0)
  where
    later : (a b t x : ℚ) → a ≤ℚ b → t <ℚ a +ℚ x → t <ℚ b +ℚ x
    later a b t x l h = with4 a b t x (λ c. omega (arith, c.le, c.lt, c.same))
late_from r t (q ∷ ps) (suc k) p rise l e h = late_from r t ps k p rise.1 (omega arith) e h

pub past_more : (most : Option ℚ) (t : ℚ) (ps : List Point) (k : ℕ) (p : Point) → PointsRise ps → p ≡ slice_index_or ps k p → k < length ps → IsPast most p.time t → EachPoint (λ q. IsPast most q.time t) (take (k + 1) ps)
past_more most t ps k p rise e l h = rw add-one (past_upto most t ps k p rise l e h)

pub late_more : (r : Rule) (t u : ℚ) (ps : List Point) (k : ℕ) (p : Point) → PointsRise ps → p ≡ slice_index_or ps k p → k < length ps → u ≡ p.time +ℚ r.least → t <ℚ u → EachPoint (IsTooLate r t) (drop k ps)
late_more r t u ps k p rise e l f h = late_from r t ps k p rise l e (subst (λ x. t <ℚ x) f h)

-- the middle of two numbers
pub middle_inside : (low high n m : ℕ) → low < high → high ≤ n → m ≡ low + (high - low) / 2 → m < n
middle_inside low high n m l h e = omega arith

pub none_late : (r : Rule) (t : ℚ) (ps : List Point) → EachPoint (IsTooLate r t) (drop (length ps) ps)
none_late r t [] = tt
none_late r t (p ∷ ps) = none_late r t ps

pub fits_most : (s : Segment) (ps : List Point) → FitsMarks ps s → EachPoint (λ p. MostFits s.end p.time) ps
fits_most s ps h = each_point_map (λ p. FitsRule (rule_of s) (mark_of s.slope p)) (λ p. MostFits s.end p.time) (λ p k. k.most) ps h.marks

pub fits_least : (s : Segment) (ps : List Point) → FitsMarks ps s → EachPoint (λ p. SumFits p.time s.start) ps
fits_least s ps h = each_point_map (λ p. FitsRule (rule_of s) (mark_of s.slope p)) (λ p. SumFits p.time s.start) (λ p k. k.least) ps h.marks

pub reach : (s : Segment) (ps fs qs : List Point) (first last : ℚ) (far past : ℕ) → PointsRise ps → fs ≡ take far ps → qs ≡ drop past fs → EachPoint (IsTooLate (rule_of s) last) (drop far ps)
    → EachPoint (λ p. IsPast s.end p.time first) (take past fs) → HoldsStarts s ps first last qs
reach s ps fs qs first last far past rise e f late gone = record {
  are = λ a h. has_taken far ps a (subst (HasPoint a) e (has_dropped past fs a (subst (HasPoint a) f h)));
  all = λ a b h from upto short. elim (has_parts far ps a h) [
    | inr k ↦ absurd (lt_irrefl b.time (le_lt_trans upto (lt_le_trans (has_each (IsTooLate (rule_of s) last) (drop far ps) a late k) (short_under s a b short).far)))
    | inl k ↦ elim (has_parts past fs a (subst (HasPoint a) (sym e) k)) [
      | inl l ↦ absurd ((short_under s a b short).near (longer s.end a.time first b.time from (has_each (λ p. IsPast s.end p.time first) (take past fs) a gone l)))
      | inr l ↦ subst (HasPoint a) (sym f) l
    ]
  ];
  rise = subst PointsRise (sym f) (rise_dropped past fs (subst PointsRise (sym e) (points_taken far ps rise)));
}
  where
    longer : (most : Option ℚ) (a t u : ℚ) → t ≤ℚ u → IsPast most a t → IsPast most a u
    longer None a t u l h = h
    longer (Some m) a t u l h = le_trans h l

-- as the code has it
pub reach_as : (s : Segment) (ps fs qs : List Point) (r : Rule) (first last : ℚ) (far past : ℕ) → PointsRise ps → fs ≡ take far ps → qs ≡ drop past fs → r ≡ rule_of s → EachPoint (IsTooLate r last) (drop far ps)
    → EachPoint (λ p. IsPast r.most p.time first) (take past fs) → HoldsStarts s ps first last qs
reach_as s ps fs qs r first last far past rise e f g late gone =
    reach s ps fs qs first last far past rise e f (subst (λ (x : Rule). EachPoint (IsTooLate x last) (drop far ps)) g late) (subst (λ (x : Rule). EachPoint (λ p. IsPast x.most p.time first) (take past fs)) g gone)

-- the ends are from the first of them to the last
pub first_is_least : (es : List Point) (p : Point) → PointsRise es → 0 < length es → p ≡ slice_index_or es 0 p → EachPoint (λ q. p.time ≤ℚ q.time) es
first_is_least [] p rise l e = absurd (omega arith)
first_is_least (q ∷ es) p rise l e = subst (λ (x : Point). EachPoint (λ r. x.time ≤ℚ r.time) (q ∷ es)) (sym e) (le_refl q.time, rise.0)

pub last_is_most : (es : List Point) (k : ℕ) (p : Point) → PointsRise es → suc k ≡ length es → p ≡ slice_index_or es k p → EachPoint (λ q. q.time ≤ℚ p.time) es
last_is_most [] k p rise l e = absurd (omega arith)
last_is_most (q ∷ []) zero p rise l e = (subst (λ (x : Point). q.time ≤ℚ x.time) (sym e) (le_refl q.time), tt)
last_is_most (q ∷ r ∷ es) zero p rise l e = absurd (omega arith)
last_is_most (q ∷ es) (suc k) p rise l e = (has_each (λ x. q.time ≤ℚ x.time) es p rise.0 (point_in es k p (omega arith) e), last_is_most es k p rise.1 (omega arith) e)

pub starts_fit : (s : Segment) (ps qs : List Point) (first last : ℚ) → HoldsStarts s ps first last qs → FitsMarks ps s → FitsMarks qs s
starts_fit s ps qs first last h f = record {
  keys = each_has (KeySteps s.slope) qs (λ p k. has_each (KeySteps s.slope) ps p f.keys (h.are p k));
  gap = f.gap;
  marks = each_has (λ p. FitsRule (rule_of s) (mark_of s.slope p)) qs (λ p k. has_each (λ p. FitsRule (rule_of s) (mark_of s.slope p)) ps p f.marks (h.are p k));
}

-- the first end of a window from those in reach is the first of all
pub first_of_reach : (s : Segment) (ps qs es : List Point) (first last : ℚ) (k : ℕ) → HoldsStarts s ps first last qs → EachPoint (λ q. first ≤ℚ q.time) es → EachPoint (λ q. q.time ≤ℚ last) es → IsFirstBy s qs es k
    → IsFirstBy s ps es k
first_of_reach s ps qs es first last k h least most f = record {
  in_range = f.in_range;
  none = each_has (NoneShortTo ps s) (take k es) (λ b m.
      let l = has_taken k es b m in
      each_has (λ a. ¬ IsShortBy s a b) ps (λ a has short.
      has_each (λ x. ¬ IsShortBy s x b) qs a (has_each (NoneShortTo qs s) (take k es) b f.none m)
      (h.all a b has (has_each (λ q. first ≤ℚ q.time) es b least l) (has_each (λ q. q.time ≤ℚ last) es b most l) short) short));
  there = λ l.
      let (b, at, pair) = f.there l in
      let (a, has, short) = pair in
      (b, at, (a, h.are a has, short));
}
