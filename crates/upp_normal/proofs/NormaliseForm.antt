-- The normal form from what its steps leave.
use Rattle.std.specs.Prelude.{◌≡◌, ℕ, ◌-◌, ◌<◌, ◌≤◌, pos, List, [], ◌∷◌, ◌++◌, ◌⊎◌, length, Option, None, Some, Result, Ok, Err, IfOk}
use Rattle.std.proofs.Common.{arith, sym, ap, ◌∙◌, refl, subst, inl, inr, get_or}
use Rattle.rational.specs.Rational.{ℚ, ◌+ℚ◌, ◌-ℚ◌, ◌*ℚ◌, ◌/ℚ◌, ◌≤ℚ◌, ◌<ℚ◌, int}
use Rattle.rational.specs.Whole.{periods}
use Rattle.rational.proofs.Laws.{le_or_lt, le_of_lt, le_refl, le_trans, le_lt_trans, antisym}
use Rattle.rational.proofs.Linear.{with3, with4}
use Rattle.rational.proofs.Over.{le_q_out}
use Rattle.rational.proofs.Whole.{periods_high}
use Rattle.rational.specs.Extended.{Ext, ◌+ₑ◌}
use Rattle.rational.specs.declared.Extended.TheVariants.{Fin}
use Rattle.upp_curve.specs.declared.affine_segment.line.Line.{Line}
use Rattle.upp_curve.specs.declared.affine_segment.line.Piece.{Piece}
use Rattle.upp_curve.specs.affine_segment.Values.{line_value}
use Rattle.upp_normal.specs.declared.cycle.Cycle.{Cycle}
use Rattle.upp_curve.specs.affine_segment.Reading.{read, piece_value}
use Rattle.upp_curve.specs.Curve.{repeated, cut, value_at}
use Rattle.upp_curve.specs.Steady.{Repeats, last_line}
use Rattle.upp_curve.specs.Unrolled.{upto}
use Rattle.upp_curve.specs.affine_segment.Pieces.{StartsAtZero, Each, HasStart}
use Rattle.upp_curve.specs.Normal.{NoMerge}
use Rattle.upp_normal.specs.Normalising.{IsPart, IsMerged, IsTwoPeriods, Turned, IsLowest, IsLeast, IsFormOf, IsOneLine, OnGrids, OnGridsUnlessLine, cycle_values, second_copy, ended}
use Rattle.upp_curve.proofs.Steady.{cut_past}
use Rattle.upp_curve.proofs.Unique.{upto_none, upto_some}
use Rattle.upp_curve.proofs.affine_segment.PieceIn.{value_at_start, value_past, read_one}
use Rattle.upp_curve.proofs.Normal.{transfer, periodic}
use Rattle.upp_curve.proofs.OneForm.{affine, infinite, affine_value, infinite_value}
use Rattle.upp_curve.proofs.Rules.{rule_extends}
use Rattle.upp_curve.proofs.Repeats.{repeated_first, repeated_rule}
use Rattle.upp_normal.proofs.UnrolledValues.{read_before}
use Rattle.upp_normal.proofs.Below.{read_from_cut, plain_upto}
use Rattle.upp_curve.proofs.affine_segment.PieceOrder.{each_map, each_append, rises_append, has_mid}
use Rattle.upp_normal.proofs.NormaliseLists.{rises_upto}
use Rattle.upp_normal.proofs.NormaliseCuts.{last_append}
use Rattle.upp_normal.proofs.NormalisePeriods.{two_periods_are, repeats_after}
use Rattle.upp_normal.proofs.NormaliseRank.{Last, last_is}
use Rattle.upp_normal.proofs.NormaliseDivided.{cut_of, period_is, not_one_line}
use Rattle.upp_normal.proofs.NormaliseLeast.{own_turning, share_some}
use Rattle.upp_limits.proofs.PieceCounts.{upto_early}

-- ---- a merge of a whole list
pub each_part : (P : Piece → Type 0) (rs ps : List Piece) → IsPart rs ps → Each P ps → Each P rs
each_part P rs [] k h = subst (Each P) (sym k) tt
each_part P rs (p ∷ ps) (inl k) h = each_part P rs ps k h.1
each_part P rs (p ∷ ps) (inr (qs, e, k)) h = subst (Each P) (sym e) (h.0, each_part P qs ps k h.1)

pub record MergedList (ps items : List Piece) : Type 0 where
  pub starts : StartsAtZero items
  pub none : NoMerge items
  pub reads : (t : ℚ) → read items t ≡ read ps t
  pub inside : (x : ℚ) → Each (λ z. z.x <ℚ x) ps → Each (λ z. z.x <ℚ x) items

pub merged_cons : (p : Piece) (ps kept items : List Piece) → p.x ≡ int (pos 0) → items ≡ p ∷ kept → IsMerged p ps kept → MergedList (p ∷ ps) items
merged_cons p ps kept items zero e M = subst (MergedList (p ∷ ps)) (sym e) record {
  starts = (zero, M.rises);
  none = M.none;
  reads = M.reads;
  inside = λ x h. (h.0, each_part (λ z. z.x <ℚ x) kept ps M.part h.1);
}

pub merged_list : (ps items : List Piece) → StartsAtZero ps → ((p : Piece) (rest : List Piece) → ps ≡ p ∷ rest → (kept : List Piece) × (items ≡ p ∷ kept) × IsMerged p rest kept) → MergedList ps items
merged_list [] items zero M = absurd zero
merged_list (p ∷ ps) items zero M = let (kept, e, K) = M p ps refl in merged_cons p ps kept items zero.0 e K

-- ---- pieces that go on with their last line
last_line_is : (es : List Piece) (q : Piece) → last_line (es ++ q ∷ []) ≡ q.line
last_line_is [] q = refl
last_line_is (e ∷ es) q = ap (λ z. z.line) (last_append e es q [])

pub record Ends (ps : List Piece) (last : Piece) : Type 0 where
  pub early : Each (λ z. z.x ≤ℚ last.x) ps
  pub has : HasStart last.x ps
  pub line : last_line ps ≡ last.line
  pub nonneg : int (pos 0) ≤ℚ last.x

pub ends_at : (ps : List Piece) (last : Piece) → StartsAtZero ps → Last ps last → Ends ps last
ends_at ps last zero L =
    let early2 = each_append (λ z. z.x ≤ℚ last.x) L.before (last ∷ []) (each_map (λ z. z.x <ℚ last.x) (λ z. z.x ≤ℚ last.x) (λ z h. le_of_lt h) L.before L.early) (le_refl last.x, tt) in
    subst (λ zs. Ends zs last) (sym L.whole) record {
      early = early2;
      has = has_mid L.before last [];
      line = last_line_is L.before last;
      nonneg = first_low (L.before ++ last ∷ []) (subst StartsAtZero L.whole zero) early2;
    }
  where
    first_low : (zs : List Piece) → StartsAtZero zs → Each (λ z. z.x ≤ℚ last.x) zs → int (pos 0) ≤ℚ last.x
    first_low [] z e = absurd z
    first_low (a ∷ zs) z e = subst (λ x. x ≤ℚ last.x) z.0 e.0

pub infinite_form : (ps : List Piece) (last : Piece) → StartsAtZero ps → NoMerge ps → Last ps last → last.line ≡ None → IsFormOf (infinite ps last.x) (read ps)
infinite_form ps last zero none L e =
    let E = ends_at ps last zero L in
    let no : last_line ps ≡ None = E.line ∙ e in
    record {
      normal = record {
        raw = record { starts = zero; tail = record { nonneg = E.nonneg; starts = E.early } };
        rank_is_start = E.has;
        no_merge = none;
        tail = no;
      };
      same = λ t h. infinite_value ps last.x t E.early no;
    }

pub affine_form : (ps : List Piece) (last : Piece) (l : Line) → StartsAtZero ps → NoMerge ps → Last ps last → last.line ≡ Some l → IsFormOf (affine ps last.x) (read ps)
affine_form ps last l zero none L e =
    let E = ends_at ps last zero L in
    record {
      normal = record {
        raw = record { starts = zero; tail = record { nonneg = E.nonneg; starts = E.early } };
        rank_is_start = E.has;
        no_merge = none;
        tail = λ no. some_none l (sym e ∙ sym E.line ∙ no);
      };
      same = λ t h. affine_value ps last.x t;
    }
  where
    some_none : (l : Line) → Some l ≡ None → ⊥
    some_none l e = cc

-- ---- a period between breaks
periodic_is : (ps : List Piece) (r d c t : ℚ) → value_at (periodic ps r d c) t ≡ repeated (read ps) r d c t
unfolding value_at
periodic_is ps r d c t = refl

same_rule : (f g : ℚ → Ext) (s p q : ℚ) → ((t : ℚ) → f t ≡ g t) → Repeats g s p q → Repeats f s p q
same_rule f g s p q same R = record { rule = λ t h. same (t +ℚ p) ∙ R.rule t h ∙ ap (λ v. v +ₑ Fin q) (sym (same t)) }

-- the tail of a curve whose period begins and ends at a break is not one line
pub turning_line : (ps : List Piece) (first : ℕ) (r d c : ℚ) (f : ℚ → Ext) → Turned ps first r d c f → (l : Option Line)
    → ¬ ((t : ℚ) → r ≤ℚ t → repeated (read ps) r d c t ≡ line_value l t)
turning_line ps first r d c f T l is =
    let K = cut_of ps r d T.cycle in
    let P = period_is ps r d c T.cycle T.break K in
    let R = subst (λ x. Repeats (repeated (read ps) r d c) x d c) (sym K.at) (repeated_rule (read ps) r d c T.cycle.some) in
    not_one_line (repeated (read ps) r d c) d c K.first K.rest T.cycle.some P R l (λ t h. is t (subst (λ x. x ≤ℚ t) K.at h))

-- with the least rank: f's rule holds from r on for no fraction of the period, and from there on f is not one line
pub lowest_form : (given ps : List Piece) (low d u r : ℚ) (f : ℚ → Ext) → IsLowest given ps low d u r f → int (pos 0) ≤ℚ r
    → ((n : ℕ) → 2 ≤ n → ¬ (Repeats f r (d /ℚ int (pos n)) (u /ℚ int (pos n))))
    → ((l : Option Line) → ¬ ((t : ℚ) → r ≤ℚ t → f t ≡ line_value l t)) → IsFormOf (periodic ps low d u) f
lowest_form given ps low d u r f W on shorter bent =
    let g = value_at (periodic ps low d u) in
    let C = W.cycle in
    -- what g repeats from its rank f repeats from r
    let down = λ (e v : ℚ) (h : int (pos 0) ≤ℚ e) (R : Repeats g low e v).
    repeats_after f low r e v W.lower (transfer f g low e v C.nonneg h (λ t k. sym (periodic_is ps low d u t ∙ W.same t k)) R) in
    record {
      normal = record {
        raw = record { starts = C.starts; tail = record { nonneg = C.nonneg; some = C.some; starts = C.inside } };
        rank_is_start = C.has;
        no_merge = C.none;
        tail = record {
          least_period = λ n a R. shorter n a (down (d /ℚ int (pos n)) (u /ℚ int (pos n)) (le_of_lt (share_some d n (omega arith) C.some)) R);
          least_rank =
              each_map (λ p. p.x <ℚ low → ¬ (Repeats (repeated (read ps) low d u) p.x d u)) (λ p. p.x <ℚ low → ¬ (Repeats g p.x d u))
              (λ p h l R. h l (same_rule (repeated (read ps) low d u) g p.x d u (λ t. sym (periodic_is ps low d u t)) R)) ps W.least;
          not_one_line = λ l is. bent l (λ t h. sym (W.same t (le_trans on h)) ∙ sym (periodic_is ps low d u t) ∙ is t (le_trans W.lower h));
        };
      };
      same = λ t h. periodic_is ps low d u t ∙ W.same t h;
    }

pub repeating_form : (times values : ℕ) (c m : Cycle) (ps : List Piece) (low d u : ℚ) → IsLeast times values c m → IsLowest m.pieces.items ps low d u m.rank (cycle_values m) → d ≡ m.period → u ≡ m.rise → IsFormOf (periodic ps low d u) (cycle_values c)
repeating_form times values c m ps low d u L W dm um =
    let T = own_turning m (cycle_values c) L.turned in
    let shorter = λ (n : ℕ) (a : 2 ≤ n) (R : Repeats (cycle_values m) m.rank (d /ℚ int (pos n)) (u /ℚ int (pos n))).
    L.least n a (subst (λ x. Repeats (cycle_values m) m.rank (x /ℚ int (pos n)) (m.rise /ℚ int (pos n))) dm (subst (λ y. Repeats (cycle_values m) m.rank (d /ℚ int (pos n)) (y /ℚ int (pos n))) um R)) in
    let form = lowest_form m.pieces.items ps low d u m.rank (cycle_values m) W T.cycle.nonneg shorter
    (turning_line m.pieces.items m.first m.rank m.period m.rise (cycle_values m) T) in
    record { normal = form.normal; same = λ t h. form.same t h ∙ L.turned.same t h }

-- ---- the grids of a curve's periods
-- where the fractions of f's period from some time on stand on the grids, unless f is one line from there, those of the curve do
pub turning_grids : (times values : ℕ) (f : ℚ → Ext) (s : ℚ) (ps : List Piece) (first : ℕ) (r d c : ℚ) → Repeats f s d c → s ≤ℚ r
    → OnGridsUnlessLine times values f s d c → Turned ps first r d c f → OnGrids times values (repeated (read ps) r d c) r d c
turning_grids times values f s ps first r d c F low G T =
    let g = repeated (read ps) r d c in
    let bent : ¬ (IsOneLine f s) = λ (l, is). turning_line ps first r d c f T l (λ t h. T.same t (le_trans T.cycle.nonneg h) ∙ is t (le_trans low h)) in
    let on = G bent in
    let some = T.cycle.some in
    let up = λ (n : ℕ) (h : 1 ≤ n) (R : Repeats g r (d /ℚ int (pos n)) (c /ℚ int (pos n))).
    let e = d /ℚ int (pos n) in
    let v = c /ℚ int (pos n) in
    let e_some = le_of_lt (share_some d n h some) in
    rule_extends f s d c r e v F (transfer f g r e v T.cycle.nonneg e_some (λ t k. sym (T.same t k)) R) some e_some in
    record { time = λ n h R. on.time n h (up n h R); value = λ n h R. on.value n h (up n h R) }

-- ---- two periods of a given curve
-- what repeats depends on the first period alone
repeated_below : (f g : ℚ → Ext) (r d c t : ℚ) → int (pos 0) <ℚ d → ((u : ℚ) → u <ℚ r +ℚ d → f u ≡ g u) → repeated f r d c t ≡ repeated g r d c t
unfolding repeated
repeated_below f g r d c t some same =
    let high = periods_high r d t some in
    let n = int (pos (periods r d t)) *ℚ d in
    ap (λ v. v +ₑ Fin (int (pos (periods r d t)) *ℚ c)) (same (t -ℚ n) (with4 r t n d (λ c. omega (arith, c.le, c.lt, c.same))))

pub record TwoPeriodsOf (given items : List Piece) (r d c : ℚ) : Type 0 where
  pub two : IsTwoPeriods items r d c
  pub same : (t : ℚ) → repeated (read items) r d c t ≡ repeated (read given) r d c t

pub two_periods_of : (p : Piece) (ps longer items : List Piece) (r d c : ℚ) → StartsAtZero (p ∷ ps) → int (pos 0) ≤ℚ r → int (pos 0) <ℚ d → Each (λ z. z.x <ℚ r +ℚ d) (p ∷ ps)
    → longer ≡ p ∷ (ps ++ second_copy p ps r d c) → MergedList longer items → TwoPeriodsOf (p ∷ ps) items r d c
two_periods_of p ps longer items r d c zero nonneg some inside e M =
    let low : p.x ≤ℚ r = subst (λ x. x ≤ℚ r) (sym zero.0) nonneg in
    let T = two_periods_are p ps r d c some low zero.1 inside.1 in
    let reads = λ (t : ℚ). M.reads t ∙ ap (λ zs. read zs t) e in
    let begin : p.x <ℚ r +ℚ d +ℚ d = let x = p.x in with3 x r d (λ c. omega (arith, c.le, c.lt, c.same)) in
    let same = λ (t : ℚ). repeated_below (read items) (read (p ∷ ps)) r d c t some (λ u h. reads u ∙ T.reads u (with3 u r d (λ c. omega (arith, c.le, c.lt, c.same))) ∙ repeated_first (read (p ∷ ps)) r d c u some h) in
    record {
      two = record {
        starts = M.starts;
        none = M.none;
        nonneg = nonneg;
        some = some;
        inside = M.inside (r +ℚ d +ℚ d) (subst (Each (λ z. z.x <ℚ r +ℚ d +ℚ d)) (sym e) (begin, T.inside));
        again = λ t h. reads t ∙ T.reads t h ∙ sym (same t);
      };
      same = same;
    }

-- ---- pieces that end at the rank of an infinite tail
pub cut_before : (f : ℚ → Ext) (rank t : ℚ) → t ≤ℚ rank → cut f rank t ≡ f t
unfolding cut
cut_before f rank t l = rw (le_q_out t rank l) refl

pub ended_starts : (ps : List Piece) (r : ℚ) → StartsAtZero ps → int (pos 0) ≤ℚ r → StartsAtZero (ended ps r)
ended_starts [] r zero h = absurd zero
ended_starts (p ∷ ps) r zero h =
    let z : Piece = record { x = r; at = read (p ∷ ps) r; line = None } in
    by_time z refl (le_or_lt r (int (pos 0)))
  where
    by_time : (z : Piece) → z.x ≡ r → (r ≤ℚ int (pos 0)) ⊎ (int (pos 0) <ℚ r) → StartsAtZero (upto r (p ∷ ps) ++ z ∷ [])
    by_time z e (inl l) =
        let none = upto_none r p ps (subst (λ x. r ≤ℚ x) (sym zero.0) l) in
        subst (λ zs. StartsAtZero (zs ++ z ∷ [])) (sym none) (e ∙ antisym (l, h), tt)
    by_time z e (inr l) =
        let first : p.x <ℚ r = subst (λ x. x <ℚ r) (sym zero.0) l in
        let some = upto_some r p ps first in
        let rise = rises_append p.x (upto r ps) z [] (rises_upto p.x r ps zero.1) (subst (λ x. p.x <ℚ x) (sym e) first) (subst (λ x. Each (λ q. q.x <ℚ x) (upto r ps)) (sym e) (upto_early r ps)) tt in
        subst (λ zs. StartsAtZero (zs ++ z ∷ [])) (sym some) (zero.0, rise)

pub ended_reads : (ps : List Piece) (r t : ℚ) → StartsAtZero ps → int (pos 0) ≤ℚ t → read (ended ps r) t ≡ cut (read ps) r t
ended_reads ps r t zero h =
    let z : Piece = record { x = r; at = read ps r; line = None } in
    elim (le_or_lt r t) [
      | inl l ↦
          let up : Each (λ q. q.x ≤ℚ t) (upto r ps) = each_map (λ q. q.x <ℚ r) (λ q. q.x ≤ℚ t) (λ q m. le_trans (le_of_lt m) l) (upto r ps) (upto_early r ps) in
          read_from_cut (upto r ps) z [] t up l ∙ read_one z t ∙ by_end z refl refl refl l (le_or_lt t r)
      | inr l ↦ before z refl l (upto r ps) (plain_upto ps r t zero h l) (some_before l) ∙ sym (cut_before (read ps) r t (le_of_lt l))
    ]
  where
    by_end : (z : Piece) → z.x ≡ r → z.at ≡ read ps r → z.line ≡ None → r ≤ℚ t → (t ≤ℚ r) ⊎ (r <ℚ t) → piece_value z t ≡ cut (read ps) r t
    by_end z x at line l (inl k) =
        let e : r ≡ t = antisym (l, k) in
        subst (λ t. piece_value z t ≡ cut (read ps) r t) e
        (subst (λ y. piece_value z y ≡ read ps r) x (value_at_start z ∙ at) ∙ sym (cut_before (read ps) r r (le_refl r)))
    by_end z x at line l (inr k) = value_past z t (subst (λ y. y <ℚ t) (sym x) k) ∙ ap (λ m. line_value m t) line ∙ sym (cut_past (read ps) r t k)

    some_before : t <ℚ r → 0 < length (upto r ps)
    some_before l = longer ps zero (le_lt_trans h l)
      where
        longer : (ps : List Piece) → StartsAtZero ps → int (pos 0) <ℚ r → 0 < length (upto r ps)
        longer [] z k = absurd z
        longer (p ∷ ps) z k = omega (arith, ap length (upto_some r p ps (subst (λ x. x <ℚ r) (sym z.0) k)))

    before : (z : Piece) → z.x ≡ r → t <ℚ r → (es : List Piece) → read es t ≡ read ps t → 0 < length es → read (es ++ z ∷ []) t ≡ read ps t
    before z x l [] e n = absurd (omega arith)
    before z x l (a ∷ es) e n = read_before a es z [] t (subst (λ y. t <ℚ y) (sym x) l) ∙ e

-- ---- from what the code has
pub last_read : (ps : List Piece) (last : Piece) (n : ℕ) → StartsAtZero ps → NoMerge ps → n ≡ length ps → 0 < n → last ≡ get_or ps (n - 1) last → Last ps last
last_read ps last n zero none e some is =
    let at : get_or ps (length ps - 1) last ≡ last = ap (λ m. get_or ps (m - 1) last) (sym e) ∙ sym is in
    subst (Last ps) at (last_is ps last zero none (subst (λ m. 0 < m) e some))

pub ok_map : {A E : Type 0} (r : Result A E) (P Q : A → Type 0) → ((x : A) → P x → Q x) → IfOk r P → IfOk r Q
ok_map (Ok x) P Q f h = f x h
ok_map (Err e) P Q f h = h

pub grids_through : (times values : ℕ) (f g : ℚ → Ext) (r d u : ℚ) → ((t : ℚ) → f t ≡ g t) → OnGridsUnlessLine times values g r d u → OnGridsUnlessLine times values f r d u
grids_through times values f g r d u same G bent =
    let on = G (λ (l, is). bent (l, λ t h. same t ∙ is t h)) in
    record {
      time = λ n h R. on.time n h (same_rule g f r (d /ℚ int (pos n)) (u /ℚ int (pos n)) (λ t. sym (same t)) R);
      value = λ n h R. on.value n h (same_rule g f r (d /ℚ int (pos n)) (u /ℚ int (pos n)) (λ t. sym (same t)) R);
    }

-- two periods of a list that starts at 0
pub two_periods_list : (given longer items : List Piece) (r d c : ℚ) → StartsAtZero given → int (pos 0) ≤ℚ r → int (pos 0) <ℚ d → Each (λ z. z.x <ℚ r +ℚ d) given
    → ((p : Piece) (ps : List Piece) → given ≡ p ∷ ps → longer ≡ p ∷ (ps ++ second_copy p ps r d c)) → MergedList longer items → TwoPeriodsOf given items r d c
two_periods_list [] longer items r d c zero nonneg some inside e M = absurd zero
two_periods_list (p ∷ ps) longer items r d c zero nonneg some inside e M = two_periods_of p ps longer items r d c zero nonneg some inside (e p ps refl) M

pub two_periods_start : (given longer : List Piece) (r d c : ℚ) → StartsAtZero given → int (pos 0) ≤ℚ r → int (pos 0) <ℚ d → Each (λ z. z.x <ℚ r +ℚ d) given
    → ((p : Piece) (ps : List Piece) → given ≡ p ∷ ps → longer ≡ p ∷ (ps ++ second_copy p ps r d c)) → StartsAtZero longer
two_periods_start [] longer r d c zero nonneg some inside e = absurd zero
two_periods_start (p ∷ ps) longer r d c zero nonneg some inside e =
    subst StartsAtZero (sym (e p ps refl)) (zero.0, (two_periods_are p ps r d c some (subst (λ x. x ≤ℚ r) (sym zero.0) nonneg) zero.1 inside.1).rises)
