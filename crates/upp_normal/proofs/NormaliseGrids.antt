-- The whole fractions of a raw curve's period that are periods stand on the grids of its numbers, unless its tail is one line.
use Rattle.std.specs.Prelude.{◌≡◌, ℕ, zero, suc, ◌*◌, ◌≤◌, pos, List, [], ◌∷◌, ◌++◌, Option, Some, None, ◌⊎◌, length}
use Rattle.std.proofs.Common.{arith, sym, ap, ◌∙◌, refl, subst, inl, inr}
use Prim.Native.Nat.{◌∣◌}
use native.Mathlib.Nat.{mul_comm}
use Rattle.rational.specs.Rational.{ℚ, ◌+ℚ◌, ◌-ℚ◌, ◌*ℚ◌, ◌/ℚ◌, ◌≤ℚ◌, ◌<ℚ◌, int}
use Rattle.rational.specs.Grid.{Whole}
use Rattle.rational.proofs.Grid.{whole_weaken, whole_add, whole_sub, whole_mul}
use Rattle.rational.proofs.Laws.{le_or_lt, le_of_lt, le_trans, antisym, lt_irrefl}
use Rattle.rational.proofs.Linear.{with2, with3}
use Rattle.rational.specs.Extended.{Ext, ◌+ₑ◌}
use Rattle.rational.specs.declared.Extended.TheVariants.{Fin, Inf}
use Rattle.upp_curve.specs.declared.affine_segment.line.Line.{Line}
use Rattle.upp_curve.specs.declared.affine_segment.line.Piece.{Piece}
use Rattle.upp_curve.specs.affine_segment.Values.{line_value}
pub use Rattle.upp_normal.specs.Bends.{ValueOn, LineOn}
use Rattle.upp_curve.specs.affine_segment.Reading.{read, piece_in, piece_value}
use Rattle.upp_curve.specs.Curve.{repeated}
use Rattle.upp_curve.specs.Steady.{Repeats, last_line}
use Rattle.upp_curve.specs.Unrolled.{line_later, later, each_later, copies, upto}
use Rattle.upp_curve.specs.affine_segment.Pieces.{Each, RisesFrom, StartsAtZero}
use Rattle.upp_curve.specs.Normal.{FitsPeriod, Continues}
use Rattle.upp_normal.specs.Normalising.{IsMerged, IsTwoPeriods, IsLine, IsOneLine, Turned, OnGrids, OnGridsUnlessLine, cut_at, past, first_start, second_copy}
use Rattle.upp_curve.proofs.Unique.{upto_some}
use Rattle.upp_curve.proofs.affine_segment.PieceIn.{value_past, value_at_start, read_is, low_start}
use Rattle.upp_curve.proofs.Steady.{read_past}
use Rattle.upp_normal.proofs.UnrolledValues.{copies_some, copies_none}
use Rattle.upp_curve.proofs.Repeats.{repeated_rule}
use Rattle.upp_curve.proofs.Normal.{transfer}
use Rattle.upp_normal.proofs.NormaliseLoops.{later_none, later_some}
use Rattle.upp_curve.proofs.affine_segment.PieceOrder.{each_append, each_left, rises_down}
use Rattle.upp_normal.proofs.NormaliseLists.{each_past, each_upto}
use Rattle.upp_normal.proofs.NormaliseCuts.{each_right, none_past, start_none, start_some, upto_early}
use Rattle.upp_normal.proofs.NormaliseMerge.{merged_none, merged_skip, merged_keep}
use Rattle.upp_normal.proofs.NormalisePeriods.{two_periods_are, agree_from, repeats_after}
use Rattle.upp_normal.proofs.NormaliseBreaks.{one_line}
use Rattle.upp_normal.proofs.NormaliseShape.{line_for_ever, line_before, turns_at, start_late}
use Rattle.upp_normal.proofs.NormaliseCopies.{Period, are_copies}
use Rattle.upp_normal.proofs.NormaliseDivided.{cut_of, period_is, not_one_line}
use Rattle.upp_normal.proofs.NormaliseLeast.{share_back, share_some, whole_share}
use Rattle.upp_normal.proofs.NormaliseForm.{each_part, merged_cons, two_periods_of, grids_through}
use Rattle.upp_normal.proofs.NormaliseRoomy.{each_in, found_early}
use Rattle.rational.proofs.ExtendedOrder.{fin_same}

-- ---- numbers on the grids
-- starts on 1 / T, slopes on 1 / S, values on 1 / D
pub record PieceOn (T S D : ℕ) (p : Piece) : Type 0 where
  pub start : Whole T p.x
  pub at : ValueOn D p.at
  pub line : LineOn S D p.line

slope_time : (T S D : ℕ) (s t : ℚ) → T * S ∣ D → Whole S s → Whole T t → Whole D (s *ℚ t)
slope_time T S D s t h a b = whole_weaken (T * S) D (s *ℚ t) h (subst (λ n. Whole n (s *ℚ t)) (mul_comm S T) (whole_mul S T s t a b))

pub at_later : (D : ℕ) (v : Ext) (u : ℚ) → ValueOn D v → Whole D u → ValueOn D (v +ₑ Fin u)
at_later D Inf u h w = tt
at_later D (Fin v) u h w = whole_add D v u h w

pub line_later_on : (T S D : ℕ) (e u : ℚ) (l : Option Line) → T * S ∣ D → LineOn S D l → Whole T e → Whole D u → LineOn S D (line_later e u l)
line_later_on T S D e u None h L a b = tt
line_later_on T S D e u (Some l) h L a b = (whole_sub D (l.icept +ℚ u) (l.slope *ℚ e) (whole_add D l.icept u L.0 b) (slope_time T S D l.slope e h L.1 a), L.1)

later_on : (T S D : ℕ) (e u : ℚ) (p : Piece) → T * S ∣ D → PieceOn T S D p → Whole T e → Whole D u → PieceOn T S D (later e u p)
later_on T S D e u p h P a b = record {
  start = whole_add T p.x e P.start a;
  at = at_later D p.at u P.at b;
  line = line_later_on T S D e u p.line h P.line a b;
}

each_later_on : (T S D : ℕ) (e u : ℚ) (ps : List Piece) → T * S ∣ D → Each (PieceOn T S D) ps → Whole T e → Whole D u → Each (PieceOn T S D) (each_later e u ps)
each_later_on T S D e u [] h E a b = subst (Each (PieceOn T S D)) (sym (later_none e u)) tt
each_later_on T S D e u (p ∷ ps) h E a b = subst (Each (PieceOn T S D)) (sym (later_some e u p ps)) (later_on T S D e u p h E.0 a b, each_later_on T S D e u ps h E.1 a b)

line_value_on : (T S D : ℕ) (l : Option Line) (t : ℚ) → T * S ∣ D → LineOn S D l → Whole T t → ValueOn D (line_value l t)
line_value_on T S D None t h L a = tt
line_value_on T S D (Some l) t h L a = whole_add D l.icept (l.slope *ℚ t) L.0 (slope_time T S D l.slope t h L.1 a)

value_on : (T S D : ℕ) (p : Piece) (t : ℚ) → T * S ∣ D → PieceOn T S D p → Whole T t → p.x ≤ℚ t → ValueOn D (piece_value p t)
value_on T S D p t h P a early = elim (le_or_lt t p.x) [
  | inl k ↦
      let same : p.x ≡ t = antisym (early, k) in
      subst (ValueOn D) (sym (value_at_start p) ∙ ap (piece_value p) same) P.at
  | inr k ↦ subst (ValueOn D) (sym (value_past p t k)) (line_value_on T S D p.line t h P.line a)
]

cut_on : (T S D : ℕ) (p : Piece) (ps : List Piece) (r : ℚ) → T * S ∣ D → Each (PieceOn T S D) (p ∷ ps) → Whole T r → p.x ≤ℚ r → PieceOn T S D (cut_at p ps r)
cut_on T S D p ps r h E a early =
    let P = each_in (PieceOn T S D) p ps r E.0 E.1 in
    record { start = a; at = value_on T S D (piece_in p ps r) r h P a (found_early p ps r early); line = P.line }

longer_on : (T S D : ℕ) (p : Piece) (ps : List Piece) (r d c : ℚ) → T * S ∣ D → Each (PieceOn T S D) (p ∷ ps) → Whole T r → Whole T d → Whole D c → p.x ≤ℚ r
    → Each (PieceOn T S D) (p ∷ (ps ++ second_copy p ps r d c))
longer_on T S D p ps r d c h E wr wd wc early =
    let cut = cut_on T S D p ps r h E wr early in
    let pasts = each_past (PieceOn T S D) r ps E.1 in
    each_append (PieceOn T S D) (p ∷ ps) (second_copy p ps r d c) E (each_later_on T S D d c (cut_at p ps r ∷ past r ps) h (cut, pasts) wd wc)

-- ---- the merge
pub q_same_or : (x y : ℚ) → (x ≡ y) ⊎ ¬ (x ≡ y)
q_same_or x y = elim (le_or_lt x y) [
  | inr k ↦ inr (λ e. lt_irrefl y (subst (λ z. y <ℚ z) e k))
  | inl k ↦ elim (le_or_lt y x) [
    | inl l ↦ inl (antisym (k, l))
    | inr l ↦ inr (λ e. lt_irrefl y (subst (λ z. z <ℚ y) e l))
  ]
]

pub ext_same_or : (x y : Ext) → (x ≡ y) ⊎ ¬ (x ≡ y)
ext_same_or Inf Inf = inl refl
ext_same_or Inf (Fin y) = inr (λ e. cc)
ext_same_or (Fin x) Inf = inr (λ e. cc)
ext_same_or (Fin x) (Fin y) = elim (q_same_or x y) [
  | inl e ↦ inl (ap Fin e)
  | inr n ↦ inr (λ e. n (fin_same e))
]

pub some_same : (x y : Line) → Some x ≡ Some y → x ≡ y
some_same x y e = cc

pub line_same_or : (l m : Option Line) → (l ≡ m) ⊎ ¬ (l ≡ m)
line_same_or None None = inl refl
line_same_or None (Some m) = inr (λ e. cc)
line_same_or (Some l) None = inr (λ e. cc)
line_same_or (Some l) (Some m) = elim (q_same_or l.icept m.icept) [
  | inr n ↦ inr (λ e. n (ap (λ z. z.icept) (some_same l m e)))
  | inl i ↦ elim (q_same_or l.slope m.slope) [
    | inr n ↦ inr (λ e. n (ap (λ z. z.slope) (some_same l m e)))
    | inl k ↦ inl (ap (λ (a : ℚ). let z : Line = record { icept = a; slope = l.slope } in Some z) i ∙ ap (λ (b : ℚ). let z : Line = record { icept = m.icept; slope = b } in Some z) k)
  ]
]

pub continues_or : (p q : Piece) → Continues p q ⊎ ¬ (Continues p q)
continues_or p q = elim (ext_same_or q.at (line_value p.line q.x)) [
  | inr n ↦ inr (λ C. n C.0)
  | inl a ↦ elim (line_same_or q.line p.line) [
    | inr n ↦ inr (λ C. n C.1)
    | inl l ↦ inl (a, l)
  ]
]

pub merge_of : (p : Piece) (ps : List Piece) → RisesFrom p.x ps → (kept : List Piece) × IsMerged p ps kept
merge_of p [] rise = ([], merged_none p)
merge_of p (q ∷ qs) rise = elim (continues_or p q) [
  | inl C ↦ let (kept, M) = merge_of p qs (rises_down p.x q.x qs (le_of_lt rise.0) rise.1) in (kept, merged_skip p q qs kept C rise.0 rise.1 M)
  | inr C ↦ let (kept, M) = merge_of q qs rise.1 in (q ∷ kept, merged_keep p q qs kept C rise.0 M)
]

-- ---- one line
pub line_case : (kept : List Piece) (g : ℚ → Ext) (r d c : ℚ) → int (pos 0) ≤ℚ r → int (pos 0) <ℚ d → Repeats g r d c → IsLine kept g → Each (λ p. p.x ≤ℚ r) kept → IsOneLine g r
line_case kept g r d c nonneg some R L early =
    let X = r +ℚ d +ℚ d in (
      last_line kept,
      one_line (last_line kept) g r d c X some R (with2 r d (λ c. omega (arith, c.le, c.lt, c.same)))
          (λ t a b. sym (L.reads t (le_trans nonneg (le_of_lt a))) ∙ read_past kept r t early a),
    )

-- ---- a fraction of a period between breaks
abbrev pub IsNothing : Piece → Type 0
IsNothing p = (p.at ≡ Inf) × (p.line ≡ None)

nothing_value : (p : Piece) (t : ℚ) → IsNothing p → p.x ≤ℚ t → piece_value p t ≡ Inf
nothing_value p t N early = elim (le_or_lt t p.x) [
  | inl k ↦ let same : p.x ≡ t = antisym (early, k) in ap (piece_value p) (sym same) ∙ value_at_start p ∙ N.0
  | inr k ↦ value_past p t k ∙ ap (λ l. line_value l t) N.1
]

nothing_later : (e u : ℚ) (p : Piece) → IsNothing p → IsNothing (later e u p)
nothing_later e u p N = (ap (λ v. v +ₑ Fin u) N.0, ap (line_later e u) N.1)

each_nothing_later : (e u : ℚ) (ps : List Piece) → Each IsNothing ps → Each IsNothing (each_later e u ps)
each_nothing_later e u [] E = subst (Each IsNothing) (sym (later_none e u)) tt
each_nothing_later e u (p ∷ ps) E = subst (Each IsNothing) (sym (later_some e u p ps)) (nothing_later e u p E.0, each_nothing_later e u ps E.1)

pub nothing_copies : (k : ℕ) (e u : ℚ) (p : Piece) (ps : List Piece) → Each IsNothing (p ∷ ps) → Each IsNothing (copies k e u (p ∷ ps))
nothing_copies zero e u p ps E = subst (Each IsNothing) (sym (copies_none e u (p ∷ ps))) tt
nothing_copies (suc k) e u p ps E =
    subst (Each IsNothing) (sym (copies_some k e u p ps)) (each_append IsNothing (p ∷ ps) (each_later e u (copies k e u (p ∷ ps))) E
    (each_nothing_later e u (copies k e u (p ∷ ps)) (nothing_copies k e u p ps E)))

-- a curve of nothing is one line
pub nothing_line : (f : ℚ → Ext) (d c : ℚ) (q : Piece) (qs : List Piece) → int (pos 0) <ℚ d → Period f d c q qs → Repeats f q.x d c → ¬ (Each IsNothing (q ∷ qs))
nothing_line f d c q qs some P R E =
    not_one_line f d c q qs some P R None
    (agree_from f (λ t. Inf) q.x d c some R record { rule = λ t h. refl } (λ t a b.
    sym (P.reads t a b) ∙ read_is q qs t ∙ nothing_value (piece_in q qs t) t (each_in IsNothing q qs t E.0 E.1) (found_early q qs t a)))

-- of a copied piece that is there too: the move stands on the grid, and so does the rise, unless there is nothing
pub rise_by_value : (D : ℕ) (v u : ℚ) → Whole D v → Whole D (v +ℚ u) → Whole D u
rise_by_value D v u a b = subst (Whole D) (with2 v u (λ c. omega (arith, c.le, c.lt, c.same))) (whole_sub D (v +ℚ u) v b a)

pub rise_by_line : (T S D : ℕ) (e u : ℚ) (l : Line) → T * S ∣ D → Whole T e → LineOn S D (Some l) → LineOn S D (line_later e u (Some l)) → Whole D u
rise_by_line T S D e u l h a L M =
    let back = l.slope *ℚ e in
    let w : Whole D back = slope_time T S D l.slope e h L.1 a in
    rise_by_value D l.icept u L.0
    (subst (Whole D) (let i = l.icept in with3 i u back (λ c. omega (arith, c.le, c.lt, c.same))) (whole_add D ((l.icept +ℚ u) -ℚ back) back M.0 w))

rise_of_piece : (T S D : ℕ) (e u : ℚ) (p : Piece) → T * S ∣ D → Whole T e → PieceOn T S D p → PieceOn T S D (later e u p) → Whole D u ⊎ IsNothing p
rise_of_piece T S D e u p h a P Q = by_at p.at p.line refl refl P.at Q.at P.line Q.line
  where
    by_line : (v : Ext) (l : Option Line) → p.at ≡ v → p.line ≡ l → v ≡ Inf → LineOn S D l → LineOn S D (line_later e u l) → Whole D u ⊎ IsNothing p
    by_line v None i j k L M = inr (i ∙ k, j)
    by_line v (Some l) i j k L M = inl (rise_by_line T S D e u l h a L M)

    by_at : (v : Ext) (l : Option Line) → p.at ≡ v → p.line ≡ l → ValueOn D v → ValueOn D (v +ₑ Fin u) → LineOn S D l → LineOn S D (line_later e u l) → Whole D u ⊎ IsNothing p
    by_at (Fin v) l i j V W L M = inl (rise_by_value D v u V W)
    by_at Inf l i j V W L M = by_line Inf l i j refl L M

rise_of_each : (T S D : ℕ) (e u : ℚ) (ps : List Piece) → T * S ∣ D → Whole T e → Each (PieceOn T S D) ps → Each (λ p. PieceOn T S D (later e u p)) ps → Whole D u ⊎ Each IsNothing ps
rise_of_each T S D e u [] h a E F = inr tt
rise_of_each T S D e u (p ∷ ps) h a E F = elim (rise_of_piece T S D e u p h a E.0 F.0) [
  | inl w ↦ inl w
  | inr N ↦ elim (rise_of_each T S D e u ps h a E.1 F.1) [
    | inl w ↦ inl w
    | inr M ↦ inr (N, M)
  ]
]

moved_left : (P : Piece → Type 0) (e u : ℚ) (es bs : List Piece) → Each P (each_later e u (es ++ bs)) → Each (λ p. P (later e u p)) es
moved_left P e u [] bs E = tt
moved_left P e u (p ∷ es) bs E = let F = subst (Each P) (later_some e u p (es ++ bs)) E in (F.0, moved_left P e u es bs F.1)

-- of two copies or more
copied_on : (T S D k : ℕ) (e u : ℚ) (p : Piece) (ps : List Piece) → T * S ∣ D → Each (PieceOn T S D) (copies (suc (suc k)) e u (p ∷ ps)) → Whole T e × (Whole D u ⊎ Each IsNothing (p ∷ ps))
copied_on T S D k e u p ps h E =
    let A = subst (Each (PieceOn T S D)) (copies_some (suc k) e u p ps) E in
    let first = each_left (PieceOn T S D) (p ∷ ps) (each_later e u (copies (suc k) e u (p ∷ ps))) A in
    let second = each_right (PieceOn T S D) (p ∷ ps) (each_later e u (copies (suc k) e u (p ∷ ps))) A in
    let more = each_later e u (copies k e u (p ∷ ps)) in
    let moved = moved_left (PieceOn T S D) e u (p ∷ ps) more (subst (λ zs. Each (PieceOn T S D) (each_later e u zs)) (copies_some k e u p ps) second) in
    let x = p.x in
    let a : Whole T e = subst (Whole T) (with2 x e (λ c. omega (arith, c.le, c.lt, c.same))) (whole_sub T (p.x +ℚ e) p.x moved.0.start first.0.start) in
    (a, rise_of_each T S D e u (p ∷ ps) h a first moved)

-- from a break on, the period is copies of its share
pub cut_copies : (ks : List Piece) (first k : ℕ) (x d c : ℚ) (g : ℚ → Ext) → (K : Turned ks first x d c g)
    → Repeats g x (d /ℚ int (pos (suc (suc k)))) (c /ℚ int (pos (suc (suc k))))
    → let W = cut_of ks x d K.cycle in let e = d /ℚ int (pos (suc (suc k))) in let u = c /ℚ int (pos (suc (suc k))) in
    W.first ∷ W.rest ≡ copies (suc (suc k)) e u (W.first ∷ upto (W.first.x +ℚ e) W.rest)
cut_copies ks first k x d c g K R =
    let n = suc (suc k) in
    let e = d /ℚ int (pos n) in
    let u = c /ℚ int (pos n) in
    let f = repeated (read ks) x d c in
    let some_e = share_some d n (omega arith) K.cycle.some in
    let F : Repeats f x e u = transfer f g x e u K.cycle.nonneg (le_of_lt some_e) K.same R in
    let W = cut_of ks x d K.cycle in
    let P = period_is ks x d c K.cycle K.break W in
    let y = W.first.x in
    are_copies f (suc k) e u d c W.first W.rest some_e (share_back d n (omega arith)) (share_back c n (omega arith)) P (subst (λ z. Repeats f z e u) (sym W.at) F)
    ∙ ap (copies n e u) (upto_some (y +ℚ e) W.first W.rest (with2 y e (λ c. omega (arith, c.le, c.lt, c.same))))

-- so its share has a number
pub cut_number : (ks : List Piece) (first k : ℕ) (x d c : ℚ) (g : ℚ → Ext) → (K : Turned ks first x d c g)
    → Repeats g x (d /ℚ int (pos (suc (suc k)))) (c /ℚ int (pos (suc (suc k))))
    → ¬ (Each IsNothing ((cut_of ks x d K.cycle).first ∷ upto ((cut_of ks x d K.cycle).first.x +ℚ d /ℚ int (pos (suc (suc k)))) (cut_of ks x d K.cycle).rest))
cut_number ks first k x d c g K R N =
    let n = suc (suc k) in
    let e = d /ℚ int (pos n) in
    let W = cut_of ks x d K.cycle in
    nothing_line (repeated (read ks) x d c) d c W.first W.rest K.cycle.some (period_is ks x d c K.cycle K.break W)
    (subst (λ z. Repeats (repeated (read ks) x d c) z d c) (sym W.at) (repeated_rule (read ks) x d c K.cycle.some))
    (subst (Each IsNothing) (sym (cut_copies ks first k x d c g K R)) (nothing_copies n e (c /ℚ int (pos n)) W.first (upto (W.first.x +ℚ e) W.rest) N))

-- a fraction of the period from a break is on the grids
pub turn_on : (T S D : ℕ) (ks : List Piece) (first n : ℕ) (x d c : ℚ) (g : ℚ → Ext) → T * S ∣ D → Turned ks first x d c g → Each (PieceOn T S D) ks → Whole T d → Whole D c → 1 ≤ n
    → Repeats g x (d /ℚ int (pos n)) (c /ℚ int (pos n)) → Whole T (d /ℚ int (pos n)) × Whole D (c /ℚ int (pos n))
turn_on T S D ks first zero x d c g h K E wd wc some_n R = absurd (omega arith)
turn_on T S D ks first (suc zero) x d c g h K E wd wc some_n R = (subst (Whole T) (sym (whole_share d)) wd, subst (Whole D) (sym (whole_share c)) wc)
turn_on T S D ks first (suc (suc k)) x d c g h K E wd wc some_n R =
    let n = suc (suc k) in
    let e = d /ℚ int (pos n) in
    let u = c /ℚ int (pos n) in
    let W = cut_of ks x d K.cycle in
    let on = each_right (PieceOn T S D) W.before (W.first ∷ W.rest) (subst (Each (PieceOn T S D)) W.whole E) in
    let found = copied_on T S D k e u W.first (upto (W.first.x +ℚ e) W.rest) h (subst (Each (PieceOn T S D)) (cut_copies ks first k x d c g K R) on) in
    elim found.1 [ inl w ↦ (found.0, w) | inr N ↦ absurd (cut_number ks first k x d c g K R N) ]

-- ---- the tail of a raw curve
-- of two periods that are not one line what holds of the first turn holds
pub from_turn : (A : Type 0) (ps : List Piece) (r d c : ℚ) → IsTwoPeriods ps r d c → ¬ (IsOneLine (repeated (read ps) r d c) r)
    → ((x : ℚ) → Some x ≡ first_start (past r ps) → x ≤ℚ r +ℚ d → A) → A
from_turn A ps r d c W bent turns = by_start (first_start (past r ps)) refl
  where
    g : ℚ → Ext
    g = repeated (read ps) r d c

    rule : Repeats g r d c
    rule = repeated_rule (read ps) r d c W.some

    by_start : (o : Option ℚ) → o ≡ first_start (past r ps) → A
    by_start None s = absurd (bent (line_case ps g r d c W.nonneg W.some rule (line_for_ever ps r d c W s) (none_past r ps (start_none (past r ps) (sym s)))))
    by_start (Some x) s = elim (le_or_lt x (r +ℚ d)) [
      | inl l ↦ turns x s l
      | inr l ↦
          let (q, qs, past_is, at) = start_some (past r ps) x (sym s) in
          let early = subst (λ z. Each (λ p. p.x ≤ℚ r) (upto z ps)) at (upto_early r (int (pos 0) -ℚ int (pos 1)) ps q qs (low_start ps W.starts) past_is) in
          absurd (bent (line_case (upto x ps) g r d c W.nonneg W.some rule (line_before ps r d c x (r +ℚ d) (upto x ps) W s refl l refl) early))
    ]

two_on : (T S D : ℕ) (ps : List Piece) (r d c : ℚ) → T * S ∣ D → IsTwoPeriods ps r d c → Each (PieceOn T S D) ps → Whole T d → Whole D c → OnGridsUnlessLine T D (repeated (read ps) r d c) r d c
two_on T S D ps r d c h W E wd wc bent = from_turn (OnGrids T D (repeated (read ps) r d c) r d c) ps r d c W bent turns
  where
    g : ℚ → Ext
    g = repeated (read ps) r d c

    turns : (x : ℚ) → Some x ≡ first_start (past r ps) → x ≤ℚ r +ℚ d → OnGrids T D g r d c
    turns x s l =
        let ks = upto (x +ℚ d) ps in
        let K = turns_at ps r d c x (r +ℚ d) (x +ℚ d) (length (upto x ps)) ks W s refl l refl refl refl in
        let on = each_upto (PieceOn T S D) (x +ℚ d) ps E in
        let after = λ (n : ℕ) (R : Repeats g r (d /ℚ int (pos n)) (c /ℚ int (pos n))). repeats_after g r x (d /ℚ int (pos n)) (c /ℚ int (pos n)) (start_late ps r x s) R in
        record {
          time = λ n a R. (turn_on T S D ks (length (upto x ps)) n x d c g h K on wd wc a (after n R)).0;
          value = λ n a R. (turn_on T S D ks (length (upto x ps)) n x d c g h K on wd wc a (after n R)).1;
        }

pub raw_on : (T S D : ℕ) (given : List Piece) (r d c : ℚ) → T * S ∣ D → StartsAtZero given → FitsPeriod given r d → Each (PieceOn T S D) given → Whole T r → Whole T d → Whole D c
    → OnGridsUnlessLine T D (repeated (read given) r d c) r d c
raw_on T S D [] r d c h starts F E wr wd wc = absurd starts
raw_on T S D (p ∷ ps) r d c h starts F E wr wd wc =
    let early : p.x ≤ℚ r = subst (λ x. x ≤ℚ r) (sym starts.0) F.nonneg in
    let two = two_periods_are p ps r d c F.some early starts.1 F.starts.1 in
    let more = ps ++ second_copy p ps r d c in
    let (kept, M) = merge_of p more two.rises in
    let all = merged_cons p more kept (p ∷ kept) starts.0 refl M in
    let W = two_periods_of p ps (p ∷ more) (p ∷ kept) r d c starts F.nonneg F.some F.starts refl all in
    let on = longer_on T S D p ps r d c h E wr wd wc early in
    let there = two_on T S D (p ∷ kept) r d c h W.two (on.0, each_part (PieceOn T S D) kept more M.part on.1) wd wc in
    grids_through T D (repeated (read (p ∷ ps)) r d c) (repeated (read (p ∷ kept)) r d c) r d c (λ t. sym (W.same t)) there
