-- Where starts are on the grid of times or bends, and all bends turn one way, the whole fractions of a period that are periods stand on the grids: if all
-- starts within a fraction were bends, the slope would not be the same after it.
use Rattle.std.specs.Prelude.{◌≡◌, ℕ, zero, suc, ◌+◌, ◌*◌, ◌<◌, ◌≤◌, Bool, true, false, pos, List, [], ◌∷◌, ◌++◌, Option, Some, None, ◌⊎◌, length}
use Rattle.std.proofs.Common.{arith, sym, ap, ◌∙◌, refl, subst, inl, inr, append_assoc}
use Prim.Native.Nat.{◌∣◌}
use Rattle.rational.specs.Rational.{ℚ, ◌+ℚ◌, ◌*ℚ◌, ◌/ℚ◌, ◌≤ℚ◌, ◌<ℚ◌, int}
use Rattle.rational.specs.Grid.{Whole}
use Rattle.rational.proofs.Grid.{whole_add, whole_sub}
use Rattle.rational.proofs.Laws.{not_zero, add_assoc, le_or_lt, le_of_lt, antisym, lt_trans, lt_irrefl, mul_comm, add_mul}
use Rattle.rational.proofs.Integers.{int_add, nat_lt}
use Rattle.rational.proofs.Linear.{with1, with2, with3}
use Rattle.rational.proofs.Quotients.{div_unique}
use Rattle.rational.proofs.ExtendedOrder.{add_assoc_ext}
use Rattle.rational.specs.Extended.{Ext, ◌+ₑ◌}
use Rattle.rational.specs.declared.Extended.TheVariants.{Fin, Inf}
use Rattle.upp_curve.specs.declared.affine_segment.line.Line.{Line}
use Rattle.upp_curve.specs.declared.affine_segment.line.Piece.{Piece}
use Rattle.upp_curve.specs.affine_segment.Values.{line_value}
use Rattle.upp_curve.specs.affine_segment.Reading.{read, piece_in, piece_value}
use Rattle.upp_curve.specs.Curve.{repeated}
use Rattle.upp_curve.specs.Steady.{Repeats}
use Rattle.upp_curve.specs.Unrolled.{line_later, later, each_later, copies, upto}
use Rattle.upp_curve.specs.affine_segment.Pieces.{Each, RisesFrom, StartsAtZero}
use Rattle.upp_curve.specs.Normal.{FitsPeriod}
use Rattle.upp_normal.specs.Normalising.{IsMerged, IsTwoPeriods, IsOneLine, Turned, OnGridsUnlessLine, cut_at, past, first_start, second_copy}
use Rattle.upp_normal.specs.Bends.{ValueOn, LineOn, NumbersOn, SlopeTurns, BendAfter, OnlyBend}
use Rattle.upp_curve.proofs.Unique.{upto_some, upto_none, upto_end}
use Rattle.upp_curve.proofs.affine_segment.PieceIn.{value_past, value_at_start, piece_in_go, piece_in_stop}
use Rattle.upp_normal.proofs.UnrolledValues.{copies_some}
use Rattle.upp_curve.proofs.Repeats.{repeated_rule, repeated_first}
use Rattle.upp_normal.proofs.NormaliseLoops.{later_none, later_some, past_go, past_stop, past_none}
use Rattle.upp_curve.proofs.affine_segment.PieceOrder.{rises_down, each_map}
use Rattle.upp_normal.proofs.NormaliseLists.{past_all}
use Rattle.upp_normal.proofs.NormaliseMerge.{merged_none, merged_skip, merged_keep}
use Rattle.upp_normal.proofs.NormalisePeriods.{two_periods_are, agree_from, repeats_after}
use Rattle.upp_normal.proofs.NormaliseShape.{turns_at, start_late}
use Rattle.upp_normal.proofs.NormaliseCopies.{moved-append}
use Rattle.upp_normal.proofs.NormaliseDivided.{cut_of}
use Rattle.upp_normal.proofs.NormaliseLeast.{share_back, share_some, whole_share}
use Rattle.upp_normal.proofs.NormaliseForm.{merged_cons, two_periods_of}
use Rattle.upp_normal.proofs.NormaliseRoomy.{each_in, found_early}
use Rattle.upp_normal.proofs.NormaliseGrids.{at_later, line_later_on, continues_or, rise_by_value, rise_by_line, IsNothing, cut_copies, cut_number, from_turn}

-- ---- slopes
turns_trans : (rises : Bool) (l m n : Option Line) → SlopeTurns rises l m → SlopeTurns rises m n → SlopeTurns rises l n
turns_trans rises None m n h k = absurd h
turns_trans rises (Some l) None n h k = absurd h
turns_trans rises (Some l) (Some m) None h k = absurd k
turns_trans true (Some l) (Some m) (Some n) h k = lt_trans h k
turns_trans false (Some l) (Some m) (Some n) h k = lt_trans k h

-- a move keeps the slopes
turns_back : (rises : Bool) (e u : ℚ) (l m : Option Line) → SlopeTurns rises (line_later e u l) (line_later e u m) → SlopeTurns rises l m
turns_back rises e u None m h = absurd h
turns_back rises e u (Some l) None h = absurd h
turns_back true e u (Some l) (Some m) h = h
turns_back false e u (Some l) (Some m) h = h

turns_later : (rises : Bool) (e u : ℚ) (l m : Option Line) → SlopeTurns rises l m → SlopeTurns rises (line_later e u l) (line_later e u m)
turns_later rises e u None m h = absurd h
turns_later rises e u (Some l) None h = absurd h
turns_later true e u (Some l) (Some m) h = h
turns_later false e u (Some l) (Some m) h = h

turns_moved : (rises : Bool) (e u : ℚ) (l : Option Line) → ¬ (SlopeTurns rises l (line_later e u l))
turns_moved rises e u None h = h
turns_moved true e u (Some l) h = lt_irrefl l.slope h
turns_moved false e u (Some l) h = lt_irrefl l.slope h

-- ---- lists
of_line : (rises : Bool) (T S D : ℕ) (p q : Piece) (ps : List Piece) → p.line ≡ q.line → BendAfter rises T S D p ps → BendAfter rises T S D q ps
of_line rises T S D p q [] e B = tt
of_line rises T S D p q (z ∷ zs) e B = (first B.0, B.1, B.2)
  where
    first : Whole T z.x ⊎ SlopeTurns rises p.line z.line → Whole T z.x ⊎ SlopeTurns rises q.line z.line
    first (inl w) = inl w
    first (inr t) = inr (subst (λ l. SlopeTurns rises l z.line) e t)

pub bend_front : (rises : Bool) (T S D : ℕ) (p : Piece) (ps qs : List Piece) → BendAfter rises T S D p (ps ++ qs) → BendAfter rises T S D p ps
bend_front rises T S D p [] qs B = tt
bend_front rises T S D p (z ∷ zs) qs B = (B.0, B.1, bend_front rises T S D z zs qs B.2)

bend_back : (rises : Bool) (T S D : ℕ) (p : Piece) (ps : List Piece) (q : Piece) (qs : List Piece) → BendAfter rises T S D p (ps ++ q ∷ qs) → NumbersOn S D q × BendAfter rises T S D q qs
bend_back rises T S D p [] q qs B = (B.1, B.2)
bend_back rises T S D p (z ∷ zs) q qs B = bend_back rises T S D z zs q qs B.2

-- a piece whose start is on the grid may follow any
bend_append : (rises : Bool) (T S D : ℕ) (p : Piece) (ps : List Piece) (q : Piece) (qs : List Piece) → BendAfter rises T S D p ps → Whole T q.x → NumbersOn S D q → BendAfter rises T S D q qs
    → BendAfter rises T S D p (ps ++ q ∷ qs)
bend_append rises T S D p [] q qs B w N C = (inl w, N, C)
bend_append rises T S D p (z ∷ zs) q qs B w N C = (B.0, B.1, bend_append rises T S D z zs q qs B.2 w N C)

bend_upto : (rises : Bool) (T S D : ℕ) (X : ℚ) (p : Piece) (ps : List Piece) → BendAfter rises T S D p ps → BendAfter rises T S D p (upto X ps)
bend_upto rises T S D X p [] B = subst (BendAfter rises T S D p) (sym (upto_end X)) tt
bend_upto rises T S D X p (z ∷ zs) B = elim (le_or_lt X z.x) [
  | inl l ↦ subst (BendAfter rises T S D p) (sym (upto_none X z zs l)) tt
  | inr l ↦ subst (BendAfter rises T S D p) (sym (upto_some X z zs l)) (B.0, B.1, bend_upto rises T S D X z zs B.2)
]

only_upto : (rises : Bool) (T S D : ℕ) (X : ℚ) (ps : List Piece) → OnlyBend rises T S D ps → OnlyBend rises T S D (upto X ps)
only_upto rises T S D X [] B = subst (OnlyBend rises T S D) (sym (upto_end X)) tt
only_upto rises T S D X (z ∷ zs) B = elim (le_or_lt X z.x) [
  | inl l ↦ subst (OnlyBend rises T S D) (sym (upto_none X z zs l)) tt
  | inr l ↦ subst (OnlyBend rises T S D) (sym (upto_some X z zs l)) (B.0, bend_upto rises T S D X z zs B.1)
]

only_back : (rises : Bool) (T S D : ℕ) (ps : List Piece) (q : Piece) (qs : List Piece) → OnlyBend rises T S D (ps ++ q ∷ qs) → OnlyBend rises T S D (q ∷ qs)
only_back rises T S D [] q qs B = B
only_back rises T S D (z ∷ zs) q qs B = bend_back rises T S D z zs q qs B.1

each_numbers : (rises : Bool) (T S D : ℕ) (p : Piece) (ps : List Piece) → BendAfter rises T S D p ps → Each (NumbersOn S D) ps
each_numbers rises T S D p [] B = tt
each_numbers rises T S D p (z ∷ zs) B = (B.1, each_numbers rises T S D z zs B.2)

-- ---- a move
no_line : (e u : ℚ) (l : Option Line) → line_later e u l ≡ None → l ≡ None
no_line e u None h = refl
no_line e u (Some l) h = cc

numbers_later : (T S D : ℕ) (e u : ℚ) (p : Piece) → T * S ∣ D → NumbersOn S D p → Whole T e → Whole D u → NumbersOn S D (later e u p)
numbers_later T S D e u p h N a b = record { line = line_later_on T S D e u p.line h N.line a b; at = λ k. at_later D p.at u (N.at (no_line e u p.line k)) b }

bend_moved : (rises : Bool) (T S D : ℕ) (e u : ℚ) (p : Piece) (ps : List Piece) → T * S ∣ D → BendAfter rises T S D p ps → Whole T e → Whole D u
    → BendAfter rises T S D (later e u p) (each_later e u ps)
bend_moved rises T S D e u p [] h B a b = subst (BendAfter rises T S D (later e u p)) (sym (later_none e u)) tt
bend_moved rises T S D e u p (z ∷ zs) h B a b =
    subst (BendAfter rises T S D (later e u p)) (sym (later_some e u z zs)) (first B.0, numbers_later T S D e u z h B.1 a b, bend_moved rises T S D e u z zs h B.2 a b)
  where
    first : Whole T z.x ⊎ SlopeTurns rises p.line z.line → Whole T (z.x +ℚ e) ⊎ SlopeTurns rises (line_later e u p.line) (line_later e u z.line)
    first (inl w) = inl (whole_add T z.x e w a)
    first (inr t) = inr (turns_later rises e u p.line z.line t)

-- ---- the second copy
bend_past : (rises : Bool) (T S D : ℕ) (p : Piece) (ps : List Piece) (r : ℚ) → RisesFrom p.x ps → BendAfter rises T S D p ps → BendAfter rises T S D (piece_in p ps r) (past r ps)
bend_past rises T S D p [] r R B = subst (BendAfter rises T S D (piece_in p [] r)) (sym (past_none r)) tt
bend_past rises T S D p (z ∷ zs) r R B = elim (le_or_lt z.x r) [
  | inl l ↦ subst (λ q. BendAfter rises T S D q (past r (z ∷ zs))) (sym (piece_in_go p z zs r l)) (subst (BendAfter rises T S D (piece_in z zs r)) (sym (past_go r z zs l)) (bend_past rises T S D z zs r R.1 B.2))
  | inr l ↦
      subst (λ q. BendAfter rises T S D q (past r (z ∷ zs))) (sym (piece_in_stop p z zs r l))
      (subst (BendAfter rises T S D p) (sym (past_stop r z zs l)) (B.0, B.1, subst (BendAfter rises T S D z) (sym (past_all r z.x zs (le_of_lt l) R.1)) B.2))
]

cut_numbers : (S D : ℕ) (p : Piece) (ps : List Piece) (r : ℚ) → Each (NumbersOn S D) (p ∷ ps) → p.x ≤ℚ r → NumbersOn S D (cut_at p ps r)
cut_numbers S D p ps r E early =
    let q = piece_in p ps r in
    let N = each_in (NumbersOn S D) p ps r E.0 E.1 in
    record { line = N.line; at = λ k. value q N (found_early p ps r early) k }
  where
    value : (q : Piece) → NumbersOn S D q → q.x ≤ℚ r → q.line ≡ None → ValueOn D (piece_value q r)
    value q N low k = elim (le_or_lt r q.x) [
      | inl l ↦ let same : q.x ≡ r = antisym (low, l) in subst (ValueOn D) (sym (value_at_start q) ∙ ap (piece_value q) same) (N.at k)
      | inr l ↦ subst (ValueOn D) (sym (value_past q r l ∙ ap (λ m. line_value m r) k)) tt
    ]

bend_longer : (rises : Bool) (T S D : ℕ) (p : Piece) (ps : List Piece) (r d c : ℚ) → T * S ∣ D → OnlyBend rises T S D (p ∷ ps) → RisesFrom p.x ps → Whole T r → Whole T d → Whole D c → p.x ≤ℚ r
    → OnlyBend rises T S D (p ∷ (ps ++ second_copy p ps r d c))
bend_longer rises T S D p ps r d c h B R wr wd wc early =
    let cut = cut_at p ps r in
    let N = cut_numbers S D p ps r (B.0, each_numbers rises T S D p ps B.1) early in
    let after : BendAfter rises T S D cut (past r ps) = of_line rises T S D (piece_in p ps r) cut (past r ps) refl (bend_past rises T S D p ps r R B.1) in
    let copy = bend_moved rises T S D d c cut (past r ps) h after wd wc in (
      B.0,
      subst (λ zs. BendAfter rises T S D p (ps ++ zs)) (sym (later_some d c cut (past r ps)))
          (bend_append rises T S D p ps (later d c cut) (each_later d c (past r ps)) B.1 (whole_add T r d wr wd) (numbers_later T S D d c cut h N wd wc) copy),
    )

-- ---- the merge
bend_merged : (rises : Bool) (T S D : ℕ) (p : Piece) (ps : List Piece) → RisesFrom p.x ps → BendAfter rises T S D p ps → (kept : List Piece) × IsMerged p ps kept × BendAfter rises T S D p kept
bend_merged rises T S D p [] rise B = ([], merged_none p, tt)
bend_merged rises T S D p (q ∷ qs) rise B = elim (continues_or p q) [
  | inl C ↦
      let (kept, M, K) = bend_merged rises T S D p qs (rises_down p.x q.x qs (le_of_lt rise.0) rise.1) (of_line rises T S D q p qs C.1 B.2) in
      (kept, merged_skip p q qs kept C rise.0 rise.1 M, K)
  | inr C ↦ let (kept, M, K) = bend_merged rises T S D q qs rise.1 B.2 in (q ∷ kept, merged_keep p q qs kept C rise.0 M, (B.0, B.1, K))
]

-- ---- not all starts within a fraction are bends
abbrev AllTurn : Bool → Piece → List Piece → Type 0
AllTurn rises p [] = Unit {0}
AllTurn rises p (q ∷ qs) = SlopeTurns rises p.line q.line × AllTurn rises q qs

all_turn : (rises : Bool) (p : Piece) (ps : List Piece) (q : Piece) → AllTurn rises p (ps ++ q ∷ []) → SlopeTurns rises p.line q.line
all_turn rises p [] q A = A.0
all_turn rises p (z ∷ zs) q A = turns_trans rises p.line z.line q.line A.0 (all_turn rises z zs q A.1)

-- a start that is on the grid, and so it is a fraction later
record StandsTwice (T : ℕ) (e : ℚ) : Type 0 where
  start : ℚ
  here : Whole T start
  later : Whole T (start +ℚ e)

stands_or_turns : (rises : Bool) (T S D : ℕ) (e u : ℚ) (p : Piece) (ps : List Piece) → BendAfter rises T S D p ps → BendAfter rises T S D (later e u p) (each_later e u ps)
    → StandsTwice T e ⊎ AllTurn rises p ps
stands_or_turns rises T S D e u p [] B C = inr tt
stands_or_turns rises T S D e u p (z ∷ zs) B C =
    let C2 = subst (BendAfter rises T S D (later e u p)) (later_some e u z zs) C in
    by B.0 C2.0 (stands_or_turns rises T S D e u z zs B.2 C2.2)
  where
    with_rest : SlopeTurns rises p.line z.line → StandsTwice T e ⊎ AllTurn rises z zs → StandsTwice T e ⊎ AllTurn rises p (z ∷ zs)
    with_rest t (inl s) = inl s
    with_rest t (inr a) = inr (t, a)

    by : Whole T z.x ⊎ SlopeTurns rises p.line z.line → Whole T (z.x +ℚ e) ⊎ SlopeTurns rises (line_later e u p.line) (line_later e u z.line) → StandsTwice T e ⊎ AllTurn rises z zs
        → StandsTwice T e ⊎ AllTurn rises p (z ∷ zs)
    by (inr t) o r = with_rest t r
    by (inl w) (inr t) r = with_rest (turns_back rises e u p.line z.line t) r
    by (inl w) (inl v) r = inl record { start = z.x; here = w; later = v }

twice_is : (T : ℕ) (e : ℚ) → StandsTwice T e → Whole T e
twice_is T e A =
    let x = A.start in
    subst (Whole T) (with2 x e (λ c. omega (arith, c.le, c.lt, c.same))) (whole_sub T (A.start +ℚ e) A.start A.later A.here)

-- of three copies or more
copied_time : (rises : Bool) (T S D k : ℕ) (e u : ℚ) (q : Piece) (qs : List Piece) → OnlyBend rises T S D (copies (suc (suc (suc k))) e u (q ∷ qs)) → Whole T e
copied_time rises T S D k e u q qs B =
    let next = later e u q in
    let third = copies k e u (q ∷ qs) in
    let rest3 = qs ++ each_later e u third in
    let e3 : copies (suc k) e u (q ∷ qs) ≡ q ∷ rest3 = copies_some k e u q qs in
    let more = qs ++ each_later e u (q ∷ rest3) in
    let e2 : copies (suc (suc k)) e u (q ∷ qs) ≡ q ∷ more = copies_some (suc k) e u q qs ∙ ap (λ zs. q ∷ (qs ++ each_later e u zs)) e3 in
    let whole : copies (suc (suc (suc k))) e u (q ∷ qs) ≡ q ∷ (qs ++ next ∷ each_later e u more) =
    copies_some (suc (suc k)) e u q qs ∙ ap (λ zs. q ∷ (qs ++ each_later e u zs)) e2 ∙ ap (λ zs. q ∷ (qs ++ zs)) (later_some e u q more) in
    let all : BendAfter rises T S D q (qs ++ next ∷ each_later e u more) = (subst (OnlyBend rises T S D) whole B).1 in
    let one = qs ++ next ∷ [] in
    let first : BendAfter rises T S D q one = bend_front rises T S D q one (each_later e u more) (subst (BendAfter rises T S D q) (sym (append_assoc qs (next ∷ []) (each_later e u more))) all) in
    let second = (bend_back rises T S D q qs next (each_later e u more) all).1 in
    let split : more ≡ one ++ each_later e u rest3 = ap (λ zs. qs ++ zs) (later_some e u q rest3) ∙ sym (append_assoc qs (next ∷ []) (each_later e u rest3)) in
    let moved : each_later e u more ≡ each_later e u one ++ each_later e u (each_later e u rest3) = ap (each_later e u) split ∙ moved-append e u one (each_later e u rest3) in
    let again : BendAfter rises T S D next (each_later e u one) = bend_front rises T S D next (each_later e u one) (each_later e u (each_later e u rest3)) (subst (BendAfter rises T S D next) moved second) in
    elim (stands_or_turns rises T S D e u q one first again) [
      | inl s ↦ twice_is T e s
      | inr a ↦ absurd (turns_moved rises e u q.line (all_turn rises q qs next a))
    ]

-- ---- the rise
rise_of_piece : (T S D : ℕ) (e u : ℚ) (p : Piece) → T * S ∣ D → Whole T e → NumbersOn S D p → NumbersOn S D (later e u p) → Whole D u ⊎ IsNothing p
rise_of_piece T S D e u p h a P Q = by_line p.line refl P.line Q.line
  where
    by_at : (v : Ext) → p.at ≡ v → p.line ≡ None → ValueOn D v → ValueOn D (v +ₑ Fin u) → Whole D u ⊎ IsNothing p
    by_at (Fin v) i j V W = inl (rise_by_value D v u V W)
    by_at Inf i j V W = inr (i, j)

    by_line : (l : Option Line) → p.line ≡ l → LineOn S D l → LineOn S D (line_later e u l) → Whole D u ⊎ IsNothing p
    by_line (Some l) j L M = inl (rise_by_line T S D e u l h a L M)
    by_line None j L M = by_at p.at refl j (P.at j) (Q.at (ap (line_later e u) j))

rise_of_each : (T S D : ℕ) (e u : ℚ) (ps : List Piece) → T * S ∣ D → Whole T e → Each (NumbersOn S D) ps → Each (NumbersOn S D) (each_later e u ps) → Whole D u ⊎ Each IsNothing ps
rise_of_each T S D e u [] h a E F = inr tt
rise_of_each T S D e u (p ∷ ps) h a E F =
    let F2 = subst (Each (NumbersOn S D)) (later_some e u p ps) F in
    elim (rise_of_piece T S D e u p h a E.0 F2.0) [
      | inl w ↦ inl w
      | inr N ↦ elim (rise_of_each T S D e u ps h a E.1 F2.1) [
        | inl w ↦ inl w
        | inr M ↦ inr (N, M)
      ]
    ]

each_only : (rises : Bool) (T S D : ℕ) (ps : List Piece) → OnlyBend rises T S D ps → Each (NumbersOn S D) ps
each_only rises T S D [] B = tt
each_only rises T S D (p ∷ ps) B = (B.0, each_numbers rises T S D p ps B.1)

pub each_first : (P : Piece → Type 0) (ps qs : List Piece) → Each P (ps ++ qs) → Each P ps × Each P qs
each_first P [] qs E = (tt, E)
each_first P (p ∷ ps) qs E = let F = each_first P ps qs E.1 in ((E.0, F.0), F.1)

copied_rise : (rises : Bool) (T S D k : ℕ) (e u : ℚ) (q : Piece) (qs : List Piece) → T * S ∣ D → Whole T e → OnlyBend rises T S D (copies (suc (suc k)) e u (q ∷ qs)) → Whole D u ⊎ Each IsNothing (q ∷ qs)
copied_rise rises T S D k e u q qs h a B =
    let P = NumbersOn S D in
    let rest = each_later e u (copies k e u (q ∷ qs)) in
    let second = copies (suc k) e u (q ∷ qs) in
    let E = subst (Each P) (copies_some (suc k) e u q qs) (each_only rises T S D (copies (suc (suc k)) e u (q ∷ qs)) B) in
    let parts = each_first P (q ∷ qs) (each_later e u second) E in
    let shape : each_later e u second ≡ each_later e u (q ∷ qs) ++ each_later e u rest = ap (each_later e u) (copies_some k e u q qs) ∙ moved-append e u (q ∷ qs) rest in
    rise_of_each T S D e u (q ∷ qs) h a parts.0 (each_first P (each_later e u (q ∷ qs)) (each_later e u rest) (subst (Each P) shape parts.1)).0

-- ---- a fraction of the period from a break
record IsShare (T D : ℕ) (d c : ℚ) (n : ℕ) : Type 0 where
  time : Whole T (d /ℚ int (pos n))
  value : Whole D (c /ℚ int (pos n))

turn_share : (rises : Bool) (T S D : ℕ) (ks : List Piece) (first k : ℕ) (x d c : ℚ) (g : ℚ → Ext) → T * S ∣ D → Turned ks first x d c g → OnlyBend rises T S D ks
    → Repeats g x (d /ℚ int (pos (suc (suc (suc k))))) (c /ℚ int (pos (suc (suc (suc k))))) → IsShare T D d c (suc (suc (suc k)))
turn_share rises T S D ks first k x d c g h K B R =
    let n = suc (suc (suc k)) in
    let e = d /ℚ int (pos n) in
    let u = c /ℚ int (pos n) in
    let W = cut_of ks x d K.cycle in
    let q = W.first in
    let qs = upto (q.x +ℚ e) W.rest in
    let on = only_back rises T S D W.before q W.rest (subst (OnlyBend rises T S D) W.whole B) in
    let all = subst (OnlyBend rises T S D) (cut_copies ks first (suc k) x d c g K R) on in
    let time : Whole T e = copied_time rises T S D k e u q qs all in
    elim (copied_rise rises T S D (suc k) e u q qs h time all) [
      | inl w ↦ record { time = time; value = w }
      | inr N ↦ absurd (cut_number ks first (suc k) x d c g K R N)
    ]

-- ---- a third or less of the period
two_share : (rises : Bool) (T S D : ℕ) (ps : List Piece) (r d c : ℚ) (k : ℕ) → T * S ∣ D → IsTwoPeriods ps r d c → OnlyBend rises T S D ps → ¬ (IsOneLine (repeated (read ps) r d c) r)
    → Repeats (repeated (read ps) r d c) r (d /ℚ int (pos (suc (suc (suc k))))) (c /ℚ int (pos (suc (suc (suc k))))) → IsShare T D d c (suc (suc (suc k)))
two_share rises T S D ps r d c k h W B bent R = from_turn (IsShare T D d c (suc (suc (suc k)))) ps r d c W bent turns
  where
    g : ℚ → Ext
    g = repeated (read ps) r d c

    turns : (x : ℚ) → Some x ≡ first_start (past r ps) → x ≤ℚ r +ℚ d → IsShare T D d c (suc (suc (suc k)))
    turns x s l =
        let ks = upto (x +ℚ d) ps in
        let K = turns_at ps r d c x (r +ℚ d) (x +ℚ d) (length (upto x ps)) ks W s refl l refl refl refl in
        turn_share rises T S D ks (length (upto x ps)) k x d c g h K (only_upto rises T S D (x +ℚ d) ps B)
        (repeats_after g r x (d /ℚ int (pos (suc (suc (suc k))))) (c /ℚ int (pos (suc (suc (suc k))))) (start_late ps r x s) R)

third_share : (rises : Bool) (T S D : ℕ) (p : Piece) (ps : List Piece) (r d c : ℚ) (k : ℕ) → T * S ∣ D → StartsAtZero (p ∷ ps) → FitsPeriod (p ∷ ps) r d → OnlyBend rises T S D (p ∷ ps)
    → Whole T r → Whole T d → Whole D c → ¬ (IsOneLine (repeated (read (p ∷ ps)) r d c) r)
    → Repeats (repeated (read (p ∷ ps)) r d c) r (d /ℚ int (pos (suc (suc (suc k))))) (c /ℚ int (pos (suc (suc (suc k))))) → IsShare T D d c (suc (suc (suc k)))
third_share rises T S D p ps r d c k h starts F B wr wd wc bent R =
    let early : p.x ≤ℚ r = subst (λ x. x ≤ℚ r) (sym starts.0) F.nonneg in
    let two = two_periods_are p ps r d c F.some early starts.1 F.starts.1 in
    let more = ps ++ second_copy p ps r d c in
    let on = bend_longer rises T S D p ps r d c h B starts.1 wr wd wc early in
    let (kept, M, K) = bend_merged rises T S D p more two.rises on.1 in
    let W = two_periods_of p ps (p ∷ more) (p ∷ kept) r d c starts F.nonneg F.some F.starts refl (merged_cons p more kept (p ∷ kept) starts.0 refl M) in
    let e = d /ℚ int (pos (suc (suc (suc k)))) in
    let u = c /ℚ int (pos (suc (suc (suc k)))) in
    two_share rises T S D (p ∷ kept) r d c k h W.two (on.0, K) (λ L. bent (L.0, λ t l. sym (W.same t) ∙ L.1 t l)) record { rule = λ t l. W.same (t +ℚ e) ∙ R.rule t l ∙ ap (λ v. v +ₑ Fin u) (sym (W.same t)) }

-- ---- any fraction: of two periods it is a fourth or less
doubled_rule : (f : ℚ → Ext) (r d c : ℚ) → int (pos 0) <ℚ d → Repeats f r d c → Repeats f r (d +ℚ d) (c +ℚ c)
doubled_rule f r d c some R = record {
  rule = λ t l.
      let late : r ≤ℚ t +ℚ d = with3 r t d (λ c. omega (arith, c.le, c.lt, c.same)) in
      ap f (sym (add_assoc t d d)) ∙ R.rule (t +ℚ d) late ∙ ap (λ v. v +ₑ Fin c) (R.rule t l) ∙ add_assoc_ext (f t) c c;
}

doubled_share : (x : ℚ) (n m : ℕ) → 0 < n → m ≡ n + n → (x +ℚ x) /ℚ int (pos m) ≡ x /ℚ int (pos n)
doubled_share x n m some e =
    let s = x /ℚ int (pos n) in
    let back : x ≡ int (pos n) *ℚ s = share_back x n some in
    div_unique (x +ℚ x) (int (pos m)) s (not_zero (int (pos m)) (nat_lt 0 m (omega (arith, some, e))))
    (mul_comm s (int (pos m)) ∙ ap (λ y. int (pos y) *ℚ s) e ∙ ap (λ y. y *ℚ s) (sym (int_add (pos n) (pos n))) ∙ add_mul (int (pos n)) (int (pos n)) s ∙ ap (λ y. y +ℚ y) (sym back))

half_share : (rises : Bool) (T S D : ℕ) (p : Piece) (ps : List Piece) (r d c : ℚ) (n : ℕ) → T * S ∣ D → StartsAtZero (p ∷ ps) → FitsPeriod (p ∷ ps) r d → OnlyBend rises T S D (p ∷ ps)
    → Whole T r → Whole T d → Whole D c → ¬ (IsOneLine (repeated (read (p ∷ ps)) r d c) r) → 2 ≤ n
    → Repeats (repeated (read (p ∷ ps)) r d c) r (d /ℚ int (pos n)) (c /ℚ int (pos n)) → IsShare T D d c n
half_share rises T S D p ps r d c zero h starts F B wr wd wc bent some R = absurd (omega arith)
half_share rises T S D p ps r d c (suc zero) h starts F B wr wd wc bent some R = absurd (omega arith)
half_share rises T S D p ps r d c (suc (suc j)) h starts F B wr wd wc bent some R =
    let n = suc (suc j) in
    let m = suc (suc (suc (suc (j + j)))) in
    let twice : m ≡ n + n = omega arith in
    let early : p.x ≤ℚ r = subst (λ x. x ≤ℚ r) (sym starts.0) F.nonneg in
    let period = F.some in
    let two = two_periods_are p ps r d c F.some early starts.1 F.starts.1 in
    let more = ps ++ second_copy p ps r d c in
    let f = repeated (read (p ∷ ps)) r d c in
    let g = repeated (read (p ∷ more)) r (d +ℚ d) (c +ℚ c) in
    let long : int (pos 0) <ℚ d +ℚ d = with1 d (λ c. omega (arith, c.le, c.lt, c.same)) in
    let begin : p.x <ℚ r +ℚ (d +ℚ d) = let x = p.x in with3 x r d (λ c. omega (arith, c.le, c.lt, c.same)) in
    let fits : FitsPeriod (p ∷ more) r (d +ℚ d) = record {
      nonneg = F.nonneg;
      some = long;
      starts = (begin, each_map (λ q. q.x <ℚ r +ℚ d +ℚ d) (λ q. q.x <ℚ r +ℚ (d +ℚ d)) (λ q l. subst (λ y. q.x <ℚ y) (add_assoc r d d) l) more two.inside);
    } in
    let same = agree_from g f r (d +ℚ d) (c +ℚ c) long (repeated_rule (read (p ∷ more)) r (d +ℚ d) (c +ℚ c) long) (doubled_rule f r d c period (repeated_rule (read (p ∷ ps)) r d c period))
    (λ t a b. repeated_first (read (p ∷ more)) r (d +ℚ d) (c +ℚ c) t long b ∙ two.reads t (subst (λ y. t <ℚ y) (sym (add_assoc r d d)) b)) in
    let e = d /ℚ int (pos n) in
    let u = c /ℚ int (pos n) in
    let some_e : int (pos 0) <ℚ e = share_some d n (omega arith) period in
    let rule : Repeats g r e u =
    record { rule = λ t l. same (t +ℚ e) (with3 r t e (λ c. omega (arith, c.le, c.lt, c.same))) ∙ R.rule t l ∙ ap (λ v. v +ₑ Fin u) (sym (same t l)) } in
    let eq_time = doubled_share d n m (omega arith) twice in
    let eq_value = doubled_share c n m (omega arith) twice in
    let shares = third_share rises T S D p more r (d +ℚ d) (c +ℚ c) (suc (j + j)) h (starts.0, two.rises) fits (bend_longer rises T S D p ps r d c h B starts.1 wr wd wc early) wr
    (whole_add T d d wd wd) (whole_add D c c wc wc) (λ L. bent (L.0, λ t l. sym (same t l) ∙ L.1 t l))
    (subst (λ y. Repeats g r y ((c +ℚ c) /ℚ int (pos m))) (sym eq_time) (subst (λ y. Repeats g r e y) (sym eq_value) rule)) in
    record { time = subst (Whole T) eq_time shares.time; value = subst (Whole D) eq_value shares.value }

-- ---- the tail of pieces that only bend
pub bends_on : (rises : Bool) (T S D : ℕ) (ps : List Piece) (r d c : ℚ) → T * S ∣ D → StartsAtZero ps → FitsPeriod ps r d → OnlyBend rises T S D ps → Whole T r → Whole T d → Whole D c
    → OnGridsUnlessLine T D (repeated (read ps) r d c) r d c
bends_on rises T S D [] r d c h starts F B wr wd wc bent = absurd starts
bends_on rises T S D (p ∷ ps) r d c h starts F B wr wd wc bent = record {
  time = λ n a R. (share n a R).time;
  value = λ n a R. (share n a R).value;
}
  where
    share : (n : ℕ) → 1 ≤ n → Repeats (repeated (read (p ∷ ps)) r d c) r (d /ℚ int (pos n)) (c /ℚ int (pos n)) → IsShare T D d c n
    share zero a R = absurd (omega arith)
    share (suc zero) a R = record { time = subst (Whole T) (sym (whole_share d)) wd; value = subst (Whole D) (sym (whole_share c)) wc }
    share (suc (suc j)) a R = half_share rises T S D p ps r d c (suc (suc j)) h starts F B wr wd wc bent (omega arith) R
