-- What the calls on a segment answer.
use Rattle.std.specs.Prelude.{◌≡◌, ◌<◌, ◌≤◌, ◌^◌, ◌+◌, ◌++◌, ◌⊎◌, ℕ, suc, pos, List, [], ◌∷◌, Some, None, Result, Ok, Err}
use Rattle.std.proofs.Common.{arith, sym, refl, ap, ◌∙◌, subst, inl, inr}
use Rattle.rational.specs.Rational.{ℚ, ◌+ℚ◌, ◌≤ℚ◌, ◌<ℚ◌, int}
use Rattle.rational.specs.Ratio.{IsSmall}
use Rattle.rational.specs.declared.Extended.TheVariants.{Fin, Inf}
use Rattle.rational.proofs.Linear.{with1}
use Rattle.rational.proofs.Laws.{le_of_lt, le_or_lt, one_mul, le_lt_trans, lt_irrefl}
use Rattle.upp_curve.specs.declared.affine_segment.line.Line.{Line}
use Rattle.upp_curve.specs.declared.affine_segment.line.Piece.{Piece}
use Rattle.upp_curve.specs.declared.affine_segment.element.Element.{Element}
use Rattle.upp_curve.specs.declared.affine_segment.element.Element.TheVariants.{Open}
use Rattle.upp_curve.specs.affine_segment.Elements.{element_value}
use Rattle.upp_curve.specs.affine_segment.Values.{line_at}
use Rattle.upp_curve.specs.declared.curve.Tail.{Tail}
use Rattle.upp_curve.specs.declared.curve.Tail.TheVariants.{Periodic, Affine, Infinite}
use Rattle.upp_limits.specs.declared.op_kind.OpFault.{OpFault}
use Rattle.upp_limits.specs.declared.op_kind.OpFault.TheVariants.{TooMany, TooWide, NoMemory}
use Rattle.upp_curve.specs.Curve.{SpecCurve, value_at, HasSameValues}
use Rattle.upp_curve.specs.Curves.{IsCurve}
use Rattle.min_plus.specs.Functions.{zero_q}
use Rattle.upp_curve.specs.affine_segment.Pieces.{Each}
use Rattle.upp_curve.specs.Normal.{IsRaw, IsNormal}
use Rattle.upp_curve.specs.Steady.{rank_of}
use Rattle.upp_curve.proofs.Normal.{each_at}
use Rattle.upp_curve.specs.affine_segment.Fits.{LineFitsAt}
use Rattle.upp_curve.specs.Readable.{EachFits}
use Rattle.upp_limits.specs.Limits.{Sizes, own_gauge, own_tally}
use Rattle.min_plus.specs.Convolution.{IsSubadditiveClosure}
use Rattle.subadd_closure.proofs.ElementSums.{closure_of_segment}
use Rattle.subadd_closure.specs.ElementClosures.{IsSegmentClosure}
use Rattle.subadd_closure.specs.ElementCurves.{opening, line_times, from_zero, turn, stretches, all_stretches, level_closure, rising_closure, falling_closure}
use Rattle.subadd_closure.specs.PieceFits.{PieceFits, IsUnfit, IsMade, SlopesRead, Turns}
use Rattle.subadd_closure.specs.ElementAnswers.{IsElementClosure, ClosureAnswer, IsOpenPart}
use Rattle.subadd_closure.proofs.SmallPieces.{CallSizes, PieceStands, pieces_fit, rise_fits, lines_read, heavy_by}
use Rattle.subadd_closure.proofs.HeavyCurves.{own_heavy}
use Rattle.subadd_closure.proofs.FlatLines.{slopes_of, none_next, flat_each, flat_stretches}
use Rattle.subadd_closure.proofs.PieceReads.{late_start, early_start}
use Rattle.subadd_closure.specs.Heavy.{IsHeavy}
use Rattle.subadd_closure.proofs.FewCopies.{few_pieces}
use Rattle.subadd_closure.proofs.TurnSteps.{first_of_all, all_then}
use Rattle.subadd_closure.proofs.ClosureValues.{level_values, rising_values, falling_values, endless_values}
use Rattle.subadd_closure.proofs.EndlessFalling.{endless_falling, far, far_joined, far_later}
use Rattle.subadd_closure.proofs.NormalClosures.{level_normal}
use Rattle.subadd_closure.proofs.NormalTurns.{rising_normal, falling_normal}
use Rattle.upp_normal.proofs.Bends.{each_first}
use Rattle.upp_limits.proofs.FewCopies.{periodic_few}
use Rattle.rational.proofs.Integers.{le_or_more}
use Rattle.min_plus.specs.closure_laws.Star.{nat_times}

pub unfit_more : (a b : ℚ) (l : Line) (m : ℕ) (e : OpFault) → IsUnfit (stretches a b l 1 m []) e → IsUnfit (all_stretches a b l m []) e
unfit_more a b l m TooMany h = h
unfit_more a b l m TooWide h = λ k. h (first_of_all PieceFits a b l m [] k).1
unfit_more a b l m NoMemory h = h

-- ---- from a curve that is made to the answer
pub made_answer : (e : Element) (c : SpecCurve) (r : Result SpecCurve OpFault) → IsNormal c
    → ((t : ℚ) → zero_q ≤ℚ t → IsSubadditiveClosure (element_value e) t (value_at c t)) → IsMade c r → ClosureAnswer e r
made_answer e c (Ok d) normal values h = record {
  normal = h.curve.normal;
  closes = λ t k. subst (λ v. IsSubadditiveClosure (element_value e) t v) (sym (h.same t k)) (values t k);
}
made_answer e c (Err TooMany) normal values h = h
made_answer e c (Err TooWide) normal values h = (c, record { normal = normal; closes = values }, h)
made_answer e c (Err NoMemory) normal values h = h

-- what normalise says of a curve with few pieces
pub made_ok : (c d : SpecCurve) → HasSameValues d c → IsCurve d → IsMade c (Ok d)
made_ok c d h k = record { same = h; curve = k }

pub made_err : (ps : List Piece) (tail : Tail) (e : OpFault) → (let c : SpecCurve = record { pieces = ps; tail = tail } in IsRaw c → Turns tail → own_tally c ≤ 2 ^ 20
    → (own_gauge c < 2 ^ 120 → own_tally c ≤ 2 ^ 20 → e ≡ NoMemory) → (2 ^ 120 ≤ own_gauge c → e ≡ TooWide) → IsMade c (Err e))
made_err ps (Affine r) e raw turns few inside wide = absurd turns
made_err ps (Infinite r) e raw turns few inside wide = absurd turns
made_err ps (Periodic R d x) e raw turns few inside wide = by_gauge (below (own_gauge c) (2 ^ 120))
  where
    c : SpecCurve
    c = record { pieces = ps; tail = Periodic R d x }

    below : (n m : ℕ) → (n < m) ⊎ (m ≤ n)
    below n m = elim (le_or_more m n) [ inl h ↦ inr h | inr h ↦ inl h ]

    by_gauge : ((own_gauge c < 2 ^ 120) ⊎ (2 ^ 120 ≤ own_gauge c)) → IsMade record { pieces = ps; tail = Periodic R d x } (Err e)
    by_gauge (inl h) = subst (λ z. IsMade record { pieces = ps; tail = Periodic R d x } (Err z)) (sym (inside h few)) tt
    by_gauge (inr h) = subst (λ z. IsMade record { pieces = ps; tail = Periodic R d x } (Err z)) (sym (wide h)) (own_heavy ps R d x raw.tail.some h)

pub ready_answer : (e : Element) (c : SpecCurve) (r : Result SpecCurve OpFault) → IsElementClosure e c → IsMade c r → ClosureAnswer e r
ready_answer e c r h k = made_answer e c r h.normal h.closes k

-- ---- what fits of a curve that a call takes
rank_small : (c : SpecCurve) (z : Sizes) (end : ℚ) → IsNormal c → CallSizes c z end → IsSmall (rank_of c.tail)
rank_small c z end normal O = each_at IsSmall (rank_of c.tail) c.pieces (starts c.pieces (pieces_fit c z end O)) normal.rank_is_start
  where
    starts : (ps : List Piece) → Each PieceFits ps → Each (λ p. IsSmall p.x) ps
    starts [] h = tt
    starts (p ∷ ps) h = (h.0.start, starts ps h.1)

-- ---- one line from the last stretch on
pub level_unfit : (a b : ℚ) (l : Line) (m : ℕ) → IsNormal (level_closure a b l m) → (e : OpFault) → IsUnfit (all_stretches a b l m []) e
    → IsMade (level_closure a b l m) (Err e)
level_unfit a b l m normal TooMany h = h
level_unfit a b l m normal TooWide h =
    let c = level_closure a b l m in
    heavy_by c (Each PieceFits c.pieces) normal.raw tt (pieces_fit c) h
level_unfit a b l m normal NoMemory h = tt

pub level_wide : (a b : ℚ) (l : Line) (m : ℕ) → IsNormal (level_closure a b l m) → ¬ (IsSmall (nat_times (suc m) a))
    → IsHeavy (level_closure a b l m)
level_wide a b l m normal h =
    let c = level_closure a b l m in
    heavy_by c (IsSmall (nat_times (suc m) a)) normal.raw tt (λ z end O. rank_small c z end normal O) h

pub level_blind : (a b : ℚ) (l : Line) (m : ℕ) (v : List Piece) → v ≡ all_stretches a b l m [] → IsNormal (level_closure a b l m) → ¬ (SlopesRead None v)
    → IsHeavy (level_closure a b l m)
level_blind a b l m v e normal h =
    let c = level_closure a b l m in
    heavy_by c (EachFits None c.pieces) normal.raw tt (λ z end O. lines_read c z end (nat_times (suc m) a) O refl)
    (λ k. h (subst (SlopesRead None) (sym e) (slopes_of None (all_stretches a b l m []) (none_next (all_stretches a b l m [])) k)))

-- a curve that is made from what is in normal form and readable
pub formed : (c d : SpecCurve) → d ≡ c → IsCurve c → IsMade c (Ok d)
formed c d e h = record { same = λ t k. ap (λ z. value_at z t) e; curve = subst IsCurve (sym e) h }

pub level_curve : (a b : ℚ) (l : Line) (m : ℕ) (v : List Piece) → v ≡ all_stretches a b l m [] → l.icept ≡ zero_q → IsNormal (level_closure a b l m)
    → SlopesRead None v → IsCurve (level_closure a b l m)
level_curve a b l m v e flat normal h = record {
  normal = normal;
  readable = flat_each None (all_stretches a b l m []) tt (flat_stretches a b l m flat) (subst (SlopesRead None) e h);
}

-- one value of a line
pub single_is : (a : ℚ) (l : Line) (v : List Piece) → v ≡ from_zero a (opening a l ∷ [])
    → (let c : SpecCurve = record { pieces = v; tail = Affine a } in c ≡ level_closure a zero_q l 0)
unfolding stretches
single_is a l v e =
    let one : nat_times 1 a ≡ a = one_mul a in
    let same : line_times 1 l ≡ l = once l in
    let first = λ (z : List Piece). let c : SpecCurve = record { pieces = z; tail = Affine a } in c in
    let second = λ (z : ℚ). let c : SpecCurve = record { pieces = from_zero a (opening z l ∷ []); tail = Affine z } in c in
    let third = λ (z : Line). let c : SpecCurve = record { pieces = from_zero a (opening (nat_times 1 a) z ∷ []); tail = Affine (nat_times 1 a) } in c in
    ap first e ∙ ap second (sym one) ∙ ap third (sym same)
  where
    once : (l : Line) → line_times 1 l ≡ l
    once l = ap (λ z. let m : Line = record { icept = z; slope = l.slope } in m) (one_mul l.icept)

pub single_curve : (a : ℚ) (l : Line) → LineFitsAt a (Some l) → IsNormal (level_closure a zero_q l 0)
    → (let c : SpecCurve = record { pieces = from_zero a (opening a l ∷ []); tail = Affine a } in IsCurve c)
single_curve a l h normal =
    let c : SpecCurve = record { pieces = from_zero a (opening a l ∷ []); tail = Affine a } in
    record {
      normal = subst IsNormal (sym (single_is a l (from_zero a (opening a l ∷ [])) refl)) normal;
      readable = elim (le_or_lt a zero_q) [
        | inl none ↦ subst (EachFits None) (sym (early_start a (opening a l ∷ []) none)) (h, tt, tt)
        | inr some ↦ subst (EachFits None) (sym (late_start a (opening a l ∷ []) some)) (tt, tt, (h, tt, tt))
      ];
    }

pub single_made : (a : ℚ) (l : Line) → LineFitsAt a (Some l) → IsNormal (level_closure a zero_q l 0) → IsCurve (level_closure a zero_q l 0)
single_made a l h normal = subst IsCurve (single_is a l (from_zero a (opening a l ∷ [])) refl) (single_curve a l h normal)

pub level_is : (a b : ℚ) (l : Line) (m k : ℕ) (v : List Piece) (r : ℚ) → k ≡ suc m → v ≡ all_stretches a b l m [] → r ≡ nat_times k a
    → (let c : SpecCurve = record { pieces = v; tail = Affine r } in c ≡ level_closure a b l m)
level_is a b l m k v r e f g =
    let first = λ (z : List Piece). let c : SpecCurve = record { pieces = z; tail = Affine r } in c in
    let second = λ (z : ℚ). let c : SpecCurve = record { pieces = all_stretches a b l m []; tail = Affine z } in c in
    ap first f ∙ ap second (g ∙ ap (λ z. nat_times z a) e)

-- ---- a turn at the end
module _ (a b : ℚ) (l : Line) (m : ℕ) (q : Piece) (d : ℚ) where
  abbrev pub with_turn : SpecCurve
  with_turn = record { pieces = all_stretches a b l m (q ∷ []); tail = Periodic q.x d (line_at l d) }

  parts_fit : (z : Sizes) (end : ℚ) → CallSizes with_turn z end → Each PieceFits (all_stretches a b l m []) × Each PieceFits (q ∷ [])
  parts_fit z end O =
      each_first PieceFits (all_stretches a b l m []) (q ∷ []) (subst (Each PieceFits) (sym (all_then a b l m (q ∷ []))) (pieces_fit with_turn z end O))

  pub turn_unfit : IsNormal with_turn → (e : OpFault) → IsUnfit (all_stretches a b l m []) e → IsMade with_turn (Err e)
  turn_unfit normal TooMany h = h
  turn_unfit normal TooWide h = heavy_by with_turn (Each PieceFits (all_stretches a b l m [])) normal.raw tt (λ z end O. (parts_fit z end O).0) h
  turn_unfit normal NoMemory h = tt

  pub turn_wide : IsNormal with_turn → ¬ (PieceFits q) → IsHeavy with_turn
  turn_wide normal h = heavy_by with_turn (PieceFits q) normal.raw tt (λ z end O. (parts_fit z end O).1.0) h

  pub rise_wide : IsNormal with_turn → ¬ (LineFitsAt d (Some l)) → IsHeavy with_turn
  rise_wide normal h = heavy_by with_turn (LineFitsAt d (Some l)) normal.raw tt fits h
    where
      fits : (z : Sizes) (end : ℚ) → CallSizes with_turn z end → LineFitsAt d (Some l)
      fits z end O =
          let s = (first_of_all (PieceStands z end) a b l m (q ∷ []) O.pieces).0 in
          let t = normal.raw.tail in
          rise_fits with_turn z end q.x d l O refl s.slope t.nonneg (le_of_lt t.some)

  pub turn_few : m + 3 ≤ 2 ^ 19 → IsNormal with_turn → own_tally with_turn ≤ 2 ^ 20
  turn_few h normal =
      let x = periodic_few (all_stretches a b l m (q ∷ [])) q.x d (line_at l d) normal.raw.tail.some normal.raw.starts in
      let y = few_pieces a b l m (q ∷ []) in
      omega (arith, x, y)

  pub turn_is : (v w : List Piece) (last : Piece) (rise : ℚ) → w ≡ all_stretches a b l m [] → v ≡ w ++ (last ∷ []) → last ≡ q → rise ≡ line_at l d
      → (let c : SpecCurve = record { pieces = v; tail = Periodic last.x d rise } in c ≡ with_turn)
  turn_is v w last rise e f g h =
      let pieces : v ≡ all_stretches a b l m (q ∷ []) = f ∙ ap (λ z. z ++ (last ∷ [])) e ∙ ap (λ z. all_stretches a b l m [] ++ (z ∷ [])) g ∙ all_then a b l m (q ∷ []) in
      let first = λ (z : List Piece). let c : SpecCurve = record { pieces = z; tail = Periodic last.x d rise } in c in
      let second = λ (z : Piece). let c : SpecCurve = record { pieces = all_stretches a b l m (q ∷ []); tail = Periodic z.x d rise } in c in
      let third = λ (z : ℚ). let c : SpecCurve = record { pieces = all_stretches a b l m (q ∷ []); tail = Periodic q.x d z } in c in
      ap first pieces ∙ ap second g ∙ ap third h

-- the turns of the two, with m + 1 as code has it
abbrev pub rising_q : ℚ → Line → ℕ → Piece
rising_q b l m = turn (nat_times (suc m) b) l (suc (suc m)) (suc (suc m))

abbrev pub falling_q : ℚ → Line → ℕ → Piece
falling_q a l m = turn (nat_times (suc (suc m)) a) l (suc m) (suc (suc m))

-- ---- the curves of a segment
module _ (a b : ℚ) (l : Line) (m : ℕ) (part : IsOpenPart a (Fin b) l m) where
  low : zero_q ≤ℚ a
  low = part.stretch.nonneg

  pub some_b : zero_q <ℚ b
  some_b = le_lt_trans low part.stretch.proper

  pub some_a : l.icept <ℚ zero_q → zero_q <ℚ a
  some_a down = elim part.late [ inl up ↦ absurd (lt_irrefl zero_q (le_lt_trans up down)) | inr some ↦ some ]

  closes : (c : SpecCurve) → ((t : ℚ) → zero_q ≤ℚ t → IsSegmentClosure a (Fin b) l t (value_at c t))
      → (t : ℚ) → zero_q ≤ℚ t → IsSubadditiveClosure (element_value (Open a (Fin b) l)) t (value_at c t)
  closes c h t k = closure_of_segment a (Fin b) l t (value_at c t) low (h t k)

  pub ready_level : l.icept ≡ zero_q → IsElementClosure (Open a (Fin b) l) (level_closure a b l m)
  ready_level flat = record {
    normal = level_normal a b l low part.stretch.proper m (λ i p q. part.stretch.meet.apart i p q);
    closes = closes (level_closure a b l m) (level_values a b l m low part.stretch.proper (λ i p q. part.stretch.meet.apart i p q) (λ i p. part.stretch.meet.joined i p) flat);
  }

  pub ready_rising : zero_q <ℚ l.icept → IsElementClosure (Open a (Fin b) l) (rising_closure a b l m)
  ready_rising up = record {
    normal = rising_normal a b l m low part.stretch.proper (λ i p q. part.stretch.meet.apart i p q) (λ i p. part.stretch.meet.joined i p) up;
    closes = closes (rising_closure a b l m) (rising_values a b l m low part.stretch.proper (λ i p q. part.stretch.meet.apart i p q) (λ i p. part.stretch.meet.joined i p) (le_of_lt up));
  }

  pub ready_falling : l.icept <ℚ zero_q → IsElementClosure (Open a (Fin b) l) (falling_closure a b l m)
  ready_falling down = record {
    normal = falling_normal a b l m low part.stretch.proper (λ i p q. part.stretch.meet.apart i p q) (λ i p. part.stretch.meet.joined i p) (some_a down) down;
    closes = closes (falling_closure a b l m) (falling_values a b l m low part.stretch.proper (λ i p q. part.stretch.meet.apart i p q) (λ i p. part.stretch.meet.joined i p) (some_a down) (le_of_lt down));
  }

-- ---- without an end
pub endless_some : (a : ℚ) (l : Line) → IsOpenPart a Inf l 0 → l.icept <ℚ zero_q → zero_q <ℚ a
endless_some a l part down = elim part.late [ inl up ↦ absurd (lt_irrefl zero_q (le_lt_trans up down)) | inr some ↦ some ]

pub ready_endless_level : (a b : ℚ) (l : Line) → IsOpenPart a Inf l 0 → zero_q ≤ℚ l.icept → IsElementClosure (Open a Inf l) (level_closure a b l 0)
unfolding stretches
ready_endless_level a b l part up =
    let low = part.stretch.nonneg in
    record {
      normal = level_normal a (a +ℚ int (pos 1)) l low (with1 a (λ c. omega (arith, c.le, c.lt, c.same))) 0 (λ i p q. absurd (omega arith));
      closes = λ t k. closure_of_segment a Inf l t (value_at (level_closure a b l 0) t) low (endless_values a l low up b t k);
    }

pub ready_endless_falling : (a b : ℚ) (l : Line) → IsOpenPart a Inf l 0 → l.icept <ℚ zero_q → IsElementClosure (Open a Inf l) (falling_closure a b l 0)
unfolding stretches
ready_endless_falling a b l part down =
    let low = part.stretch.nonneg in
    let some = endless_some a l part down in
    record {
      normal = falling_normal a (far a) l 0 low (far_later a some) (λ i p q. absurd (omega arith)) (λ i p. far_joined a low i p) some down;
      closes = λ t k. closure_of_segment a Inf l t (value_at (falling_closure a b l 0) t) low (endless_falling a b l some (le_of_lt down) t k);
    }
