-- Each step of the normal form from the one before it: its numbers fit, and what it leaves is a curve.
use Rattle.std.specs.Prelude.{◌≡◌, ℕ, ◌+◌, pos, List, [], ◌∷◌, ◌++◌, Some, None}
use Rattle.std.proofs.Common.{arith, sym, ap, ◌∙◌, refl, subst, inl, inr}
use Rattle.rational.specs.Rational.{ℚ, ◌+ℚ◌, ◌≤ℚ◌, ◌<ℚ◌, int}
use Rattle.rational.specs.Ratio.{SumFits}
use Rattle.rational.proofs.Laws.{le_of_lt, le_trans, le_or_lt, antisym}
use Rattle.rational.proofs.Linear.{with3, with4}
use Rattle.upp_curve.specs.declared.affine_segment.line.Line.{Line}
use Rattle.upp_curve.specs.declared.affine_segment.line.Piece.{Piece}
use Rattle.upp_curve.specs.declared.curve.Tail.{Tail}
use Rattle.upp_curve.specs.declared.curve.Tail.TheVariants.{Infinite}
use Rattle.upp_limits.specs.Spans.{piece_read}
use Rattle.rational.proofs.Over.{lt_q_out}
use Rattle.upp_curve.proofs.affine_segment.PieceIn.{value_at_start}
use Rattle.upp_normal.specs.declared.cycle.Cycle.{Cycle}
use Rattle.upp_curve.specs.affine_segment.Reading.{read, piece_in, piece_value}
use Rattle.upp_curve.specs.Curve.{SpecCurve}
use Rattle.upp_curve.specs.Curves.{IsCurve}
use Rattle.upp_curve.specs.Unrolled.{upto}
use Rattle.upp_curve.specs.affine_segment.Pieces.{Each, StartsAtZero}
use Rattle.upp_curve.specs.Normal.{NoMerge, FitsPeriod}
use Rattle.upp_curve.specs.Readable.{EachFits}
use Rattle.upp_curve.specs.Fitting.{LaterFits}
use Rattle.upp_curve.specs.affine_segment.Fits.{ReadFits}
use Rattle.upp_normal.specs.Normalising.{IsMerged, IsFront, IsTwoPeriods, IsLeast, IsLowest, second_copy, cycle_values, ended}
use Rattle.upp_normal.specs.Room.{Room, PieceHasRoom, PiecesHaveRoom, EndHasRoom, TurnHasRoom, TwoHaveRoom, CycleHasRoom}
use Rattle.upp_curve.proofs.OneForm.{affine, infinite}
use Rattle.upp_curve.proofs.Normal.{periodic}
use Rattle.upp_curve.proofs.affine_segment.PieceOrder.{each_map, each_append}
use Rattle.upp_normal.proofs.NormaliseLists.{each_upto}
use Rattle.upp_normal.proofs.NormaliseCuts.{each_front}
use Rattle.upp_normal.proofs.NormalisePeriods.{two_periods_are}
use Rattle.upp_normal.proofs.NormaliseRank.{Last}
use Rattle.upp_normal.proofs.NormaliseForm.{each_part, ends_at, infinite_form, affine_form, repeating_form}
use Rattle.upp_normal.proofs.NormaliseRoom.{start_fits, piece_weaken, line_fits}
use Rattle.upp_normal.proofs.NormaliseRoomy.{CopyFits, copy_fits, read_fits, ends_fit, ends_nowhere, weaken_each, each_in, cut_piece, found_early, each_and, least_room, period_readable}
use Rattle.upp_limits.proofs.PieceCounts.{upto_early}

abbrev pub curve_of : List Piece → Tail → SpecCurve
curve_of ps k = record { pieces = ps; tail = k }

-- ---- pieces that go on with their last line
pub infinite_curve : (ps : List Piece) (last : Piece) → StartsAtZero ps → NoMerge ps → Last ps last → EachFits None ps → last.line ≡ None → IsCurve (infinite ps last.x)
infinite_curve ps last zero none L fits e = record {
  normal = (infinite_form ps last zero none L e).normal;
  readable = ends_nowhere last.x ps ((ends_at ps last zero L).line ∙ e) fits;
}

pub affine_curve : (ps : List Piece) (last : Piece) (l : Line) → StartsAtZero ps → NoMerge ps → Last ps last → EachFits None ps → last.line ≡ Some l → IsCurve (affine ps last.x)
affine_curve ps last l zero none L fits e = record { normal = (affine_form ps last l zero none L e).normal; readable = fits }

pub pieces_readable : (m : Room) (ps : List Piece) → PiecesHaveRoom m 4 ps → EachFits None ps
pieces_readable m ps R = ends_fit m 4 None ps (omega arith) R.is R.each R.early (λ e k. absurd (no_end e k))
  where
    no_end : (e : ℚ) → None ≡ Some e → ⊥
    no_end e k = cc

-- ---- a merge
pub merged_each : (P : Piece → Type 0) (ps items : List Piece) → StartsAtZero ps
    → ((p : Piece) (rest : List Piece) → ps ≡ p ∷ rest → (kept : List Piece) × (items ≡ p ∷ kept) × IsMerged p rest kept) → Each P ps → Each P items
merged_each P [] items zero M E = absurd zero
merged_each P (p ∷ ps) items zero M E = let (kept, e, K) = M p ps refl in subst (Each P) (sym e) (E.0, each_part P kept ps K.part E.1)

pub merged_room : (m : Room) (ps items : List Piece) → StartsAtZero ps
    → ((p : Piece) (rest : List Piece) → ps ≡ p ∷ rest → (kept : List Piece) × (items ≡ p ∷ kept) × IsMerged p rest kept) → PiecesHaveRoom m 4 ps → PiecesHaveRoom m 4 items
merged_room m ps items zero M R = record {
  is = R.is;
  each = merged_each (PieceHasRoom m 4) ps items zero M R.each;
  early = merged_each (λ p. p.x ≤ℚ m.end) ps items zero M R.early;
}

-- ---- a period between breaks
pub repeating_curve : (m : Room) (times values : ℕ) (c k : Cycle) (ps : List Piece) (low d u : ℚ) → CycleHasRoom m times values c.pieces.items c.rank c.period c.rise → int (pos 0) <ℚ c.period
    → IsLeast times values c k → IsLowest k.pieces.items ps low d u k.rank (cycle_values k) → d ≡ k.period → u ≡ k.rise → IsCurve (periodic ps low d u)
repeating_curve m times values c k ps low d u K some L W dk uk =
    let R = least_room m times values c k K some L in
    let room_there = subst (λ x. CycleHasRoom m times values k.pieces.items k.rank x u) (sym dk) (subst (λ y. CycleHasRoom m times values k.pieces.items k.rank k.period y) (sym uk) R) in
    record {
      normal = (repeating_form times values c k ps low d u L W dk uk).normal;
      readable = period_readable m times values k.pieces.items ps k.rank low d u room_there W.front W.cycle W.lower;
    }

-- ---- two periods
pub two_end : (m : Room) (times values : ℕ) (ps : List Piece) (r d c : ℚ) → TwoHaveRoom m times values ps r d c → int (pos 0) <ℚ d → SumFits r d
two_end m times values ps r d c T some =
    let end = m.end in
    let ends = T.ends in
    start_fits m r d T.is T.time T.move.time (le_of_lt some) (with3 r d end (λ c. omega (arith, c.le, c.lt, c.same)))

pub two_until : (m : Room) (times values : ℕ) (ps : List Piece) (r d c : ℚ) → TwoHaveRoom m times values ps r d c → int (pos 0) <ℚ d → Each (λ p. p.x ≤ℚ r +ℚ d → SumFits p.x d) ps
two_until m times values ps r d c T some =
    let end = m.end in
    let ends = T.ends in
    each_map (PieceHasRoom m 4) (λ p. p.x ≤ℚ r +ℚ d → SumFits p.x d) (λ p P l.
    let x = p.x in
    start_fits m p.x d T.is P.time T.move.time (le_of_lt some) (with4 x r d end (λ c. omega (arith, c.le, c.lt, c.same)))) ps T.each

pub two_room : (m : Room) (times values : ℕ) (ps kept : List Piece) (r d c : ℚ) → TwoHaveRoom m times values ps r d c → IsTwoPeriods ps r d c → IsFront kept ps → PiecesHaveRoom m 4 kept
two_room m times values ps kept r d c T W F =
    let end = m.end in
    let ends = T.ends in
    let some = W.some in
    record {
      is = T.is;
      each = each_front (PieceHasRoom m 4) kept ps F T.each;
      early = each_front (λ p. p.x ≤ℚ m.end) kept ps F
          (each_map (λ p. p.x <ℚ r +ℚ d +ℚ d) (λ p. p.x ≤ℚ m.end) (λ p l. let x = p.x in with4 x r d end (λ c. omega (arith, c.le, c.lt, c.same))) ps W.inside);
    }

pub turn_room : (m : Room) (times values : ℕ) (ps kept : List Piece) (r s d e c u : ℚ) → TwoHaveRoom m times values ps r d c → IsFront kept ps → s ≤ℚ r +ℚ d → e ≡ d → u ≡ c
    → CycleHasRoom m times values kept s e u
turn_room m times values ps kept r s d e c u T F l de cu =
    let end = m.end in
    let ends = T.ends in
    let at : CycleHasRoom m times values kept s d c = record {
      is = T.is;
      times_is = T.times_is;
      values_is = T.values_is;
      each = each_front (PieceHasRoom m 4) kept ps F T.each;
      move = T.move;
      ends = with4 s r d end (λ c. omega (arith, c.le, c.lt, c.same));
    } in
    subst (λ x. CycleHasRoom m times values kept s x u) (sym de) (subst (CycleHasRoom m times values kept s d) (sym cu) at)

-- ---- a second copy
pub rank_early : (m : Room) (times values : ℕ) (ps : List Piece) (r d c : ℚ) → TurnHasRoom m times values ps r d c → int (pos 0) <ℚ d → r ≤ℚ m.end
rank_early m times values ps r d c T some =
    let end = m.end in
    let ends = T.ends in
    with3 r d end (λ c. omega (arith, c.le, c.lt, c.same))

pub rank_read : (m : Room) (times values : ℕ) (given : List Piece) (r d c : ℚ) → TurnHasRoom m times values given r d c → int (pos 0) <ℚ d → ReadFits given r
rank_read m times values given r d c T some = read_fits m 1 given r T.is (omega arith) T.each T.time (rank_early m times values given r d c T some)

pub copy_of : (m : Room) (times values : ℕ) (given : List Piece) (r d c : ℚ) → TurnHasRoom m times values given r d c → StartsAtZero given → FitsPeriod given r d
    → (p : Piece) (ps : List Piece) → given ≡ p ∷ ps → CopyFits m p ps r d c
copy_of m times values given r d c T zero F p ps e =
    let start : p.x ≡ int (pos 0) = (subst StartsAtZero e zero).0 in
    copy_fits m times values p ps r d c (subst (λ g. TurnHasRoom m times values g r d c) e T) (subst (λ x. x ≤ℚ r) (sym start) F.nonneg) F.some (subst (Each (λ z. z.x <ℚ r +ℚ d)) e F.starts)

pub copies_of : (m : Room) (times values : ℕ) (given : List Piece) (r d c : ℚ) → TurnHasRoom m times values given r d c → StartsAtZero given → FitsPeriod given r d
    → Each (λ q. r <ℚ q.x → LaterFits d c q) given
copies_of m times values [] r d c T zero F = absurd zero
copies_of m times values (p ∷ ps) r d c T zero F = (copy_of m times values (p ∷ ps) r d c T zero F p ps refl).copies

pub longer_room : (m : Room) (times values : ℕ) (given longer : List Piece) (r d c : ℚ) → TurnHasRoom m times values given r d c → StartsAtZero given → FitsPeriod given r d
    → ((p : Piece) (ps : List Piece) → given ≡ p ∷ ps → longer ≡ p ∷ (ps ++ second_copy p ps r d c)) → PiecesHaveRoom m 4 longer
longer_room m times values [] longer r d c T zero F is = absurd zero
longer_room m times values (p ∷ ps) longer r d c T zero F is =
    let C = copy_of m times values (p ∷ ps) r d c T zero F p ps refl in
    let low : p.x ≤ℚ r = subst (λ x. x ≤ℚ r) (sym zero.0) F.nonneg in
    let two = two_periods_are p ps r d c F.some low zero.1 F.starts.1 in
    let end = m.end in
    let ends = T.ends in
    let some = F.some in
    let first : p.x ≤ℚ m.end = le_trans low (rank_early m times values (p ∷ ps) r d c T F.some) in
    let rest : Each (λ z. z.x ≤ℚ m.end) (ps ++ second_copy p ps r d c) =
    each_map (λ z. z.x <ℚ r +ℚ d +ℚ d) (λ z. z.x ≤ℚ m.end) (λ z l. let x = z.x in with4 x r d end (λ c. omega (arith, c.le, c.lt, c.same))) (ps ++ second_copy p ps r d c) two.inside in
    subst (PiecesHaveRoom m 4) (sym (is p ps refl)) record { is = T.is; each = C.room; early = (first, rest) }

pub both_room : (m : Room) (times values : ℕ) (given longer items : List Piece) (r d c : ℚ) → TurnHasRoom m times values given r d c → PiecesHaveRoom m 4 longer → StartsAtZero longer
    → ((p : Piece) (rest : List Piece) → longer ≡ p ∷ rest → (kept : List Piece) × (items ≡ p ∷ kept) × IsMerged p rest kept) → TwoHaveRoom m times values items r d c
both_room m times values given longer items r d c T R zero M = record {
  is = T.is;
  times_is = T.times_is;
  values_is = T.values_is;
  each = merged_each (PieceHasRoom m 4) longer items zero M R.each;
  time = T.time;
  move = T.move;
  ends = T.ends;
}

-- ---- an infinite tail
pub before_read : (r : ℚ) (p : Piece) → p.x <ℚ r → piece_read (Infinite r) p ≡ p
before_read r p l = rw (lt_q_out p.x r l) refl

each_before : (m : Room) (ps : List Piece) (r : ℚ) → Each (λ p. PieceHasRoom m 1 (piece_read (Infinite r) p)) ps → Each (PieceHasRoom m 1) (upto r ps)
each_before m ps r E =
    each_map (λ p. PieceHasRoom m 1 (piece_read (Infinite r) p) × (p.x <ℚ r)) (PieceHasRoom m 1) (λ p k. subst (PieceHasRoom m 1) (before_read r p k.1) k.0) (upto r ps)
    (each_and (λ p. PieceHasRoom m 1 (piece_read (Infinite r) p)) (λ p. p.x <ℚ r) (upto r ps) (each_upto (λ p. PieceHasRoom m 1 (piece_read (Infinite r) p)) r ps E) (upto_early r ps))

value_seen : (r : ℚ) (q : Piece) → q.x ≤ℚ r → piece_value (piece_read (Infinite r) q) r ≡ piece_value q r
value_seen r q early = elim (le_or_lt r q.x) [
  | inr l ↦ ap (λ z. piece_value z r) (before_read r q l)
  | inl l ↦
      let z = piece_read (Infinite r) q in
      let same : q.x ≡ r = antisym (early, l) in
      ap (piece_value z) (sym same) ∙ value_at_start z ∙ sym (value_at_start q) ∙ ap (piece_value q) same
]

pub ended_room : (m : Room) (ps : List Piece) (r : ℚ) → EndHasRoom m ps r → StartsAtZero ps → int (pos 0) ≤ℚ r → PiecesHaveRoom m 4 (ended ps r)
unfolding read
ended_room m [] r E starts h = absurd starts
ended_room m (p ∷ ps) r E starts h =
    let q = piece_in p ps r in
    let low : p.x ≤ℚ r = subst (λ x. x ≤ℚ r) (sym starts.0) h in
    let early = found_early p ps r low in
    let seen = piece_read (Infinite r) q in
    let cut = cut_piece m 1 seen r None (each_in (λ p. PieceHasRoom m 1 (piece_read (Infinite r) p)) p ps r E.each.0 E.each.1) E.time E.early early tt in
    let last = subst (λ v. PieceHasRoom m (1 + 1) record { x = r; at = v; line = None }) (value_seen r q early) cut in
    let z : Piece = record { x = r; at = read (p ∷ ps) r; line = None } in
    let all = p ∷ ps in
    record {
      is = E.is;
      each = each_append (PieceHasRoom m 4) (upto r all) (z ∷ []) (weaken_each m 1 4 (upto r all) (omega arith) (each_before m all r E.each)) (piece_weaken m (1 + 1) 4 z (omega arith) last, tt);
      early = each_append (λ z. z.x ≤ℚ m.end) (upto r all) (z ∷ []) (each_map (λ z. z.x <ℚ r) (λ z. z.x ≤ℚ m.end) (λ z l. le_trans (le_of_lt l) E.early) (upto r all) (upto_early r all)) (E.early, tt);
    }

pub end_read : (m : Room) (ps seen : List Piece) (r : ℚ) → seen ≡ ps → EndHasRoom m ps r → ReadFits seen r
end_read m ps seen r e E = subst (λ zs. ReadFits zs r) (sym e) (fits ps E.each)
  where
    fits : (ps : List Piece) → Each (λ p. PieceHasRoom m 1 (piece_read (Infinite r) p)) ps → ReadFits ps r
    fits [] F = tt
    fits (p ∷ ps) F = λ l.
        let q = piece_in p ps r in
        let P = subst (PieceHasRoom m 1) (before_read r q l) (each_in (λ p. PieceHasRoom m 1 (piece_read (Infinite r) p)) p ps r F.0 F.1) in
        line_fits m 1 r q.line E.is (omega arith) P.line E.time E.early

-- ---- any other
pub more_room : (m : Room) (ps : List Piece) → PiecesHaveRoom m 1 ps → PiecesHaveRoom m 4 ps
more_room m ps R = record { is = R.is; each = weaken_each m 1 4 ps (omega arith) R.each; early = R.early }
