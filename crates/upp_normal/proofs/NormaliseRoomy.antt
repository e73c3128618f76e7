-- Room for a whole curve: what each step of the normal form asks for, and that its answer is readable.
use Rattle.std.specs.Prelude.{◌≡◌, ℕ, ◌+◌, ◌*◌, ◌≤◌, pos, List, [], ◌∷◌, ◌++◌, Option, Some, None}
use Rattle.std.proofs.Common.{arith, sym, ap, ◌∙◌, refl, subst, inl, inr}
use Rattle.rational.specs.Rational.{ℚ, ◌+ℚ◌, ◌*ℚ◌, ◌/ℚ◌, ◌≤ℚ◌, ◌<ℚ◌, neg_ℚ, int}
use Rattle.rational.specs.Grid.{Whole, Within}
use Rattle.rational.proofs.Laws.{le_or_lt, le_of_lt, le_refl, le_trans, antisym, mul_le_mul_right, mul_one, mul_comm, mul_neg}
use Rattle.rational.proofs.Linear.{with1, with2, with3, with4, with5}
use Rattle.rational.proofs.Integers.{nat_le}
use Rattle.rational.proofs.Grid.{within_some}
use Rattle.upp_curve.specs.declared.affine_segment.line.Line.{Line}
use Rattle.upp_curve.specs.declared.affine_segment.line.Piece.{Piece}
use Rattle.upp_normal.specs.declared.cycle.Cycle.{Cycle}
use Rattle.upp_curve.specs.affine_segment.Reading.{read, piece_in, piece_value}
use Rattle.upp_curve.specs.Steady.{last_line}
use Rattle.upp_curve.specs.Unrolled.{line_later, each_later}
use Rattle.upp_curve.specs.affine_segment.Pieces.{Each, RisesFrom, start_after}
use Rattle.upp_curve.specs.affine_segment.Fits.{LineFitsAt, ReadFits}
use Rattle.upp_curve.specs.Readable.{LineFitsTo, SumFitsAt, EachFits, PeriodFits}
use Rattle.upp_curve.specs.Fitting.{LaterFits}
use Rattle.upp_normal.specs.Normalising.{IsCycle, IsFront, IsLeast, SharesFit, StepsFit, MoveReads, cut_at, past, second_copy}
use Rattle.upp_normal.specs.Room.{Room, IsRoom, TimeHasRoom, many, ValueHasRoom, LineHasRoom, PieceHasRoom, IsMove, PiecesHaveRoom, TurnHasRoom, CycleHasRoom}
use Rattle.upp_curve.proofs.affine_segment.PieceIn.{value_past, value_at_start, piece_in_go, piece_in_stop, piece_in_end, read_first}
use Rattle.upp_curve.proofs.Normal.{each_at}
use Rattle.upp_normal.proofs.Below.{read_from_cut}
use Rattle.upp_normal.proofs.NormaliseLoops.{later_none, later_some}
use Rattle.upp_curve.proofs.affine_segment.PieceOrder.{each_map, each_append}
use Rattle.upp_normal.proofs.NormaliseLists.{each_past}
use Rattle.upp_normal.proofs.NormaliseCuts.{each_front}
use Rattle.upp_normal.proofs.NormaliseLeast.{share_some, share_back}
use Rattle.upp_normal.proofs.NormaliseDivided.{cut_of}
use Rattle.upp_normal.proofs.NormaliseRoom.{line_fits, line_value_room, time_moved, start_fits, at_fits, later_fits, later_room, piece_weaken, rate_fits}

-- ---- each of two
pub each_and : (P Q : Piece → Type 0) (ps : List Piece) → Each P ps → Each Q ps → Each (λ p. P p × Q p) ps
each_and P Q [] h k = tt
each_and P Q (p ∷ ps) h k = ((h.0, k.0), each_and P Q ps h.1 k.1)

-- the piece that is found is one of the list
pub each_in : (P : Piece → Type 0) (p : Piece) (ps : List Piece) (t : ℚ) → P p → Each P ps → P (piece_in p ps t)
each_in P p [] t h k = subst P (sym (piece_in_end p t)) h
each_in P p (q ∷ qs) t h k = elim (le_or_lt q.x t) [
  | inl l ↦ subst P (sym (piece_in_go p q qs t l)) (each_in P q qs t k.0 k.1)
  | inr l ↦ subst P (sym (piece_in_stop p q qs t l)) h
]

-- where it starts
pub found_early : (p : Piece) (ps : List Piece) (t : ℚ) → p.x ≤ℚ t → (piece_in p ps t).x ≤ℚ t
found_early p [] t h = subst (λ q. q.x ≤ℚ t) (sym (piece_in_end p t)) h
found_early p (q ∷ qs) t h = elim (le_or_lt q.x t) [
  | inl l ↦ subst (λ z. z.x ≤ℚ t) (sym (piece_in_go p q qs t l)) (found_early q qs t l)
  | inr l ↦ subst (λ z. z.x ≤ℚ t) (sym (piece_in_stop p q qs t l)) h
]

-- ---- what is read at a time with room
pub read_fits : (m : Room) (n : ℕ) (ps : List Piece) (t : ℚ) → IsRoom m → n ≤ 7 → Each (PieceHasRoom m n) ps → TimeHasRoom m t → t ≤ℚ m.end → ReadFits ps t
read_fits m n [] t R h E T e = tt
read_fits m n (p ∷ ps) t R h E T e = let P = each_in (PieceHasRoom m n) p ps t E.0 E.1 in λ l. line_fits m n t (piece_in p ps t).line R h P.line T e

-- a piece cut at a time has room there
pub cut_piece : (m : Room) (n : ℕ) (q : Piece) (t : ℚ) (l : Option Line) → PieceHasRoom m n q → TimeHasRoom m t → t ≤ℚ m.end → q.x ≤ℚ t → LineHasRoom m (n + 1) l → PieceHasRoom m (n + 1) record { x = t; at = piece_value q t; line = l }
cut_piece m n q t l P T e early L = elim (le_or_lt t q.x) [
  | inl k ↦
      let same : q.x ≡ t = antisym (early, k) in
      let W = piece_weaken m n (n + 1) q (omega arith) P in
      let there : PieceHasRoom m (n + 1) record { x = q.x; at = q.at; line = l } = record { time = W.time; at = W.at; line = L } in
      subst (λ v. PieceHasRoom m (n + 1) record { x = t; at = v; line = l }) (sym (value_at_start q) ∙ ap (piece_value q) same) (subst (λ x. PieceHasRoom m (n + 1) record { x = x; at = q.at; line = l }) same there)
  | inr k ↦
      let V = line_value_room m n t q.line P.line T e in
      record { time = T; at = subst (ValueHasRoom m (n + 1) T.grid) (sym (value_past q t k)) V; line = L }
]

line_more : (m : Room) (n : ℕ) (p : Piece) → PieceHasRoom m n p → LineHasRoom m (n + 1) p.line
line_more m n p P = (piece_weaken m n (n + 1) p (omega arith) P).line

pub cut_room : (m : Room) (n : ℕ) (p : Piece) (ps : List Piece) (t : ℚ) → Each (PieceHasRoom m n) (p ∷ ps) → TimeHasRoom m t → t ≤ℚ m.end → p.x ≤ℚ t → PieceHasRoom m (n + 1) (cut_at p ps t)
cut_room m n p ps t E T e h =
    let P = each_in (PieceHasRoom m n) p ps t E.0 E.1 in
    cut_piece m n (piece_in p ps t) t (piece_in p ps t).line P T e (found_early p ps t h) (line_more m n (piece_in p ps t) P)

-- ---- readable pieces
-- each line at its start
pub lines_fit : (m : Room) (n : ℕ) (ps : List Piece) → n ≤ 7 → PiecesHaveRoom m n ps → Each (λ q. LineFitsAt q.x q.line) ps
lines_fit m n ps h R =
    each_map (λ p. PieceHasRoom m n p × (p.x ≤ℚ m.end)) (λ q. LineFitsAt q.x q.line) (λ p k. line_fits m n p.x p.line R.is h k.0.line k.0.time k.1) ps
    (each_and (PieceHasRoom m n) (λ p. p.x ≤ℚ m.end) ps R.each R.early)

-- and at its end
pub ends_fit : (m : Room) (n : ℕ) (end : Option ℚ) (ps : List Piece) → n ≤ 7 → IsRoom m → Each (PieceHasRoom m n) ps → Each (λ p. p.x ≤ℚ m.end) ps
    → ((e : ℚ) → end ≡ Some e → TimeHasRoom m e × (e ≤ℚ m.end)) → EachFits end ps
ends_fit m n end [] h R E X L = tt
ends_fit m n end (p ∷ ps) h R E X L = (line_fits m n p.x p.line R h E.0.line E.0.time X.0, to_next ps E.1 X.1, ends_fit m n end ps h R E.1 X.1 L)
  where
    to_end : (o : Option ℚ) → end ≡ o → LineFitsTo o p.line
    to_end None k = tt
    to_end (Some e) k = let T = L e k in line_fits m n e p.line R h E.0.line T.0 T.1

    to_next : (qs : List Piece) → Each (PieceHasRoom m n) qs → Each (λ q. q.x ≤ℚ m.end) qs → LineFitsTo (start_after qs end) p.line
    to_next [] F Y = to_end end refl
    to_next (q ∷ qs) F Y = line_fits m n q.x p.line R h E.0.line F.0.time Y.0

-- a last line that is none is readable wherever it ends
pub ends_nowhere : (e : ℚ) (ps : List Piece) → last_line ps ≡ None → EachFits None ps → EachFits (Some e) ps
ends_nowhere e [] n F = tt
ends_nowhere e (p ∷ []) n F = (F.0, subst (LineFitsAt e) (sym n) tt, tt)
ends_nowhere e (p ∷ q ∷ ps) n F = (F.0, F.1, ends_nowhere e (q ∷ ps) n F.2)

-- ---- two periods
-- moved pieces have room where they do
moved_room : (m : Room) (n : ℕ) (by rise : ℚ) (ps : List Piece) → IsRoom m → IsMove m by rise → Each (PieceHasRoom m n) ps → Each (λ p. p.x +ℚ by ≤ℚ m.end) ps → Each (PieceHasRoom m (n + 2)) (each_later by rise ps)
moved_room m n by rise [] R M E X = subst (Each (PieceHasRoom m (n + 2))) (sym (later_none by rise)) tt
moved_room m n by rise (p ∷ ps) R M E X =
    subst (Each (PieceHasRoom m (n + 2))) (sym (later_some by rise p ps)) (later_room m n by rise p R E.0 M X.0, moved_room m n by rise ps R M E.1 X.1)

pub weaken_each : (m : Room) (a b : ℕ) (ps : List Piece) → a ≤ b → Each (PieceHasRoom m a) ps → Each (PieceHasRoom m b) ps
weaken_each m a b ps h E = each_map (PieceHasRoom m a) (PieceHasRoom m b) (λ p. piece_weaken m a b p h) ps E

-- of a periodic curve all that the second copy asks for
pub record CopyFits (m : Room) (p : Piece) (ps : List Piece) (r d c : ℚ) : Type 0 where
  pub cut : LaterFits d c (cut_at p ps r)
  pub copies : Each (λ q. r <ℚ q.x → LaterFits d c q) (p ∷ ps)
  pub room : Each (PieceHasRoom m 4) (p ∷ (ps ++ second_copy p ps r d c))

pub copy_fits : (m : Room) (times values : ℕ) (p : Piece) (ps : List Piece) (r d c : ℚ) → TurnHasRoom m times values (p ∷ ps) r d c → p.x ≤ℚ r → int (pos 0) <ℚ d → Each (λ z. z.x <ℚ r +ℚ d) (p ∷ ps) → CopyFits m p ps r d c
copy_fits m times values p ps r d c T low some inside =
    let R = T.is in
    let end = m.end in
    let ends = T.ends in
    let at_rank : r ≤ℚ m.end = with3 r d end (λ c. omega (arith, c.le, c.lt, c.same)) in
    let next : r +ℚ d ≤ℚ m.end = with3 r d end (λ c. omega (arith, c.le, c.lt, c.same)) in
    let C : PieceHasRoom m 2 (cut_at p ps r) = cut_room m 1 p ps r T.each T.time at_rank low in
    let room_for = λ (q : Piece) (h : q.x <ℚ r +ℚ d). let x = q.x in let l : q.x +ℚ d ≤ℚ m.end = with4 x r d end (λ c. omega (arith, c.le, c.lt, c.same)) in l in
    let both = each_and (PieceHasRoom m 1) (λ z. z.x <ℚ r +ℚ d) (p ∷ ps) T.each inside in
    let pasts = each_past (PieceHasRoom m 1) r ps T.each.1 in
    let pasts_in = each_map (λ z. z.x <ℚ r +ℚ d) (λ z. z.x +ℚ d ≤ℚ m.end) room_for (past r ps) (each_past (λ z. z.x <ℚ r +ℚ d) r ps inside.1) in
    let second = later_some d c (cut_at p ps r) (past r ps) in
    let copies = weaken_each m 3 4 (each_later d c (past r ps)) (omega arith) (moved_room m 1 d c (past r ps) R T.move pasts pasts_in) in
    record {
      cut = later_fits m 2 d c (cut_at p ps r) R (omega arith) C T.move next;
      copies = each_map (λ z. PieceHasRoom m 1 z × (z.x <ℚ r +ℚ d)) (λ q. r <ℚ q.x → LaterFits d c q) (λ q k l. later_fits m 1 d c q R (omega arith) k.0 T.move (room_for q k.1)) (p ∷ ps) both;
      room =
          each_append (PieceHasRoom m 4) (p ∷ ps) (second_copy p ps r d c) (weaken_each m 1 4 (p ∷ ps) (omega arith) T.each)
          (subst (Each (PieceHasRoom m 4)) (sym second) (later_room m 2 d c (cut_at p ps r) R C T.move next, copies));
    }

-- ---- a period between breaks
-- a share is no larger
pub share_within : (v x : ℚ) (n : ℕ) → 1 ≤ n → Within v x → Within v (x /ℚ int (pos n))
share_within v x n h W =
    let k = int (pos n) in
    let q = x /ℚ k in
    let back : x ≡ k *ℚ q = share_back x n h in
    let one : int (pos 1) ≤ℚ k = nat_le 1 n h in
    elim (le_or_lt (int (pos 0)) q) [
      | inl s ↦
          let a : int (pos 1) *ℚ q ≤ℚ k *ℚ q = mul_le_mul_right q s one in
          let b : q ≤ℚ x = subst (λ z. q ≤ℚ z) (sym back) (subst (λ z. z ≤ℚ k *ℚ q) (mul_comm (int (pos 1)) q ∙ mul_one q) a) in
          let c = W.high in
          let d = within_some v x W in
          record { low = with2 v q (λ c. omega (arith, c.le, c.lt, c.same)); high = with3 v x q (λ c. omega (arith, c.le, c.lt, c.same)) }
      | inr s ↦
          let n2 = neg_ℚ q in
          let some : int (pos 0) ≤ℚ n2 = with1 q (λ c. omega (arith, c.le, c.lt, c.same)) in
          let a : int (pos 1) *ℚ n2 ≤ℚ k *ℚ n2 = mul_le_mul_right n2 some one in
          let e : k *ℚ n2 ≡ neg_ℚ x = mul_neg k q ∙ ap neg_ℚ (sym back) in
          let b : n2 ≤ℚ neg_ℚ x = subst (λ z. n2 ≤ℚ z) e (subst (λ z. z ≤ℚ k *ℚ n2) (mul_comm (int (pos 1)) n2 ∙ mul_one n2) a) in
          let c = W.low in
          let d = within_some v x W in
          record { low = with3 v x q (λ c. omega (arith, c.le, c.lt, c.same)); high = with2 v q (λ c. omega (arith, c.le, c.lt, c.same)) }
    ]

pub share_less : (x : ℚ) (n : ℕ) → 1 ≤ n → int (pos 0) ≤ℚ x → x /ℚ int (pos n) ≤ℚ x
share_less x n h s = (share_within x x n h record { low = with1 x (λ c. omega (arith, c.le, c.lt, c.same)); high = le_refl x }).high

share_move : (m : Room) (period rise : ℚ) (n : ℕ) → 1 ≤ n → int (pos 0) <ℚ period → IsMove m period rise → Whole m.times (period /ℚ int (pos n)) → Whole (m.base * m.slopes) (rise /ℚ int (pos n))
    → IsMove m (period /ℚ int (pos n)) (rise /ℚ int (pos n))
share_move m period rise n h some M a b = record { time = a; low = le_of_lt (share_some period n h some); height = b; within = share_within (many m 1) rise n h M.within }

pub shares_fit : (m : Room) (times values : ℕ) (ps : List Piece) (r d c : ℚ) → CycleHasRoom m times values ps r d c → IsCycle ps r d → SharesFit times values ps d c
shares_fit m times values ps r d c K C = λ n h a b.
    let e = d /ℚ int (pos n) in
    let u = c /ℚ int (pos n) in
    let some = C.some in
    let M = share_move m d c n h some K.move (subst (λ t. Whole t e) (sym K.times_is) a) (subst (λ t. Whole t u) (sym K.values_is) b) in
    let less = share_less d n h (le_of_lt some) in
    let end = m.end in
    let ends = K.ends in
    each_map (λ p. PieceHasRoom m 4 p × (p.x <ℚ r +ℚ d)) (LaterFits e u) (λ p k.
    let x = p.x in
    let l = k.1 in
    let room : p.x +ℚ e ≤ℚ m.end = with5 x r d e end (λ c. omega (arith, c.le, c.lt, c.same)) in
    later_fits m 4 e u p K.is (omega arith) k.0 M room) ps (each_and (PieceHasRoom m 4) (λ p. p.x <ℚ r +ℚ d) ps K.each C.inside)

pub steps_fit : (m : Room) (times values : ℕ) (ps : List Piece) (r d c : ℚ) → CycleHasRoom m times values ps r d c → int (pos 0) <ℚ d → StepsFit ps r d c
steps_fit m times values ps r d c K some =
    each_map (PieceHasRoom m 4) (λ p. p.x <ℚ r → MoveReads d c p) (λ p P l.
    let x = p.x in
    let end = m.end in
    let ends = K.ends in
    let room : p.x +ℚ d ≤ℚ m.end = with4 x r d end (λ c. omega (arith, c.le, c.lt, c.same)) in
    let L = later_room m 4 d c p K.is P K.move room in
    record {
      moved = later_fits m 4 d c p K.is (omega arith) P K.move room;
      reached = line_fits m 6 (p.x +ℚ d) (line_later d c p.line) K.is (omega arith) L.line L.time room;
    }) ps K.each

pub least_room : (m : Room) (times values : ℕ) (c d : Cycle) → CycleHasRoom m times values c.pieces.items c.rank c.period c.rise → int (pos 0) <ℚ c.period → IsLeast times values c d
    → CycleHasRoom m times values d.pieces.items d.rank d.period d.rise
least_room m times values c d K some L = by_share L.share
  where
    by_share : (n : ℕ) × (1 ≤ n) × (d.period ≡ c.period /ℚ int (pos n)) × (d.rise ≡ c.rise /ℚ int (pos n)) × Whole times d.period × Whole values d.rise → CycleHasRoom m times values d.pieces.items d.rank d.period d.rise
    by_share (n, h, p, r, a, b) =
        let less : d.period ≤ℚ c.period = subst (λ z. z ≤ℚ c.period) (sym p) (share_less c.period n h (le_of_lt some)) in
        let M = share_move m c.period c.rise n h some K.move (subst (λ t. Whole t (c.period /ℚ int (pos n))) (sym K.times_is) (subst (Whole times) p a)) (subst (λ t. Whole t (c.rise /ℚ int (pos n))) (sym K.values_is) (subst (Whole values) r b)) in
        let x = c.rank in
        let e = c.period in
        let y = d.period in
        let end = m.end in
        let ends = K.ends in
        let early : c.rank +ℚ d.period +ℚ d.period ≤ℚ m.end = with4 x e y end (λ c. omega (arith, c.le, c.lt, c.same)) in
        record {
          is = K.is;
          times_is = K.times_is;
          values_is = K.values_is;
          each = each_front (PieceHasRoom m 4) d.pieces.items c.pieces.items L.front K.each;
          move = subst (λ z. IsMove m z d.rise) (sym p) (subst (λ z. IsMove m (c.period /ℚ int (pos n)) z) (sym r) M);
          ends = subst (λ z. z +ℚ d.period +ℚ d.period ≤ℚ m.end) (sym L.rank) early;
        }

-- ---- the answer is readable
pub period_readable : (m : Room) (times values : ℕ) (given ps : List Piece) (rank low d c : ℚ) → CycleHasRoom m times values given rank d c → IsFront ps given → IsCycle ps low d → low ≤ℚ rank → PeriodFits ps low d c
period_readable m times values given ps rank low d c K F C h =
    let R = K.is in
    let E : Each (PieceHasRoom m 4) ps = each_front (PieceHasRoom m 4) ps given F K.each in
    let times = each_map (PieceHasRoom m 4) (λ p. TimeHasRoom m p.x) (λ p P. P.time) ps E in
    let T : TimeHasRoom m low = each_at (TimeHasRoom m) low ps times C.has in
    let some = C.some in
    let nonneg = C.nonneg in
    let end = m.end in
    let ends = K.ends in
    let room : low +ℚ d ≤ℚ m.end = with4 rank low d end (λ c. omega (arith, c.le, c.lt, c.same)) in
    let period_in : d ≤ℚ m.end = with4 rank low d end (λ c. omega (arith, c.le, c.lt, c.same)) in
    let early : Each (λ p. p.x ≤ℚ m.end) ps = each_map (λ p. p.x <ℚ low +ℚ d) (λ p. p.x ≤ℚ m.end) (λ p l. le_trans (le_of_lt l) room) ps C.inside in
    let X = cut_of ps low d C in
    let first = each_right_first X.before X.first X.rest (subst (Each (PieceHasRoom m 4)) X.whole E) in
    let at_rank : read ps low ≡ X.first.at =
    ap (λ zs. read zs low) X.whole
    ∙ read_from_cut X.before X.first X.rest low (each_map (λ z. z.x <ℚ low) (λ z. z.x ≤ℚ low) (λ z l. le_of_lt l) X.before X.early) (subst (λ x. x ≤ℚ low) (sym X.at) (le_refl low))
    ∙ read_first X.first X.rest low low (subst (λ x. RisesFrom x X.rest) X.at X.rises) (le_refl low) ∙ ap (piece_value X.first) (sym X.at) ∙ value_at_start X.first in
    record {
      end = start_fits m low d R T K.move.time (le_of_lt some) room;
      rate = rate_fits m low d c R T K.move some period_in;
      next = subst (λ v. SumFitsAt v c) (sym at_rank) (at_fits m 4 X.first.x c X.first.at R (omega arith) first.time first.at K.move.height K.move.within);
      lines = ends_fit m 4 (Some (low +ℚ d)) ps (omega arith) R E early (λ e k. by_end e k (time_moved m low d c R K.move T, room));
    }
  where
    each_right_first : (es : List Piece) (q : Piece) (qs : List Piece) → Each (PieceHasRoom m 4) (es ++ q ∷ qs) → PieceHasRoom m 4 q
    each_right_first [] q qs h = h.0
    each_right_first (a ∷ es) q qs h = each_right_first es q qs h.1

    by_end : (e : ℚ) → Some (low +ℚ d) ≡ Some e → TimeHasRoom m (low +ℚ d) × (low +ℚ d ≤ℚ m.end) → TimeHasRoom m e × (e ≤ℚ m.end)
    by_end e k W = subst (λ z. TimeHasRoom m z × (z ≤ℚ m.end)) (same (low +ℚ d) e k) W
      where
        same : (x y : ℚ) → Some x ≡ Some y → x ≡ y
        same x y e = cc
