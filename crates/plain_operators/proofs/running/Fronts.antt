-- The first of some pieces, up to a time: a list that is cut there keeps what holds of its pieces, and its readings before that time.
use Rattle.std.specs.Prelude.{◌≡◌, ℕ, suc, Bool, ◌+◌, ◌<◌, pos, List, [], ◌∷◌, ◌++◌, length, drop}
use Rattle.std.proofs.Common.{arith, get_or, drop-cons, sym, ap, ap₂, ◌∙◌, refl, subst, inl, inr}
use Rattle.rational.specs.Rational.{ℚ, ◌≤ℚ◌, ◌<ℚ◌, int}
use Rattle.rational.proofs.Laws.{le_or_lt, lt_irrefl, lt_le_trans, le_lt_trans}
use Rattle.upp_curve.specs.declared.affine_segment.line.Piece.{Piece}
use Rattle.upp_normal.specs.Bends.{OnlyBend}
use Rattle.upp_curve.specs.affine_segment.Reading.{read, piece_in, piece_value}
use Rattle.upp_curve.specs.affine_segment.Pieces.{Each, StartsAtZero}
use Rattle.upp_curve.proofs.affine_segment.PieceIn.{piece_in_end, piece_in_go, piece_in_stop}
use Rattle.curve_call.proofs.Surgery.{one_more}
use Rattle.plain_operators.specs.running.Runs.{IsFrontBefore}
use Rattle.upp_curve.proofs.affine_segment.PieceOrder.{heads_same, each_left, rises_left}
use Rattle.upp_normal.proofs.Bends.{bend_front}

-- ---- the loop
pub record FrontLoop (ps : List Piece) (end : ℚ) (i : ℕ) (front : List Piece) : Type 0 where
  pub before : Each (λ p. p.x <ℚ end) front
  pub whole : front ++ drop i ps ≡ ps

each_more : (P : Piece → Type 0) (xs : List Piece) (p : Piece) → Each P xs → P p → Each P (xs ++ p ∷ [])
each_more P [] p h k = (k, tt)
each_more P (x ∷ xs) p h k = (h.0, each_more P xs p h.1 k)

next_piece : (p : Piece) (ps : List Piece) (i : ℕ) → i < length ps → p ≡ get_or ps i p → drop i ps ≡ p ∷ drop (i + 1) ps
next_piece p ps i h e =
    let k : suc i ≡ i + 1 = omega arith in
    drop-cons ps i p h ∙ ap₂ (λ (q : Piece) (n : ℕ). q ∷ drop n ps) (sym e) k

pub front_step : (ps : List Piece) (end : ℚ) (i : ℕ) (front : List Piece) (p : Piece) → FrontLoop ps end i front → i < length ps → p ≡ get_or ps i p → p.x <ℚ end
    → FrontLoop ps end (i + 1) (front ++ p ∷ [])
front_step ps end i front p L h e early = record {
  before = each_more (λ q. q.x <ℚ end) front p L.before early;
  whole = one_more front p (drop (i + 1) ps) ∙ ap (λ z. front ++ z) (sym (next_piece p ps i h e)) ∙ L.whole;
}

pub front_stop : (ps : List Piece) (end : ℚ) (i : ℕ) (front : List Piece) (p : Piece) → FrontLoop ps end i front → i < length ps → p ≡ get_or ps i p → end ≤ℚ p.x
    → IsFrontBefore ps end front
front_stop ps end i front p L h e late = record {
  before = L.before;
  rest = drop i ps;
  whole = L.whole;
  late = λ q more k. subst (λ z. end ≤ℚ z.x) (heads_same p q (drop (i + 1) ps) more (sym (next_piece p ps i h e) ∙ k)) late;
}

-- ---- what a front keeps

pub kept_each : (P : Piece → Type 0) (ps : List Piece) (end : ℚ) (front : List Piece) → IsFrontBefore ps end front → Each P ps → Each P front
kept_each P ps end front F h = each_left P front F.rest (subst (Each P) (sym F.whole) h)

front_starts : (xs ys : List Piece) (end : ℚ) → int (pos 0) <ℚ end → ((p : Piece) (more : List Piece) → ys ≡ p ∷ more → end ≤ℚ p.x) → StartsAtZero (xs ++ ys) → StartsAtZero xs
front_starts [] [] end some late h = absurd h
front_starts [] (y ∷ ys) end some late h = absurd (lt_irrefl end (le_lt_trans (subst (λ z. end ≤ℚ z) h.0 (late y ys refl)) some))
front_starts (x ∷ xs) ys end some late h = (h.0, rises_left x.x xs ys h.1)

pub kept_starts : (ps : List Piece) (end : ℚ) (front : List Piece) → IsFrontBefore ps end front → int (pos 0) <ℚ end → StartsAtZero ps → StartsAtZero front
kept_starts ps end front F some h = front_starts front F.rest end some F.late (subst StartsAtZero (sym F.whole) h)

-- it is read alike before the end
found : (p : Piece) (xs ys : List Piece) (end t : ℚ) → ((q : Piece) (more : List Piece) → ys ≡ q ∷ more → end ≤ℚ q.x) → t <ℚ end → piece_in p (xs ++ ys) t ≡ piece_in p xs t
found p [] [] end t late h = refl
found p [] (y ∷ ys) end t late h = piece_in_stop p y ys t (lt_le_trans h (late y ys refl)) ∙ sym (piece_in_end p t)
found p (x ∷ xs) ys end t late h = elim (le_or_lt x.x t) [
  | inl l ↦ piece_in_go p x (xs ++ ys) t l ∙ found x xs ys end t late h ∙ sym (piece_in_go p x xs t l)
  | inr l ↦ piece_in_stop p x (xs ++ ys) t l ∙ sym (piece_in_stop p x xs t l)
]

front_reads : (xs ys : List Piece) (end t : ℚ) → ((q : Piece) (more : List Piece) → ys ≡ q ∷ more → end ≤ℚ q.x) → StartsAtZero xs → t <ℚ end → read (xs ++ ys) t ≡ read xs t
unfolding read
front_reads [] ys end t late s h = absurd s
front_reads (x ∷ xs) ys end t late s h = ap (λ z. piece_value z t) (found x xs ys end t late h)

pub kept_reads : (ps : List Piece) (end : ℚ) (front : List Piece) (t : ℚ) → IsFrontBefore ps end front → StartsAtZero front → t <ℚ end → read front t ≡ read ps t
kept_reads ps end front t F s h = sym (front_reads front F.rest end t F.late s h) ∙ ap (λ z. read z t) F.whole

front_bends : (rises : Bool) (T S D : ℕ) (xs ys : List Piece) → OnlyBend rises T S D (xs ++ ys) → OnlyBend rises T S D xs
front_bends rises T S D [] ys h = tt
front_bends rises T S D (x ∷ xs) ys h = (h.0, bend_front rises T S D x xs ys h.1)

pub kept_bends : (rises : Bool) (T S D : ℕ) (ps : List Piece) (end : ℚ) (front : List Piece) → IsFrontBefore ps end front → OnlyBend rises T S D ps → OnlyBend rises T S D front
kept_bends rises T S D ps end front F h = front_bends rises T S D front F.rest (subst (OnlyBend rises T S D) (sym F.whole) h)
