-- Pieces that join make a function that rises no faster than the steepest of them, and so is continuous where it never falls.
use Rattle.std.specs.Prelude.{◌≡◌, ℕ, zero, suc, pos, List, [], ◌∷◌, Option, Some, None}
use Rattle.std.proofs.Common.{arith, sym, ap, ◌∙◌, refl, subst, inl, inr}
use Rattle.rational.specs.Rational.{ℚ, ◌+ℚ◌, ◌-ℚ◌, ◌*ℚ◌, ◌/ℚ◌, ◌≤ℚ◌, ◌<ℚ◌, int}
use Rattle.rational.specs.MinMax.{max_q}
use Rattle.rational.specs.Whole.{periods}
use Rattle.rational.specs.Extended.{Ext, ◌≤ₑ◌, ◌+ₑ◌}
use Rattle.rational.specs.declared.Extended.TheVariants.{Fin, Inf}
use Rattle.rational.proofs.Linear.{with1, with2, with3, with4}
use Rattle.rational.proofs.Laws.{antisym, le_refl, le_or_lt, le_of_lt, le_trans, le_total, mul_le_mul, mul_le_mul_right, mul_comm, mul_sub, mul_add, add_mul, one_mul, div_mul, not_zero}
use Rattle.rational.proofs.Quotients.{div_pos}
use Rattle.rational.proofs.MinMax.{max_q_ge_left, max_q_ge_right}
use Rattle.upp_curve.specs.declared.affine_segment.line.Line.{Line}
use Rattle.upp_curve.specs.declared.affine_segment.line.Piece.{Piece}
use Rattle.upp_curve.specs.affine_segment.Values.{line_value}
use Rattle.upp_curve.specs.declared.shape.End.{End}
use Rattle.upp_curve.specs.affine_segment.Reading.{piece_value}
use Rattle.upp_curve.specs.Curve.{repeated}
use Rattle.min_plus.specs.Functions.{IsRising, zero_q}
use Rattle.upp_curve.specs.affine_segment.Pieces.{Each, RisesFrom}
use Rattle.min_plus.specs.Continuity.{IsContinuous}
use Rattle.upp_curve.specs.JoinedPieces.{PiecesJoin}
use Rattle.upp_curve.proofs.affine_segment.PieceIn.{piece_in_end, piece_in_go, piece_in_stop, value_past, value_at_start}
use Rattle.upp_curve.proofs.FirstStretch.{read_in, at_start}
use Rattle.upp_curve.proofs.Repeats.{repeated_first, repeated_next, in_first, later_period}

-- ---- sums in order
-- from v to u by way of w
by_way : (v w u : Ext) (a b c : ℚ) → v ≤ₑ w +ₑ Fin a → w ≤ₑ u +ₑ Fin b → a +ℚ b ≡ c → v ≤ₑ u +ₑ Fin c
by_way v w Inf a b c h k e = tt
by_way v Inf (Fin u) a b c h k e = absurd k
by_way Inf (Fin w) (Fin u) a b c h k e = absurd h
by_way (Fin v) (Fin w) (Fin u) a b c h k e = linear v w u a b c h k e
  where
    linear : (v w u a b c : ℚ) → v ≤ℚ w +ℚ a → w ≤ℚ u +ℚ b → a +ℚ b ≡ c → v ≤ℚ u +ℚ c
    linear v w u a b c h k e = subst (λ x. v ≤ℚ u +ℚ x) e (le_trans h (sums w u a b k))
      where
        sums : (w u a b : ℚ) → w ≤ℚ u +ℚ b → w +ℚ a ≤ℚ u +ℚ (a +ℚ b)
        sums w u a b k = with4 w u a b (λ c. omega (arith, c.le, c.lt, c.same))

more_room : (v w : Ext) (a b : ℚ) → v ≤ₑ w +ₑ Fin a → a ≤ℚ b → v ≤ₑ w +ₑ Fin b
more_room v Inf a b h k = tt
more_room Inf (Fin w) a b h k = absurd h
more_room (Fin v) (Fin w) a b h k = linear v w a b h k
  where
    linear : (v w a b : ℚ) → v ≤ℚ w +ℚ a → a ≤ℚ b → v ≤ℚ w +ℚ b
    linear v w a b h k = with4 v w a b (λ c. omega (arith, c.le, c.lt, c.same))

some_room : (v w : Ext) (b : ℚ) → v ≤ₑ w → zero_q ≤ℚ b → v ≤ₑ w +ₑ Fin b
some_room v Inf b h k = tt
some_room Inf (Fin w) b h k = absurd h
some_room (Fin v) (Fin w) b h k = linear v w b h k
  where
    linear : (v w b : ℚ) → v ≤ℚ w → zero_q ≤ℚ b → v ≤ℚ w +ℚ b
    linear v w b h k = with3 v w b (λ c. omega (arith, c.le, c.lt, c.same))

both_risen : (v w : Ext) (a c : ℚ) → v ≤ₑ w +ₑ Fin a → v +ₑ Fin c ≤ₑ (w +ₑ Fin c) +ₑ Fin a
both_risen v Inf a c h = le_inf_any (v +ₑ Fin c)
  where
    le_inf_any : (x : Ext) → x ≤ₑ Inf
    le_inf_any Inf = tt
    le_inf_any (Fin x) = tt
both_risen Inf (Fin w) a c h = absurd h
both_risen (Fin v) (Fin w) a c h = linear v w a c h
  where
    linear : (v w a c : ℚ) → v ≤ℚ w +ℚ a → v +ℚ c ≤ℚ (w +ℚ c) +ℚ a
    linear v w a c h = with4 v w a c (λ c. omega (arith, c.le, c.lt, c.same))

-- ---- one line
abbrev pub SlopeWithin : ℚ → Option Line → Type 0
SlopeWithin k None = Unit {0}
SlopeWithin k (Some l) = l.slope ≤ℚ k

line_gentle : (k : ℚ) (l : Option Line) (s t : ℚ) → SlopeWithin k l → s ≤ℚ t → line_value l t ≤ₑ line_value l s +ₑ Fin (k *ℚ (t -ℚ s))
line_gentle k None s t h up = tt
line_gentle k (Some l) s t h up =
    let gap : zero_q ≤ℚ t -ℚ s = with2 s t (λ c. omega (arith, c.le, c.lt, c.same)) in
    linear l.icept (l.slope *ℚ s) (l.slope *ℚ t) (k *ℚ (t -ℚ s)) (subst (λ x. x ≤ℚ k *ℚ (t -ℚ s)) (mul_sub l.slope t s) (mul_le_mul_right (t -ℚ s) gap h))
  where
    linear : (a s t r : ℚ) → t -ℚ s ≤ℚ r → a +ℚ t ≤ℚ a +ℚ s +ℚ r
    linear a s t r h = with4 a s t r (λ c. omega (arith, c.le, c.lt, c.same))

-- a piece that begins on its line is on its line
on_line : (p : Piece) (t : ℚ) → line_value p.line p.x ≡ p.at → p.x ≤ℚ t → piece_value p t ≡ line_value p.line t
on_line p t e h = elim (le_or_lt t p.x) [
  | inl l ↦
      let same : t ≡ p.x = antisym (l, h) in
      ap (piece_value p) same ∙ value_at_start p ∙ sym e ∙ ap (line_value p.line) (sym same)
  | inr l ↦ value_past p t l
]

gaps : (k s m t : ℚ) → k *ℚ (t -ℚ m) +ℚ k *ℚ (m -ℚ s) ≡ k *ℚ (t -ℚ s)
gaps k s m t = sym (mul_add k (t -ℚ m) (m -ℚ s)) ∙ ap (λ x. k *ℚ x) (with3 s m t (λ c. omega (arith, c.le, c.lt, c.same)))

-- ---- a list of pieces
pub list_gentle : (k : ℚ) (end : Option End) (p : Piece) (ps : List Piece) (s t : ℚ) → RisesFrom p.x ps → PiecesJoin end (p ∷ ps) → Each (λ z. SlopeWithin k z.line) (p ∷ ps)
    → p.x ≤ℚ s → s ≤ℚ t → read_in p ps t ≤ₑ read_in p ps s +ₑ Fin (k *ℚ (t -ℚ s))
list_gentle k end p [] s t r h g low up =
    let a = ap (λ q. piece_value q s) (piece_in_end p s) ∙ on_line p s h.0.first low in
    let b = ap (λ q. piece_value q t) (piece_in_end p t) ∙ on_line p t h.0.first (le_trans low up) in
    rw (a, b) (line_gentle k p.line s t g.0 up)
list_gentle k end p (q ∷ qs) s t r h g low up = elim (le_or_lt q.x t) [
  | inr l ↦
      let early : s <ℚ q.x = let x = q.x in with3 s t x (λ c. omega (arith, c.le, c.lt, c.same)) in
      let a = ap (λ z. piece_value z s) (piece_in_stop p q qs s early) ∙ on_line p s h.0.first low in
      let b = ap (λ z. piece_value z t) (piece_in_stop p q qs t l) ∙ on_line p t h.0.first (le_trans low up) in
      rw (a, b) (line_gentle k p.line s t g.0 up)
  | inl m ↦
      let b = ap (λ z. piece_value z t) (piece_in_go p q qs t m) in
      elim (le_or_lt q.x s) [
        | inl n ↦
            let a = ap (λ z. piece_value z s) (piece_in_go p q qs s n) in
            rw (a, b) (list_gentle k end q qs s t r.1 h.1 g.1 n up)
        | inr l ↦
            let a = ap (λ z. piece_value z s) (piece_in_stop p q qs s l) ∙ on_line p s h.0.first low in
            rw (a, b) (by_way (read_in q qs t) q.at (line_value p.line s) (k *ℚ (t -ℚ q.x)) (k *ℚ (q.x -ℚ s)) (k *ℚ (t -ℚ s))
            (subst (λ v. read_in q qs t ≤ₑ v +ₑ Fin (k *ℚ (t -ℚ q.x))) (at_start q qs r.1) (list_gentle k end q qs q.x t r.1 h.1 g.1 (le_refl q.x) m))
            (subst (λ v. v ≤ₑ line_value p.line s +ₑ Fin (k *ℚ (q.x -ℚ s))) h.0.last (line_gentle k p.line s q.x g.0 (le_of_lt l))) (gaps k s q.x t))
      ]
]

-- and so it is up to the value at the end
pub end_gentle : (k : ℚ) (e : End) (p : Piece) (ps : List Piece) (s : ℚ) → RisesFrom p.x ps → PiecesJoin (Some e) (p ∷ ps) → Each (λ z. SlopeWithin k z.line) (p ∷ ps)
    → Each (λ z. z.x ≤ℚ e.x) ps → p.x ≤ℚ s → s ≤ℚ e.x → e.at ≤ₑ read_in p ps s +ₑ Fin (k *ℚ (e.x -ℚ s))
end_gentle k e p [] s r h g starts low up =
    let a = ap (λ q. piece_value q s) (piece_in_end p s) ∙ on_line p s h.0.first low in
    rw a (subst (λ v. v ≤ₑ line_value p.line s +ₑ Fin (k *ℚ (e.x -ℚ s))) h.0.last (line_gentle k p.line s e.x g.0 up))
end_gentle k e p (q ∷ qs) s r h g starts low up = elim (le_or_lt q.x s) [
  | inl m ↦
      let a = ap (λ z. piece_value z s) (piece_in_go p q qs s m) in
      rw a (end_gentle k e q qs s r.1 h.1 g.1 starts.1 m up)
  | inr l ↦
      let a = ap (λ z. piece_value z s) (piece_in_stop p q qs s l) ∙ on_line p s h.0.first low in
      rw a (by_way e.at q.at (line_value p.line s) (k *ℚ (e.x -ℚ q.x)) (k *ℚ (q.x -ℚ s)) (k *ℚ (e.x -ℚ s))
      (subst (λ v. e.at ≤ₑ v +ₑ Fin (k *ℚ (e.x -ℚ q.x))) (at_start q qs r.1) (end_gentle k e q qs q.x r.1 h.1 g.1 starts.1 (le_refl q.x) starts.0))
      (subst (λ v. v ≤ₑ line_value p.line s +ₑ Fin (k *ℚ (q.x -ℚ s))) h.0.last (line_gentle k p.line s q.x g.0 (le_of_lt l))) (gaps k s q.x e.x))
]

-- ---- the steepest piece
pub record Steepest (ps : List Piece) : Type 0 where
  pub slope : ℚ
  pub some : zero_q ≤ℚ slope
  pub each : Each (λ z. SlopeWithin slope z.line) ps

within_more : (k m : ℚ) (l : Option Line) → k ≤ℚ m → SlopeWithin k l → SlopeWithin m l
within_more k m None h g = tt
within_more k m (Some l) h g = le_trans g h

each_more : (k m : ℚ) (ps : List Piece) → k ≤ℚ m → Each (λ z. SlopeWithin k z.line) ps → Each (λ z. SlopeWithin m z.line) ps
each_more k m [] h g = tt
each_more k m (p ∷ ps) h g = (within_more k m p.line h g.0, each_more k m ps h g.1)

slope_bound : (k : ℚ) (l : Option Line) → (m : ℚ) × (k ≤ℚ m) × SlopeWithin m l
slope_bound k None = (k, le_refl k, tt)
slope_bound k (Some l) = (max_q k l.slope, max_q_ge_left k l.slope, max_q_ge_right k l.slope)

pub steepest : (ps : List Piece) → Steepest ps
steepest [] = record { slope = zero_q; some = le_refl zero_q; each = tt }
steepest (p ∷ ps) =
    let S = steepest ps in
    let (m, h, g) = slope_bound S.slope p.line in
    record { slope = m; some = le_trans S.some h; each = (g, each_more S.slope m ps h S.each) }

-- ---- a function that repeats
pub record IsGentle (k : ℚ) (f : ℚ → Ext) : Type 0 where
  pub is : (s t : ℚ) → zero_q ≤ℚ s → s ≤ℚ t → f t ≤ₑ f s +ₑ Fin (k *ℚ (t -ℚ s))

pub repeated_gentle : (k : ℚ) (f : ℚ → Ext) (r d c : ℚ) → zero_q ≤ℚ r → zero_q <ℚ d
    → ((s t : ℚ) → zero_q ≤ℚ s → s ≤ℚ t → t <ℚ r +ℚ d → f t ≤ₑ f s +ₑ Fin (k *ℚ (t -ℚ s)))
    → ((s : ℚ) → zero_q ≤ℚ s → s <ℚ r +ℚ d → f r +ₑ Fin c ≤ₑ f s +ₑ Fin (k *ℚ (r +ℚ d -ℚ s)))
    → IsGentle k (repeated f r d c)
repeated_gentle k f r d c start some first top = record { is = λ s t low up. go (periods r d t) s t low up refl }
  where
    F : ℚ → Ext
    F = repeated f r d c

    at_rank : F r ≡ f r
    at_rank = repeated_first f r d c r some (with2 r d (λ c. omega (arith, c.le, c.lt, c.same)))

    early : (s t : ℚ) → zero_q ≤ℚ s → s ≤ℚ t → t <ℚ r +ℚ d → F t ≤ₑ F s +ₑ Fin (k *ℚ (t -ℚ s))
    early s t low up l =
        let end = r +ℚ d in
        let a = repeated_first f r d c s some (with3 s t end (λ c. omega (arith, c.le, c.lt, c.same))) in
        let b = repeated_first f r d c t some l in
        rw (a, b) (first s t low up l)

    back : (t : ℚ) → r +ℚ d ≤ℚ t → F t ≡ F (t -ℚ d) +ₑ Fin c
    back t h =
        let u = t -ℚ d in
        ap F (with2 t d (λ c. omega (arith, c.le, c.lt, c.same))) ∙ repeated_next f r d c u some (with3 r d t (λ c. omega (arith, c.le, c.lt, c.same)))

    same_gap : (s t : ℚ) → (t -ℚ d) -ℚ (s -ℚ d) ≡ t -ℚ s
    same_gap s t = with3 s t d (λ c. omega (arith, c.le, c.lt, c.same))

    whole_gap : (s t : ℚ) → k *ℚ ((t -ℚ d) -ℚ r) +ℚ k *ℚ (r +ℚ d -ℚ s) ≡ k *ℚ (t -ℚ s)
    whole_gap s t = sym (mul_add k ((t -ℚ d) -ℚ r) (r +ℚ d -ℚ s)) ∙ ap (λ x. k *ℚ x) (with4 s t d r (λ c. omega (arith, c.le, c.lt, c.same)))

    go : (n : ℕ) (s t : ℚ) → zero_q ≤ℚ s → s ≤ℚ t → periods r d t ≡ n → F t ≤ₑ F s +ₑ Fin (k *ℚ (t -ℚ s))
    go zero s t low up e = early s t low up (in_first r d t some e)
    go (suc n) s t low up e =
        let L = later_period r d t n some e in let u = t -ℚ d in
        elim (le_or_lt (r +ℚ d) s) [
          | inl m ↦
              let v = s -ℚ d in
              let h = L.past in
              rw (back s m, back t h)
              (both_risen (F u) (F v) (k *ℚ (t -ℚ s)) c
              (subst (λ x. F u ≤ₑ F v +ₑ Fin (k *ℚ x)) (same_gap s t)
              (go n v u (with3 r d s (λ c. omega (arith, c.le, c.lt, c.same))) (with3 s t d (λ c. omega (arith, c.le, c.lt, c.same))) L.fewer)))
          | inr m ↦
              let a = repeated_first f r d c s some m in
              let past : r ≤ℚ u = let h = L.past in with3 r d t (λ c. omega (arith, c.le, c.lt, c.same)) in
              rw (a, back t L.past)
              (by_way (F u +ₑ Fin c) (f r +ₑ Fin c) (f s) (k *ℚ (u -ℚ r)) (k *ℚ (r +ℚ d -ℚ s)) (k *ℚ (t -ℚ s))
              (both_risen (F u) (f r) (k *ℚ (u -ℚ r)) c (subst (λ v. F u ≤ₑ v +ₑ Fin (k *ℚ (u -ℚ r))) at_rank (go n r u start past L.fewer))) (top s low m) (whole_gap s t))
        ]

-- ---- continuous
pub gentle_continuous : (k : ℚ) (f : ℚ → Ext) → zero_q ≤ℚ k → IsRising f → IsGentle k f → IsContinuous f
gentle_continuous k f some rise gentle t e start near = (
  d,
  record {
    some = d_some;
    near = λ s low late early. elim (le_total s t) [
      | inl h ↦
          record {
            first = some_room (f s) (f t) e (rise s t low h) (le_of_lt near);
            second = more_room (f t) (f s) (k *ℚ (t -ℚ s)) e (gentle.is s t low h) (small (t -ℚ s) (gap s t early));
          }
      | inr h ↦
          record {
            first = more_room (f s) (f t) (k *ℚ (s -ℚ t)) e (gentle.is t s start h) (small (s -ℚ t) (gap t s late));
            second = some_room (f t) (f s) e (rise t s start h) (le_of_lt near);
          }
    ];
  },
)
  where
    m : ℚ
    m = k +ℚ int (pos 1)

    m_some : zero_q <ℚ m
    m_some = with1 k (λ c. omega (arith, c.le, c.lt, c.same))

    d : ℚ
    d = e /ℚ m

    d_some : zero_q <ℚ d
    d_some = div_pos e m m_some near

    gap : (s t : ℚ) → t ≤ℚ s +ℚ d → t -ℚ s ≤ℚ d
    gap s t h = let x = d in move s t x h
      where
        move : (s t x : ℚ) → t ≤ℚ s +ℚ x → t -ℚ s ≤ℚ x
        move s t x h = with3 s t x (λ c. omega (arith, c.le, c.lt, c.same))

    reach : k *ℚ d ≤ℚ e
    reach = all (k *ℚ d) d e (sym (add_mul k (int (pos 1)) d ∙ ap (λ x. k *ℚ d +ℚ x) (one_mul d)) ∙ swapped) (le_of_lt d_some)
      where
        swapped : m *ℚ d ≡ e
        swapped = mul_comm m d ∙ div_mul e m (not_zero m m_some)

        all : (a d e : ℚ) → a +ℚ d ≡ e → zero_q ≤ℚ d → a ≤ℚ e
        all a d e h l = with3 a d e (λ c. omega (arith, c.le, c.lt, c.same, h))

    small : (x : ℚ) → x ≤ℚ d → k *ℚ x ≤ℚ e
    small x h = le_trans (mul_le_mul k some h) reach
