-- Of the sums of which one time is a start, those count of which that start bends not downwards.
use Rattle.std.specs.Prelude.{◌≡◌, ◌⊎◌, pos, List, [], ◌∷◌, Option, Some, None}
use Rattle.std.proofs.Common.{arith, sym, ap, ap₂, ◌∙◌, refl, subst, inl, inr}
use Rattle.rational.specs.Rational.{ℚ, ◌+ℚ◌, ◌-ℚ◌, ◌*ℚ◌, ◌≤ℚ◌, ◌<ℚ◌, int}
use Rattle.rational.specs.Extended.{Ext, ◌≤ₑ◌, ◌<ₑ◌, ◌+ₑ◌, min_ext}
use Rattle.rational.specs.Families.{either}
use Rattle.rational.specs.declared.Extended.TheVariants.{Fin, Inf}
use Rattle.rational.proofs.Linear.{sub_pos, with2, with3, with4}
use Rattle.rational.proofs.Laws.{le_or_lt, le_of_lt, le_refl, le_trans, lt_le_trans, le_lt_trans, lt_irrefl, add_comm, half, half_is, half_pos, mul_add, mul_sub, mul_lt_mul_right}
use Rattle.rational.proofs.ExtendedOrder.{same_le_ext, le_ext_trans, le_ext_total, le_ext_refl, le_of_lt_ext, fin_same, finite_sum, finite_below, add_le_ext, add_ext_comm}
use Rattle.rational.proofs.Bounds.{infimum_union}
use Rattle.upp_curve.specs.declared.affine_segment.line.Line.{Line}
use Rattle.upp_curve.specs.declared.affine_segment.line.Piece.{Piece}
use Rattle.upp_curve.specs.affine_segment.Values.{line_at, line_value}
use Rattle.upp_curve.specs.affine_segment.Pieces.{RisesFrom, StartsAtZero}
use Rattle.upp_curve.specs.affine_segment.Reading.{read}
use Rattle.upp_curve.proofs.affine_segment.Convolved.{back}
use Rattle.upp_curve.proofs.affine_segment.PieceIn.{value_past, read_stop, read_go, read_one}
use Rattle.min_plus.specs.Convolution.{Split}
use Rattle.element_envelope.specs.Copies.{IsPieceOf, StartSplit, start_sum, LowAtStarts}
use Rattle.element_envelope.specs.Turnings.{BendsDown, IsThinned, TurnsSuffice}
use Rattle.element_envelope.proofs.ArchBends.{smaller}
use Rattle.element_envelope.proofs.Members.{Matched, matched_out}
use Rattle.element_envelope.proofs.StartSplits.{start_is, Inside, found_in, any_split, turned_split, start_split}

-- ---- lines
pub line_down : (l : Line) (x d v : ℚ) → v ≡ line_at l x → line_at l (x -ℚ d) ≡ v -ℚ l.slope *ℚ d
line_down l x d v e = ap (λ z. l.icept +ℚ z) (mul_sub l.slope x d) ∙ regroup l.icept (l.slope *ℚ x) (l.slope *ℚ d) ∙ ap (λ z. z -ℚ l.slope *ℚ d) (sym e)
  where
    regroup : (a b c : ℚ) → a +ℚ (b -ℚ c) ≡ (a +ℚ b) -ℚ c
    regroup a b c = with3 a b c (λ k. omega (arith, k.le, k.lt, k.same))

pub line_up : (l : Line) (x d v : ℚ) → v ≡ line_at l x → line_at l (x +ℚ d) ≡ v +ℚ l.slope *ℚ d
line_up l x d v e = ap (λ z. l.icept +ℚ z) (mul_add l.slope x d) ∙ regroup l.icept (l.slope *ℚ x) (l.slope *ℚ d) ∙ ap (λ z. z +ℚ l.slope *ℚ d) (sym e)
  where
    regroup : (a b c : ℚ) → a +ℚ (b +ℚ c) ≡ (a +ℚ b) +ℚ c
    regroup a b c = with3 a b c (λ k. omega (arith, k.le, k.lt, k.same))

pub past : (x d : ℚ) → int (pos 0) <ℚ d → x <ℚ x +ℚ d
past x d h = with2 x d (λ c. omega (arith, c.le, c.lt, c.same))

pub one_pos : int (pos 0) <ℚ int (pos 1)
one_pos = with2 (int (pos 0)) (int (pos 1)) (λ c. omega (arith, c.le, c.lt, c.same))

-- ---- a function at most two lines beside a time
-- d before s, up to h, it is at most v less d times the slope; it is looked at from `first` on
pub record Before (F : ℚ → Ext) (first s v slope : ℚ) : Type 0 where
  pub h : ℚ
  pub some : int (pos 0) <ℚ h
  pub room : first ≤ℚ s -ℚ h
  pub below : (d : ℚ) → int (pos 0) <ℚ d → d ≤ℚ h → F (s -ℚ d) ≤ₑ Fin (v -ℚ slope *ℚ d)

pub record After (F : ℚ → Ext) (s v slope : ℚ) : Type 0 where
  pub h : ℚ
  pub some : int (pos 0) <ℚ h
  pub below : (d : ℚ) → int (pos 0) <ℚ d → d ≤ℚ h → F (s +ℚ d) ≤ₑ Fin (v +ℚ slope *ℚ d)

-- the slope does not rise; or it falls
record Even (F : ℚ → Ext) (first s v : ℚ) : Type 0 where
  left : ℚ
  right : ℚ
  falls : right ≤ℚ left
  before : Before F first s v left
  after : After F s v right

record Bent (F : ℚ → Ext) (first s v : ℚ) : Type 0 where
  left : ℚ
  right : ℚ
  down : right <ℚ left
  before : Before F first s v left
  after : After F s v right

even_of : (F : ℚ → Ext) (first s v : ℚ) → Bent F first s v → Even F first s v
even_of F first s v B = record { left = B.left; right = B.right; falls = le_of_lt B.down; before = B.before; after = B.after }

-- a split whose sum is less
abbrev IsBetter : (F G : ℚ → Ext) (t m : ℚ) → Type 0
IsBetter F G t m = (s : Split t) × (x : ℚ) × (F s.first +ₑ G s.second ≤ₑ Fin x) × (x <ℚ m)

later_better : (F G : ℚ → Ext) (t s u v w a b : ℚ) → s +ℚ u ≡ t → int (pos 0) ≤ℚ s → After F s v a → Before G (int (pos 0)) u w b → a <ℚ b → IsBetter F G t (v +ℚ w)
later_better F G t s u v w a b whole nonneg A B l =
    let k = smaller A.h B.h A.some B.some in
    let d = k.0 in (
      record { first = s +ℚ d; second = u -ℚ d; first_nonneg = up s d nonneg k.1; second_nonneg = down u d B.h B.room k.3; whole = same s u d ∙ whole },
      (v +ℚ a *ℚ d) +ℚ (w -ℚ b *ℚ d),
      add_le_ext (F (s +ℚ d)) (Fin (v +ℚ a *ℚ d)) (G (u -ℚ d)) (Fin (w -ℚ b *ℚ d)) (A.below d k.1 k.2) (B.below d k.1 k.3),
      less v w (a *ℚ d) (b *ℚ d) (mul_lt_mul_right d k.1 l),
    )
  where
    up : (s d : ℚ) → int (pos 0) ≤ℚ s → int (pos 0) <ℚ d → int (pos 0) ≤ℚ s +ℚ d
    up s d x y = with2 s d (λ c. omega (arith, c.le, c.lt, c.same))

    down : (u d h : ℚ) → int (pos 0) ≤ℚ u -ℚ h → d ≤ℚ h → int (pos 0) ≤ℚ u -ℚ d
    down u d h x y = with3 u d h (λ c. omega (arith, c.le, c.lt, c.same))

    same : (s u d : ℚ) → (s +ℚ d) +ℚ (u -ℚ d) ≡ s +ℚ u
    same s u d = with3 s u d (λ c. omega (arith, c.le, c.lt, c.same))

    less : (v w p q : ℚ) → p <ℚ q → (v +ℚ p) +ℚ (w -ℚ q) <ℚ v +ℚ w
    less v w p q h = with4 v w p q (λ c. omega (arith, c.le, c.lt, c.same))

turn_better : (F G : ℚ → Ext) (t m n : ℚ) → m ≡ n → IsBetter G F t m → IsBetter F G t n
unfolding turned_split
turn_better F G t m n e (s, x, h, l) = (turned_split t s, x, subst (λ v. v ≤ₑ Fin x) (add_ext_comm (G s.first) (F s.second)) h, subst (λ z. x <ℚ z) e l)

-- where the one bends down and the other's slope does not rise
bent_better : (F G : ℚ → Ext) (t s u v w : ℚ) → s +ℚ u ≡ t → int (pos 0) ≤ℚ s → int (pos 0) ≤ℚ u → Bent F (int (pos 0)) s v → Even G (int (pos 0)) u w → IsBetter F G t (v +ℚ w)
bent_better F G t s u v w whole low high B E = elim (le_or_lt E.left B.right) [
  | inr l ↦ later_better F G t s u v w B.right E.left whole low B.after E.before l
  | inl l ↦
      turn_better F G t (w +ℚ v) (v +ℚ w) (add_comm w v)
      (later_better G F t u s w v E.right B.left (add_comm u s ∙ whole) high E.after B.before (le_lt_trans E.falls (le_lt_trans l B.down)))
]

-- ---- on a line
inside_even : (ps : List Piece) (s v : ℚ) → (I : Inside ps (int (pos 0)) s) → line_at I.line s ≡ v → Even (read ps) (int (pos 0)) s v
inside_even ps s v I e = record {
  left = I.line.slope;
  right = I.line.slope;
  falls = le_refl I.line.slope;
  before = record {
    h = s -ℚ I.low.x;
    some = sub_pos I.low.x s I.early;
    room = subst (λ z. int (pos 0) ≤ℚ z) (sym (back s I.low.x)) I.from;
    below = λ d p q. subst (λ z. read ps (s -ℚ d) ≤ₑ Fin z) (line_down I.line s d v (sym e))
        (I.below (s -ℚ d) (flipped s d I.low.x q) (le_ext_trans (Fin (s -ℚ d)) (Fin s) I.high (down s d p) (le_of_lt_ext (Fin s) I.high I.late)));
  };
  after = by I.high refl;
}
  where
    flipped : (s d x : ℚ) → d ≤ℚ s -ℚ x → x ≤ℚ s -ℚ d
    flipped s d x h = with3 s d x (λ c. omega (arith, c.le, c.lt, c.same))

    down : (s d : ℚ) → int (pos 0) <ℚ d → s -ℚ d ≤ℚ s
    down s d h = with2 s d (λ c. omega (arith, c.le, c.lt, c.same))

    up : (x s d : ℚ) → x <ℚ s → int (pos 0) <ℚ d → x ≤ℚ s +ℚ d
    up x s d h k = with3 x s d (λ c. omega (arith, c.le, c.lt, c.same))

    after_to : (h : ℚ) → int (pos 0) <ℚ h → ((d : ℚ) → d ≤ℚ h → Fin (s +ℚ d) ≤ₑ I.high) → After (read ps) s v I.line.slope
    after_to h some room = record {
      h = h;
      some = some;
      below = λ d p q. subst (λ z. read ps (s +ℚ d) ≤ₑ Fin z) (line_up I.line s d v (sym e)) (I.below (s +ℚ d) (up I.low.x s d I.early p) (room d q));
    }

    reached : (s d x : ℚ) → d ≤ℚ x -ℚ s → s +ℚ d ≤ℚ x
    reached s d x h = with3 s d x (λ c. omega (arith, c.le, c.lt, c.same))

    by : (b : Ext) → I.high ≡ b → After (read ps) s v I.line.slope
    by Inf k = after_to (int (pos 1)) one_pos (λ d q. subst (λ z. Fin (s +ℚ d) ≤ₑ z) (sym k) tt)
    by (Fin x) k =
        after_to (x -ℚ s) (sub_pos s x (subst (λ z. Fin s <ₑ z) k I.late)) (λ d q. subst (λ z. Fin (s +ℚ d) ≤ₑ z) (sym k) (reached s d x q))

-- ---- starts that are left out
-- past a start of value v the pieces follow its line, up to the next start
pub after_start : (r : Piece) (rs : List Piece) (l : Line) (v : ℚ) → RisesFrom r.x rs → r.line ≡ Some l → v ≡ line_at l r.x → After (read (r ∷ rs)) r.x v l.slope
after_start r [] l v h line is = record {
  h = int (pos 1);
  some = one_pos;
  below = λ d p q. same_le_ext (read_one r (r.x +ℚ d) ∙ value_past r (r.x +ℚ d) (past r.x d p) ∙ ap (λ o. line_value o (r.x +ℚ d)) line ∙ ap Fin (line_up l r.x d v is));
}
after_start r (n ∷ rs) l v h line is =
    let room = half (n.x -ℚ r.x) in
    let some = half_pos (sub_pos r.x n.x h.0) in
    record {
      h = room;
      some = some;
      below = λ d p q.
          same_le_ext
          (read_stop r n rs (r.x +ℚ d) (before r.x n.x d room (half_is (n.x -ℚ r.x)) some q) ∙ value_past r (r.x +ℚ d) (past r.x d p)
          ∙ ap (λ o. line_value o (r.x +ℚ d)) line ∙ ap Fin (line_up l r.x d v is));
    }
  where
    before : (x n d room : ℚ) → room +ℚ room ≡ n -ℚ x → int (pos 0) <ℚ room → d ≤ℚ room → x +ℚ d <ℚ n
    before x n d room e p q = with4 x n d room (λ c. omega (arith, c.le, c.lt, c.same))

-- a piece more in front is not looked at past the second start
pub after_more : (p r : Piece) (rs : List Piece) (s v slope : ℚ) → r.x ≤ℚ s → After (read (r ∷ rs)) s v slope → After (read (p ∷ r ∷ rs)) s v slope
after_more p r rs s v slope late A = record {
  h = A.h;
  some = A.some;
  below = λ d a b. subst (λ z. z ≤ₑ Fin (v +ℚ slope *ℚ d)) (sym (read_go p r rs (s +ℚ d) (further r.x s d late a))) (A.below d a b);
}
  where
    further : (x s d : ℚ) → x ≤ℚ s → int (pos 0) <ℚ d → x ≤ℚ s +ℚ d
    further x s d h k = with3 x s d (λ c. omega (arith, c.le, c.lt, c.same))

pub before_more : (p r : Piece) (rs : List Piece) (s v slope : ℚ) → p.x ≤ℚ r.x → Before (read (r ∷ rs)) r.x s v slope → Before (read (p ∷ r ∷ rs)) p.x s v slope
before_more p r rs s v slope late B = record {
  h = B.h;
  some = B.some;
  room = le_trans late B.room;
  below = λ d a b. subst (λ z. z ≤ₑ Fin (v -ℚ slope *ℚ d)) (sym (read_go p r rs (s -ℚ d) (nearer r.x s d B.h B.room b))) (B.below d a b);
}
  where
    nearer : (x s d h : ℚ) → x ≤ℚ s -ℚ h → d ≤ℚ h → x ≤ℚ s -ℚ d
    nearer x s d h a b = with4 x s d h (λ c. omega (arith, c.le, c.lt, c.same))

-- before a start of value v the pieces follow the line before it
pub before_start : (p r : Piece) (rs : List Piece) (l : Line) (v : ℚ) → p.x <ℚ r.x → p.line ≡ Some l → v ≡ line_at l r.x → Before (read (p ∷ r ∷ rs)) p.x r.x v l.slope
before_start p r rs l v h line is =
    let room = half (r.x -ℚ p.x) in
    let some = half_pos (sub_pos p.x r.x h) in
    record {
      h = room;
      some = some;
      room = le_of_lt (within p.x r.x room room (half_is (r.x -ℚ p.x)) some (le_refl room));
      below = λ d a b.
          same_le_ext
          (read_stop p r rs (r.x -ℚ d) (down r.x d a) ∙ value_past p (r.x -ℚ d) (within p.x r.x d room (half_is (r.x -ℚ p.x)) some b)
          ∙ ap (λ o. line_value o (r.x -ℚ d)) line ∙ ap Fin (line_down l r.x d v is));
    }
  where
    within : (p r d room : ℚ) → room +ℚ room ≡ r -ℚ p → int (pos 0) <ℚ room → d ≤ℚ room → p <ℚ r -ℚ d
    within p r d room e a b = with4 p r d room (λ c. omega (arith, c.le, c.lt, c.same))

    down : (x d : ℚ) → int (pos 0) <ℚ d → x -ℚ d <ℚ x
    down x d h = with2 x d (λ c. omega (arith, c.le, c.lt, c.same))

-- a start with a piece before it is kept, or bends down
abbrev IsBentAt : List Piece → ℚ → Piece → Type 0
IsBentAt ps first q = (v : ℚ) → q.at ≡ Fin v → Bent (read ps) first q.x v

bent_more : (p r : Piece) (rs : List Piece) (q : Piece) → p.x ≤ℚ r.x → r.x ≤ℚ q.x → IsBentAt (r ∷ rs) r.x q → IsBentAt (p ∷ r ∷ rs) p.x q
bent_more p r rs q h k B v e =
    let C = B v e in
    record { left = C.left; right = C.right; down = C.down; before = before_more p r rs q.x v C.left h C.before; after = after_more p r rs q.x v C.right k C.after }

bent_here : (p r : Piece) (rs : List Piece) → p.x <ℚ r.x → RisesFrom r.x rs → BendsDown p.line r → IsBentAt (p ∷ r ∷ rs) p.x r
bent_here p r rs h k B v e = record {
  left = B.first.slope;
  right = B.second.slope;
  down = B.down;
  before = before_start p r rs B.first v h B.before_is (fin_same (sym e ∙ B.left));
  after = after_more p r rs r.x v B.second.slope (le_refl r.x) (after_start r rs B.second v k B.line_is (fin_same (sym e ∙ B.right)));
}

kept_or_bent : (p : Piece) (ps qs : List Piece) (q : Piece) → RisesFrom p.x ps → IsThinned p.line ps qs → IsPieceOf q ps → IsPieceOf q qs ⊎ ((p.x ≤ℚ q.x) × IsBentAt (p ∷ ps) p.x q)
kept_or_bent p [] qs q h T k = absurd k
kept_or_bent p (r ∷ rs) qs q h (inl T) (inl e) =
    inr (subst (λ z. p.x ≤ℚ z.x) (sym e) (le_of_lt h.0), subst (IsBentAt (p ∷ r ∷ rs) p.x) (sym e) (bent_here p r rs h.0 h.1 T.0))
kept_or_bent p (r ∷ rs) qs q h (inr T) (inl e) = inl (subst (IsPieceOf q) (sym T.1) (inl e))
kept_or_bent p (r ∷ rs) qs q h (inl T) (inr k) = elim (kept_or_bent r rs qs q h.1 T.1 k) [
  | inl m ↦ inl m
  | inr m ↦ inr (le_trans (le_of_lt h.0) m.0, bent_more p r rs q (le_of_lt h.0) m.0 m.1)
]
kept_or_bent p (r ∷ rs) qs q h (inr T) (inr k) = elim (kept_or_bent r rs T.0 q h.1 T.2 k) [
  | inl m ↦ inl (subst (IsPieceOf q) (sym T.1) (inr m))
  | inr m ↦ inr (le_trans (le_of_lt h.0) m.0, bent_more p r rs q (le_of_lt h.0) m.0 m.1)
]

start_kept : (ps qs : List Piece) (q : Piece) → StartsAtZero ps → IsThinned None ps qs → IsPieceOf q ps → IsPieceOf q qs ⊎ IsBentAt ps (int (pos 0)) q
start_kept [] qs q h T k = absurd k
start_kept (p ∷ ps) qs q h (inl T) k = absurd (no_line T.0)
  where
    no_line : BendsDown None p → ⊥
    no_line B = absurd (none_some B.first B.before_is)
      where
        none_some : (l : Line) → None ≡ Some l → ⊥
        none_some l e = absurd (same_le_ext (ap (λ o. line_value o (int (pos 0))) e))
start_kept (p ∷ ps) qs q h (inr T) (inl e) = inl (subst (IsPieceOf q) (sym T.1) (inl e))
start_kept (p ∷ ps) qs q h (inr T) (inr k) = elim (kept_or_bent p ps T.0 q h.1 T.2 k) [
  | inl m ↦ inl (subst (IsPieceOf q) (sym T.1) (inr m))
  | inr m ↦ inr (subst (λ z. IsBentAt (p ∷ ps) z q) h.0 m.1)
]

-- those kept are some of all
pub thinned_in : (before : Option Line) (ps qs : List Piece) (q : Piece) → IsThinned before ps qs → IsPieceOf q qs → IsPieceOf q ps
thinned_in before [] qs q T k = subst (IsPieceOf q) T k
thinned_in before (p ∷ ps) qs q (inl T) k = inr (thinned_in p.line ps qs q T.1 k)
thinned_in before (p ∷ ps) qs q (inr T) k = among p ps T.0 q (thinned_in p.line ps T.0 q T.2) (subst (IsPieceOf q) T.1 k)
  where
    among : (p : Piece) (ps rs : List Piece) (q : Piece) → (IsPieceOf q rs → IsPieceOf q ps) → IsPieceOf q (p ∷ rs) → IsPieceOf q (p ∷ ps)
    among p ps rs q h (inl e) = inl e
    among p ps rs q h (inr m) = inr (h m)

-- ---- the least sum at a start
abbrev HasLeast : (ps g : List Piece) (t : ℚ) → Type 0
HasLeast ps g t = (StartSplit ps t → ⊥) ⊎ ((i : StartSplit ps t) × ((j : StartSplit ps t) → start_sum ps g t i ≤ₑ start_sum ps g t j))

least_start : (ps g : List Piece) (t : ℚ) → HasLeast ps g t
least_start [] g t = inl (λ s. absurd s.among)
least_start (p ∷ ps) g t = by (le_or_lt p.x t) (least_start ps g t)
  where
    value : Piece → Ext
    value q = q.at +ₑ read g (t -ℚ q.x)

    more : StartSplit ps t → StartSplit (p ∷ ps) t
    more s = record { piece = s.piece; among = inr s.among; late = s.late }

    all : (v : Ext) → (p.x ≤ℚ t → v ≤ₑ value p) → ((j : StartSplit ps t) → v ≤ₑ value j.piece) → (j : StartSplit (p ∷ ps) t) → v ≤ₑ value j.piece
    all v first rest j = go j.piece j.among j.late
      where
        go : (q : Piece) → IsPieceOf q (p ∷ ps) → q.x ≤ℚ t → v ≤ₑ value q
        go q (inl e) late = subst (λ z. v ≤ₑ value z) (sym e) (first (subst (λ z. z.x ≤ℚ t) e late))
        go q (inr k) late = rest record { piece = q; among = k; late = late }

    by : (p.x ≤ℚ t) ⊎ (t <ℚ p.x) → HasLeast ps g t → HasLeast (p ∷ ps) g t
    by (inl h) (inl none) = inr (record { piece = p; among = inl refl; late = h }, all (value p) (λ k. le_ext_refl (value p)) (λ j. absurd (none j)))
    by (inl h) (inr (i, least)) = elim (le_ext_total (value p) (value i.piece)) [
      | inl l ↦ inr (record { piece = p; among = inl refl; late = h }, all (value p) (λ k. le_ext_refl (value p)) (λ j. le_ext_trans (value p) (value i.piece) (value j.piece) l (least j)))
      | inr l ↦ inr (more i, all (value i.piece) (λ k. l) least)
    ]
    by (inr h) (inl none) = inl (λ s. absurd (not_there s.piece s.among s.late))
      where
        not_there : (q : Piece) → IsPieceOf q (p ∷ ps) → q.x ≤ℚ t → ⊥
        not_there q (inl e) late = lt_irrefl t (lt_le_trans h (subst (λ z. z.x ≤ℚ t) e late))
        not_there q (inr k) late = none record { piece = q; among = k; late = late }
    by (inr h) (inr (i, least)) = inr (more i, all (value i.piece) (λ k. absurd (lt_irrefl t (lt_le_trans h k))) least)

-- ---- the least start turns
-- each split has a sum of at least m
abbrev IsLeastSum : (f g : List Piece) (t m : ℚ) → Type 0
IsLeastSum f g t m = (s : Split t) (x : ℚ) → read f s.first +ₑ read g s.second ≤ₑ Fin x → m ≤ℚ x

-- some sum at a start that is left is at most v
abbrev IsTurnBelow : (f g left right : List Piece) (t v : ℚ) → Type 0
IsTurnBelow f g left right t v = (i : StartSplit left t ⊎ StartSplit right t) × (either (start_sum left g t) (start_sum right f t) i ≤ₑ Fin v)

turned_turn : (f g left right : List Piece) (t v : ℚ) → IsTurnBelow g f right left t v → IsTurnBelow f g left right t v
turned_turn f g left right t v (inl i, h) = (inr i, h)
turned_turn f g left right t v (inr i, h) = (inl i, h)

no_better : (f g : List Piece) (t m : ℚ) → IsLeastSum f g t m → IsBetter (read f) (read g) t m → ⊥
no_better f g t m least (s, x, h, l) = lt_irrefl m (le_lt_trans (least s x h) l)

settled : (f g left right : List Piece) (t v w : ℚ) (p : Piece) → StartsAtZero f → StartsAtZero g → LowAtStarts g → IsThinned None f left → IsThinned None g right → IsPieceOf p f → p.x ≤ℚ t
    → p.at ≡ Fin v → read g (t -ℚ p.x) ≡ Fin w → IsLeastSum f g t (v +ℚ w) → IsTurnBelow f g left right t (v +ℚ w)
settled f g left right t v w p hf hg lg tf tg among late at rest least = by (start_kept f left p hf tf among)
  where
    u : ℚ
    u = t -ℚ p.x

    nonneg : int (pos 0) ≤ℚ p.x
    nonneg = (start_is f p hf among).0

    left_nonneg : (x t : ℚ) → x ≤ℚ t → int (pos 0) ≤ℚ t -ℚ x
    left_nonneg x t h = with2 x t (λ c. omega (arith, c.le, c.lt, c.same))

    whole : (x t : ℚ) → x +ℚ (t -ℚ x) ≡ t
    whole x t = with2 x t (λ c. omega (arith, c.le, c.lt, c.same))

    less : (x t : ℚ) → int (pos 0) ≤ℚ x → t -ℚ x ≤ℚ t
    less x t h = with2 x t (λ c. omega (arith, c.le, c.lt, c.same))

    -- the other bends not upwards there
    not_even : IsBentAt f (int (pos 0)) p → Even (read g) (int (pos 0)) u w → ⊥
    not_even B E =
        no_better f g t (v +ℚ w) least
        (bent_better (read f) (read g) t p.x u v w (whole p.x t) nonneg (left_nonneg p.x t late) (B v at) E)

    other_start : IsBentAt f (int (pos 0)) p → (r : Piece) → IsPieceOf r g → r.x ≡ u → IsTurnBelow f g left right t (v +ℚ w)
    other_start B r k e = elim (start_kept g right r hg tg k) [
      | inl m ↦
          let value : r.at ≡ Fin w = sym (start_is g r hg k).1 ∙ ap (read g) e ∙ rest in
          let here : read f (t -ℚ r.x) ≡ Fin v = ap (λ z. read f (t -ℚ z)) e ∙ ap (read f) (back t p.x) ∙ (start_is f p hf among).1 ∙ at in (
            inr record { piece = r; among = m; late = subst (λ z. z ≤ℚ t) (sym e) (less p.x t nonneg) },
            same_le_ext (ap₂ (λ (x y : Ext). x +ₑ y) value here ∙ ap Fin (add_comm w v)),
          )
      | inr C ↦
          let value : r.at ≡ Fin w = sym (start_is g r hg k).1 ∙ ap (read g) e ∙ rest in
          absurd (not_even B (even_of (read g) (int (pos 0)) u w (subst (λ z. Bent (read g) (int (pos 0)) z w) e (C w value))))
    ]

    by : IsPieceOf p left ⊎ IsBentAt f (int (pos 0)) p → IsTurnBelow f g left right t (v +ℚ w)
    by (inl k) = (
      inl record { piece = p; among = k; late = late },
      same_le_ext (ap₂ (λ (x y : Ext). x +ₑ y) at rest),
    )
    by (inr B) = elim (found_in g u w hg lg (left_nonneg p.x t late) rest) [
      | inl k ↦ other_start B k.0 k.1 k.2
      | inr I ↦ absurd (not_even B (inside_even g u w I (fin_same (sym I.value ∙ rest))))
    ]

-- a start whose sum is at most that of each split is one that is left, or as low as one
settled_start : (f g left right : List Piece) (t q : ℚ) (i : StartSplit f t) → StartsAtZero f → StartsAtZero g → LowAtStarts g → IsThinned None f left → IsThinned None g right
    → start_sum f g t i ≤ₑ Fin q → ((s : Split t) (x : ℚ) → read f s.first +ₑ read g s.second ≤ₑ Fin x → start_sum f g t i ≤ₑ Fin x) → IsTurnBelow f g left right t q
settled_start f g left right t q i hf hg lg tf tg h least =
    let (m, e) = finite_below (start_sum f g t i) q h in
    let (v, w, x, y) = finite_sum i.piece.at (read g (t -ℚ i.piece.x)) m e in
    let sum : start_sum f g t i ≡ Fin (v +ℚ w) = ap₂ (λ (a b : Ext). a +ₑ b) x y in
    let found = settled f g left right t v w i.piece hf hg lg tf tg i.among i.late x y (λ s z k. subst (λ a. a ≤ₑ Fin z) sum (least s z k)) in
    (found.0, le_ext_trans (either (start_sum left g t) (start_sum right f t) found.0) (Fin (v +ℚ w)) (Fin q) found.1 (subst (λ a. a ≤ₑ Fin q) sum h))

-- ---- the law
-- a start at 0
zero_start : (ps : List Piece) (t : ℚ) → StartsAtZero ps → int (pos 0) ≤ℚ t → StartSplit ps t
zero_start [] t h low = absurd h
zero_start (p ∷ ps) t h low = record { piece = p; among = inl refl; late = subst (λ z. z ≤ℚ t) (sym h.0) low }

-- a sum that is at most those of all starts is at most that of each split
below_splits : (f g : List Piece) (t : ℚ) (v : Ext) → StartsAtZero f → StartsAtZero g → LowAtStarts f → LowAtStarts g → ((i : StartSplit f t) → v ≤ₑ start_sum f g t i) → ((i : StartSplit g t) → v ≤ₑ start_sum g f t i)
    → (s : Split t) (x : ℚ) → read f s.first +ₑ read g s.second ≤ₑ Fin x → v ≤ₑ Fin x
below_splits f g t v hf hg lf lg A B s x h =
    let (m, e) = finite_below (read f s.first +ₑ read g s.second) x h in
    let (a, b, p, q) = finite_sum (read f s.first) (read g s.second) m e in
    let sum : read f s.first +ₑ read g s.second ≡ Fin (a +ℚ b) = ap₂ (λ (y z : Ext). y +ₑ z) p q in
    let (i, k) = any_split f g t a b s hf hg lf lg p q in
    le_ext_trans v (Fin (a +ℚ b)) (Fin x) (below_start (a +ℚ b) i k) (subst (λ z. z ≤ₑ Fin x) sum h)
  where
    below_start : (y : ℚ) (i : StartSplit f t ⊎ StartSplit g t) → either (start_sum f g t) (start_sum g f t) i ≤ₑ Fin y → v ≤ₑ Fin y
    below_start y (inl i) k = le_ext_trans v (start_sum f g t i) (Fin y) (A i) k
    below_start y (inr i) k = le_ext_trans v (start_sum g f t i) (Fin y) (B i) k

turned_least : (f g : List Piece) (t : ℚ) (v : Ext) → ((s : Split t) (x : ℚ) → read f s.first +ₑ read g s.second ≤ₑ Fin x → v ≤ₑ Fin x)
    → (s : Split t) (x : ℚ) → read g s.first +ₑ read f s.second ≤ₑ Fin x → v ≤ₑ Fin x
unfolding turned_split
turned_least f g t v least s x h = least (turned_split t s) x (subst (λ z. z ≤ₑ Fin x) (add_ext_comm (read g s.first) (read f s.second)) h)

any_turn : (f g left right : List Piece) (t q : ℚ) (s : Split t) → StartsAtZero f → StartsAtZero g → LowAtStarts f → LowAtStarts g → IsThinned None f left → IsThinned None g right → int (pos 0) ≤ℚ t
    → read f s.first +ₑ read g s.second ≡ Fin q → IsTurnBelow f g left right t q
any_turn f g left right t q s hf hg lf lg tf tg low is = by (least_start f g t) (least_start g f t)
  where
    here : read f s.first +ₑ read g s.second ≤ₑ Fin q
    here = same_le_ext is

    by : HasLeast f g t → HasLeast g f t → IsTurnBelow f g left right t q
    by (inl none) B = absurd (none (zero_start f t hf low))
    by (inr A) (inl none) = absurd (none (zero_start g t hg low))
    by (inr (i, a)) (inr (j, b)) = elim (le_ext_total (start_sum f g t i) (start_sum g f t j)) [
      | inl l ↦
          let least = below_splits f g t (start_sum f g t i) hf hg lf lg a (λ k. le_ext_trans (start_sum f g t i) (start_sum g f t j) (start_sum g f t k) l (b k)) in
          settled_start f g left right t q i hf hg lg tf tg (least s q here) least
      | inr l ↦
          let least = below_splits f g t (start_sum g f t j) hf hg lf lg (λ k. le_ext_trans (start_sum g f t j) (start_sum f g t i) (start_sum f g t k) l (a k)) b in
          turned_turn f g left right t q
          (settled_start g f right left t q j hg hf lf tg tf (least s q here) (turned_least f g t (start_sum g f t j) least))
    ]

pub turns_suffice : TurnsSuffice
unfolding turned_split
turns_suffice f g left right t v w hf hg lf lg tf tg low A B =
    matched_out {I = Split t} (λ s. read f s.first +ₑ read g s.second) (either (start_sum left g t) (start_sum right f t)) (min_ext v w) matched
    (infimum_union (start_sum left g t) (start_sum right f t) v w A B)
  where
    up : (i : StartSplit left t ⊎ StartSplit right t) → (s : Split t) × (read f s.first +ₑ read g s.second ≤ₑ either (start_sum left g t) (start_sum right f t) i)
    up (inl i) =
        let s = start_split f g t hf record { piece = i.piece; among = thinned_in None f left i.piece tf i.among; late = i.late } in
        (s.0, same_le_ext s.1)
    up (inr i) =
        let s = start_split g f t hg record { piece = i.piece; among = thinned_in None g right i.piece tg i.among; late = i.late } in
        (turned_split t s.0, same_le_ext (add_ext_comm (read f s.0.second) (read g s.0.first) ∙ s.1))

    matched : Matched {I = Split t} (λ s. read f s.first +ₑ read g s.second) (either (start_sum left g t) (start_sum right f t))
    matched = record { down = λ s q is. any_turn f g left right t q s hf hg lf lg tf tg low is; up = up }
