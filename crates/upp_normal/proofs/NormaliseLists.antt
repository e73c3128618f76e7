-- Lists of pieces joined, cut and moved: what stays of their order, their bounds and their breaks.
use Rattle.std.specs.Prelude.{◌≡◌, pos, List, [], ◌∷◌, ◌++◌, Option, Some, None}
use Rattle.std.proofs.Common.{arith, sym, ap, ◌∙◌, refl, subst, inl, inr}
use Rattle.rational.specs.Rational.{ℚ, ◌+ℚ◌, ◌-ℚ◌, ◌*ℚ◌, ◌≤ℚ◌, ◌<ℚ◌, int}
use Rattle.rational.proofs.Laws.{le_or_lt, le_of_lt, le_refl, le_trans, le_lt_trans, mul_add}
use Rattle.rational.proofs.Linear.{with1, with2, with3, with6}
use Rattle.rational.specs.Extended.{◌+ₑ◌}
use Rattle.rational.specs.declared.Extended.TheVariants.{Fin}
use Rattle.upp_curve.specs.declared.affine_segment.line.Line.{Line}
use Rattle.upp_curve.specs.declared.affine_segment.line.Piece.{Piece}
use Rattle.upp_curve.specs.affine_segment.Values.{line_value}
use Rattle.upp_curve.specs.Unrolled.{line_later, later, each_later, upto}
use Rattle.upp_curve.specs.affine_segment.Pieces.{RisesFrom, Each}
use Rattle.upp_curve.specs.Normal.{Continues, NoneContinues}
use Rattle.upp_curve.specs.Steady.{last_of}
use Rattle.upp_normal.specs.Normalising.{past}
use Rattle.upp_normal.proofs.UnrolledValues.{line_value_later}
use Rattle.upp_curve.proofs.Unique.{upto_none, upto_some, upto_end, lines_at_two}
use Rattle.upp_normal.proofs.NormaliseLoops.{past_go, past_stop, past_none, later_none, later_some}
use Rattle.rational.proofs.ExtendedOrder.{add_cancel_ext}

-- ---- what holds of each piece
pub each_past : (P : Piece → Type 0) (t : ℚ) (ps : List Piece) → Each P ps → Each P (past t ps)
each_past P t [] h = subst (Each P) (sym (past_none t)) tt
each_past P t (p ∷ ps) h = elim (le_or_lt p.x t) [
  | inl l ↦ subst (Each P) (sym (past_go t p ps l)) (each_past P t ps h.1)
  | inr l ↦ subst (Each P) (sym (past_stop t p ps l)) (h.0, each_past P t ps h.1)
]

pub each_upto : (P : Piece → Type 0) (x : ℚ) (ps : List Piece) → Each P ps → Each P (upto x ps)
each_upto P x [] h = subst (Each P) (sym (upto_end x)) tt
each_upto P x (p ∷ ps) h = elim (le_or_lt x p.x) [
  | inl l ↦ subst (Each P) (sym (upto_none x p ps l)) tt
  | inr l ↦ subst (Each P) (sym (upto_some x p ps l)) (h.0, each_upto P x ps h.1)
]

pub each_moved : (x d c : ℚ) (ps : List Piece) → Each (λ p. p.x <ℚ x) ps → Each (λ p. p.x <ℚ x +ℚ d) (each_later d c ps)
each_moved x d c [] h = subst (Each (λ p. p.x <ℚ x +ℚ d)) (sym (later_none d c)) tt
each_moved x d c (p ∷ ps) h =
    let y = p.x in
    let l = h.0 in
    subst (Each (λ p. p.x <ℚ x +ℚ d)) (sym (later_some d c p ps)) (with3 y x d (λ c. omega (arith, c.le, c.lt, c.same)), each_moved x d c ps h.1)

-- ---- the order of starts
pub rises_upto : (x y : ℚ) (ps : List Piece) → RisesFrom x ps → RisesFrom x (upto y ps)
rises_upto x y [] h = subst (RisesFrom x) (sym (upto_end y)) tt
rises_upto x y (p ∷ ps) h = elim (le_or_lt y p.x) [
  | inl l ↦ subst (RisesFrom x) (sym (upto_none y p ps l)) tt
  | inr l ↦ subst (RisesFrom x) (sym (upto_some y p ps l)) (h.0, rises_upto p.x y ps h.1)
]

pub past_all : (t x : ℚ) (ps : List Piece) → t ≤ℚ x → RisesFrom x ps → past t ps ≡ ps
past_all t x [] h r = past_none t
past_all t x (p ∷ ps) h r = past_stop t p ps (le_lt_trans h r.0) ∙ ap (λ zs. p ∷ zs) (past_all t p.x ps (le_trans h (le_of_lt r.0)) r.1)

pub rises_past : (t x : ℚ) (ps : List Piece) → RisesFrom x ps → RisesFrom t (past t ps)
rises_past t x [] r = subst (RisesFrom t) (sym (past_none t)) tt
rises_past t x (p ∷ ps) r = elim (le_or_lt p.x t) [
  | inl l ↦ subst (RisesFrom t) (sym (past_go t p ps l)) (rises_past t p.x ps r.1)
  | inr l ↦ subst (RisesFrom t) (sym (past_all t t (p ∷ ps) (le_refl t) (l, r.1))) (l, r.1)
]

pub rises_moved : (d c x : ℚ) (ps : List Piece) → RisesFrom x ps → RisesFrom (x +ℚ d) (each_later d c ps)
rises_moved d c x [] r = subst (RisesFrom (x +ℚ d)) (sym (later_none d c)) tt
rises_moved d c x (p ∷ ps) r =
    let y = p.x in
    let l = r.0 in
    subst (RisesFrom (x +ℚ d)) (sym (later_some d c p ps)) (with3 x y d (λ c. omega (arith, c.le, c.lt, c.same)), rises_moved d c p.x ps r.1)

-- no piece starts past the last
pub last_is_last : (p : Piece) (ps : List Piece) → RisesFrom p.x ps → Each (λ z. z.x ≤ℚ (last_of p ps).x) (p ∷ ps)
last_is_last p [] r = (le_refl p.x, tt)
last_is_last p (q ∷ qs) r =
    let k = last_is_last q qs r.1 in
    (le_trans (le_of_lt r.0) k.0, k)

pub last_in : (P : Piece → Type 0) (p : Piece) (ps : List Piece) → P p → Each P ps → P (last_of p ps)
last_in P p [] h k = h
last_in P p (q ∷ qs) h k = last_in P q qs k.0 k.1

-- ---- breaks
pub none_upto : (x : ℚ) (p : Piece) (ps : List Piece) → NoneContinues p ps → NoneContinues p (upto x ps)
none_upto x p [] n = subst (NoneContinues p) (sym (upto_end x)) tt
none_upto x p (q ∷ qs) n = elim (le_or_lt x q.x) [
  | inl l ↦ subst (NoneContinues p) (sym (upto_none x q qs l)) tt
  | inr l ↦ subst (NoneContinues p) (sym (upto_some x q qs l)) (n.0, none_upto x q qs n.1)
]

pub none_append : (p : Piece) (ps : List Piece) (q : Piece) (qs : List Piece) → NoneContinues p ps → ¬ (Continues (last_of p ps) q) → NoneContinues q qs → NoneContinues p (ps ++ q ∷ qs)
none_append p [] q qs n k m = (k, m)
none_append p (r ∷ rs) q qs n k m = (n.0, none_append r rs q qs n.1 k m)

pub none_left : (p : Piece) (ps qs : List Piece) → NoneContinues p (ps ++ qs) → NoneContinues p ps
none_left p [] qs n = tt
none_left p (r ∷ rs) qs n = (n.0, none_left r rs qs n.1)

pub none_between : (p : Piece) (ps : List Piece) (q : Piece) (qs : List Piece) → NoneContinues p (ps ++ q ∷ qs) → ¬ (Continues (last_of p ps) q)
none_between p [] q qs n = n.0
none_between p (r ∷ rs) q qs n = none_between r rs q qs n.1

-- ---- moved pieces
-- two moves are one
add_move : (k s a b c e : ℚ) → k +ℚ c -ℚ s *ℚ a +ℚ e -ℚ s *ℚ b ≡ k +ℚ (c +ℚ e) -ℚ s *ℚ (a +ℚ b)
add_move k s a b c e =
    let m = mul_add s a b in
    with6 k c e (s *ℚ a) (s *ℚ b) (s *ℚ (a +ℚ b)) (λ c. omega (arith, c.le, c.lt, c.same))

pub line_later_twice : (a b c e : ℚ) (l : Option Line) → line_later b e (line_later a c l) ≡ line_later (a +ℚ b) (c +ℚ e) l
line_later_twice a b c e None = refl
line_later_twice a b c e (Some l) = ap (λ k. Some (let z : Line = record { icept = k; slope = l.slope } in z)) (add_move l.icept l.slope a b c e)

-- a move can be taken back
pub line_later_same : (d c : ℚ) (l m : Option Line) → line_later d c l ≡ line_later d c m → l ≡ m
line_later_same d c l m e =
    let (s, t, h) = two in
    lines_at_two l m s t h (at s) (at t)
  where
    at : (t : ℚ) → line_value l t ≡ line_value m t
    at t =
        let u = t +ℚ d in
        let same : u -ℚ d ≡ t = with2 t d (λ c. omega (arith, c.le, c.lt, c.same)) in
        add_cancel_ext (line_value l t) (line_value m t) c
        (ap (λ z. line_value l z +ₑ Fin c) (sym same) ∙ sym (line_value_later l d c u) ∙ ap (λ z. line_value z u) e ∙ line_value_later m d c u ∙ ap (λ z. line_value m z +ₑ Fin c) same)

    two : (s : ℚ) × (t : ℚ) × (s <ℚ t)
    two = (d, d +ℚ int (pos 1), with1 d (λ c. omega (arith, c.le, c.lt, c.same)))

-- a piece goes on with another where their copies do
pub continues_back : (d c : ℚ) (p q : Piece) → Continues (later d c p) (later d c q) → Continues p q
continues_back d c p q C =
    let x = q.x in
    let same : (x +ℚ d) -ℚ d ≡ x = with2 x d (λ c. omega (arith, c.le, c.lt, c.same)) in (
      add_cancel_ext q.at (line_value p.line x) c (C.0 ∙ line_value_later p.line d c (x +ℚ d) ∙ ap (λ z. line_value p.line z +ₑ Fin c) same),
      line_later_same d c q.line p.line C.1,
    )

pub none_moved : (d c : ℚ) (p : Piece) (ps : List Piece) → NoneContinues p ps → NoneContinues (later d c p) (each_later d c ps)
none_moved d c p [] n = subst (NoneContinues (later d c p)) (sym (later_none d c)) tt
none_moved d c p (q ∷ qs) n =
    subst (NoneContinues (later d c p)) (sym (later_some d c q qs)) ((λ C. n.0 (continues_back d c p q C)), none_moved d c q qs n.1)
