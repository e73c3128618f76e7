-- The next step of the walk over two windows: that there is one where pieces are left, and where its stretch starts.
use Rattle.std.specs.Prelude.{◌≡◌, ◌⊎◌, ℕ, zero, suc, ◌+◌, ◌<◌, ◌≤◌, List, [], ◌∷◌, length, slice_get, Some, None, IfSome}
use Rattle.std.proofs.Common.{arith, get_or, sym, ap, ◌∙◌, refl, subst, inl, inr}
use Rattle.std.proofs.lemmas.Option.{slice_get_cases}
use Rattle.rational.specs.Rational.{ℚ, ◌≤ℚ◌, ◌<ℚ◌}
use Rattle.rational.proofs.Laws.{lt_cases, lt_irrefl, le_of_lt, lt_le_trans}
use Rattle.upp_curve.specs.declared.affine_segment.line.Piece.{Piece}
use Rattle.curve_call.specs.declared.stretch.Walk.{Walk}
use Rattle.curve_call.specs.Stretches.{cut_at}
use Rattle.curve_call.specs.Walk.{IsBeforeAt, IsStep}

-- ---- there is a next stretch
-- pieces are left of one of both
abbrev pub IsLeft : List Piece → List Piece → Walk → Type 0
IsLeft f g w = (w.i < length f) ⊎ (w.j < length g)

none_before : (x : ℚ) (ps : List Piece) (i : ℕ) → slice_get ps i ≡ None → IsBeforeAt x ps i
none_before x ps i e = subst (λ o. IfSome o (λ p. x <ℚ p.x)) (sym e) tt

pub some_before : (x : ℚ) (ps : List Piece) (i : ℕ) (p : Piece) → slice_get ps i ≡ Some p → x <ℚ p.x → IsBeforeAt x ps i
some_before x ps i p e h = subst (λ o. IfSome o (λ p. x <ℚ p.x)) (sym e) h

left_on : (f g : List Piece) (w : Walk) (p : Piece) → slice_get f w.i ≡ Some p → IsBeforeAt p.x g w.j → (v : Walk) × IsStep f g w v
left_on f g w p e h = (
  record { i = w.i + 1; j = w.j; here = record { left = p; right = cut_at w.here.right p.x } },
  inl record { next = e; i = refl; j = refl; right = refl; early = h },
)

right_on : (f g : List Piece) (w : Walk) (q : Piece) → slice_get g w.j ≡ Some q → IsBeforeAt q.x f w.i → (v : Walk) × IsStep f g w v
right_on f g w q e h = (
  record { i = w.i; j = w.j + 1; here = record { left = cut_at w.here.left q.x; right = q } },
  inr (inl record { next = e; i = refl; j = refl; left = refl; early = h }),
)

both_on : (f g : List Piece) (w : Walk) (p q : Piece) → slice_get f w.i ≡ Some p → slice_get g w.j ≡ Some q → (v : Walk) × IsStep f g w v
both_on f g w p q e k = elim (lt_cases p.x q.x) [
  | inl l ↦ left_on f g w p e (some_before p.x g w.j q k l)
  | inr (inl same) ↦ (record { i = w.i + 1; j = w.j + 1; here = record { left = p; right = q } }, inr (inr record { next = e; other = k; i = refl; j = refl; together = same }))
  | inr (inr l) ↦ right_on f g w q k (some_before q.x f w.i p e l)
]

pub step_on : (f g : List Piece) (w : Walk) → IsLeft f g w → (v : Walk) × IsStep f g w v
step_on f g w more = by_next (slice_get_cases f w.i).1 (slice_get_cases g w.j).1
  where
    by_next : ((p : Piece) × (w.i < length f) × (slice_get f w.i ≡ Some p) × (get_or f w.i p ≡ p)) ⊎ ((length f ≤ w.i) × (slice_get f w.i ≡ None))
        → ((q : Piece) × (w.j < length g) × (slice_get g w.j ≡ Some q) × (get_or g w.j q ≡ q)) ⊎ ((length g ≤ w.j) × (slice_get g w.j ≡ None)) → (v : Walk) × IsStep f g w v
    by_next (inl a) (inl b) = both_on f g w a.0 b.0 a.2 b.2
    by_next (inl a) (inr b) = left_on f g w a.0 a.2 (none_before a.0.x g w.j b.1)
    by_next (inr a) (inl b) = right_on f g w b.0 b.2 (none_before b.0.x f w.i a.1)
    by_next (inr a) (inr b) = let l = a.0 in let k = b.0 in absurd (elim more [ inl m ↦ omega (arith, l, m) | inr m ↦ omega (arith, k, m) ])

-- ---- what a look at a place tells
pub got_some : (ps : List Piece) (i : ℕ) (p : Piece) → i < length ps → p ≡ get_or ps i p → slice_get ps i ≡ Some p
got_some [] i p h e = absurd (omega (arith, h))
got_some (q ∷ qs) zero p h e = ap Some (sym e)
got_some (q ∷ qs) (suc i) p h e = got_some qs i p (omega (arith, h)) e

pub got_none : (ps : List Piece) (i : ℕ) → length ps ≤ i → slice_get ps i ≡ None
got_none [] i h = refl
got_none (q ∷ qs) zero h = absurd (omega (arith, h))
got_none (q ∷ qs) (suc i) h = got_none qs i (omega (arith, h))

-- ---- where it starts
absent : (ps : List Piece) (i : ℕ) (p : Piece) → slice_get ps i ≡ None → slice_get ps i ≡ Some p → ⊥
absent ps i p n e = let no : None ≡ Some p = sym n ∙ e in cc

got_same : (ps : List Piece) (i : ℕ) (p q : Piece) → slice_get ps i ≡ Some p → slice_get ps i ≡ Some q → q.x ≡ p.x
got_same ps i p q e k = let same : Some q ≡ Some p = sym k ∙ e in let is : q ≡ p = cc in ap (λ z. z.x) is

got_early : (x : ℚ) (ps : List Piece) (i : ℕ) (p : Piece) → slice_get ps i ≡ Some p → IsBeforeAt x ps i → x <ℚ p.x
got_early x ps i p e h = subst (λ o. IfSome o (λ q. x <ℚ q.x)) e h

pub ends_left : (f g : List Piece) (w v : Walk) (p : Piece) → slice_get f w.i ≡ Some p → slice_get g w.j ≡ None → IsStep f g w v → v.here.left.x ≡ p.x
ends_left f g w v p e k (inl T) = got_same f w.i p v.here.left e T.next
ends_left f g w v p e k (inr (inl T)) = absurd (absent g w.j v.here.right k T.next)
ends_left f g w v p e k (inr (inr T)) = absurd (absent g w.j v.here.right k T.other)

pub ends_right : (f g : List Piece) (w v : Walk) (q : Piece) → slice_get f w.i ≡ None → slice_get g w.j ≡ Some q → IsStep f g w v → v.here.left.x ≡ q.x
ends_right f g w v q e k (inl T) = absurd (absent f w.i v.here.left e T.next)
ends_right f g w v q e k (inr (inl T)) = ap (λ z. z.x) T.left ∙ got_same g w.j q v.here.right k T.next
ends_right f g w v q e k (inr (inr T)) = absurd (absent f w.i v.here.left e T.next)

pub ends_first : (f g : List Piece) (w v : Walk) (p q : Piece) → slice_get f w.i ≡ Some p → slice_get g w.j ≡ Some q → p.x ≤ℚ q.x → IsStep f g w v → v.here.left.x ≡ p.x
ends_first f g w v p q e k h (inl T) = got_same f w.i p v.here.left e T.next
ends_first f g w v p q e k h (inr (inl T)) =
    let same = got_same g w.j q v.here.right k T.next in
    absurd (lt_irrefl q.x (lt_le_trans (subst (λ x. x <ℚ p.x) same (got_early v.here.right.x f w.i p e T.early)) h))
ends_first f g w v p q e k h (inr (inr T)) = got_same f w.i p v.here.left e T.next

pub ends_second : (f g : List Piece) (w v : Walk) (p q : Piece) → slice_get f w.i ≡ Some p → slice_get g w.j ≡ Some q → q.x <ℚ p.x → IsStep f g w v → v.here.left.x ≡ q.x
ends_second f g w v p q e k h (inl T) =
    let same = got_same f w.i p v.here.left e T.next in
    absurd (lt_irrefl p.x (lt_le_trans (subst (λ x. x <ℚ q.x) same (got_early v.here.left.x g w.j q k T.early)) (le_of_lt h)))
ends_second f g w v p q e k h (inr (inl T)) = ap (λ z. z.x) T.left ∙ got_same g w.j q v.here.right k T.next
ends_second f g w v p q e k h (inr (inr T)) = T.together ∙ got_same g w.j q v.here.right k T.other
