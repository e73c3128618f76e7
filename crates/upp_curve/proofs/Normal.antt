-- Two normal curves with equal values at every time are one.
use Rattle.std.specs.Prelude.{◌≡◌, pos, List, [], ◌∷◌, None}
use Rattle.std.proofs.Common.{arith, sym, ap, ap₂, ◌∙◌, refl, subst, inl, inr}
use Rattle.rational.specs.Rational.{ℚ, ◌+ℚ◌, ◌≤ℚ◌, ◌<ℚ◌, int}
use Rattle.rational.proofs.Linear.{with2, with3}
use Rattle.rational.proofs.Laws.{antisym, le_trans, lt_le_trans, le_or_lt, le_of_lt, le_refl}
use Rattle.rational.specs.Extended.{Ext, ◌+ₑ◌}
use Rattle.rational.specs.declared.Extended.TheVariants.{Fin}
use Rattle.upp_curve.specs.declared.affine_segment.line.Piece.{Piece}
use Rattle.upp_curve.specs.declared.curve.Tail.TheVariants.{Periodic}
use Rattle.rational.specs.MinMax.{min_q}
use Rattle.upp_curve.specs.Curve.{SpecCurve, value_at, with_tail, HasSameValues}
use Rattle.upp_curve.specs.affine_segment.Reading.{read}
use Rattle.upp_curve.specs.Normal.{IsNormal, NoMerge}
use Rattle.upp_curve.specs.affine_segment.Pieces.{Each, HasStart, StartsAtZero, RisesFrom}
use Rattle.upp_curve.specs.Unrolled.{upto}
use Rattle.upp_curve.specs.Steady.{Repeats}
use Rattle.rational.proofs.MinMax.{min_q_left, min_q_right, below_min_in}
use Rattle.upp_curve.proofs.Repeats.{repeated_first, repeated_rule}
use Rattle.upp_curve.proofs.Unique.{same_lists, upto_none, upto_some, upto_end}
use Rattle.upp_curve.proofs.Rules.{rule_extends, no_shorter, one_rise}
use Rattle.upp_curve.proofs.affine_segment.PieceIn.{low_start}

-- ---- lists
pub lists_read : (f : ℚ → Ext) (X : ℚ) (ps qs : List Piece) → StartsAtZero ps → NoMerge ps → StartsAtZero qs → NoMerge qs
    → ((t : ℚ) → int (pos 0) ≤ℚ t → t <ℚ X → read ps t ≡ f t) → ((t : ℚ) → int (pos 0) ≤ℚ t → t <ℚ X → read qs t ≡ f t) → upto X ps ≡ upto X qs
unfolding read
lists_read f X [] qs a b c d F G = absurd a
lists_read f X (p ∷ ps) [] a b c d F G = absurd c
lists_read f X (p ∷ ps) (q ∷ qs) a b c d F G =
    same_lists f X p ps q qs
    record { rises = a.1; none = b; is = λ t h k. F t (subst (λ x. x ≤ℚ t) a.0 h) k }
    record { rises = c.1; none = d; is = λ t h k. G t (subst (λ x. x ≤ℚ t) c.0 h) k }
    (a.0 ∙ sym c.0)

pub upto_all : (X : ℚ) (ps : List Piece) → Each (λ p. p.x <ℚ X) ps → upto X ps ≡ ps
upto_all X [] h = upto_end X
upto_all X (p ∷ ps) h = upto_some X p ps h.0 ∙ ap (λ zs. p ∷ zs) (upto_all X ps h.1)

pub past_start : (y x : ℚ) (ps : List Piece) → RisesFrom y ps → HasStart x ps → y <ℚ x
past_start y x [] r h = absurd h
past_start y x (p ∷ ps) r (inl e) = subst (λ z. y <ℚ z) e r.0
past_start y x (p ∷ ps) r (inr h) = let l = past_start p.x x ps r.1 h in let k = r.0 in with3 y x p.x (λ c. omega (arith, c.le, c.lt, c.same))

pub start_in_upto : (y x X : ℚ) (ps : List Piece) → RisesFrom y ps → HasStart x ps → x <ℚ X → HasStart x (upto X ps)
start_in_upto y x X [] r h l = absurd h
start_in_upto y x X (p ∷ ps) r (inl e) l = subst (HasStart x) (sym (upto_some X p ps (subst (λ z. z <ℚ X) (sym e) l))) (inl e)
start_in_upto y x X (p ∷ ps) r (inr h) l =
    let k = past_start p.x x ps r.1 h in
    let before : p.x <ℚ X = with3 p.x x X (λ c. omega (arith, c.le, c.lt, c.same)) in
    subst (HasStart x) (sym (upto_some X p ps before)) (inr (start_in_upto p.x x X ps r.1 h l))

pub start_from_upto : (x X : ℚ) (ps : List Piece) → HasStart x (upto X ps) → HasStart x ps
start_from_upto x X [] h = subst (HasStart x) (upto_end X) h
start_from_upto x X (p ∷ ps) h = elim (le_or_lt X p.x) [
  | inl l ↦ absurd (subst (HasStart x) (upto_none X p ps l) h)
  | inr l ↦ go (subst (HasStart x) (upto_some X p ps l) h) (λ k. start_from_upto x X ps k)
]
  where
    go : HasStart x (p ∷ upto X ps) → (HasStart x (upto X ps) → HasStart x ps) → HasStart x (p ∷ ps)
    go (inl e) f = inl e
    go (inr k) f = inr (f k)

pub each_at : (P : ℚ → Type 0) (x : ℚ) (ps : List Piece) → Each (λ p. P p.x) ps → HasStart x ps → P x
each_at P x [] h k = absurd k
each_at P x (p ∷ ps) h (inl e) = subst P e h.0
each_at P x (p ∷ ps) h (inr k) = each_at P x ps h.1 k

-- ---- two periodic curves
value_is : (c : SpecCurve) (t : ℚ) → value_at c t ≡ with_tail (read c.pieces) c.tail t
unfolding value_at
value_is c t = refl

-- the second rank is not past the first
rank_not_before : (ps qs : List Piece) (r d c s p q X : ℚ) (f : ℚ → Ext) → StartsAtZero ps → upto X ps ≡ upto X qs → (r <ℚ s → r <ℚ X)
    → HasStart r ps → int (pos 0) <ℚ d → int (pos 0) <ℚ p → Repeats f r d c → Repeats f s p q
    → Each (λ z. z.x <ℚ s → ¬ (Repeats f z.x p q)) qs → s ≤ℚ r
rank_not_before ps qs r d c s p q X f zero same inside start d_pos p_pos D P least = elim (le_or_lt s r) [
  | inl l ↦ l
  | inr l ↦
      let there : HasStart r qs = start_from_upto r X qs (subst (HasStart r) same (start_in_upto _ r X ps (low_start ps zero) start (inside l))) in
      absurd (each_at (λ x. x <ℚ s → ¬ (Repeats f x p q)) r qs least there l (rule_extends f r d c s p q D P d_pos (le_of_lt p_pos)))
]

pub transfer : (f g : ℚ → Ext) (s p q : ℚ) → int (pos 0) ≤ℚ s → int (pos 0) ≤ℚ p → ((t : ℚ) → int (pos 0) ≤ℚ t → f t ≡ g t) → Repeats g s p q → Repeats f s p q
transfer f g s p q s_some p_some same P = record {
  rule = λ t h.
      let start = le_trans s_some h in
      same (t +ℚ p) (with2 t p (λ c. omega (arith, c.le, c.lt, c.same))) ∙ P.rule t h ∙ ap (λ v. v +ₑ Fin q) (sym (same t start));
}

abbrev pub periodic : List Piece → ℚ → ℚ → ℚ → SpecCurve
periodic ps r d c = record { pieces = ps; tail = Periodic r d c }

pub periodic_rule : (ps : List Piece) (r d c : ℚ) → int (pos 0) <ℚ d → Repeats (value_at (periodic ps r d c)) r d c
unfolding value_at
periodic_rule ps r d c h = let R = repeated_rule (read ps) r d c h in record { rule = λ t l. R.rule t l }

periodic_read : (ps : List Piece) (r d c t : ℚ) → int (pos 0) <ℚ d → t <ℚ r +ℚ d → read ps t ≡ value_at (periodic ps r d c) t
unfolding value_at
periodic_read ps r d c t h l = sym (repeated_first (read ps) r d c t h l)

same_periodic : (ps qs : List Piece) (r d c s p q : ℚ) → ps ≡ qs → r ≡ s → d ≡ p → c ≡ q → periodic ps r d c ≡ periodic qs s p q
same_periodic ps qs r d c s p q a b e f = ap (λ z. periodic z r d c) a ∙ ap (λ z. periodic qs z d c) b ∙ ap₂ (λ (x y : ℚ). periodic qs s x y) e f

periodic_lists : (ps qs : List Piece) (r d c s p q X : ℚ) → IsNormal (periodic ps r d c) → IsNormal (periodic qs s p q) → HasSameValues (periodic ps r d c) (periodic qs s p q)
    → X ≤ℚ r +ℚ d → X ≤ℚ s +ℚ p → upto X ps ≡ upto X qs
periodic_lists ps qs r d c s p q X A B same h k =
    lists_read (value_at (periodic ps r d c)) X ps qs A.raw.starts A.no_merge B.raw.starts B.no_merge
    (λ t a b. periodic_read ps r d c t A.raw.tail.some (lt_le_trans b h))
    (λ t a b. periodic_read qs s p q t B.raw.tail.some (lt_le_trans b k) ∙ sym (same t a))

no_longer : (ps : List Piece) (r d c p q : ℚ) → IsNormal (periodic ps r d c) → int (pos 0) <ℚ p → Repeats (value_at (periodic ps r d c)) r p q → d ≤ℚ p
no_longer ps r d c p q A some P = elim (le_or_lt d p) [
  | inl l ↦ l
  | inr l ↦ absurd (no_shorter (value_at (periodic ps r d c)) r d c p q some l A.tail.least_period (A.tail.not_one_line None) (periodic_rule ps r d c A.raw.tail.some) P)
]

pub backward : (A B : SpecCurve) → HasSameValues A B → HasSameValues B A
backward A B same t h = sym (same t h)

pub periodic_unique : (ps qs : List Piece) (r d c s p q : ℚ) → IsNormal (periodic ps r d c) → IsNormal (periodic qs s p q)
    → HasSameValues (periodic ps r d c) (periodic qs s p q) → periodic ps r d c ≡ periodic qs s p q
periodic_unique ps qs r d c s p q A B same =
    let a = A.raw.tail in
    let b = B.raw.tail in
    let F = value_at (periodic ps r d c) in
    let G = value_at (periodic qs s p q) in
    let D = periodic_rule ps r d c a.some in
    let P = periodic_rule qs s p q b.some in
    let PF : Repeats F s p q = transfer F G s p q b.nonneg (le_of_lt b.some) same P in
    let DG : Repeats G r d c = transfer G F r d c a.nonneg (le_of_lt a.some) (backward _ _ same) D in
    let X = min_q (r +ℚ d) (s +ℚ p) in
    let lists = periodic_lists ps qs r d c s p q X A B same (least_le_left (r +ℚ d) (s +ℚ p)) (least_le_right (r +ℚ d) (s +ℚ p)) in
    let less_r : s ≤ℚ r = rank_not_before ps qs r d c s p q X G A.raw.starts lists (λ l. inside r d s p a.some b.some l) A.rank_is_start a.some b.some DG P B.tail.least_rank in
    let less_s : r ≤ℚ s = rank_not_before qs ps s p q r d c X F B.raw.starts (sym lists) (λ l. inside_other r d s p a.some b.some l) B.rank_is_start b.some a.some PF D A.tail.least_rank in
    let ranks : r ≡ s = antisym (less_s, less_r) in
    let PR : Repeats F r p q = subst (λ z. Repeats F z p q) (sym ranks) PF in
    let DS : Repeats G s d c = subst (λ z. Repeats G z d c) ranks DG in
    let periods : d ≡ p = antisym (no_longer ps r d c p q A b.some PR, no_longer qs s p q d c B a.some DS) in
    let low_start : c ≡ q = one_rise F r d c q D (subst (λ z. Repeats F r z q) (sym periods) PR) (A.tail.not_one_line None) in
    let ends : r +ℚ d ≡ s +ℚ p = ap₂ (λ (x y : ℚ). x +ℚ y) ranks periods in
    let all = periodic_lists ps qs r d c s p q (r +ℚ d) A B same (le_refl (r +ℚ d)) (subst (λ z. r +ℚ d ≤ℚ z) ends (le_refl (r +ℚ d))) in
    let whole : ps ≡ qs = sym (upto_all (r +ℚ d) ps a.starts) ∙ all ∙ ap (λ z. upto z qs) ends ∙ upto_all (s +ℚ p) qs b.starts in
    same_periodic ps qs r d c s p q whole ranks periods low_start
  where
    least_le_left : (x y : ℚ) → min_q x y ≤ℚ x
    least_le_left x y = elim (le_or_lt x y) [ inl h ↦ rw (min_q_left x y h) (le_refl x) | inr l ↦ rw (min_q_right x y l) (le_of_lt l) ]

    least_le_right : (x y : ℚ) → min_q x y ≤ℚ y
    least_le_right x y = elim (le_or_lt x y) [ inl h ↦ rw (min_q_left x y h) h | inr l ↦ rw (min_q_right x y l) (le_refl y) ]

    inside : (r d s p : ℚ) → int (pos 0) <ℚ d → int (pos 0) <ℚ p → r <ℚ s → r <ℚ min_q (r +ℚ d) (s +ℚ p)
    inside r d s p x y l = below_min_in (r +ℚ d) (s +ℚ p) r (with2 r d (λ c. omega (arith, c.le, c.lt, c.same))) (with3 r s p (λ c. omega (arith, c.le, c.lt, c.same)))

    inside_other : (r d s p : ℚ) → int (pos 0) <ℚ d → int (pos 0) <ℚ p → s <ℚ r → s <ℚ min_q (r +ℚ d) (s +ℚ p)
    inside_other r d s p x y l = below_min_in (r +ℚ d) (s +ℚ p) s (with3 r s d (λ c. omega (arith, c.le, c.lt, c.same))) (with2 s p (λ c. omega (arith, c.le, c.lt, c.same)))
