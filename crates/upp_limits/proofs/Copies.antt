-- Which copies of a piece start below a time, and what the copies of a span are.
use Rattle.std.specs.Prelude.{◌≡◌, ℕ, zero, suc, ◌<◌, ◌≤◌, pos, cond, Option, Some, None}
use Rattle.std.proofs.Common.{arith, ap, ◌∙◌, refl, subst, inl, inr}
use Rattle.std.specs.List.{AllByRecursion}
use Rattle.rational.specs.Rational.{ℚ, ◌+ℚ◌, ◌-ℚ◌, ◌*ℚ◌, ◌/ℚ◌, ◌≤ℚ◌, ◌<ℚ◌, int}
use Rattle.rational.specs.Extended.{Ext, ◌+ₑ◌}
use Rattle.rational.specs.declared.Extended.TheVariants.{Fin, Inf}
use Rattle.rational.specs.Whole.{whole_part}
use Rattle.rational.proofs.Linear.{with1, with2, with3, with4}
use Rattle.rational.proofs.Laws.{le_or_lt, le_of_lt, lt_le_trans, le_lt_trans, mul_zero, div_mul, zero_mul}
use Rattle.rational.proofs.Integers.{nat_lt, nat_lt_out}
use Rattle.rational.proofs.Over.{le_q_out}
use Rattle.rational.proofs.MinMax.{le_q_not}
use Rattle.rational.proofs.Whole.{mul_lt_mul_right, lt_of_mul, not_zero, whole_le, whole_gt, whole_small}
use Rattle.upp_curve.specs.declared.affine_segment.line.Line.{Line}
use Rattle.upp_curve.specs.declared.affine_segment.line.Piece.{Piece}
use Rattle.upp_curve.specs.Unrolled.{line_later, copies_below}
use Rattle.min_plus.specs.WholeUp.{whole_up}
use Rattle.upp_limits.specs.Spans.{Span, next_later, copy_of, copies_of}
use Rattle.std.proofs.lemmas.Bool.{cases_lt}

-- ---- the least whole number at least x
by_part : {G : Type 0} (x : ℚ) → (x ≤ℚ int (pos (whole_part x)) → whole_up x ≡ whole_part x → G)
    → (int (pos (whole_part x)) <ℚ x → whole_up x ≡ suc (whole_part x) → G) → G
by_part x f g =
    let n = whole_part x in
    elim (le_or_lt x (int (pos n))) [
      | inl h ↦ f h (ap (λ b. cond b n (suc n)) (le_q_out x (int (pos n)) h))
      | inr h ↦ g h (ap (λ b. cond b n (suc n)) (le_q_not x (int (pos n)) h))
    ]

some_part : (x : ℚ) (n : ℕ) → n < whole_part x → int (pos 0) ≤ℚ x
some_part x n h = elim (le_or_lt (int (pos 0)) x) [
  | inl l ↦ l
  | inr l ↦ let e = whole_small x (with1 x (λ c. omega (arith, c.le, c.lt, c.same))) in absurd (omega arith)
]

pub whole_up_in : (x : ℚ) (n : ℕ) → n < whole_up x → int (pos n) <ℚ x
whole_up_in x n h =
    by_part x
    (λ l e. let k : n < whole_part x = omega arith in lt_le_trans (nat_lt n (whole_part x) k) (whole_le x (some_part x n k)))
    (λ l e. at_most n (whole_part x) (omega arith) l)
  where
    at_most : (n m : ℕ) → n ≤ m → int (pos m) <ℚ x → int (pos n) <ℚ x
    at_most n m k l = elim (le_or_lt x (int (pos n))) [
      | inr g ↦ g
      | inl g ↦ let d = nat_lt_out m n (lt_le_trans l g) in absurd (omega arith)
    ]

pub whole_up_out : (x : ℚ) (n : ℕ) → int (pos n) <ℚ x → n < whole_up x
whole_up_out x n h =
    by_part x
    (λ l e. let k = nat_lt_out n (whole_part x) (lt_le_trans h l) in omega arith)
    (λ l e. let k = nat_lt_out n (suc (whole_part x)) (lt_trans h (whole_gt x)) in omega arith)
  where
    lt_trans : {a b c : ℚ} → a <ℚ b → b <ℚ c → a <ℚ c
    lt_trans h k = le_lt_trans (le_of_lt h) k

-- ---- a copy starts below `end` exactly where its number is below the count
pub copies_in : (d end : ℚ) (p : Piece) (n : ℕ) → int (pos 0) <ℚ d → n < copies_below d end p → p.x +ℚ int (pos n) *ℚ d <ℚ end
copies_in d end p n some h =
    let q = (end -ℚ p.x) /ℚ d in
    let e : q *ℚ d ≡ end -ℚ p.x = div_mul (end -ℚ p.x) d (not_zero d some) in
    let m = mul_lt_mul_right d some (whole_up_in q n h) in
    let x = p.x in
    with4 end x (q *ℚ d) (int (pos n) *ℚ d) (λ c. omega (arith, c.le, c.lt, c.same))

pub copies_out : (d end : ℚ) (p : Piece) (n : ℕ) → int (pos 0) <ℚ d → p.x +ℚ int (pos n) *ℚ d <ℚ end → n < copies_below d end p
copies_out d end p n some h =
    let q = (end -ℚ p.x) /ℚ d in
    let e : q *ℚ d ≡ end -ℚ p.x = div_mul (end -ℚ p.x) d (not_zero d some) in
    let x = p.x in
    whole_up_out q n (lt_of_mul d (int (pos n)) q some (with4 end x (q *ℚ d) (int (pos n) *ℚ d) (λ c. omega (arith, c.le, c.lt, c.same))))

-- ---- copy 0 is the span itself

pub plus_zero : (x d : ℚ) → x +ℚ int (pos 0) *ℚ d ≡ x
plus_zero x d = let e = zero_mul d in with2 x (int (pos 0) *ℚ d) (λ c. omega (arith, c.le, c.lt, c.same))

pub value_zero : (v : Ext) (c : ℚ) → v +ₑ Fin (int (pos 0) *ℚ c) ≡ v
value_zero Inf c = refl
value_zero (Fin v) c = ap Fin (plus_zero v c)

line_zero : (l : Option Line) (d c : ℚ) → line_later (int (pos 0) *ℚ d) (int (pos 0) *ℚ c) l ≡ l
line_zero None d c = refl
line_zero (Some l) d c =
    let z = int (pos 0) *ℚ d in
    let s = l.slope in
    let k = l.icept in
    let e : s *ℚ z ≡ int (pos 0) = ap (λ x. s *ℚ x) (zero_mul d) ∙ mul_zero s in
    let f = zero_mul c in
    let same : k +ℚ int (pos 0) *ℚ c -ℚ s *ℚ z ≡ k = with3 k (int (pos 0) *ℚ c) (s *ℚ z) (λ c. omega (arith, c.le, c.lt, c.same)) in
    ap (λ i. Some (let m : Line = record { icept = i; slope = s } in m)) same

next_zero : (next : Option ℚ) (d : ℚ) → next_later (int (pos 0) *ℚ d) next ≡ next
next_zero None d = refl
next_zero (Some e) d = ap Some (plus_zero e d)

pub copy_zero : (d c : ℚ) (s : Span) → copy_of d c s 0 ≡ s
copy_zero d c s =
    ap (λ x. span x (s.piece.at +ₑ Fin z) (line_later y z s.piece.line) (next_later y s.next)) (plus_zero s.piece.x d)
    ∙ ap (λ v. span s.piece.x v (line_later y z s.piece.line) (next_later y s.next)) (value_zero s.piece.at c)
    ∙ ap (λ l. span s.piece.x s.piece.at l (next_later y s.next)) (line_zero s.piece.line d c)
    ∙ ap (λ e. span s.piece.x s.piece.at s.piece.line e) (next_zero s.next d)
  where
    y : ℚ
    y = int (pos 0) *ℚ d

    z : ℚ
    z = int (pos 0) *ℚ c

    span : ℚ → Ext → Option Line → Option ℚ → Span
    span x at line next = record { piece = record { x = x; at = at; line = line }; next = next }

-- ---- what holds of each copy
pub every_copy : (P : Span → Type 0) (d c : ℚ) (s : Span) (n : ℕ) → ((m : ℕ) → m < n → P (copy_of d c s m)) → AllByRecursion P (copies_of d c s n)
unfolding copies_of
every_copy P d c s zero f = tt
every_copy P d c s (suc n) f = (f n (omega arith), every_copy P d c s n (λ m h. f m (omega arith)))

pub copy_among : (P : Span → Type 0) (d c : ℚ) (s : Span) (n m : ℕ) → m < n → AllByRecursion P (copies_of d c s n) → P (copy_of d c s m)
unfolding copies_of
copy_among P d c s zero m h k = absurd (omega arith)
copy_among P d c s (suc n) m h k = elim (cases_lt m n) [
  | inl l ↦ copy_among P d c s n m l k.1
  | inr l ↦ let e : n ≡ m = omega arith in subst (λ j. P (copy_of d c s j)) e k.0
]
