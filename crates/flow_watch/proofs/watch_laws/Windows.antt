-- Where some window of a stretch falls short, one falls short that has an end at a time at which the work's pace changes,
-- and whose other end is such a time too, or is one of the curve's times away.
use Rattle.std.specs.Prelude.{◌≡◌, ◌⊎◌, pos, List, [], ◌∷◌, ◌++◌, map}
use Rattle.std.proofs.Common.{arith, sym, subst, inl, inr}
use Rattle.rational.specs.Rational.{ℚ, int, ◌+ℚ◌, ◌-ℚ◌, ◌*ℚ◌, ◌≤ℚ◌, ◌<ℚ◌}
use Rattle.rational.proofs.Laws.{le_refl, le_trans, le_or_lt, antisym, sub_mul, mul_sub}
use Rattle.rational.proofs.Linear.{with_atoms, with1, with2, with3, with4, sub_nonneg}
use Rattle.flow_watch.specs.watch_laws.Affine.{IsLineOn, NoneInside, IsAffineOff, EachTime, IsPiecewise}
use Rattle.flow_watch.specs.watch_laws.Windows.{FallsShort, IsShort}
use Rattle.flow_watch.proofs.watch_laws.Slides.{low_somewhere}
use Rattle.rational.proofs.Stretch.{not_earlier}
use Rattle.run_laws.proofs.Times.{each_time_map, each_time_append}

-- ---- lists of times
none-append : (x y : ℚ) (ls ms : List ℚ) → NoneInside x y (ls ++ ms) → NoneInside x y ls × NoneInside x y ms
none-append x y [] ms h = (tt, h)
none-append x y (l ∷ ls) ms h = let k = none-append x y ls ms h.1 in ((h.0, k.0), k.1)

each_map : (P Q : ℚ → Type 0) (m : ℚ → ℚ) → ((t : ℚ) → P t → Q (m t)) → (ls : List ℚ) → EachTime P ls → EachTime Q (map m ls)
each_map P Q m f [] h = tt
each_map P Q m f (l ∷ ls) h = (f l h.0, each_map P Q m f ls h.1)

-- a later; a's mirror; x sooner
none_later : (x y a : ℚ) (ls : List ℚ) → NoneInside x y (map (λ l. l +ℚ a) ls) → NoneInside (x -ℚ a) (y -ℚ a) ls
none_later x y a [] h = tt
none_later x y a (l ∷ ls) h = (
  elim h.0 [
    | inl k ↦ inl (with3 x a l (λ c. omega (arith, c.le, c.lt, c.same)))
    | inr k ↦ inr (with3 y a l (λ c. omega (arith, c.le, c.lt, c.same)))
  ],
  none_later x y a ls h.1,
)

none_sooner : (x y a : ℚ) (ls : List ℚ) → NoneInside x y (map (λ l. l -ℚ a) ls) → NoneInside (x +ℚ a) (y +ℚ a) ls
none_sooner x y a [] h = tt
none_sooner x y a (l ∷ ls) h = (
  elim h.0 [
    | inl k ↦ inl (with3 x a l (λ c. omega (arith, c.le, c.lt, c.same)))
    | inr k ↦ inr (with3 y a l (λ c. omega (arith, c.le, c.lt, c.same)))
  ],
  none_sooner x y a ls h.1,
)

none_turned : (x y b : ℚ) (ls : List ℚ) → NoneInside x y (map (λ l. b -ℚ l) ls) → NoneInside (b -ℚ y) (b -ℚ x) ls
none_turned x y b [] h = tt
none_turned x y b (l ∷ ls) h = (
  elim h.0 [
    | inl k ↦ inr (with3 x b l (λ c. omega (arith, c.le, c.lt, c.same)))
    | inr k ↦ inl (with3 y b l (λ c. omega (arith, c.le, c.lt, c.same)))
  ],
  none_turned x y b ls h.1,
)

-- ---- what a window lacks is affine in each of its ends, and in both
abbrev lack : (ℚ → ℚ) → (ℚ → ℚ) → ℚ → ℚ → ℚ
lack W g a b = W b -ℚ W a -ℚ g (b -ℚ a)

abbrev end_moves : (ℚ → ℚ) → (ℚ → ℚ) → ℚ → ℚ → ℚ
end_moves W g a b = lack W g a b

abbrev start_moves : (ℚ → ℚ) → (ℚ → ℚ) → ℚ → ℚ → ℚ
start_moves W g b a = lack W g a b

abbrev both_move : (ℚ → ℚ) → (ℚ → ℚ) → ℚ → ℚ → ℚ
both_move W g l a = W (a +ℚ l) -ℚ W a -ℚ g l

end_line : (W g : ℚ → ℚ) (a r s x y : ℚ) → IsLineOn W r x y → IsLineOn g s (x -ℚ a) (y -ℚ a) → IsLineOn (end_moves W g a) (r -ℚ s) x y
end_line W g a r s x y f h z k l =
    let e = f z k l in
    let i = h (z -ℚ a) (with3 x z a (λ c. omega (arith, c.le, c.lt, c.same))) (with3 y z a (λ c. omega (arith, c.le, c.lt, c.same))) in
    let same : (z -ℚ a) -ℚ (x -ℚ a) ≡ z -ℚ x = with3 x z a (λ c. omega (arith, c.le, c.lt, c.same)) in
    let j : g (z -ℚ a) ≡ g (x -ℚ a) +ℚ s *ℚ (z -ℚ x) = subst (λ d. g (z -ℚ a) ≡ g (x -ℚ a) +ℚ s *ℚ d) same i in
    let m = sub_mul r s (z -ℚ x) in
    with_atoms (W x ∷ W z ∷ W a ∷ g (x -ℚ a) ∷ g (z -ℚ a) ∷ (r *ℚ (z -ℚ x)) ∷ (s *ℚ (z -ℚ x)) ∷ ((r -ℚ s) *ℚ (z -ℚ x)) ∷ []) (λ c. omega (arith, c.le, c.lt, c.same))

start_line : (W g : ℚ → ℚ) (b r s x y : ℚ) → IsLineOn W r x y → IsLineOn g s (b -ℚ y) (b -ℚ x) → x ≤ℚ y → IsLineOn (start_moves W g b) (s -ℚ r) x y
start_line W g b r s x y f h xy z k l =
    let e = f z k l in
    let i = h (b -ℚ z) (with3 y z b (λ c. omega (arith, c.le, c.lt, c.same))) (with3 x z b (λ c. omega (arith, c.le, c.lt, c.same))) in
    let i2 = h (b -ℚ x) (with3 x y b (λ c. omega (arith, c.le, c.lt, c.same))) (le_refl (b -ℚ x)) in
    let same : (b -ℚ z) -ℚ (b -ℚ y) ≡ (y -ℚ x) -ℚ (z -ℚ x) = with4 x y z b (λ c. omega (arith, c.le, c.lt, c.same)) in
    let same2 : (b -ℚ x) -ℚ (b -ℚ y) ≡ y -ℚ x = with3 x y b (λ c. omega (arith, c.le, c.lt, c.same)) in
    let j : g (b -ℚ z) ≡ g (b -ℚ y) +ℚ s *ℚ ((y -ℚ x) -ℚ (z -ℚ x)) = subst (λ d. g (b -ℚ z) ≡ g (b -ℚ y) +ℚ s *ℚ d) same i in
    let j2 : g (b -ℚ x) ≡ g (b -ℚ y) +ℚ s *ℚ (y -ℚ x) = subst (λ d. g (b -ℚ x) ≡ g (b -ℚ y) +ℚ s *ℚ d) same2 i2 in
    let m = sub_mul s r (z -ℚ x) in
    let n = mul_sub s (y -ℚ x) (z -ℚ x) in
    with_atoms (W x ∷ W z ∷ W b ∷ g (b -ℚ y) ∷ g (b -ℚ z) ∷ g (b -ℚ x) ∷ (r *ℚ (z -ℚ x)) ∷ (s *ℚ (z -ℚ x)) ∷ (s *ℚ (y -ℚ x)) ∷ (s *ℚ ((y -ℚ x) -ℚ (z -ℚ x))) ∷ ((s -ℚ r) *ℚ (z -ℚ x)) ∷ []) (λ c. omega (arith, c.le, c.lt, c.same))

both_line : (W g : ℚ → ℚ) (l r s x y : ℚ) → IsLineOn W r x y → IsLineOn W s (x +ℚ l) (y +ℚ l) → IsLineOn (both_move W g l) (s -ℚ r) x y
both_line W g l r s x y f h z k n =
    let e = f z k n in
    let i = h (z +ℚ l) (with3 x z l (λ c. omega (arith, c.le, c.lt, c.same))) (with3 y z l (λ c. omega (arith, c.le, c.lt, c.same))) in
    let same : (z +ℚ l) -ℚ (x +ℚ l) ≡ z -ℚ x = with3 x z l (λ c. omega (arith, c.le, c.lt, c.same)) in
    let j : W (z +ℚ l) ≡ W (x +ℚ l) +ℚ s *ℚ (z -ℚ x) = subst (λ d. W (z +ℚ l) ≡ W (x +ℚ l) +ℚ s *ℚ d) same i in
    let m = sub_mul s r (z -ℚ x) in
    with_atoms (W x ∷ W z ∷ W (x +ℚ l) ∷ W (z +ℚ l) ∷ g l ∷ (r *ℚ (z -ℚ x)) ∷ (s *ℚ (z -ℚ x)) ∷ ((s -ℚ r) *ℚ (z -ℚ x)) ∷ []) (λ c. omega (arith, c.le, c.lt, c.same))

-- ---- affine but at finitely many times
end_affine : (W g : ℚ → ℚ) (ls ms : List ℚ) (a u e : ℚ) → IsAffineOff W ls u e → IsAffineOff g ms (int (pos 0)) (e -ℚ u) → u ≤ℚ a
    → IsAffineOff (end_moves W g a) (ls ++ map (λ l. l +ℚ a) ms) a e
end_affine W g ls ms a u e f h k x y i j l none =
    let (n, m) = none-append x y ls (map (λ t. t +ℚ a) ms) none in
    let (r, is) = f x y (le_trans k i) j l n in
    let (s, it) = h (x -ℚ a) (y -ℚ a) (with2 x a (λ c. omega (arith, c.le, c.lt, c.same))) (with3 x y a (λ c. omega (arith, c.le, c.lt, c.same))) (with4 y a e u (λ c. omega (arith, c.le, c.lt, c.same))) (none_later x y a ms m) in
    (r -ℚ s, end_line W g a r s x y is it)

start_affine : (W g : ℚ → ℚ) (ls ms : List ℚ) (b u e : ℚ) → IsAffineOff W ls u e → IsAffineOff g ms (int (pos 0)) (e -ℚ u) → b ≤ℚ e
    → IsAffineOff (start_moves W g b) (ls ++ map (λ l. b -ℚ l) ms) u b
start_affine W g ls ms b u e f h k x y i j l none =
    let (n, m) = none-append x y ls (map (λ t. b -ℚ t) ms) none in
    let (r, is) = f x y i j (le_trans l k) n in
    let (s, it) = h (b -ℚ y) (b -ℚ x) (with2 y b (λ c. omega (arith, c.le, c.lt, c.same))) (with3 x y b (λ c. omega (arith, c.le, c.lt, c.same))) (with4 x b e u (λ c. omega (arith, c.le, c.lt, c.same))) (none_turned x y b ms m) in
    (s -ℚ r, start_line W g b r s x y is it j)

both_affine : (W g : ℚ → ℚ) (ls : List ℚ) (l u e : ℚ) → IsAffineOff W ls u e → int (pos 0) ≤ℚ l
    → IsAffineOff (both_move W g l) (ls ++ map (λ t. t -ℚ l) ls) u (e -ℚ l)
both_affine W g ls l u e f some x y i j k none =
    let (n, m) = none-append x y ls (map (λ t. t -ℚ l) ls) none in
    let (r, is) = f x y i j (with3 y e l (λ c. omega (arith, c.le, c.lt, c.same))) n in
    let (s, it) = f (x +ℚ l) (y +ℚ l) (with3 x u l (λ c. omega (arith, c.le, c.lt, c.same))) (with3 x y l (λ c. omega (arith, c.le, c.lt, c.same))) (with3 y e l (λ c. omega (arith, c.le, c.lt, c.same))) (none_sooner x y l ls m) in
    (s -ℚ r, both_line W g l r s x y is it)

-- ---- what falls short lacks
short_lacks : (W g : ℚ → ℚ) (a b : ℚ) → FallsShort W g a b → lack W g a b <ℚ int (pos 0)
short_lacks W g a b h = with3 (W a) (W b) (g (b -ℚ a)) (λ c. omega (arith, c.le, c.lt, c.same))

lacks_short : (W g : ℚ → ℚ) (a b : ℚ) → lack W g a b <ℚ int (pos 0) → FallsShort W g a b
lacks_short W g a b h = with3 (W a) (W b) (g (b -ℚ a)) (λ c. omega (arith, c.le, c.lt, c.same))

both_short : (W g : ℚ → ℚ) (l a : ℚ) → both_move W g l a <ℚ int (pos 0) → FallsShort W g a (a +ℚ l)
both_short W g l a h =
    let e : l ≡ (a +ℚ l) -ℚ a = with2 a l (λ c. omega (arith, c.le, c.lt, c.same)) in
    subst (λ d. W (a +ℚ l) <ℚ W a +ℚ g d) e (with3 (W a) (W (a +ℚ l)) (g l) (λ c. omega (arith, c.le, c.lt, c.same)))

-- no window without length does
never_at_once : (W g : ℚ → ℚ) (a b : ℚ) → g (int (pos 0)) ≤ℚ int (pos 0) → FallsShort W g a b → a ≡ b → ⊥
never_at_once W g a b z h e =
    let k : FallsShort W g a a = subst (λ d. FallsShort W g a d) (sym e) h in
    let none : a -ℚ a ≡ int (pos 0) = with1 a (λ c. omega (arith, c.le, c.lt, c.same)) in
    let l : W a <ℚ W a +ℚ g (int (pos 0)) = subst (λ d. W a <ℚ W a +ℚ g d) none k in
    with2 (W a) (g (int (pos 0))) (λ c. omega (arith, c.le, c.lt, c.same))

forward_from : (W g : ℚ → ℚ) (a b : ℚ) → g (int (pos 0)) ≤ℚ int (pos 0) → FallsShort W g a b → a ≤ℚ b → a <ℚ b
forward_from W g a b z h k = elim (le_or_lt b a) [
  | inl l ↦ absurd (never_at_once W g a b z h (antisym (k, l)))
  | inr l ↦ l
]

-- ---- plain sums
to_end : (c l e : ℚ) → c ≤ℚ e -ℚ l → c +ℚ l ≤ℚ e
to_end c l e h = with3 c l e (λ k. omega (arith, k.le, k.lt, k.same))

is_end : (c l e : ℚ) → c ≡ e -ℚ l → e ≡ c +ℚ l
is_end c l e h = with3 c l e (λ k. omega (arith, k.le, k.lt, k.same))

from_start : (a q : ℚ) → q ≡ a +ℚ (q -ℚ a)
from_start a q = with2 a q (λ k. omega (arith, k.le, k.lt, k.same))

-- ---- the two moves
-- where the end is a time of the kind P, move the start
start_moved : (W g : ℚ → ℚ) (P X : ℚ → Type 0) (u e a b : ℚ) → IsPiecewise W P u e → IsPiecewise g X (int (pos 0)) (e -ℚ u)
    → P u → g (int (pos 0)) ≤ℚ int (pos 0) → u ≤ℚ a → a ≤ℚ b → b ≤ℚ e → P b → FallsShort W g a b
    → (c : ℚ) × IsShort W g P X u e c b
start_moved W g P X u e a b f h at_u z i j k at_b short =
    let of_start : ℚ → Type 0 = λ t. P t ⊎ X (b -ℚ t) in
    let turned : (l : ℚ) → X l → of_start (b -ℚ l) = λ l x. inr (subst X (with2 l b (λ c. omega (arith, c.le, c.lt, c.same))) x) in
    let (c, is) = low_somewhere (start_moves W g b) of_start (f.times ++ map (λ l. b -ℚ l) h.times) u b a (start_affine W g f.times h.times b u e f.affine h.affine k)
    (each_time_append of_start f.times (map (λ l. b -ℚ l) h.times) (each_time_map P of_start (λ t p. inl p) f.times f.are) (each_map X of_start (λ l. b -ℚ l) turned h.times h.are)) i j (short_lacks W g a b short) in
    let short_c = lacks_short W g c b is.low in (
      c,
      record {
        from = is.from;
        forward = forward_from W g c b z short_c is.to;
        to = k;
        short = short_c;
        pair = elim is.of [
          | inl s ↦ inl (subst P (sym s) at_u, at_b)
          | inr o ↦ elim o [
            | inl s ↦ absurd (never_at_once W g c b z short_c s)
            | inr q ↦ elim q [ inl p ↦ inl (p, at_b) | inr x ↦ inr (inr (at_b, x)) ]
          ]
        ];
      },
    )

-- where its length is a time of the curve, move both
both_moved : (W g : ℚ → ℚ) (P X : ℚ → Type 0) (u e a l : ℚ) → IsPiecewise W P u e → P u → P e
    → g (int (pos 0)) ≤ℚ int (pos 0) → u ≤ℚ a → int (pos 0) ≤ℚ l → a +ℚ l ≤ℚ e → X l → FallsShort W g a (a +ℚ l)
    → (c : ℚ) × IsShort W g P X u e c (c +ℚ l)
both_moved W g P X u e a l f at_u at_e z i j k at_l short =
    let of_both : ℚ → Type 0 = λ t. P t ⊎ P (t +ℚ l) in
    let sooner : (t : ℚ) → P t → of_both (t -ℚ l) = λ t p. inr (subst P (with2 t l (λ c. omega (arith, c.le, c.lt, c.same))) p) in
    let len : (t : ℚ) → X ((t +ℚ l) -ℚ t) = λ t. subst X (with2 t l (λ c. omega (arith, c.le, c.lt, c.same))) at_l in
    let low : both_move W g l a <ℚ int (pos 0) =
    let e : (a +ℚ l) -ℚ a ≡ l = with2 a l (λ c. omega (arith, c.le, c.lt, c.same)) in
    let s : W (a +ℚ l) <ℚ W a +ℚ g l = subst (λ d. W (a +ℚ l) <ℚ W a +ℚ g d) e short in
    with3 (W a) (W (a +ℚ l)) (g l) (λ c. omega (arith, c.le, c.lt, c.same)) in
    let (c, is) = low_somewhere (both_move W g l) of_both (f.times ++ map (λ t. t -ℚ l) f.times) u (e -ℚ l) a (both_affine W g f.times l u e f.affine j)
    (each_time_append of_both f.times (map (λ t. t -ℚ l) f.times) (each_time_map P of_both (λ t p. inl p) f.times f.are) (each_map P of_both (λ t. t -ℚ l) sooner f.times f.are)) i (with3 a l e (λ c. omega (arith, c.le, c.lt, c.same))) low in
    let short_c = both_short W g l c is.low in (
      c,
      record {
        from = is.from;
        forward = forward_from W g c (c +ℚ l) z short_c (not_earlier c l j);
        to = to_end c l e is.to;
        short = short_c;
        pair = elim is.of [
          | inl s ↦ inr (inl (subst P (sym s) at_u, len c))
          | inr o ↦ elim o [
            | inl s ↦ inr (inr (subst P (is_end c l e s) at_e, len c))
            | inr q ↦ elim q [ inl p ↦ inr (inl (p, len c)) | inr p ↦ inr (inr (p, len c)) ]
          ]
        ];
      },
    )

-- ---- some window falls short: one of the pairs does
pub short_pair : (W g : ℚ → ℚ) (P X : ℚ → Type 0) (u e a b : ℚ) → IsPiecewise W P u e → IsPiecewise g X (int (pos 0)) (e -ℚ u)
    → P u → P e → g (int (pos 0)) ≤ℚ int (pos 0) → u ≤ℚ a → a ≤ℚ b → b ≤ℚ e → FallsShort W g a b
    → (c d : ℚ) × IsShort W g P X u e c d
short_pair W g P X u e a b f h at_u at_e z i j k short =
    let of_end : ℚ → Type 0 = λ t. P t ⊎ X (t -ℚ a) in
    let later : (l : ℚ) → X l → of_end (l +ℚ a) = λ l x. inr (subst X (with2 l a (λ c. omega (arith, c.le, c.lt, c.same))) x) in
    let (q, is) = low_somewhere (end_moves W g a) of_end (f.times ++ map (λ l. l +ℚ a) h.times) a e b (end_affine W g f.times h.times a u e f.affine h.affine i)
    (each_time_append of_end f.times (map (λ l. l +ℚ a) h.times) (each_time_map P of_end (λ t p. inl p) f.times f.are) (each_map X of_end (λ l. l +ℚ a) later h.times h.are)) j k (short_lacks W g a b short) in
    let short_q = lacks_short W g a q is.low in
    let at_p : P q → (c d : ℚ) × IsShort W g P X u e c d =
    λ p. let (c, it) = start_moved W g P X u e a q f h at_u z i is.from is.to p short_q in (c, q, it) in
    elim is.of [
      | inl s ↦ absurd (never_at_once W g a q z short_q (sym s))
      | inr o ↦ elim o [
        | inl s ↦ at_p (subst P (sym s) at_e)
        | inr m ↦ elim m [
          | inl p ↦ at_p p
          | inr x ↦
              let e2 = from_start a q in
              let (c, it) = both_moved W g P X u e a (q -ℚ a) f at_u at_e z i (sub_nonneg a q is.from) (subst (λ t. t ≤ℚ e) e2 is.to) x (subst (λ t. FallsShort W g a t) e2 short_q) in
              (c, c +ℚ (q -ℚ a), it)
        ]
      ]
    ]
