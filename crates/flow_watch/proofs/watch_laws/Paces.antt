-- Work goes on as a line wherever its pace does not change.
use Rattle.std.specs.Prelude.{◌≡◌, ◌≢◌, ◌⊎◌, pos, ◌&&◌, List, [], ◌∷◌}
use Rattle.std.proofs.Common.{arith, refl, sym, subst, ap, ◌∙◌, inl, inr}
use Rattle.std.proofs.lemmas.Bool.{and_from, and_left, and_right}
use Rattle.rational.specs.Rational.{ℚ, int, le_q, lt_q, ◌+ℚ◌, ◌-ℚ◌, ◌*ℚ◌, ◌/ℚ◌, inv_ℚ, ◌≤ℚ◌, ◌<ℚ◌}
use Rattle.rational.proofs.Laws.{le_refl, le_trans, le_or_lt, le_of_lt, lt_le_trans, le_lt_trans, lt_irrefl, lt_cases, antisym, div_mul, mul_comm, mul_assoc, mul_add, mul_zero, add_mul}
use Rattle.rational.proofs.Linear.{with_atoms, with2, with3, with4, with6}
use Rattle.rational.proofs.Over.{le_q_out, lt_q_out}
use Rattle.rational.proofs.MinMax.{le_q_not, lt_q_not}
use Rattle.run_laws.specs.Cards.{all, ServerStep, Arrives, Works, Leaves, Visits}
use Rattle.run_laws.specs.Servers.{Span, clip}
use Rattle.run_laws.specs.Counts.{when, works, worked}
use Rattle.run_laws.proofs.Clips.{IsSpan, clip_early, clip_late}
use Rattle.run_laws.proofs.Counts.{IsWork}
use Rattle.run_laws.proofs.Sums.{Each, when_true, when_false}
use Rattle.flow_watch.specs.watch_laws.Affine.{IsLineOn, NoneInside, EachTime, Among, IsPiecewise}
use Rattle.flow_watch.specs.watch_laws.Paces.{pace_of, goes_after, goes_before, pace_after, pace_before, IsPaceChange}

-- ---- one work
whole_span : (s : Span) → IsSpan s → s.bits *ℚ inv_ℚ (s.end -ℚ s.start) *ℚ (s.end -ℚ s.start) ≡ s.bits
unfolding ◌/ℚ◌
whole_span s g = div_mul s.bits (s.end -ℚ s.start) (λ e. let a = s.start in let b = s.end in let f = g.forward in with2 a b (λ c. omega (arith, c.le, c.lt, c.same)))

turned : (w d i : ℚ) → w *ℚ (d *ℚ i) ≡ w *ℚ i *ℚ d
turned w d i = ap (λ x. w *ℚ x) (mul_comm d i) ∙ sym (mul_assoc w i d)

-- within its span it goes on by its pace
clip_on : (s : Span) (t : ℚ) → IsSpan s → s.start ≤ℚ t → t ≤ℚ s.end → clip s t ≡ pace_of s.start s.end s.bits *ℚ (t -ℚ s.start)
unfolding clip ◌/ℚ◌
clip_on s t g h k = elim (le_or_lt t s.start) [
  | inl l ↦
      let e : t ≡ s.start = antisym (l, h) in
      let none : t -ℚ s.start ≡ int (pos 0) = let a = s.start in with2 t a (λ c. omega (arith, c.le, c.lt, c.same)) in
      rw (le_q_out _ _ l, none) (sym (mul_zero (s.bits *ℚ inv_ℚ (s.end -ℚ s.start))))
  | inr l ↦ elim (le_or_lt s.end t) [
    | inl m ↦
        let e : t ≡ s.end = antisym (k, m) in
        rw (le_q_not _ _ l, le_q_out _ _ m, e) (sym (whole_span s g))
    | inr m ↦
        rw (le_q_not _ _ l, le_q_not _ _ m) (turned s.bits (t -ℚ s.start) (inv_ℚ (s.end -ℚ s.start)))
  ]
]

-- a work of which neither end is inside
abbrev IsOut : ℚ → ℚ → ℚ → ℚ → Type 0
IsOut x y a b = (a ≤ℚ x ⊎ y ≤ℚ a) × (b ≤ℚ x ⊎ y ≤ℚ b)

record IsSteady (x y z v w p q : ℚ) : Type 0 where
  line : w ≡ v +ℚ p *ℚ (z -ℚ x)
  same : q ≡ p

still : (x y z v : ℚ) → IsSteady x y z v v (int (pos 0)) (int (pos 0))
still x y z v =
    let none : int (pos 0) *ℚ (z -ℚ x) ≡ int (pos 0) = mul_comm (int (pos 0)) (z -ℚ x) ∙ mul_zero (z -ℚ x) in
    record { line = with2 v (int (pos 0) *ℚ (z -ℚ x)) (λ c. omega (arith, c.le, c.lt, c.same)); same = refl }

moving : (x y z a p : ℚ) → IsSteady x y z (p *ℚ (x -ℚ a)) (p *ℚ (z -ℚ a)) p p
moving x y z a p =
    let e : z -ℚ a ≡ (x -ℚ a) +ℚ (z -ℚ x) = with3 x z a (λ c. omega (arith, c.le, c.lt, c.same)) in
    record { line = rw e (mul_add p (x -ℚ a) (z -ℚ x)); same = refl }

steady_work : (a b w x y z : ℚ) → IsSpan record { start = a; end = b; bits = w } → x <ℚ y → IsOut x y a b → x ≤ℚ z → z ≤ℚ y
    → IsSteady x y z (clip record { start = a; end = b; bits = w } x) (clip record { start = a; end = b; bits = w } z)
    (when (le_q a x && lt_q x b) (pace_of a b w)) (when (lt_q a y && le_q y b) (pace_of a b w))
steady_work a b w x y z g l out i j = elim out.0 [
  | inr k ↦
      rw (
        clip_early s x (le_trans (le_of_lt l) k),
        clip_early s z (le_trans j k),
        when_false _ (pace_of a b w) (and_left (le_q a x) (lt_q x b) (le_q_not _ _ (lt_le_trans l k))),
        when_false _ (pace_of a b w) (and_left (lt_q a y) (le_q y b) (lt_q_not _ _ k)),
      )
      (still x y z (int (pos 0)))
  | inl k ↦ elim out.1 [
    | inl m ↦
        rw (
          clip_late s x g.forward m,
          clip_late s z g.forward (le_trans m i),
          when_false _ (pace_of a b w) (and_right (le_q a x) (lt_q x b) (lt_q_not _ _ m)),
          when_false _ (pace_of a b w) (and_right (lt_q a y) (le_q y b) (le_q_not _ _ (le_lt_trans m l))),
        )
        (still x y z w)
    | inr m ↦
        rw (
          clip_on s x g k (le_trans (le_of_lt l) m),
          clip_on s z g (le_trans k i) (le_trans j m),
          when_true _ (pace_of a b w) (and_from (le_q a x) (lt_q x b) (le_q_out _ _ k) (lt_q_out _ _ (lt_le_trans l m))),
          when_true _ (pace_of a b w) (and_from (lt_q a y) (le_q y b) (lt_q_out _ _ (le_lt_trans k l)) (le_q_out _ _ m)),
        )
        (moving x y z a (pace_of a b w))
  ]
]
  where
    s : Span
    s = record { start = a; end = b; bits = w }

-- ---- all works
-- no work has an end inside
abbrev IsOutStep : ℚ → ℚ → ServerStep → Type 0
IsOutStep x y (Arrives c u) = Unit {0}
IsOutStep x y (Works c a b w) = IsOut x y a b
IsOutStep x y (Leaves c u) = Unit {0}
IsOutStep x y (Visits q u) = Unit {0}

steady_step : (x y z : ℚ) (s : ServerStep) → IsWork s → x <ℚ y → IsOutStep x y s → x ≤ℚ z → z ≤ℚ y
    → IsSteady x y z (works all x s) (works all z s) (goes_after x s) (goes_before y s)
steady_step x y z (Arrives c u) g l out i j = still x y z (int (pos 0))
steady_step x y z (Works c a b w) g l out i j =
    rw (when_true (all c) (clip record { start = a; end = b; bits = w } x) refl, when_true (all c) (clip record { start = a; end = b; bits = w } z) refl)
    (steady_work a b w x y z g l out i j)
steady_step x y z (Leaves c u) g l out i j = still x y z (int (pos 0))
steady_step x y z (Visits q u) g l out i j = still x y z (int (pos 0))

steady_sum : (x y z v w p q v2 w2 p2 q2 : ℚ) → IsSteady x y z v w p q → IsSteady x y z v2 w2 p2 q2
    → IsSteady x y z (v +ℚ v2) (w +ℚ w2) (p +ℚ p2) (q +ℚ q2)
steady_sum x y z v w p q v2 w2 p2 q2 h k =
    let e = h.line in
    let f = k.line in
    let i = h.same in
    let j = k.same in
    let m = add_mul p p2 (z -ℚ x) in
    record {
      line = with_atoms (v ∷ w ∷ v2 ∷ w2 ∷ (p *ℚ (z -ℚ x)) ∷ (p2 *ℚ (z -ℚ x)) ∷ ((p +ℚ p2) *ℚ (z -ℚ x)) ∷ []) (λ c. omega (arith, c.le, c.lt, c.same));
      same = with4 p q p2 q2 (λ c. omega (arith, c.le, c.lt, c.same));
    }

steady_all : (V : List ServerStep) (x y z : ℚ) → Each IsWork V → x <ℚ y → Each (IsOutStep x y) V → x ≤ℚ z → z ≤ℚ y
    → IsSteady x y z (worked all V x) (worked all V z) (pace_after V x) (pace_before V y)
steady_all [] x y z g l out i j = still x y z (int (pos 0))
steady_all (s ∷ V) x y z g l out i j =
    steady_sum x y z (works all x s) (works all z s) (goes_after x s) (goes_before y s) (worked all V x) (worked all V z) (pace_after V x) (pace_before V y)
    (steady_step x y z s g.0 l out.0 i j) (steady_all V x y z g.1 l out.1 i j)

-- ---- where the pace does not change
-- the starts and ends of works
abbrev pub ends : List ServerStep → List ℚ
ends [] = []
ends (Arrives c u ∷ V) = ends V
ends (Works c a b w ∷ V) = a ∷ b ∷ ends V
ends (Leaves c u ∷ V) = ends V
ends (Visits q u ∷ V) = ends V

-- inside there are ends of works only among these times
abbrev OnlyThese : ℚ → ℚ → List ℚ → List ℚ → Type 0
OnlyThese x y ls [] = Unit {0}
OnlyThese x y ls (t ∷ ts) = (t ≤ℚ x ⊎ y ≤ℚ t ⊎ Among t ls) × OnlyThese x y ls ts

record IsEven (V : List ServerStep) (x y : ℚ) : Type 0 where
  line : IsLineOn (worked all V) (pace_after V x) x y
  same : pace_before V y ≡ pace_after V x

none_left : (x y : ℚ) (V : List ServerStep) → OnlyThese x y [] (ends V) → Each (IsOutStep x y) V
none_left x y [] h = tt
none_left x y (Arrives c u ∷ V) h = (tt, none_left x y V h)
none_left x y (Works c a b w ∷ V) h = ((out h.0, out h.1.0), none_left x y V h.1.1)
  where
    out : {t : ℚ} → t ≤ℚ x ⊎ y ≤ℚ t ⊎ Among t [] → t ≤ℚ x ⊎ y ≤ℚ t
    out d = elim d [ inl k ↦ inl k | inr e ↦ elim e [ inl k ↦ inr k | inr k ↦ absurd k ] ]
none_left x y (Leaves c u ∷ V) h = (tt, none_left x y V h)
none_left x y (Visits q u ∷ V) h = (tt, none_left x y V h)

only_over : (x y x2 y2 : ℚ) (ls ms ts : List ℚ) → ((t : ℚ) → t ≤ℚ x ⊎ y ≤ℚ t ⊎ Among t ls → t ≤ℚ x2 ⊎ y2 ≤ℚ t ⊎ Among t ms)
    → OnlyThese x y ls ts → OnlyThese x2 y2 ms ts
only_over x y x2 y2 ls ms [] f h = tt
only_over x y x2 y2 ls ms (t ∷ ts) f h = (f t h.0, only_over x y x2 y2 ls ms ts f h.1)

-- the pace does not change at those of the times that are inside
abbrev NoChange : List ServerStep → ℚ → ℚ → List ℚ → Type 0
NoChange V x y ls = EachTime (λ l. x <ℚ l → l <ℚ y → pace_before V l ≡ pace_after V l) ls

no_change_in : (V : List ServerStep) (x y x2 y2 : ℚ) (ls : List ℚ) → x ≤ℚ x2 → y2 ≤ℚ y → NoChange V x y ls → NoChange V x2 y2 ls
no_change_in V x y x2 y2 [] i j h = tt
no_change_in V x y x2 y2 (l ∷ ls) i j h = ((λ m n. h.0 (le_lt_trans i m) (lt_le_trans n j)), no_change_in V x y x2 y2 ls i j h.1)

joined : (V : List ServerStep) (x l y : ℚ) → x <ℚ l → l <ℚ y → pace_before V l ≡ pace_after V l → IsEven V x l → IsEven V l y → IsEven V x y
joined V x l y i j e h k = record {
  line = λ z a b. elim (le_or_lt z l) [
    | inl m ↦ h.line z a m
    | inr m ↦ more (worked all V x) (worked all V l) (worked all V z) (pace_after V x) (pace_after V l) x l z (sym h.same ∙ e) (h.line l (le_of_lt i) (le_refl l)) (k.line z (le_of_lt m) b)
  ];
  same = k.same ∙ sym e ∙ h.same;
}
  where
    more : (u v w p q x l z : ℚ) → p ≡ q → v ≡ u +ℚ p *ℚ (l -ℚ x) → w ≡ v +ℚ q *ℚ (z -ℚ l) → w ≡ u +ℚ p *ℚ (z -ℚ x)
    more u v w p q x l z e f g =
        let f2 : v ≡ u +ℚ q *ℚ (l -ℚ x) = subst (λ r. v ≡ u +ℚ r *ℚ (l -ℚ x)) e f in
        let s : z -ℚ x ≡ (l -ℚ x) +ℚ (z -ℚ l) = with3 x l z (λ c. omega (arith, c.le, c.lt, c.same)) in
        let m : q *ℚ (z -ℚ x) ≡ q *ℚ (l -ℚ x) +ℚ q *ℚ (z -ℚ l) = ap (λ d. q *ℚ d) s ∙ mul_add q (l -ℚ x) (z -ℚ l) in
        subst (λ r. w ≡ u +ℚ r *ℚ (z -ℚ x)) (sym e) (with6 u v w (q *ℚ (l -ℚ x)) (q *ℚ (z -ℚ l)) (q *ℚ (z -ℚ x)) (λ c. omega (arith, c.le, c.lt, c.same)))

even : (V : List ServerStep) (ls : List ℚ) (x y : ℚ) → Each IsWork V → x <ℚ y → OnlyThese x y ls (ends V) → NoChange V x y ls → IsEven V x y
even V [] x y g l only none =
    let out = none_left x y V only in
    record {
      line = λ z i j. (steady_all V x y z g l out i j).line;
      same = (steady_all V x y x g l out (le_refl x) (le_of_lt l)).same;
    }
even V (m ∷ ls) x y g l only none = elim (le_or_lt m x) [
  | inl k ↦ even V ls x y g l (only_over x y x y (m ∷ ls) ls (ends V) (λ t. outside t (λ e. inl (subst (λ s. s ≤ℚ x) (sym e) k))) only) none.1
  | inr k ↦ elim (le_or_lt y m) [
    | inl n ↦ even V ls x y g l (only_over x y x y (m ∷ ls) ls (ends V) (λ t. outside t (λ e. inr (inl (subst (λ s. y ≤ℚ s) (sym e) n)))) only) none.1
    | inr n ↦
        joined V x m y k n (none.0 k n)
        (even V ls x m g k (only_over x y x m (m ∷ ls) ls (ends V) (λ t. lower t n) only) (no_change_in V x y x m ls (le_refl x) (le_of_lt n) none.1))
        (even V ls m y g n (only_over x y m y (m ∷ ls) ls (ends V) (λ t. upper t k) only) (no_change_in V x y m y ls (le_of_lt k) (le_refl y) none.1))
  ]
]
  where
    outside : (t : ℚ) → (t ≡ m → t ≤ℚ x ⊎ y ≤ℚ t ⊎ Among t ls) → t ≤ℚ x ⊎ y ≤ℚ t ⊎ Among t (m ∷ ls) → t ≤ℚ x ⊎ y ≤ℚ t ⊎ Among t ls
    outside t f d = elim d [ inl k ↦ inl k | inr e ↦ elim e [ inl k ↦ inr (inl k) | inr a ↦ elim a [ inl s ↦ f s | inr b ↦ inr (inr b) ] ] ]

    lower : (t : ℚ) → m <ℚ y → t ≤ℚ x ⊎ y ≤ℚ t ⊎ Among t (m ∷ ls) → t ≤ℚ x ⊎ m ≤ℚ t ⊎ Among t ls
    lower t n d = elim d [ inl k ↦ inl k | inr e ↦ elim e [ inl k ↦ inr (inl (le_trans (le_of_lt n) k)) | inr a ↦ elim a [ inl s ↦ inr (inl (subst (λ r. m ≤ℚ r) (sym s) (le_refl m))) | inr b ↦ inr (inr b) ] ] ]

    upper : (t : ℚ) → x <ℚ m → t ≤ℚ x ⊎ y ≤ℚ t ⊎ Among t (m ∷ ls) → t ≤ℚ m ⊎ y ≤ℚ t ⊎ Among t ls
    upper t k d = elim d [ inl h ↦ inl (le_trans h (le_of_lt k)) | inr e ↦ elim e [ inl h ↦ inr (inl h) | inr a ↦ elim a [ inl s ↦ inl (subst (λ r. r ≤ℚ m) (sym s) (le_refl m)) | inr b ↦ inr (inr b) ] ] ]

-- ---- the times at which it changes
same_or_not : (x y : ℚ) → (x ≡ y) ⊎ (x ≢ y)
same_or_not x y = elim (lt_cases x y) [
  | inl l ↦ inr (λ e. lt_irrefl x (subst (λ z. x <ℚ z) (sym e) l))
  | inr d ↦ elim d [ inl e ↦ inl e | inr l ↦ inr (λ e. lt_irrefl y (subst (λ z. y <ℚ z) e l)) ]
]

record Changes (V : List ServerStep) (ls : List ℚ) : Type 0 where
  times : List ℚ
  are : EachTime (IsPaceChange V) times
  others : (x y : ℚ) → NoneInside x y times → NoChange V x y ls

changes : (V : List ServerStep) (ls : List ℚ) → Changes V ls
changes V [] = record { times = []; are = tt; others = λ x y n. tt }
changes V (l ∷ ls) =
    let r = changes V ls in
    elim (same_or_not (pace_before V l) (pace_after V l)) [
      | inl e ↦ record { times = r.times; are = r.are; others = λ x y n. ((λ i j. e), r.others x y n) }
      | inr d ↦ record {
        times = l ∷ r.times;
        are = (d, r.are);
        others = λ x y n. ((λ i j. absurd (elim n.0 [ inl k ↦ lt_irrefl x (lt_le_trans i k) | inr k ↦ lt_irrefl l (lt_le_trans j k) ])), r.others x y n.1);
      }
    ]

all_these : (ls ms : List ℚ) → ((t : ℚ) → Among t ls → Among t ms) → (x y : ℚ) → OnlyThese x y ms ls
all_these [] ms f x y = tt
all_these (l ∷ ls) ms f x y = (inr (inr (f l (inl refl))), all_these ls ms (λ t a. f t (inr a)) x y)

-- work is affine but where its pace changes
pub work_pieces : (V : List ServerStep) (lo hi : ℚ) → Each IsWork V → IsPiecewise (worked all V) (IsPaceChange V) lo hi
work_pieces V lo hi g =
    let r = changes V (ends V) in
    record {
      times = r.times;
      are = r.are;
      affine = λ x y i j k none. elim (le_or_lt y x) [
        | inl l ↦ (int (pos 0), at_once (worked all V) x y l)
        | inr l ↦ (pace_after V x, (even V (ends V) x y g l (all_these (ends V) (ends V) (λ t a. a) x y) (r.others x y none)).line)
      ];
    }
  where
    at_once : (f : ℚ → ℚ) (x y : ℚ) → y ≤ℚ x → IsLineOn f (int (pos 0)) x y
    at_once f x y l z i j =
        let e : z ≡ x = antisym (le_trans j l, i) in
        let none : int (pos 0) *ℚ (z -ℚ x) ≡ int (pos 0) = mul_comm (int (pos 0)) (z -ℚ x) ∙ mul_zero (z -ℚ x) in
        let same : f z ≡ f x = ap f e in
        with3 (f x) (f z) (int (pos 0) *ℚ (z -ℚ x)) (λ c. omega (arith, c.le, c.lt, c.same))
