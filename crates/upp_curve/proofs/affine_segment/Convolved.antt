-- What two elements make is their convolution: points, a moved segment, two segments of one slope, and of different slopes.
use Rattle.std.specs.Prelude.{◌≡◌, ◌⊎◌, Some, Result, Ok, Err, IfOk}
use Rattle.std.proofs.Common.{arith, sym, ap, ap₂, ◌∙◌, refl, subst, inl, inr, true≢false}
use Rattle.rational.specs.Rational.{ℚ, ◌+ℚ◌, ◌-ℚ◌, ◌≤ℚ◌, ◌<ℚ◌}
use Rattle.rational.specs.Extended.{Ext, ◌<ₑ◌, ◌+ₑ◌}
use Rattle.rational.specs.declared.Extended.TheVariants.{Fin, Inf}
use Rattle.rational.specs.Bounds.{IsInfimum}
use Rattle.rational.proofs.Linear.{with2, with3, with4}
use Rattle.rational.proofs.Laws.{add_comm, le_of_lt, lt_cases}
use Rattle.rational.proofs.ExtendedOrder.{same_le_ext}
use Rattle.rational.proofs.Bounds.{same_infimum}
use Rattle.upp_curve.specs.declared.affine_segment.line.Line.{Line}
use Rattle.upp_curve.specs.declared.affine_segment.element.Element.{Element}
use Rattle.upp_curve.specs.declared.affine_segment.element.Element.TheVariants.{Point, Open}
use Rattle.upp_curve.specs.declared.affine_segment.element.Joined.{Joined}
use Rattle.upp_curve.specs.affine_segment.Values.{line_at}
use Rattle.upp_curve.specs.affine_segment.Cuts.{IsWithin}
use Rattle.upp_curve.specs.affine_segment.Elements.{level, PairSplit, pair_sum, joined_value, Bends, IsConvolved}
use Rattle.upp_curve.specs.affine_segment.Segments.{IsThrough}
use Rattle.upp_curve.specs.affine_segment.MadeParts.{alone_part}
use Rattle.upp_curve.proofs.affine_segment.ElementValues.{read_joined, read_alone}
use Rattle.upp_curve.proofs.affine_segment.Splits.{one_value, hi_of, split_past, split_before, segment_infimum, hi_short, hi_full, moved_line, parallel_sum}

-- ---- two points
pub points_convolved : (x v y u z w : ℚ) → z ≡ x +ℚ y → w ≡ v +ℚ u → IsConvolved (Point x v) (Point y u) (alone_part (Point z w))
points_convolved x v y u z w e f = record {
  value = λ t.
      read_alone (pair_sum (Point x v) (Point y u) t) (Point z w) t
      (λ h.
      subst (λ q. IsInfimum (pair_sum (Point x v) (Point y u) t) (Fin q)) (sym f)
      (one_value (pair_sum (Point x v) (Point y u) t) (v +ℚ u) record { first = x; second = y; first_in = refl; second_in = refl; whole = sym (h ∙ e) } (λ s. refl)))
      (λ s. sym s.whole ∙ ap₂ (λ (p q : ℚ). p +ℚ q) s.first_in s.second_in ∙ sym e);
  start = e;
  adjoined = tt;
  bend = (λ h. absurd (true≢false (sym h)), λ h. absurd h);
}

-- ---- a segment moved by a point
within_moved : (x from : ℚ) (to : Ext) (t : ℚ) → IsWithin (x +ℚ from) (Fin x +ₑ to) t → IsWithin from to (t -ℚ x)
within_moved x from Inf t w = record { past = let p = w.past in with3 x from t (λ c. omega (arith, c.le, c.lt, c.same)); before = tt }
within_moved x from (Fin e) t w = record {
  past = let p = w.past in with3 x from t (λ c. omega (arith, c.le, c.lt, c.same));
  before = let p = w.before in with3 x e t (λ c. omega (arith, c.le, c.lt, c.same));
}

moved_within : (x from : ℚ) (to : Ext) (t s : ℚ) → IsWithin from to s → x +ℚ s ≡ t → IsWithin (x +ℚ from) (Fin x +ₑ to) t
moved_within x from Inf t s w e = record { past = let p = w.past in with4 x from t s (λ c. omega (arith, c.le, c.lt, c.same)); before = tt }
moved_within x from (Fin b) t s w e = record {
  past = let p = w.past in with4 x from t s (λ c. omega (arith, c.le, c.lt, c.same));
  before = let p = w.before in with4 x b t s (λ c. omega (arith, c.le, c.lt, c.same));
}

moved_proper : (x from : ℚ) (to : Ext) → Fin from <ₑ to → Fin (x +ℚ from) <ₑ Fin x +ₑ to
moved_proper x from Inf h = tt
moved_proper x from (Fin e) h = with3 x from e (λ c. omega (arith, c.le, c.lt, c.same))

moved_here : (x v from : ℚ) (to : Ext) (line n : Line) → Fin from <ₑ to
    → IsThrough line.slope (x +ℚ from) (v +ℚ line_at line from) n
    → IsConvolved (Point x v) (Open from to line) (alone_part (Open (x +ℚ from) (Fin x +ₑ to) n))
moved_here x v from to line n proper through = record {
  value = λ t.
      read_alone (pair_sum (Point x v) (Open from to line) t) (Open (x +ℚ from) (Fin x +ₑ to) n) t
      (λ w.
      subst (λ q. IsInfimum (pair_sum (Point x v) (Open from to line) t) (Fin q)) (risen t)
      (one_value (pair_sum (Point x v) (Open from to line) t) (v +ℚ line_at line (t -ℚ x))
      record { first = x; second = t -ℚ x; first_in = refl; second_in = within_moved x from to t w; whole = with2 x t (λ c. omega (arith, c.le, c.lt, c.same)) }
      (λ s. ap (λ q. Fin (v +ℚ line_at line q)) (rest t s.first s.second s.first_in s.whole))))
      (λ s. moved_within x from to t s.second s.second_in (ap (λ q. q +ℚ s.second) (sym s.first_in) ∙ s.whole));
  start = refl;
  adjoined = moved_proper x from to proper;
  bend = (λ h. absurd (true≢false (sym h)), λ h. absurd h);
}
  where
    rest : (t a b : ℚ) → a ≡ x → a +ℚ b ≡ t → b ≡ t -ℚ x
    rest t a b e f = with4 t a b x (λ c. omega (arith, c.le, c.lt, c.same))

    risen : (t : ℚ) → v +ℚ line_at line (t -ℚ x) ≡ line_at n t
    risen t =
        add_comm v (line_at line (t -ℚ x))
        ∙ sym (moved_line line n from x v t through.slope (ap (line_at n) (add_comm from x) ∙ through.value ∙ add_comm v (line_at line from)))

pub moved_convolved : (x v from : ℚ) (to : Ext) (line : Line) (at start after : ℚ) (end : Ext) (n : Line) → Fin from <ₑ to
    → at ≡ x +ℚ from → end ≡ Fin x +ₑ to → start ≡ line_at line from → after ≡ v +ℚ start → IsThrough line.slope at after n
    → IsConvolved (Point x v) (Open from to line) (alone_part (Open at end n))
moved_convolved x v from to line at start after end n proper e f g h through =
    subst (λ a. IsConvolved (Point x v) (Open from to line) (alone_part (Open a end n))) (sym e)
    (subst (λ z. IsConvolved (Point x v) (Open from to line) (alone_part (Open (x +ℚ from) z n))) (sym f)
    (moved_here x v from to line n proper record { slope = through.slope; value = ap (line_at n) (sym e) ∙ through.value ∙ h ∙ ap (λ q. v +ℚ q) g }))

-- ---- two segments
ends_proper : (f : ℚ) (to : Ext) (g : ℚ) (end : Ext) → Fin f <ₑ to → Fin g <ₑ end → Fin (f +ℚ g) <ₑ to +ₑ end
ends_proper f Inf g end p q = tt
ends_proper f (Fin a) g Inf p q = tt
ends_proper f (Fin a) g (Fin b) p q = with4 f a g b (λ c. omega (arith, c.le, c.lt, c.same))

pub back : (t g : ℚ) → t -ℚ (t -ℚ g) ≡ g
back t g = with2 t g (λ c. omega (arith, c.le, c.lt, c.same))

-- where the second stays at its start
at_start : (l m n : Line) (f g t hi : ℚ) → hi ≡ t -ℚ g → n.slope ≡ l.slope → line_at n (f +ℚ g) ≡ line_at l f +ℚ line_at m g
    → line_at l hi +ℚ line_at m (t -ℚ hi) ≡ line_at n t
at_start l m n f g t hi e s v =
    ap (λ z. line_at l z +ℚ line_at m (t -ℚ z)) e ∙ ap (λ z. line_at l (t -ℚ g) +ℚ line_at m z) (back t g)
    ∙ sym (moved_line l n f g (line_at m g) t s v)

-- of one slope
pub straight_convolved : (f : ℚ) (to : Ext) (l : Line) (g : ℚ) (end : Ext) (m n : Line) (at : ℚ) (until : Ext)
    → Fin f <ₑ to → Fin g <ₑ end → l.slope ≡ m.slope → at ≡ f +ℚ g → until ≡ to +ₑ end → IsThrough l.slope at (line_at l f +ℚ line_at m g) n
    → IsConvolved (Open f to l) (Open g end m) (alone_part (Open at until n))
straight_convolved f to l g end m n at until p q same e u through =
    subst (λ a. IsConvolved (Open f to l) (Open g end m) (alone_part (Open a until n))) (sym e)
    (subst (λ z. IsConvolved (Open f to l) (Open g end m) (alone_part (Open (f +ℚ g) z n))) (sym u) record {
      value = λ t.
          read_alone (pair_sum (Open f to l) (Open g end m) t) (Open (f +ℚ g) (to +ₑ end) n) t
          (λ w.
          subst (λ q. IsInfimum (pair_sum (Open f to l) (Open g end m) t) (Fin q))
          (parallel_sum l m t (hi_of g to t) (t -ℚ g) same ∙ at_start l m n f g t (t -ℚ g) refl through.slope (ap (line_at n) (sym e) ∙ through.value))
          (segment_infimum f to l g end m t p q (same_le l.slope m.slope same) w.past w.before))
          (λ s. record { past = split_past f to l g end m t s; before = split_before f to l g end m t s });
      start = refl;
      adjoined = ends_proper f to g end p q;
      bend = (λ h. absurd (true≢false (sym h)), λ h. absurd (not_bent h));
    })
  where
    same_le : (x y : ℚ) → x ≡ y → x ≤ℚ y
    same_le x y e = with2 x y (λ c. omega (arith, c.le, c.lt, c.same))

    differ : (x y : ℚ) → x ≡ y → (x <ℚ y) ⊎ (y <ℚ x) → ⊥
    differ x y e (inl h) = with2 x y (λ c. omega (arith, c.le, c.lt, c.same))
    differ x y e (inr h) = with2 x y (λ c. omega (arith, c.le, c.lt, c.same))

    not_bent : Bends (Open f to l) (Open g end m) → ⊥
    not_bent (inl h) = differ l.slope m.slope same (inl h.0)
    not_bent (inr h) = differ l.slope m.slope same (inr h.0)

-- of different slopes, the first without an end
pub endless_convolved : (f : ℚ) (l : Line) (g : ℚ) (end : Ext) (m n : Line) (at : ℚ)
    → Fin g <ₑ end → l.slope <ℚ m.slope → at ≡ f +ℚ g → IsThrough l.slope at (line_at l f +ℚ line_at m g) n
    → IsConvolved (Open f Inf l) (Open g end m) (alone_part (Open at Inf n))
endless_convolved f l g end m n at q less e through =
    subst (λ a. IsConvolved (Open f Inf l) (Open g end m) (alone_part (Open a Inf n))) (sym e) record {
      value = λ t.
          read_alone (pair_sum (Open f Inf l) (Open g end m) t) (Open (f +ℚ g) Inf n) t
          (λ w.
          subst (λ q. IsInfimum (pair_sum (Open f Inf l) (Open g end m) t) (Fin q))
          (at_start l m n f g t (hi_of g Inf t) (hi_short g Inf t tt) through.slope (ap (line_at n) (sym e) ∙ through.value))
          (segment_infimum f Inf l g end m t tt q (le_of_lt less) w.past tt))
          (λ s. record { past = split_past f Inf l g end m t s; before = tt });
      start = refl;
      adjoined = tt;
      bend = (λ h. absurd (true≢false (sym h)), λ h. absurd (not_bent h));
    }
  where
    other : (x y : ℚ) → x <ℚ y → y <ℚ x → ⊥
    other x y h k = with2 x y (λ c. omega (arith, c.le, c.lt, c.same))

    not_bent : Bends (Open f Inf l) (Open g end m) → ⊥
    not_bent (inl h) = h.1
    not_bent (inr h) = other l.slope m.slope less h.0

-- of different slopes, the first with an end
-- where the first is at its end
at_end : (l m n : Line) (e g t hi : ℚ) → hi ≡ e → n.slope ≡ m.slope → line_at n (e +ℚ g) ≡ line_at l e +ℚ line_at m g
    → line_at l hi +ℚ line_at m (t -ℚ hi) ≡ line_at n t
at_end l m n e g t hi h s v =
    ap (λ z. line_at l z +ℚ line_at m (t -ℚ z)) h ∙ add_comm (line_at l e) (line_at m (t -ℚ e))
    ∙ sym (moved_line m n g e (line_at l e) t s (ap (line_at n) (add_comm g e) ∙ v ∙ add_comm (line_at l e) (line_at m g)))

-- past the first's end and the second's start
before_turn : (e g t : ℚ) (end : Ext) → Fin g <ₑ end → t ≤ℚ e +ℚ g → Fin t <ₑ Fin e +ₑ end
before_turn e g t Inf h k = tt
before_turn e g t (Fin d) h k = with4 e g t d (λ c. omega (arith, c.le, c.lt, c.same))

-- the parts that they make
abbrev bent_parts : ℚ → ℚ → Line → ℚ → Ext → Line → Line → Line → Joined
bent_parts f e l g end m n k = record {
  first = Open (f +ℚ g) (Fin (e +ℚ g)) n;
  join = Some (Point (e +ℚ g) (line_at l e +ℚ line_at m g));
  second = Some (Open (e +ℚ g) (Fin e +ₑ end) k);
}

bent_here : (f e : ℚ) (l : Line) (g : ℚ) (end : Ext) (m n k : Line)
    → f <ℚ e → Fin g <ₑ end → l.slope <ℚ m.slope
    → IsThrough l.slope (f +ℚ g) (line_at l f +ℚ line_at m g) n → IsThrough m.slope (e +ℚ g) (line_at l e +ℚ line_at m g) k
    → IsConvolved (Open f (Fin e) l) (Open g end m) (bent_parts f e l g end m n k)
bent_here f e l g end m n k p q less start turn = record {
  value = λ t.
      read_joined (pair_sum (Open f (Fin e) l) (Open g end m) t) (bent_parts f e l g end m n k) t
      (λ w. reach t (line_at n t) w.past (before_turn e g t end q (le_of_lt w.before)) (at_first t (short t w.before)))
      (λ h. reach t (line_at l e +ℚ line_at m g) (past_turn t (same_le h)) (before_turn e g t end q (le_same h)) (at_second t (same_le h) ∙ ap (line_at k) h ∙ turn.value))
      (λ w. reach t (line_at k t) (past_turn t (le_of_lt w.past)) w.before (at_second t (le_of_lt w.past)))
      (λ s. some t (split_past f (Fin e) l g end m t s) (split_before f (Fin e) l g end m t s));
  start = refl;
  adjoined = (refl, refl, with3 f e g (λ c. omega (arith, c.le, c.lt, c.same)), moved_proper e g end q);
  bend = (λ h. inl (less, tt), λ h. refl);
}
  where
    at_first : (t : ℚ) → t -ℚ g <ℚ e → line_at l (hi_of g (Fin e) t) +ℚ line_at m (t -ℚ hi_of g (Fin e) t) ≡ line_at n t
    at_first t h = at_start l m n f g t (hi_of g (Fin e) t) (hi_short g (Fin e) t h) start.slope start.value

    at_second : (t : ℚ) → e +ℚ g ≤ℚ t → line_at l (hi_of g (Fin e) t) +ℚ line_at m (t -ℚ hi_of g (Fin e) t) ≡ line_at k t
    at_second t h = at_end l m k e g t (hi_of g (Fin e) t) (hi_full g e t h) turn.slope turn.value

    short : (t : ℚ) → t <ℚ e +ℚ g → t -ℚ g <ℚ e
    short t h = with3 t e g (λ c. omega (arith, c.le, c.lt, c.same))

    same_le : {x y : ℚ} → x ≡ y → y ≤ℚ x
    same_le {x} {y} h = with2 x y (λ c. omega (arith, c.le, c.lt, c.same))

    le_same : {x y : ℚ} → x ≡ y → x ≤ℚ y
    le_same {x} {y} h = with2 x y (λ c. omega (arith, c.le, c.lt, c.same))

    past_turn : (t : ℚ) → e +ℚ g ≤ℚ t → f +ℚ g <ℚ t
    past_turn t h = with4 f e g t (λ c. omega (arith, c.le, c.lt, c.same))

    reach : (t v : ℚ) → f +ℚ g <ℚ t → Fin t <ₑ Fin e +ₑ end → line_at l (hi_of g (Fin e) t) +ℚ line_at m (t -ℚ hi_of g (Fin e) t) ≡ v
        → IsInfimum (pair_sum (Open f (Fin e) l) (Open g end m) t) (Fin v)
    reach t v h u is =
        subst (λ z. IsInfimum (pair_sum (Open f (Fin e) l) (Open g end m) t) (Fin z)) is (segment_infimum f (Fin e) l g end m t p q (le_of_lt less) h u)

    some : (t : ℚ) → f +ℚ g <ℚ t → Fin t <ₑ Fin e +ₑ end
        → IsWithin (f +ℚ g) (Fin (e +ℚ g)) t ⊎ ((t ≡ e +ℚ g) ⊎ IsWithin (e +ℚ g) (Fin e +ₑ end) t)
    some t h u = elim (lt_cases t (e +ℚ g)) [
      | inl x ↦ inl record { past = h; before = x }
      | inr r ↦ elim r [ inl x ↦ inr (inl x) | inr x ↦ inr (inr record { past = x; before = u }) ]
    ]

pub bent_convolved : (f e : ℚ) (l : Line) (g : ℚ) (end : Ext) (m n k : Line) (at turn v : ℚ) (until : Ext)
    → f <ℚ e → Fin g <ₑ end → l.slope <ℚ m.slope → at ≡ f +ℚ g → turn ≡ e +ℚ g → v ≡ line_at l e +ℚ line_at m g → until ≡ Fin e +ₑ end
    → IsThrough l.slope at (line_at l f +ℚ line_at m g) n → IsThrough m.slope turn v k
    → IsConvolved (Open f (Fin e) l) (Open g end m) record { first = Open at (Fin turn) n; join = Some (Point turn v); second = Some (Open turn until k) }
bent_convolved f e l g end m n k at turn v until p q less i j r u start next =
    rw (i, j, r, u)
    (bent_here f e l g end m n k p q less record { slope = start.slope; value = ap (line_at n) (sym i) ∙ start.value }
    record { slope = next.slope; value = ap (line_at k) (sym j) ∙ next.value ∙ r })

-- ---- the elements the other way round
abbrev turned_split : (a b : Element) (t : ℚ) → PairSplit a b t → PairSplit b a t
turned_split a b t s =
    record { first = s.second; second = s.first; first_in = s.second_in; second_in = s.first_in; whole = add_comm s.second s.first ∙ s.whole }

turned_bend : (a b : Element) → Bends a b → Bends b a
turned_bend (Point x v) b h = absurd h
turned_bend (Open f to l) (Point x v) h = absurd h
turned_bend (Open f to l) (Open g end m) (inl h) = inr h
turned_bend (Open f to l) (Open g end m) (inr h) = inl h

pub turned_convolved : (a b : Element) (j : Joined) → IsConvolved a b j → IsConvolved b a j
turned_convolved a b j h = record {
  value = λ t.
      same_infimum (pair_sum a b t) (pair_sum b a t) (joined_value j t)
      (λ s. (turned_split a b t s, same_le_ext (ap Fin (add_comm (level b s.second) (level a s.first)))))
      (λ s. (turned_split b a t s, same_le_ext (ap Fin (add_comm (level a s.second) (level b s.first)))))
      (h.value t);
  start = h.start ∙ add_comm _ _;
  adjoined = h.adjoined;
  bend = (λ x. turned_bend a b (h.bend.0 x), λ x. h.bend.1 (turned_bend b a x));
}

pub turned_ok : {E : Type 0} (a b : Element) (r : Result Joined E) → IfOk r (IsConvolved a b) → IfOk r (IsConvolved b a)
turned_ok a b (Ok j) h = turned_convolved a b j h
turned_ok a b (Err e) h = h
