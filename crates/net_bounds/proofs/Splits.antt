-- A convolution of services, one after the other, is at most the sum of their values over each split of its time.
use Rattle.std.specs.Prelude.{◌≡◌, ℕ, zero, suc, List, [], ◌∷◌, ◌++◌, length}
use Rattle.std.proofs.Common.{arith, sym, ap, ◌∙◌, refl, subst}
use Rattle.rational.specs.Rational.{ℚ, ◌+ℚ◌, ◌≤ℚ◌}
use Rattle.rational.specs.Extended.{Ext, ◌≤ₑ◌, ◌+ₑ◌}
use Rattle.rational.proofs.ExtendedOrder.{le_ext_trans, le_ext_refl, same_le_ext, add_le_ext, add_ext_assoc, add_zero_ext, zero_add_ext}
use Rattle.rational.proofs.Laws.{add_zero}
use Rattle.min_plus.specs.Functions.{zero_q}
use Rattle.min_plus.specs.Convolution.{Split, AllNonneg, sum_of}
use Rattle.net_laws.specs.Paths.{IsWithinSplits, sum_of_values}
use Rattle.min_plus.proofs.TimeSums.{nonneg_total, sum_more}

-- ---- the last of some times
record EndsWith (n : ℕ) (xs : List ℚ) : Type 0 where
  front : List ℚ
  last : ℚ
  is : xs ≡ front ++ last ∷ []
  long : length front ≡ n

ends_with : (n : ℕ) (xs : List ℚ) → length xs ≡ suc n → EndsWith n xs
ends_with n [] e = absurd (omega (arith, e))
ends_with zero (x ∷ []) e = record { front = []; last = x; is = refl; long = refl }
ends_with zero (x ∷ y ∷ xs) e = absurd (omega (arith, e))
ends_with (suc n) (x ∷ xs) e =
    let rest = ends_with n xs (omega (arith, e)) in
    record {
      front = x ∷ rest.front;
      last = rest.last;
      is = ap (λ (ys : List ℚ). x ∷ ys) rest.is;
      long = ap suc
          rest.long;
    }

nonneg_front : (ys : List ℚ) (y : ℚ) → AllNonneg (ys ++ y ∷ []) → AllNonneg ys × (zero_q ≤ℚ y)
nonneg_front [] y h = (tt, h.0)
nonneg_front (x ∷ ys) y h = let rest = nonneg_front ys y h.1 in ((h.0, rest.0), rest.1)

-- the values at all of them
values_front : (fs : List (ℚ → Ext)) (g : ℚ → Ext) (ys : List ℚ) (y : ℚ) → length ys ≡ length fs
    → sum_of_values (fs ++ g ∷ []) (ys ++ y ∷ []) ≡ sum_of_values fs ys +ₑ g y
values_front [] g [] y e = add_zero_ext (g y) ∙ sym (zero_add_ext (g y))
values_front [] g (x ∷ ys) y e = absurd (omega (arith, e))
values_front (f ∷ fs) g [] y e = absurd (omega (arith, e))
values_front (f ∷ fs) g (x ∷ ys) y e =
    ap (λ (z : Ext). f x +ₑ z) (values_front fs g ys y (omega (arith, e))) ∙ sym
    (add_ext_assoc (f x) (sum_of_values fs ys) (g y))

-- ---- one service, and one more
pub one_split : (f h : ℚ → Ext) → ((t : ℚ) → zero_q ≤ℚ t → h t ≡ f t) → IsWithinSplits h (f ∷ [])
one_split f h same [] all e = absurd (omega (arith, e))
one_split f h same (x ∷ y ∷ xs) all e = absurd (omega (arith, e))
one_split f h same (x ∷ []) all e =
    let whole : x +ℚ zero_q ≡ x = add_zero x in
    same_le_ext (ap h whole ∙ same x all.0 ∙ sym (add_zero_ext (f x)))

front_long : (fs : List (ℚ → Ext)) (g : ℚ → Ext) → length (fs ++ g ∷ []) ≡ suc (length fs)
front_long [] g = refl
front_long (f ∷ fs) g = ap suc (front_long fs g)

pub more_split : (f g h : ℚ → Ext) (fs : List (ℚ → Ext)) → IsWithinSplits f fs
    → ((t : ℚ) → zero_q ≤ℚ t → (u : Split t) → h t ≤ₑ f u.first +ₑ g u.second) → IsWithinSplits h (fs ++ g ∷ [])
more_split f g h fs within is xs all e =
    let end = ends_with (length fs) xs (e ∙ front_long fs g) in
    let ys = end.front in
    let y = end.last in
    let parts = nonneg_front ys y (subst AllNonneg end.is all) in
    let low : zero_q ≤ℚ sum_of xs = nonneg_total xs all in
    let whole : sum_of ys +ℚ y ≡ sum_of xs = sym (ap sum_of end.is ∙ sum_more ys y) in
    let split = is (sum_of xs) low
    record {
      first = sum_of ys;
      second = y;
      first_nonneg = nonneg_total ys parts.0;
      second_nonneg = parts.1;
      whole = whole;
    } in
    let values = ap (sum_of_values (fs ++ g ∷ [])) end.is ∙ values_front fs g ys y end.long in
    le_ext_trans (h (sum_of xs)) (f (sum_of ys) +ₑ g y) (sum_of_values (fs ++ g ∷ []) xs) split
    (le_ext_trans (f (sum_of ys) +ₑ g y) (sum_of_values fs ys +ₑ g y) (sum_of_values (fs ++ g ∷ []) xs)
    (add_le_ext (f (sum_of ys)) (sum_of_values fs ys) (g y) (g y) (within ys parts.0 end.long) (le_ext_refl (g y)))
    (same_le_ext (sym values)))
