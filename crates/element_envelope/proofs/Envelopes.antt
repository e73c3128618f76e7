-- The least of all pairs: of none, of one, of lists in two parts, and of pairs that start late.
use Rattle.std.specs.Prelude.{◌≡◌, ◌⊎◌, List, [], ◌∷◌, ◌++◌}
use Rattle.std.proofs.Common.{arith, sym, refl, subst, inl, inr}
use Rattle.rational.specs.Rational.{ℚ, ◌+ℚ◌, ◌≤ℚ◌, ◌<ℚ◌}
use Rattle.rational.specs.Extended.{Ext, ◌≤ₑ◌, min_ext}
use Rattle.rational.specs.Families.{either}
use Rattle.rational.specs.declared.Extended.TheVariants.{Inf}
use Rattle.rational.proofs.Linear.{with_atoms}
use Rattle.rational.proofs.Laws.{le_of_lt, le_refl}
use Rattle.rational.proofs.ExtendedOrder.{le_ext_refl}
use Rattle.rational.proofs.Bounds.{all_infinite, same_infimum, infimum_union}
use Rattle.upp_curve.specs.declared.affine_segment.element.Element.{Element}
use Rattle.upp_curve.specs.declared.affine_segment.element.Element.TheVariants.{Point, Open}
use Rattle.upp_curve.specs.declared.affine_segment.element.Joined.{Joined}
use Rattle.upp_curve.specs.affine_segment.Elements.{Covers, PairSplit, pair_sum, start_of, joined_value, IsConvolved}
use Rattle.element_envelope.specs.PieceElements.{Among}
use Rattle.element_envelope.specs.Envelopes.{ListSplit, list_sum, IsEnvelope, StartLate}
use Rattle.element_envelope.specs.ConvolutionLaws.{EnvelopeRules}
use Rattle.element_envelope.proofs.Members.{among_left, among_right, among_cases}

no_left : (xs : List Element) (t : ℚ) → IsEnvelope [] xs t Inf
no_left xs t = all_infinite (list_sum [] xs t) (λ s. absurd s.left_in)

no_right : (xs : List Element) (t : ℚ) → IsEnvelope xs [] t Inf
no_right xs t = all_infinite (list_sum xs [] t) (λ s. absurd s.right_in)

-- ---- one pair
same_sum : (a b l r : Element) (t : ℚ) → l ≡ a → r ≡ b → (s : PairSplit l r t) → (i : PairSplit a b t) × (pair_sum a b t i ≤ₑ pair_sum l r t s)
same_sum a b l r t p q =
    subst (λ x. (s : PairSplit x r t) → (i : PairSplit a b t) × (pair_sum a b t i ≤ₑ pair_sum x r t s)) (sym p)
    (subst (λ y. (s : PairSplit a y t) → (i : PairSplit a b t) × (pair_sum a b t i ≤ₑ pair_sum a y t s)) (sym q)
    (λ s. (s, le_ext_refl (pair_sum a b t s))))

only : (e d : Element) → Among e (d ∷ []) → e ≡ d
only e d (inl p) = p
only e d (inr p) = absurd p

one_pair : (a b : Element) (j : Joined) (t : ℚ) → IsConvolved a b j → IsEnvelope (a ∷ []) (b ∷ []) t (joined_value j t)
one_pair a b j t h =
    same_infimum (pair_sum a b t) (list_sum (a ∷ []) (b ∷ []) t) (joined_value j t)
    (λ s. (record { left = a; right = b; left_in = inl refl; right_in = inl refl; split = s }, le_ext_refl (pair_sum a b t s)))
    (λ s. same_sum a b s.left s.right t (only s.left a s.left_in) (only s.right b s.right_in) s.split)
    (h.value t)

-- ---- lists in two parts
left_parts : (xs ys zs : List Element) (t : ℚ) (v w : Ext) → IsEnvelope xs zs t v → IsEnvelope ys zs t w → IsEnvelope (xs ++ ys) zs t (min_ext v w)
left_parts xs ys zs t v w h k =
    same_infimum (either (list_sum xs zs t) (list_sum ys zs t)) (list_sum (xs ++ ys) zs t) (min_ext v w) down up
    (infimum_union (list_sum xs zs t) (list_sum ys zs t) v w h k)
  where
    down : (i : ListSplit xs zs t ⊎ ListSplit ys zs t) → (j : ListSplit (xs ++ ys) zs t) × (list_sum (xs ++ ys) zs t j ≤ₑ either (list_sum xs zs t) (list_sum ys zs t) i)
    down (inl s) = (
      record { left = s.left; right = s.right; left_in = among_left s.left xs ys s.left_in; right_in = s.right_in; split = s.split },
      le_ext_refl (pair_sum s.left s.right t s.split),
    )
    down (inr s) = (
      record { left = s.left; right = s.right; left_in = among_right s.left xs ys s.left_in; right_in = s.right_in; split = s.split },
      le_ext_refl (pair_sum s.left s.right t s.split),
    )

    up : (j : ListSplit (xs ++ ys) zs t) → (i : ListSplit xs zs t ⊎ ListSplit ys zs t) × (either (list_sum xs zs t) (list_sum ys zs t) i ≤ₑ list_sum (xs ++ ys) zs t j)
    up s = elim (among_cases s.left xs ys s.left_in) [
      | inl m ↦ (inl record { left = s.left; right = s.right; left_in = m; right_in = s.right_in; split = s.split }, le_ext_refl (pair_sum s.left s.right t s.split))
      | inr m ↦ (inr record { left = s.left; right = s.right; left_in = m; right_in = s.right_in; split = s.split }, le_ext_refl (pair_sum s.left s.right t s.split))
    ]

right_parts : (xs ys zs : List Element) (t : ℚ) (v w : Ext) → IsEnvelope xs ys t v → IsEnvelope xs zs t w → IsEnvelope xs (ys ++ zs) t (min_ext v w)
right_parts xs ys zs t v w h k =
    same_infimum (either (list_sum xs ys t) (list_sum xs zs t)) (list_sum xs (ys ++ zs) t) (min_ext v w) down up
    (infimum_union (list_sum xs ys t) (list_sum xs zs t) v w h k)
  where
    down : (i : ListSplit xs ys t ⊎ ListSplit xs zs t) → (j : ListSplit xs (ys ++ zs) t) × (list_sum xs (ys ++ zs) t j ≤ₑ either (list_sum xs ys t) (list_sum xs zs t) i)
    down (inl s) = (
      record { left = s.left; right = s.right; left_in = s.left_in; right_in = among_left s.right ys zs s.right_in; split = s.split },
      le_ext_refl (pair_sum s.left s.right t s.split),
    )
    down (inr s) = (
      record { left = s.left; right = s.right; left_in = s.left_in; right_in = among_right s.right ys zs s.right_in; split = s.split },
      le_ext_refl (pair_sum s.left s.right t s.split),
    )

    up : (j : ListSplit xs (ys ++ zs) t) → (i : ListSplit xs ys t ⊎ ListSplit xs zs t) × (either (list_sum xs ys t) (list_sum xs zs t) i ≤ₑ list_sum xs (ys ++ zs) t j)
    up s = elim (among_cases s.right ys zs s.right_in) [
      | inl m ↦ (inl record { left = s.left; right = s.right; left_in = s.left_in; right_in = m; split = s.split }, le_ext_refl (pair_sum s.left s.right t s.split))
      | inr m ↦ (inr record { left = s.left; right = s.right; left_in = s.left_in; right_in = m; split = s.split }, le_ext_refl (pair_sum s.left s.right t s.split))
    ]

-- ---- pairs that start late
-- an element is from its start on
pub from_start : (e : Element) (t : ℚ) → Covers e t → start_of e ≤ℚ t
from_start (Point x v) t h = subst (λ z. x ≤ℚ z) (sym h) (le_refl x)
from_start (Open from to line) t h = le_of_lt h.past

late_pairs : (xs ys : List Element) (end t : ℚ) → StartLate xs ys end → t <ℚ end → IsEnvelope xs ys t Inf
late_pairs xs ys end t h early = all_infinite (list_sum xs ys t) (λ s. absurd (none s))
  where
    plain : (a b s u : ℚ) → end ≤ℚ a +ℚ b → a ≤ℚ s → b ≤ℚ u → s +ℚ u ≡ t → ⊥
    plain a b s u l m n e = with_atoms (a ∷ b ∷ s ∷ u ∷ t ∷ end ∷ []) (λ c. omega (arith, c.le, c.lt, c.same))

    none : ListSplit xs ys t → ⊥
    none s =
        plain (start_of s.left) (start_of s.right) s.split.first s.split.second (h s.left s.right s.left_in s.right_in)
        (from_start s.left s.split.first s.split.first_in) (from_start s.right s.split.second s.split.second_in) s.split.whole

pub envelope_rules : EnvelopeRules
envelope_rules = record {
  none = λ xs t. (no_left xs t, no_right xs t);
  pair = one_pair;
  left = left_parts;
  right = right_parts;
  late = late_pairs;
}
