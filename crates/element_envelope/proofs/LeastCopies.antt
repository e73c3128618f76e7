-- The least of copies: of none, of one, and of starts in two parts.
use Rattle.std.specs.Prelude.{◌≡◌, ◌⊎◌, List, [], ◌∷◌, ◌++◌}
use Rattle.std.proofs.Common.{sym, ap, refl, subst, inl, inr}
use Rattle.rational.specs.Rational.{ℚ, ◌-ℚ◌, ◌≤ℚ◌, ◌<ℚ◌}
use Rattle.rational.specs.Extended.{Ext, ◌≤ₑ◌, ◌+ₑ◌, min_ext}
use Rattle.rational.specs.Families.{either}
use Rattle.rational.specs.declared.Extended.TheVariants.{Inf}
use Rattle.rational.proofs.Laws.{lt_irrefl, lt_le_trans}
use Rattle.rational.proofs.ExtendedOrder.{le_ext_refl, same_le_ext}
use Rattle.rational.proofs.Bounds.{all_infinite, least_member, same_infimum, infimum_union}
use Rattle.upp_curve.specs.declared.affine_segment.line.Piece.{Piece}
use Rattle.upp_curve.specs.affine_segment.Reading.{read}
use Rattle.element_envelope.specs.Copies.{IsPieceOf, StartSplit, start_sum, IsLeastCopy, CopyRules}

-- ---- lists
of_left : (p : Piece) (ps qs : List Piece) → IsPieceOf p ps → IsPieceOf p (ps ++ qs)
of_left p [] qs h = absurd h
of_left p (q ∷ ps) qs (inl e) = inl e
of_left p (q ∷ ps) qs (inr k) = inr (of_left p ps qs k)

of_right : (p : Piece) (ps qs : List Piece) → IsPieceOf p qs → IsPieceOf p (ps ++ qs)
of_right p [] qs h = h
of_right p (q ∷ ps) qs h = inr (of_right p ps qs h)

of_cases : (p : Piece) (ps qs : List Piece) → IsPieceOf p (ps ++ qs) → IsPieceOf p ps ⊎ IsPieceOf p qs
of_cases p [] qs h = inr h
of_cases p (q ∷ ps) qs (inl e) = inl (inl e)
of_cases p (q ∷ ps) qs (inr k) = elim (of_cases p ps qs k) [ inl m ↦ inl (inr m) | inr m ↦ inr m ]

only : (q p : Piece) → IsPieceOf q (p ∷ []) → q ≡ p
only q p (inl e) = e
only q p (inr k) = absurd k

-- ---- the least
no_start : (g : List Piece) (t : ℚ) → IsLeastCopy [] g t Inf
no_start g t = all_infinite (start_sum [] g t) (λ s. absurd s.among)

late_start : (p : Piece) (g : List Piece) (t : ℚ) → t <ℚ p.x → IsLeastCopy (p ∷ []) g t Inf
late_start p g t h =
    all_infinite (start_sum (p ∷ []) g t) (λ s. absurd (lt_irrefl t (le_then s.piece s.late (only s.piece p s.among))))
  where
    le_then : (q : Piece) → q.x ≤ℚ t → q ≡ p → t <ℚ t
    le_then q k e = lt_le_trans h (subst (λ z. z.x ≤ℚ t) e k)

one_start : (p : Piece) (g : List Piece) (t : ℚ) → p.x ≤ℚ t → IsLeastCopy (p ∷ []) g t (p.at +ₑ read g (t -ℚ p.x))
one_start p g t h =
    least_member (start_sum (p ∷ []) g t) record { piece = p; among = inl refl; late = h }
    (λ s. same_le_ext (ap (λ z. z.at +ₑ read g (t -ℚ z.x)) (sym (only s.piece p s.among))))

both_parts : (ps qs g : List Piece) (t : ℚ) (v w : Ext) → IsLeastCopy ps g t v → IsLeastCopy qs g t w → IsLeastCopy (ps ++ qs) g t (min_ext v w)
both_parts ps qs g t v w h k =
    same_infimum (either (start_sum ps g t) (start_sum qs g t)) (start_sum (ps ++ qs) g t) (min_ext v w) down up
    (infimum_union (start_sum ps g t) (start_sum qs g t) v w h k)
  where
    down : (i : StartSplit ps t ⊎ StartSplit qs t) → (j : StartSplit (ps ++ qs) t) × (start_sum (ps ++ qs) g t j ≤ₑ either (start_sum ps g t) (start_sum qs g t) i)
    down (inl s) = (record { piece = s.piece; among = of_left s.piece ps qs s.among; late = s.late }, le_ext_refl (s.piece.at +ₑ read g (t -ℚ s.piece.x)))
    down (inr s) = (record { piece = s.piece; among = of_right s.piece ps qs s.among; late = s.late }, le_ext_refl (s.piece.at +ₑ read g (t -ℚ s.piece.x)))

    up : (j : StartSplit (ps ++ qs) t) → (i : StartSplit ps t ⊎ StartSplit qs t) × (either (start_sum ps g t) (start_sum qs g t) i ≤ₑ start_sum (ps ++ qs) g t j)
    up s = elim (of_cases s.piece ps qs s.among) [
      | inl m ↦ (inl record { piece = s.piece; among = m; late = s.late }, le_ext_refl (s.piece.at +ₑ read g (t -ℚ s.piece.x)))
      | inr m ↦ (inr record { piece = s.piece; among = m; late = s.late }, le_ext_refl (s.piece.at +ₑ read g (t -ℚ s.piece.x)))
    ]

pub copy_rules : CopyRules
copy_rules = record { none = no_start; late = late_start; one = one_start; parts = both_parts }
