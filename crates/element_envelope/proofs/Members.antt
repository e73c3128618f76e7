-- What is among elements, and families whose finite members are those of another.
use Rattle.std.specs.Prelude.{◌≡◌, ◌⊎◌, List, [], ◌∷◌, ◌++◌}
use Rattle.std.proofs.Common.{refl, subst, inl, inr}
use Rattle.rational.specs.Rational.{ℚ}
use Rattle.rational.specs.Extended.{Ext, ◌≤ₑ◌, ◌<ₑ◌}
use Rattle.rational.specs.declared.Extended.TheVariants.{Fin, Inf}
use Rattle.rational.specs.Bounds.{IsInfimum}
use Rattle.rational.proofs.ExtendedOrder.{le_inf, le_ext_trans, le_lt_ext}
use Rattle.upp_curve.specs.declared.affine_segment.element.Element.{Element}
use Rattle.element_envelope.specs.PieceElements.{Among}

-- ---- lists
pub among_left : (e : Element) (xs ys : List Element) → Among e xs → Among e (xs ++ ys)
among_left e [] ys h = absurd h
among_left e (x ∷ xs) ys (inl p) = inl p
among_left e (x ∷ xs) ys (inr k) = inr (among_left e xs ys k)

pub among_right : (e : Element) (xs ys : List Element) → Among e ys → Among e (xs ++ ys)
among_right e [] ys h = h
among_right e (x ∷ xs) ys h = inr (among_right e xs ys h)

pub among_cases : (e : Element) (xs ys : List Element) → Among e (xs ++ ys) → Among e xs ⊎ Among e ys
among_cases e [] ys h = inr h
among_cases e (x ∷ xs) ys (inl p) = inl (inl p)
among_cases e (x ∷ xs) ys (inr k) = elim (among_cases e xs ys k) [ inl m ↦ inl (inr m) | inr m ↦ inr m ]

-- ---- families
-- each finite member of F has one of G below it or at it, and each member of G one of F
pub record Matched {I J : Type 0} (F : I → Ext) (G : J → Ext) : Type 0 where
  pub down : (i : I) (q : ℚ) → F i ≡ Fin q → (j : J) × (G j ≤ₑ Fin q)
  pub up : (j : J) → (i : I) × (F i ≤ₑ G j)

pub at_most_finite : (x y : Ext) → ((q : ℚ) → y ≡ Fin q → x ≤ₑ Fin q) → x ≤ₑ y
at_most_finite x Inf h = le_inf x
at_most_finite x (Fin q) h = h q refl

pub number_below : (x : Ext) (y : ℚ) → x <ₑ Fin y → (q : ℚ) × (x ≡ Fin q)
number_below Inf y h = absurd h
number_below (Fin q) y h = (q, refl)

-- then both have one infimum
pub matched_out : {I J : Type 0} (F : I → Ext) (G : J → Ext) (x : Ext) → Matched F G → IsInfimum G x → IsInfimum F x
matched_out F G x m h = record {
  below = λ i. at_most_finite x (F i) (λ q e. let (j, l) = m.down i q e in le_ext_trans x (G j) (Fin q) (h.below j) l);
  near = λ y l. let (j, k) = h.near y l in let (i, u) = m.up j in (i, le_lt_ext (F i) (G j) (Fin y) u k);
}

pub matched_in : {I J : Type 0} (F : I → Ext) (G : J → Ext) (x : Ext) → Matched F G → IsInfimum F x → IsInfimum G x
matched_in F G x m h = record {
  below = λ j. let (i, u) = m.up j in le_ext_trans x (F i) (G j) (h.below i) u;
  near = λ y l.
      let (i, k) = h.near y l in
      let (q, e) = number_below (F i) y k in
      let (j, u) = m.down i q e in
      (j, le_lt_ext (G j) (Fin q) (Fin y) u (subst (λ z. z <ₑ Fin y) e k));
}
