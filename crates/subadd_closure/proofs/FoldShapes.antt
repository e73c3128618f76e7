-- What the fold of a finite curve that is nowhere below 0 makes: nowhere below 0, and finite past 0.
use Rattle.std.specs.Prelude.{◌≡◌, ◌≢◌, List, [], ◌∷◌, ◌++◌, map, Ok}
use Rattle.std.proofs.Common.{sym, ap, ◌∙◌, subst}
use Rattle.std.proofs.lemmas.List.{map-append}
use Rattle.rational.specs.Rational.{ℚ, ◌≤ℚ◌, ◌<ℚ◌}
use Rattle.rational.specs.Extended.{Ext, ◌≤ₑ◌, ◌+ₑ◌, min_ext}
use Rattle.rational.specs.declared.Extended.TheVariants.{Fin, Inf}
use Rattle.rational.proofs.Bounds.{greatest}
use Rattle.rational.proofs.Laws.{le_of_lt, add_zero}
use Rattle.rational.proofs.ExtendedOrder.{le_ext_trans, same_le_ext}
use Rattle.rational.proofs.ExtendedOrder.{add_zero_ext, min_left, min_right}
use Rattle.upp_curve.specs.Curve.{SpecCurve, value_at}
use Rattle.min_plus.specs.Functions.{zero_q, IsFinite, IsNonnegative}
use Rattle.upp_curve.specs.Normal.{IsNormal}
use Rattle.min_plus.specs.Convolution.{sum_at, IsConvolution}
use Rattle.min_plus.specs.closure_laws.Star.{Times, IsStar, AreStars, lesser, least_of}
use Rattle.min_plus.proofs.closure_laws.StarSums.{star_of_lesser, least_of_more}
use Rattle.subadd_closure.specs.declared.part.Part.{Part}
use Rattle.subadd_closure.specs.CurveParts.{parts_of, part_value}
use Rattle.subadd_closure.specs.PartLaws.{EachPart, IsPart}
use Rattle.subadd_closure.specs.Folds.{PartAnswer, PartsAnswer}
use Rattle.subadd_closure.specs.Thinned.{AreThinnable}
use Rattle.subadd_closure.proofs.EachParts.{parts_are_parts}
use Rattle.subadd_closure.proofs.LeastParts.{parts_make_curve}
use Rattle.subadd_closure.proofs.FoldStars.{part_star, parts_star}
use Rattle.subadd_closure.proofs.LowStars.{stars_subadditive, star_low}
use Rattle.min_plus.proofs.closure_laws.KeptShapes.{total_nonneg}

-- ---- stars
-- a star is nowhere below 0 where the function is

stars_nonneg : (f F : ℚ → Ext) → AreStars f F → IsNonnegative f → IsNonnegative F
stars_nonneg f F stars low t n =
    greatest (λ (p : Times t). sum_at f p.times) (F t) (Fin zero_q) (stars t n) (λ p. total_nonneg f p.times p.nonneg
    low)

-- and it is at most the function
star_under : (f : ℚ → Ext) (t : ℚ) (v : Ext) → zero_q ≤ℚ t → IsStar f t v → v ≤ₑ f t
star_under f t v n h =
    let alone : Times t = record { times = t ∷ []; nonneg = (n, tt); whole = add_zero t } in
    le_ext_trans v (f t +ₑ Fin zero_q) (f t) (h.below alone) (same_le_ext (add_zero_ext (f t)))

-- ---- parts
front_parts : (P : Part → Type 0) (ps qs : List Part) → EachPart P (ps ++ qs) → EachPart P ps
front_parts P [] qs h = tt
front_parts P (p ∷ ps) qs h = (h.0, front_parts P ps qs h.1)

last_of_parts : (P : Part → Type 0) (ps : List Part) (p : Part) → EachPart P (ps ++ p ∷ []) → P p
last_of_parts P [] p h = h.0
last_of_parts P (q ∷ ps) p h = last_of_parts P ps p h.1

-- ---- the last convolution
module _ (f s c : SpecCurve) (ps : List Part) (p : Part) (normal : IsNormal f) (finite : IsFinite (value_at f))
    (nonneg : IsNonnegative (value_at f)) (all : parts_of f ≡ ps ++ p ∷ []) (first : PartsAnswer f ps (Ok s))
    (last : PartAnswer f p (Ok c)) where
  abbrev before : ℚ → Ext
  before = least_of (map part_value ps)

  each : EachPart IsPart (ps ++ p ∷ [])
  each = subst (EachPart IsPart) all (parts_are_parts f normal)

  stars_before : AreStars before (value_at s)
  stars_before = parts_star f ps s (front_parts IsPart ps (p ∷ []) each) first

  star_last : AreStars (part_value p) (value_at c)
  star_last = part_star f p c (last_of_parts IsPart ps p each) last

  value_is : (t : ℚ) → zero_q ≤ℚ t → value_at f t ≡ min_ext (before t) (part_value p t)
  value_is t n =
      parts_make_curve f t normal finite n ∙ ap (λ z. least_of (map part_value z) t) all
      ∙ ap (λ z. least_of z t) (map-append part_value ps (p ∷ [])) ∙ least_of_more (map part_value ps) (part_value p) t

  above : (t : ℚ) (x : Ext) → zero_q ≤ℚ t → min_ext (before t) (part_value p t) ≤ₑ x → Fin zero_q ≤ₑ x
  above t x n h =
      le_ext_trans (Fin zero_q) (value_at f t) x (nonneg t n)
      (le_ext_trans (value_at f t) (min_ext (before t) (part_value p t)) x (same_le_ext (value_is t n)) h)

  pub last_thinnable : AreThinnable s c
  last_thinnable = record {
    subadditive = stars_subadditive before (value_at s) stars_before;
    second = stars_subadditive (part_value p) (value_at c) star_last;
    zero = star_low (part_value p) (value_at c) star_last;
  }

  pub sofar_nonneg : IsNonnegative (value_at s)
  sofar_nonneg = stars_nonneg before (value_at s) stars_before
      (λ t n. above t (before t) n (min_left (before t) (part_value p t)))

  pub star_nonneg : IsNonnegative (value_at c)
  star_nonneg = stars_nonneg (part_value p) (value_at c) star_last
      (λ t n. above t (part_value p t) n (min_right (before t) (part_value p t)))

  not_infinite : (v : Ext) (q : ℚ) → v ≤ₑ Fin q → v ≢ Inf
  not_infinite Inf q h = absurd h
  not_infinite (Fin w) q h = λ is. absurd cc

  pub finite_past : (t : ℚ) (v : Ext) → zero_q <ℚ t → IsConvolution (value_at s) (value_at c) t v → v ≢ Inf
  finite_past t v past conv =
      let n = le_of_lt past in
      let (q, is) = finite t n in
      not_infinite v q
      (le_ext_trans v (min_ext (before t) (part_value p t)) (Fin q)
      (star_under (lesser before (part_value p)) t v n
      (star_of_lesser before (part_value p) (value_at s) (value_at c) t v stars_before star_last conv))
      (same_le_ext (sym (value_is t n) ∙ is)))
