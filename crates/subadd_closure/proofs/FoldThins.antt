-- What the fold has made so far is subadditive, and a part's star is at most 0 at 0.
use Rattle.std.specs.Prelude.{◌≡◌, ℕ, List, [], ◌∷◌, map, Ok}
use Rattle.std.specs.List.{All}
use Rattle.std.proofs.Common.{sym, subst, inl, inr, take}
use Rattle.std.proofs.lemmas.List.Elements.{All-head, All-tail, All-take}
use Rattle.rational.specs.Rational.{ℚ, ◌<ℚ◌}
use Rattle.rational.specs.Extended.{◌≤ₑ◌}
use Rattle.rational.specs.declared.Extended.TheVariants.{Fin}
use Rattle.upp_curve.specs.declared.affine_segment.element.Element.{Element}
use Rattle.upp_curve.specs.affine_segment.Elements.{element_value}
use Rattle.min_plus.specs.Functions.{zero_q}
use Rattle.min_plus.specs.Convolution.{IsSubadditive}
use Rattle.upp_curve.specs.Curve.{SpecCurve, value_at}
use Rattle.upp_curve.specs.Normal.{IsNormal}
use Rattle.element_envelope.specs.PieceElements.{Among}
use Rattle.min_plus.specs.closure_laws.Star.{least_of}
use Rattle.subadd_closure.specs.ElementAnswers.{IsElementClosure}
use Rattle.subadd_closure.specs.Lattices.{lattice_curve}
use Rattle.subadd_closure.specs.CurveParts.{part_of, part_value}
use Rattle.subadd_closure.specs.Folds.{PartAnswer, PartsAnswer}
use Rattle.subadd_closure.specs.PartLaws.{EachPart, IsPart}
use Rattle.subadd_closure.specs.SegmentLimits.{IsElementOf}
use Rattle.subadd_closure.specs.Thinned.{AreThinnable}
use Rattle.subadd_closure.proofs.EachParts.{each_part, is_part}
use Rattle.subadd_closure.proofs.FoldStars.{part_star, parts_star}
use Rattle.subadd_closure.proofs.LowStars.{stars_subadditive, closures_subadditive, star_low, lattice_low, lattice_subadditive}

-- ---- the parts of some elements
among_all : (P : Element → Type 0) (es : List Element) (e : Element) → All P es → Among e es → P e
among_all P [] e h k = absurd k
among_all P (x ∷ xs) e h (inl is) = subst P (sym is) (All-head P x xs h)
among_all P (x ∷ xs) e h (inr k) = among_all P xs e (All-tail P x xs h) k

some_parts : (f : SpecCurve) (es : List Element) → IsNormal f → All (IsElementOf f) es
    → EachPart IsPart (map (part_of f.tail) es)
some_parts f es normal h =
    each_part IsPart f.tail es (λ e k. is_part f e normal (among_all (IsElementOf f) es e h k))

pub sofar_subadditive : (f sofar : SpecCurve) (es : List Element) (i : ℕ) → IsNormal f → All (IsElementOf f) es
    → PartsAnswer f (map (part_of f.tail) (take i es)) (Ok sofar) → IsSubadditive (value_at sofar)
sofar_subadditive f sofar es i normal h answer =
    let ps = map (part_of f.tail) (take i es) in
    stars_subadditive (least_of (map part_value ps)) (value_at sofar)
    (parts_star f ps sofar (some_parts f (take i es) normal (All-take (IsElementOf f) i es h)) answer)

pub next_thinnable : (f sofar star : SpecCurve) (e : Element) → IsNormal f → IsElementOf f e
    → IsSubadditive (value_at sofar) → PartAnswer f (part_of f.tail e) (Ok star) → AreThinnable sofar star
next_thinnable f sofar star e normal is sub answer =
    let stars = part_star f (part_of f.tail e) star (is_part f e normal is) answer in
    record {
      subadditive = sub;
      second = stars_subadditive (part_value (part_of f.tail e)) (value_at star) stars;
      zero = star_low (part_value (part_of f.tail e)) (value_at star) stars;
    }

-- ---- an element's closure, and its copies
pub element_subadditive : (e : Element) (c : SpecCurve) → IsElementClosure e c → IsSubadditive (value_at c)
element_subadditive e c h = closures_subadditive (element_value e) (value_at c) h.closes

pub copies_thinnable : (c points : SpecCurve) (d r : ℚ) → IsSubadditive (value_at c) → zero_q <ℚ d
    → points ≡ lattice_curve d r → AreThinnable c points
copies_thinnable c points d r sub some is = record {
  subadditive = sub;
  second = subst (λ z. IsSubadditive (value_at z)) (sym is) (lattice_subadditive d r some);
  zero = subst (λ z. value_at z zero_q ≤ₑ Fin zero_q) (sym is) (lattice_low d r some);
}
