-- The star of the least of some functions, by induction along them; and the closure from the star.
use Rattle.std.specs.Prelude.{◌≡◌, [], ◌∷◌}
use Rattle.std.proofs.Common.{sym, refl, subst, inl, inr}
use Rattle.rational.specs.Extended.{Ext, min_ext}
use Rattle.rational.specs.declared.Extended.TheVariants.{Fin, Inf}
use Rattle.rational.proofs.Laws.{le_or_lt, le_refl, antisym}
use Rattle.rational.proofs.ExtendedOrder.{min_ext_assoc}
use Rattle.min_plus.specs.Functions.{zero_q}
use Rattle.min_plus.specs.Convolution.{IsSubadditiveClosure}
use Rattle.min_plus.specs.closure_laws.Star.{IsStar, lesser, least_of}
use Rattle.min_plus.proofs.closure_laws.StarSums.{star_of_lesser, stars_of_values, closure_of_star}
use Rattle.min_plus.specs.closure_laws.StarFolds.{StarOfLeast, ClosureOfSetBack}

inf_last : (x : Ext) → x ≡ min_ext x Inf
inf_last Inf = refl
inf_last (Fin x) = refl

pub star_of_least : StarOfLeast
star_of_least f F [] [] G a b c =
    λ t h. subst (λ z. IsStar (least_of (f ∷ [])) t z) (sym (c t h))
    (stars_of_values f (least_of (f ∷ [])) t (F t) (λ s k. inf_last (f s)) (a t h))
star_of_least f F [] (S ∷ Ss) G a b c = absurd b
star_of_least f F (g ∷ gs) [] G a b c = absurd b
star_of_least f F (g ∷ gs) (S ∷ Ss) G a b (H, conv, c) =
    λ t h. stars_of_values (least_of (lesser f g ∷ gs)) (least_of (f ∷ g ∷ gs)) t (G t)
    (λ s k. min_ext_assoc (f s) (g s) (least_of gs s))
    (star_of_least (lesser f g) H gs Ss G (λ s k. star_of_lesser f g F S s (H s) a b.0 (conv s k)) b.1 c t h)

pub closure_of_set_back : ClosureOfSetBack
closure_of_set_back f S h t low stars set some = elim (le_or_lt t zero_q) [
  | inl here ↦
      let at : t ≡ zero_q = antisym (here, some) in
      subst (λ z. IsSubadditiveClosure f z (h z)) (sym at)
      (subst (λ z. IsSubadditiveClosure f zero_q z) (sym set.zero) (closure_of_star.zero f (low zero_q (le_refl zero_q))))
  | inr past ↦
      subst (λ z. IsSubadditiveClosure f t z) (sym (set.past t past)) (closure_of_star.past f t (S t) past (stars t some))
]
