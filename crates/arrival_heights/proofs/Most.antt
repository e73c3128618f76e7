-- How far some heights are above a rate at most.
use Rattle.std.proofs.Common.{◌≡◌, ℕ, zero, suc, ◌+◌, ◌<◌, max, List, [], ◌∷◌, ◌++◌, length, get_or, take, Option, Some, None, refl, sym, ◌∙◌, ap, subst, arith, append-nil}
use Rattle.std.proofs.lemmas.List.{take_more}
use Rattle.std.proofs.lemmas.List.Elements.{All-append}
use Rattle.std.specs.Prelude.{IfSome}
use Rattle.arrival_heights.specs.Greatest.{ahead_if, some_of, AddsHeights, IsGreatestBetween}
use Rattle.arrival_heights.specs.Heights.{AreMoments, IsMoment, ahead_of, most_ahead}
use Rattle.arrival_heights.specs.declared.heights.Height.{Height}
use Rattle.arrival_lines.specs.declared.grid.Part.{Part}

abbrev pub no_height : Height
no_height = record { at = record { over = 0; under = 0 }; grains = 0 }

pub most_none : (rate : ℕ) → most_ahead rate [] ≡ 0
unfolding most_ahead
most_none rate = refl

most_one : (rate : ℕ) (hs : List Height) (h : Height) → most_ahead rate (hs ++ h ∷ []) ≡ max (most_ahead rate hs) (ahead_of rate h)
unfolding most_ahead
most_one rate [] h = omega arith
most_one rate (x ∷ hs) h = let e = most_one rate hs h in omega (arith, e)

-- one more, if there is one
pub most_more : (rate : ℕ) (hs new : List Height) (found : Option Height) → new ≡ hs ++ some_of found → most_ahead rate new ≡ max (most_ahead rate hs) (ahead_if rate found)
most_more rate hs new None e = let f = ap (most_ahead rate) (e ∙ append-nil hs) in omega (arith, f)
most_more rate hs new (Some h) e = ap (most_ahead rate) e ∙ most_one rate hs h

pub most_take : (rate : ℕ) (hs : List Height) (i : ℕ) (d : Height) → i < length hs → most_ahead rate (take (i + 1) hs) ≡ max (most_ahead rate (take i hs)) (ahead_of rate (get_or hs i d))
most_take rate hs i d h = ap (most_ahead rate) (take_more hs i d h) ∙ most_one rate (take i hs) (get_or hs i d)

pub no_moments : AreMoments []
no_moments = λ k d h. absurd (omega (arith, h))

pub moments_more : (hs new : List Height) (found : Option Height) → IfSome found (λ h. IsMoment h.at) → new ≡ hs ++ some_of found → AreMoments hs → AreMoments new
moments_more hs new None is e all = subst AreMoments (sym (e ∙ append-nil hs)) all
moments_more hs new (Some h) is e all = subst AreMoments (sym e) (All-append (λ (x : Height). IsMoment x.at) hs (h ∷ []) all one)
  where
    one : AreMoments (h ∷ [])
    one zero d l = is
    one (suc k) d l = absurd (omega (arith, l))

-- of those that are added to none
pub moments_of_all : (parts : List Part) (begin end : ℕ) (old new : List Height) → old ≡ [] → AddsHeights parts begin end old new → AreMoments new
moments_of_all parts begin end old new none adds = adds.moments (subst AreMoments (sym none) no_moments)

pub greatest_of_all : (parts : List Part) (begin end rate : ℕ) (old new : List Height) → old ≡ [] → AddsHeights parts begin end old new
    → IsGreatestBetween parts rate begin end (most_ahead rate new)
greatest_of_all parts begin end rate old new none adds =
    let by = adds.greatest rate in
    let e = by.is in
    let zero_yet = ap (most_ahead rate) none ∙ most_none rate in
    let same : by.most ≡ most_ahead rate new = omega (arith, e, zero_yet) in
    subst (λ (n : ℕ). IsGreatestBetween parts rate begin end n) same by.greatest
