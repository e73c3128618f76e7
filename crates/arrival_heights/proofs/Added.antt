-- The heights that are looked at between two times.
use Rattle.std.proofs.Common.{◌≡◌, ℕ, ◌+◌, ◌<◌, ◌≤◌, ◌^◌, max, List, ◌++◌, length, get_or, Option, Some, sym, ap, subst, arith}
use Rattle.std.specs.Prelude.{IfSome}
use Rattle.arrival_lines.specs.declared.grid.Part.{Part}
use Rattle.arrival_heights.specs.Greatest.{ahead_if, some_of, AddsHeights, IsBoundAtBend}
use Rattle.arrival_heights.specs.Heights.{AreMoments, IsMoment, height_of, most_ahead}
use Rattle.arrival_heights.specs.declared.heights.Height.{Height}
use Rattle.arrival_heights.proofs.Most.{most_more, moments_more}
use Rattle.arrival_heights.proofs.Scaled.{bound_at}
use Rattle.arrival_heights.proofs.Split.{IsGreatestSoFar, two_ends, one_more_bend, all_bends}

-- at both ends, and where the first parts bend
pub record BendsAt (parts : List Part) (rate begin end i : ℕ) (old new : List Height) : Type 0 where
  pub most : ℕ
  pub greatest : IsGreatestSoFar parts rate begin end i most
  pub is : most_ahead rate new ≡ max (most_ahead rate old) most

pub record BendsAdded (parts : List Part) (begin end i : ℕ) (old new : List Height) : Type 0 where
  pub moments : AreMoments old → AreMoments new
  pub greatest : (rate : ℕ) → BendsAt parts rate begin end i old new

pub ends_added : (parts : List Part) (begin end : ℕ) (one other : Height) (old middle new : List Height) → begin ≤ end → end < 2 ^ 62
    → one ≡ height_of parts record { over = begin; under = 10 ^ 12 } → other ≡ height_of parts record { over = end; under = 10 ^ 12 }
    → middle ≡ old ++ some_of (Some one) → new ≡ middle ++ some_of (Some other) → BendsAdded parts begin end 0 old new
ends_added parts begin end one other old middle new order short is at e f = record {
  moments = λ all.
      moments_more middle new (Some other) (subst (λ (h : Height). IsMoment h.at) (sym at) (moment end short)) f
      (moments_more old middle (Some one) (subst (λ (h : Height). IsMoment h.at) (sym is) (moment begin (omega (arith, order, short)))) e all);
  greatest = λ rate.
      let a = most_more rate old middle (Some one) e in
      let b = most_more rate middle new (Some other) f in
      let x = ahead_if rate (Some one) in
      let y = ahead_if rate (Some other) in
      record {
        most = max x y;
        greatest = two_ends parts rate begin end x y order (bound_at parts rate begin x (ap (λ (h : Height). ahead_if rate (Some h)) is))
            (bound_at parts rate end y (ap (λ (h : Height). ahead_if rate (Some h)) at));
        is = omega (arith, a, b);
      };
}
  where
    moment : (n : ℕ) → n < 2 ^ 62 → IsMoment record { over = n; under = 10 ^ 12 }
    moment n h = record { some = omega arith; over = h; under = omega arith }

pub bend_added : (parts : List Part) (begin end i : ℕ) (d p : Part) (found : Option Height) (old now new : List Height) → i < length parts → p ≡ get_or parts i d
    → ((rate : ℕ) → IsBoundAtBend parts rate p begin end (ahead_if rate found)) → IfSome found (λ h. IsMoment h.at) → new ≡ now ++ some_of found
    → BendsAdded parts begin end i old now → BendsAdded parts begin end (i + 1) old new
bend_added parts begin end i d p found old now new inside is bound moment e so_far = record {
  moments = λ all. moments_more now new found moment e (so_far.moments all);
  greatest = λ rate.
      let by = so_far.greatest rate in
      let a = most_more rate now new found e in
      let b = by.is in
      let y = ahead_if rate found in
      record {
        most = max by.most y;
        greatest = one_more_bend parts rate begin end i by.most y d p inside is (bound rate) by.greatest;
        is = omega (arith, a, b);
      };
}

pub all_added : (parts : List Part) (begin end i : ℕ) (old new : List Height) → length parts ≤ i → BendsAdded parts begin end i old new → AddsHeights parts begin end old new
all_added parts begin end i old new done so_far = record {
  moments = so_far.moments;
  greatest = λ rate.
      let by = so_far.greatest rate in
      record { most = by.most; greatest = all_bends parts rate begin end i by.most done by.greatest; is = by.is };
}
