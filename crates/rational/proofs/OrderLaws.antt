-- The laws of the tests of equality and order of the rationals.
use Rattle.std.specs.Prelude.{◌≡◌, true, refl}
use Rattle.std.proofs.Common.{ap, subst}
use Rattle.std.specs.declared.cmp.Ordering.{Ordering}
use Rattle.std.specs.declared.cmp.Ordering.TheVariants.{Less, Equal, Greater}
use Rattle.std.specs.Ordering.{is_eq, MatchOrdering}
use Rattle.std.specs.Cmp.{IsPartialEquivalence, IsEquivalence, IsPartialOrder, IsTotalOrder, Equal-is, both_ways, po, int_cmp_total, partial_equiv_from_equiv}
use Rattle.rational.specs.Rational.{ℚ, ◌<ℚ◌}
use Rattle.rational.specs.Fractions.{cross}
use Rattle.rational.specs.Ratio.{cmp_q}
use Rattle.rational.specs.Compared.{same_q, partial_cmp_q}
use Rattle.rational.proofs.Laws.{lt_irrefl, lt_le_trans, le_of_lt}
use Rattle.rational.proofs.Comparison.{cmp_ranks, cmp_less, cmp_equal, cmp_self}

less_in : (x y : ℚ) → x <ℚ y → cmp_q x y ≡ Less
less_in x y h = go (cmp_q x y) (cmp_ranks x y)
  where
    go : (r : Ordering) → MatchOrdering r (x <ℚ y) (x ≡ y) (y <ℚ x) → r ≡ Less
    go Less k = refl
    go Equal k = absurd (lt_irrefl y (subst (λ z. z <ℚ y) k h))
    go Greater k = absurd (lt_irrefl x (lt_le_trans h (le_of_lt k)))

pub cmp_q_total : IsTotalOrder cmp_q
unfolding cmp_q
cmp_q_total = record {
  antisymm = λ x y. int_cmp_total.antisymm (cross x y) (cross y x);
  trans = λ x y z p q. less_in x z (lt_le_trans (cmp_less x y p) (le_of_lt (cmp_less y z q)));
  congr = λ x y z p. ap (λ v. cmp_q v z) (cmp_equal x y p);
}

pub same_out : (x y : ℚ) → same_q x y ≡ true → x ≡ y
same_out x y e = cmp_equal x y ((Equal-is (cmp_q x y)).0 e)

turn : (x y : ℚ) → same_q x y ≡ true → same_q y x ≡ true
turn x y e = subst (λ z. same_q z x ≡ true) (same_out x y e) (ap is_eq (cmp_self x))

pub same_q_equivalence : IsEquivalence same_q
same_q_equivalence = record {
  refl = λ x. ap is_eq (cmp_self x);
  symm = λ x y. both_ways (same_q x y) (same_q y x) (turn x y) (turn y x);
  congr = λ x y z e. ap (λ v. same_q v z) (same_out x y e);
}

pub same_q_partial : IsPartialEquivalence same_q
same_q_partial = partial_equiv_from_equiv same_q_equivalence

pub partial_cmp_q_order : IsPartialOrder same_q partial_cmp_q
partial_cmp_q_order = po cmp_q_total (λ x y. refl)
