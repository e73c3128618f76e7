-- Which of two that are due comes first.
use Rattle.std.specs.Prelude.{Option, Some, None, ◌≡◌, ◌⊎◌, ◌<◌, ◌≤◌}
use Rattle.std.proofs.Common.{arith, refl, sym, ◌∙◌, subst, inl, inr}
use Rattle.rational.specs.Rational.{◌≤ℚ◌, ◌<ℚ◌}
use Rattle.rational.proofs.Laws.{le_refl, le_trans, le_of_lt, lt_irrefl, antisym}
use Rattle.net_model.specs.stated_runs.DueSteps.{Rank, RankAtMost}
use Rattle.sim_servers.specs.declared.due.Due.{Due}
use Rattle.sim_servers.specs.Firsts.{place_of, IsNoLater, IsEither, IsFirstOf}

pub rank_refl : (a : Rank) → RankAtMost a a
rank_refl a = inr (refl, inr (refl, omega arith))

pub rank_trans : (a b c : Rank) → RankAtMost a b → RankAtMost b c → RankAtMost a c
rank_trans a b c (inl h) (inl k) = inl (omega (arith, h, k))
rank_trans a b c (inl h) (inr k) = inl (omega (arith, h, k.0))
rank_trans a b c (inr h) (inl k) = inl (omega (arith, h.0, k))
rank_trans a b c (inr h) (inr k) = inr (h.0 ∙ k.0, rest h.1 k.1)
  where
    rest : ((a.server < b.server) ⊎ ((a.server ≡ b.server) × (a.packet ≤ b.packet)))
        → ((b.server < c.server) ⊎ ((b.server ≡ c.server) × (b.packet ≤ c.packet)))
        → (a.server < c.server) ⊎ ((a.server ≡ c.server) × (a.packet ≤ c.packet))
    rest (inl x) (inl y) = inl (omega (arith, x, y))
    rest (inl x) (inr y) = inl (omega (arith, x, y.0))
    rest (inr x) (inl y) = inl (omega (arith, x.0, y))
    rest (inr x) (inr y) = inr (x.0 ∙ y.0, omega (arith, x.1, y.1))

pub no_later_refl : (a : Due) → IsNoLater a a
no_later_refl a = record { time = le_refl a.time; in_turn = λ e. rank_refl (place_of a) }

pub no_later_trans : (a b c : Due) → IsNoLater a b → IsNoLater b c → IsNoLater a c
no_later_trans a b c h k = record {
  time = le_trans h.time k.time;
  in_turn = λ e.
      let ab : a.time ≡ b.time = antisym (h.time, subst (λ t. b.time ≤ℚ t) (sym e) k.time) in
      let bc : b.time ≡ c.time = sym ab ∙ e in
      rank_trans (place_of a) (place_of b) (place_of c) (h.in_turn ab) (k.in_turn bc);
}

pub sooner : (a b : Due) → a.time <ℚ b.time → IsNoLater a b
sooner a b l = record { time = le_of_lt l; in_turn = λ e. absurd (lt_irrefl b.time (subst (λ t. t <ℚ b.time) e l)) }

-- ---- the first of two
pub first_none : (o : Option Due) → IsFirstOf None o o
first_none None = (refl, refl)
first_none (Some d) = (
  inr refl,
  λ e h. elim h [
    | inl n ↦ absurd (let f : None ≡ Some e = n in cc)
    | inr s ↦ let f : d ≡ e = (let g : Some d ≡ Some e = s in cc) in subst (λ x. IsNoLater d x) f (no_later_refl d)
  ],
)

pub first_kept : (o : Option Due) → IsFirstOf o None o
first_kept None = (refl, refl)
first_kept (Some a) = (
  inl refl,
  λ e h. elim h [
    | inl s ↦ let f : a ≡ e = (let g : Some a ≡ Some e = s in cc) in subst (λ x. IsNoLater a x) f (no_later_refl a)
    | inr n ↦ absurd (let f : None ≡ Some e = n in cc)
  ],
)

pub first_stays : (a b : Due) → IsNoLater a b → IsFirstOf (Some a) (Some b) (Some a)
first_stays a b h = (
  inl refl,
  λ e k. elim k [
    | inl s ↦ let f : a ≡ e = (let g : Some a ≡ Some e = s in cc) in subst (λ x. IsNoLater a x) f (no_later_refl a)
    | inr s ↦ let f : b ≡ e = (let g : Some b ≡ Some e = s in cc) in subst (λ x. IsNoLater a x) f h
  ],
)

pub first_goes : (a b : Due) → IsNoLater b a → IsFirstOf (Some a) (Some b) (Some b)
first_goes a b h = (
  inr refl,
  λ e k. elim k [
    | inl s ↦ let f : a ≡ e = (let g : Some a ≡ Some e = s in cc) in subst (λ x. IsNoLater b x) f h
    | inr s ↦ let f : b ≡ e = (let g : Some b ≡ Some e = s in cc) in subst (λ x. IsNoLater b x) f (no_later_refl b)
  ],
)

-- ---- the first of two, and of that and a third
pub over_both : (a b m c : Option Due) (d : Due) → IsFirstOf a b m → IsFirstOf m c (Some d) → (e : Due) → IsEither a b e → IsNoLater d e
over_both a b None c d f g e h = absurd (elim h [
  | inl i ↦ let k : None ≡ Some e = sym f.0 ∙ i in cc
  | inr i ↦ let k : None ≡ Some e = sym f.1 ∙ i in cc
])
over_both a b (Some m) c d f g e h = no_later_trans d m e (g.1 m (inl refl)) (f.1 e h)

pub one_of_three : (a b m c : Option Due) (d : Due) → IsFirstOf a b m → IsFirstOf m c (Some d) → IsEither a b d ⊎ (c ≡ Some d)
one_of_three a b None c d f g = elim g.0 [
  | inl e ↦ absurd (let k : None ≡ Some d = e in cc)
  | inr e ↦ inr e
]
one_of_three a b (Some m) c d f g = elim g.0 [
  | inl e ↦ let same : m ≡ d = (let k : Some m ≡ Some d = e in cc) in inl (subst (λ x. IsEither a b x) same f.0)
  | inr e ↦ inr e
]
