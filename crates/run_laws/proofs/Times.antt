-- What is true of each of some times.
use Rattle.std.specs.Prelude.{List, [], ◌∷◌, ◌++◌}
use Rattle.std.proofs.Common.{subst, sym, inl, inr}
use Rattle.rational.specs.Rational.{ℚ}
use Rattle.run_laws.specs.Times.{EachTime, Among}

pub each_time_map : (P Q : ℚ → Type 0) → ((t : ℚ) → P t → Q t) → (ts : List ℚ) → EachTime P ts → EachTime Q ts
each_time_map P Q f [] h = tt
each_time_map P Q f (t ∷ ts) h = (f t h.0, each_time_map P Q f ts h.1)

pub each_time_at : (P : ℚ → Type 0) (t : ℚ) (ts : List ℚ) → EachTime P ts → Among t ts → P t
each_time_at P t [] h k = absurd k
each_time_at P t (u ∷ us) h k = elim k [
  | inl e ↦ subst P (sym e) h.0
  | inr m ↦ each_time_at P t us h.1 m
]

pub each_time_append : (P : ℚ → Type 0) (ts us : List ℚ) → EachTime P ts → EachTime P us → EachTime P (ts ++ us)
each_time_append P [] us h k = k
each_time_append P (t ∷ ts) us h k = (h.0, each_time_append P ts us h.1 k)
