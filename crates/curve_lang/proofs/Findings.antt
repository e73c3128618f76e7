-- What is known where something was found.
use Rattle.std.specs.Prelude.{◌≡◌, ℕ, Result, Ok}
use Rattle.std.proofs.Common.{inl, inr}
use Rattle.input_texts.specs.declared.curve_script.fault.LangKind.{LangKind}
use Rattle.upp_curve.specs.Curve.{SpecCurve}
use Rattle.curve_lang.specs.Finding.{Then, goes_on, stops, Gives, Guarded, BucketFinds}

-- both found something
pub record BothFound {A B : Type 0} (P : Result A LangKind → (old new : ℕ) → Type 0)
    (Q : A → Result B LangKind → (old new : ℕ) → Type 0) (y : B) (old new : ℕ) : Type 0 where
  pub value : A
  pub between : ℕ
  pub first : P (Ok value) old between
  pub second : Q value (Ok y) between new

pub then_ok : {A B : Type 0} {P : Result A LangKind → (old new : ℕ) → Type 0} {Q : A → Result B LangKind → (old new : ℕ) → Type 0}
    {y : B} {old new : ℕ} → Then P Q (Ok y) old new → BothFound P Q y old new
then_ok (goes_on x m p q) = record { value = x; between = m; first = p; second = q }
then_ok (stops k p e) = absurd (cc e)

pub gives_ok : {A : Type 0} (x y : A) → Gives x (Ok y) → y ≡ x
gives_ok x y (inl e) = cc e
gives_ok x y (inr e) = absurd (cc e)

pub guarded_ok : {A : Type 0} (P : Type 0) (next : Result A LangKind → (old new : ℕ) → Type 0) (y : A) (old new : ℕ)
    → Guarded P next (Ok y) old new → P × next (Ok y) old new
guarded_ok P next y old new (inl h) = h
guarded_ok P next y old new (inr h) = absurd (cc h.1.0)

pub bucket_ok : (P : Type 0) (c y : SpecCurve) → BucketFinds P c (Ok y) → ¬ P × (y ≡ c)
bucket_ok P c y (inl h) = absurd (cc h.1)
bucket_ok P c y (inr h) = (h.0, gives_ok c y h.1)
