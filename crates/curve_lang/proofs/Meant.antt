-- A curve that is found has the values that its expression means.
use Rattle.std.specs.Prelude.{◌≡◌, ℕ, List, [], ◌∷◌, Option, Some, None, option_map, cond, Bool, true, false, Ok}
use Rattle.std.specs.Str.{bytes_eq}
use Rattle.std.proofs.Common.{refl, sym, ap, subst, ◌∙◌, inl, inr}
use Rattle.rational.specs.Rational.{ℚ, ◌+ℚ◌, ◌≤ℚ◌, ◌<ℚ◌}
use Rattle.rational.specs.declared.Extended.TheVariants.{Fin}
use Rattle.rational.proofs.Integers.{nat_nonneg}
use Rattle.rational.proofs.Laws.{le_of_not_lt, lt_of_not_le, not_le_of_lt, antisym, zero_mul, add_zero}
use Rattle.min_plus.specs.Functions.{zero_q, IsFinite, IsNonnegative}
use Rattle.upp_curve.specs.Curve.{SpecCurve, value_at}
use Rattle.upp_curve.specs.Kinds.{bucket}
use Rattle.upp_curve.proofs.KindsAre.{kinds_have_their_values}
use Rattle.input_texts.specs.declared.curve_script.keyword.NumberPair.{NumberPair}
use Rattle.input_texts.specs.declared.curve_script.keyword.NumberPair.TheVariants.{Bucket, Latency}
use Rattle.input_texts.specs.declared.curve_script.keyword.NumberTriple.{NumberTriple}
use Rattle.input_texts.specs.declared.curve_script.keyword.NumberTriple.TheVariants.{Stair, Gate}
use Rattle.input_texts.specs.declared.curve_script.keyword.CurveOperator.{CurveOperator}
use Rattle.input_texts.specs.declared.curve_script.keyword.CurveOperator.TheVariants.{Close, RunSup, RunInf}
use Rattle.input_texts.specs.curve_script.Grammar.{Expression, Named, Nought, OfPair, OfTriple, OnCurve, OnNumber, OnTwo}
use Rattle.curve_library.specs.Causes.{OneNegative}
use Rattle.curve_lang.specs.Meaning.{FromZero, Given, given, Means, pair_value, triple_value, call_with, call_of_two, IsOnCurve}
use Rattle.curve_lang.specs.Finding.{Once, OneFinds, CurveFinds, PairFinds, TripleFinds, NoStair, NoGate, MayCall, MayCallWith, zero_curve}
use Rattle.curve_lang.specs.Found.{Let, curve_named, with_values, NameFinds, Finds, Tested, OneMade}
use Rattle.curve_lang.proofs.Findings.{then_ok, gives_ok, guarded_ok, bucket_ok}

-- ---- names
pub name_ok : (o : Option SpecCurve) (c : SpecCurve) → NameFinds o (Ok c) → o ≡ Some c
name_ok None c e = absurd (cc e)
name_ok (Some d) c h = ap Some (sym (gives_ok d c h))

found_or : (b : Bool) (l : Let) (o : Option Let) (p : Option Given) (c : SpecCurve) → option_map (λ m. m.curve) (cond b (Some l) o) ≡ Some c
    → (option_map (λ m. m.curve) o ≡ Some c → option_map (λ g. g.values) p ≡ Some (value_at c))
    → option_map (λ g. g.values) (cond b (Some record { name = l.name; values = value_at l.curve }) p) ≡ Some (value_at c)
found_or true l o p c e later = let same : l.curve ≡ c = cc e in ap (λ d. Some (value_at d)) same
found_or false l o p c e later = later e

given_values : (ls : List Let) (w : List ℕ) (c : SpecCurve) → curve_named ls w ≡ Some c → given (with_values ls) w ≡ Some (value_at c)
given_values [] w c e = absurd (cc e)
given_values (l ∷ ls) w c e = found_or (bytes_eq l.name w) l _ _ c e (given_values ls w c)

-- ---- kinds
pub zero_value : FromZero (λ t. value_at zero_curve t ≡ Fin zero_q)
zero_value t h = kinds_have_their_values.bucket zero_q zero_q t h ∙ ap Fin (ap (λ x. zero_q +ℚ x) (zero_mul t) ∙ add_zero zero_q)

pair_means : (k : NumberPair) (x y : ℚ) (c : SpecCurve) → PairFinds k x y (Ok c) → FromZero (λ t. value_at c t ≡ pair_value k x y t)
pair_means Bucket x y c h t n = ap (λ d. value_at d t) (bucket_ok (OneNegative x y) (bucket x y) c h).1 ∙ kinds_have_their_values.bucket x y t n
pair_means Latency x y c (fine, within, e) t n =
    ap (λ d. value_at d t) e ∙ kinds_have_their_values.rate_latency x y t (le_of_not_lt (λ l. fine (inl l))) (le_of_not_lt (λ l. fine (inr l))) n

-- numbers of a stair that are not refused
pub record AreOfStair (x y z : ℚ) : Type 0 where
  pub packet : zero_q ≤ℚ x
  pub period : zero_q <ℚ y
  pub jitter : zero_q ≤ℚ z

-- and of a gate
pub record AreOfGate (x y z : ℚ) : Type 0 where
  pub rate : zero_q ≤ℚ x
  pub slot : zero_q <ℚ z
  pub within : z ≤ℚ y

pub stair_numbers : (packet period jitter : ℚ) → ¬ (NoStair packet period jitter) → AreOfStair packet period jitter
stair_numbers packet period jitter fine = record {
  packet = le_of_not_lt (λ l. fine (inl (λ p. not_le_of_lt l (subst (λ x. zero_q ≤ℚ x) (sym p.is) (nat_nonneg p.bits)))));
  period = lt_of_not_le (λ l. fine (inr (inr l)));
  jitter = le_of_not_lt (λ l. fine (inr (inl l)));
}

pub gate_numbers : (rate cycle slot : ℚ) → ¬ (NoGate rate cycle slot) → AreOfGate rate cycle slot
gate_numbers rate cycle slot fine =
    let least : zero_q ≤ℚ slot = le_of_not_lt (λ l. fine (inl (inr l))) in
    record {
      rate = le_of_not_lt (λ l. fine (inl (inl l)));
      slot = lt_of_not_le (λ l. fine (inr (inr (inl (antisym (l, least))))));
      within = le_of_not_lt (λ l. fine (inr (inr (inr l))));
    }

triple_means : (k : NumberTriple) (x y z : ℚ) (c : SpecCurve) → TripleFinds k x y z (Ok c) → FromZero (λ t. value_at c t ≡ triple_value k x y z t)
triple_means Stair x y z c (fine, within, e) t n =
    let k = stair_numbers x y z fine in ap (λ d. value_at d t) e ∙ kinds_have_their_values.stair x y z t k.packet k.period k.jitter n
triple_means Gate x y z c (fine, within, e) t n =
    let k = gate_numbers x y z fine in ap (λ d. value_at d t) e ∙ kinds_have_their_values.gate x y z t k.rate k.slot k.within n

-- ---- operators
one_means : (k : CurveOperator) (f c : SpecCurve) (old new : ℕ) → OneFinds k f (Ok c) old new
    → FromZero (λ t. IsOnCurve k (value_at f) t (value_at c t))
one_means Close f c old new h = h.2
one_means RunSup f c old new h = h.0.1.answers
one_means RunInf f c old new h = h.0.1.answers

-- the operator alone, after the test
pub record IsOneMade (k : CurveOperator) (f c : SpecCurve) (new : ℕ) : Type 0 where
  pub tested : ℕ
  pub is : OneFinds k f (Ok c) tested new

pub one_made : (k : CurveOperator) (f c : SpecCurve) (old new : ℕ) → OneMade k f (Ok c) old new → IsOneMade k f c new
one_made k f c old new h =
    let finite = guarded_ok (IsFinite (value_at f)) (Tested f (OneFinds k f)) c old new h in
    let zero = then_ok finite.1 in
    let test = then_ok zero.second in
    record {
      tested = test.between;
      is = (guarded_ok (IsNonnegative (value_at f)) (OneFinds k f) c test.between new test.second).1;
    }

-- ---- expressions
pub found_means : (ls : List Let) (e : Expression ℚ) (c : SpecCurve) (old new : ℕ) → Finds ls e (Ok c) old new
    → Means (with_values ls) e (value_at c)
found_means ls (Named w) c old new h = (value_at c, given_values ls w c (name_ok (curve_named ls w) c h.0), λ t n. refl)
found_means ls Nought c old new h = λ t n. ap (λ d. value_at d t) (gives_ok zero_curve c h.0) ∙ zero_value t n
found_means ls (OfPair k x y) c old new h = pair_means k x y c h.0
found_means ls (OfTriple k x y z) c old new h = triple_means k x y z c h.0
found_means ls (OnCurve k e) c old new h =
    let b = then_ok h in
    let made = one_made k b.value c b.between new b.second in (
      value_at b.value,
      found_means ls e b.value old b.between b.first,
      one_means k b.value c made.tested new made.is,
    )
found_means ls (OnNumber k e x) c old new h =
    let b = then_ok h in (
      value_at b.value,
      found_means ls e b.value old b.between b.first,
      (guarded_ok (MayCallWith k b.value x) (Once (CurveFinds (call_with k x) b.value b.value)) c b.between new b.second).1.0.1.answers,
    )
found_means ls (OnTwo k d e) c old new h =
    let a = then_ok h in
    let b = then_ok a.second in (
      value_at a.value,
      value_at b.value,
      found_means ls d a.value old a.between a.first,
      found_means ls e b.value a.between b.between b.first,
      (guarded_ok (MayCall k a.value b.value) (Once (CurveFinds (call_of_two k) a.value b.value)) c b.between new b.second).1.0.1.answers,
    )
