-- What an expression means: a function from times to values, by the definitions of the operators, apart from how curves
-- are kept. (Le Boudec and Thiran, chapter 3, for the operators; the language is own choice.)
use Rattle.std.specs.Prelude.{◌≡◌, ℕ, List, find, Option, Some, option_map}
use Rattle.std.specs.Str.{bytes_eq}
use Rattle.rational.specs.Rational.{ℚ, ◌≤ℚ◌}
use Rattle.rational.specs.Extended.{Ext}
use Rattle.rational.specs.declared.Extended.TheVariants.{Fin}
use Rattle.min_plus.specs.Functions.{zero_q}
use Rattle.min_plus.specs.Formulas.{bucket_value, stair_value, rate_latency_value, gate_value}
use Rattle.min_plus.specs.Convolution.{IsSubadditiveClosure}
use Rattle.min_plus.specs.Running.{IsRunningSupremum, IsRunningInfimum}
use Rattle.upp_limits.specs.declared.op_kind.OpKind.{OpKind}
use Rattle.upp_limits.specs.declared.op_kind.OpKind.TheVariants as calls
use Rattle.curve_call.specs.Answers.{IsAnswer}
use Rattle.input_texts.specs.declared.curve_script.keyword.NumberPair.{NumberPair}
use Rattle.input_texts.specs.declared.curve_script.keyword.NumberPair.TheVariants.{Bucket, Latency}
use Rattle.input_texts.specs.declared.curve_script.keyword.NumberTriple.{NumberTriple}
use Rattle.input_texts.specs.declared.curve_script.keyword.NumberTriple.TheVariants.{Stair, Gate}
use Rattle.input_texts.specs.declared.curve_script.keyword.CurveOperator.{CurveOperator}
use Rattle.input_texts.specs.declared.curve_script.keyword.CurveOperator.TheVariants.{Close, RunSup, RunInf}
use Rattle.input_texts.specs.declared.curve_script.keyword.NumberOperator.{NumberOperator}
use Rattle.input_texts.specs.declared.curve_script.keyword.NumberOperator.TheVariants.{PosMinus, Scale, Shift}
use Rattle.input_texts.specs.declared.curve_script.keyword.PairOperator.{PairOperator}
use Rattle.input_texts.specs.declared.curve_script.keyword.PairOperator.TheVariants.{Sum, Min, Max, Conv, PosDiff, Deconv}
use Rattle.input_texts.specs.curve_script.Grammar.{Expression, Named, Nought, OfPair, OfTriple, OnCurve, OnNumber, OnTwo}

-- values at all times; only those from 0 on are looked at
abbrev pub Values : Type 0
Values = ℚ → Ext

-- what holds at each time from 0 on
abbrev pub FromZero : (ℚ → Type 0) → Type 0
FromZero P = (t : ℚ) → zero_q ≤ℚ t → P t

-- a name that was given, with its values
pub record Given : Type 0 where
  pub name : List ℕ
  pub values : Values

abbrev pub given : List Given → List ℕ → Option Values
given gs w = option_map (λ g. g.values) (find (λ g. bytes_eq g.name w) gs)

-- ---- the operators
abbrev pub pair_value : NumberPair → ℚ → ℚ → ℚ → Ext
pair_value Bucket burst rate t = bucket_value burst rate t
pair_value Latency rate latency t = rate_latency_value rate latency t

abbrev pub triple_value : NumberTriple → ℚ → ℚ → ℚ → ℚ → Ext
triple_value Stair packet period jitter t = stair_value packet period jitter t
triple_value Gate rate cycle slot t = gate_value rate cycle slot t

abbrev pub call_of_two : PairOperator → OpKind
call_of_two Sum = calls.Sum
call_of_two Min = calls.Min
call_of_two Max = calls.Max
call_of_two Conv = calls.Convolve
call_of_two PosDiff = calls.PosDiff
call_of_two Deconv = calls.Deconvolve

abbrev pub call_with : NumberOperator → ℚ → OpKind
call_with PosMinus l = calls.PosMinus l
call_with Scale q = calls.Scale q
call_with Shift d = calls.Shift (Fin d)

abbrev pub IsOnCurve : CurveOperator → Values → ℚ → Ext → Type 0
IsOnCurve Close f t v = IsSubadditiveClosure f t v
IsOnCurve RunSup f t v = IsRunningSupremum f t v
IsOnCurve RunInf f t v = IsRunningInfimum f t v

-- h has the values of the expression
abbrev pub Means : List Given → Expression ℚ → Values → Type 0
Means gs (Named w) h = (f : Values) × (given gs w ≡ Some f) × FromZero (λ t. h t ≡ f t)
Means gs Nought h = FromZero (λ t. h t ≡ Fin zero_q)
Means gs (OfPair k x y) h = FromZero (λ t. h t ≡ pair_value k x y t)
Means gs (OfTriple k x y z) h = FromZero (λ t. h t ≡ triple_value k x y z t)
Means gs (OnCurve k e) h = (f : Values) × Means gs e f × FromZero (λ t. IsOnCurve k f t (h t))
Means gs (OnNumber k e x) h = (f : Values) × Means gs e f × FromZero (λ t. IsAnswer (call_with k x) f f t (h t))
Means gs (OnTwo k a b) h =
    (f : Values) × (g : Values) × Means gs a f × Means gs b g × FromZero (λ t. IsAnswer (call_of_two k) f g t (h t))
