-- What the statements of a script find is there: their answers or a first fault, and no want of memory.
use Rattle.std.proofs.Common.{◌≡◌, ◌≢◌, ◌⊎◌, ℕ, ◌+◌, ◌^◌, List, [], ◌∷◌, ◌++◌, Option, Some, None, Result, Ok, Err, IfOk, Bool, true, false, refl, sym, inl, inr}
use Rattle.std.specs.Prelude.{IfErr, IsTrue, ◌↔◌}
use Rattle.std.proofs.lemmas.Bool.{cases_lt, true≢false}
use Rattle.rational.specs.Rational.{ℚ, ◌≤ℚ◌}
use Rattle.rational.specs.Extended.{Ext}
use Rattle.min_plus.specs.Deviations.{IsHorizontalDeviation, IsVerticalDeviation}
use Rattle.min_plus.specs.Functions.{zero_q, IsFinite, IsRising}
use Rattle.upp_curve.specs.Curve.{SpecCurve, value_at}
use Rattle.upp_curve.specs.Curves.{IsCurve}
use Rattle.upp_limits.specs.declared.op_kind.OpKind.TheVariants as calls
use Rattle.upp_limits.specs.declared.op_kind.OpFault.{OpFault}
use Rattle.upp_limits.specs.declared.op_kind.OpFault.TheVariants as faults
use Rattle.curve_call.specs.Calls.{Applies}
use Rattle.input_texts.specs.declared.curve_script.keyword.TwoAsked.{TwoAsked}
use Rattle.input_texts.specs.declared.curve_script.keyword.TwoAsked.TheVariants.{Delay, Backlog, Equal, Below}
use Rattle.input_texts.specs.declared.curve_script.fault.LangKind.{LangKind}
use Rattle.input_texts.specs.declared.curve_script.fault.LangKind.TheVariants.{C5, TooMany, TooWide, NoMemory}
use Rattle.input_texts.specs.curve_script.Grammar.{Statement, Lets, ValueAt, AsksOne, AsksTwo}
use Rattle.input_texts.specs.curve_script.Scripts.{Numbered}
use Rattle.curve_lang.specs.declared.answer.Word.TheVariants as words
use Rattle.curve_lang.specs.Answers.{Answered, NumberIs, TruthIs, one_answer}
use Rattle.curve_lang.specs.Finding.{Still, Once, Then, Gives, CallFinds, ValueFinds, value_gauge}
use Rattle.curve_lang.specs.Finding.{MayWait}
use Rattle.curve_lang.specs.Found as script
use Rattle.curve_lang.specs.Found.{Let, curve_named, Finds, Added, AddsName, AddsAnswer, IsDelay, IsBacklog, IsBelow, TwoFinds, TellsValue, TimeFinds, AsksTime, AsksOf, AsksBoth, Kept, NewName, StatementFinds, fault_at, Told, ScriptFinds}
use Rattle.curve_deviation.proofs.Lesser.{lesser_is}
use Rattle.existence.proofs.curves.Deciding.{on_parts, both}
use Rattle.existence.proofs.curves.Horizontals.{horizontal_answered}
use Rattle.existence.proofs.curves.Lattices.{lower_answered}
use Rattle.existence.proofs.curves.Verticals.{finite_or_not, vertical_answered}
use Rattle.existence.proofs.scripts.Found.{Has, then_has, guarded_has, measure_has, finds_has, many_told, wide_told, AreCurves, one_more}
use Rattle.existence.proofs.scripts.Numbers.{AreSmallIn, EachSmall}
use Rattle.existence.proofs.scripts.Tests.{le_q_or, rising_or, same_values_or}

-- ---- questions
abbrev AnyNumber : Ext → Type 0
AnyNumber x = Unit {0}

abbrev AnyAnswer : Answered → Type 0
AnyAnswer a = Unit {0}

-- whether something holds, as a truth
truth : {P : Type 0} → P ⊎ ¬ P → (b : Bool) × (IsTrue b ↔ P)
truth (inl p) = (true, (λ h. p, λ h. refl))
truth (inr n) = (false, (λ h. absurd (true≢false (sym h)), λ p. absurd (n p)))

value_has : (f : SpecCurve) (t : ℚ) (old : ℕ) → Has AnyNumber (Still (ValueFinds f t)) old
value_has f t old = elim (cases_lt (value_gauge f t) (2 ^ 120)) [
  | inl narrow ↦ record { result = Ok (value_at f t); new = old; is = ((narrow, refl), refl); told = tt; keeps = tt }
  | inr wide ↦ record { result = Err TooWide; new = old; is = (wide, refl); told = wide_told; keeps = tt }
]

time_has : (f : SpecCurve) (t : ℚ) (old : ℕ) → Has AnyAnswer (TimeFinds f t) old
time_has f t old =
    guarded_has AnyAnswer (zero_q ≤ℚ t) (TellsValue f t) old (le_q_or zero_q t)
    (λ l. then_has AnyNumber AnyAnswer (Still (ValueFinds f t)) (λ v. Still (λ s. s ≡ Ok (NumberIs words.Value v))) old (value_has f t old)
    (λ v n k. record { result = Ok (NumberIs words.Value v); new = n; is = (refl, refl); told = tt; keeps = tt }))

below_by : (f g : SpecCurve) (old : ℕ) (r : Result SpecCurve OpFault) → IsCurve f → Applies calls.Min f g r → r ≢ Err faults.NoMemory
    → Has AnyAnswer (Once (CallFinds calls.Min f g (IsBelow f g))) old
below_by f g old (Ok m) c a found =
    let (b, same) = truth (same_values_or m f a.made.curve c) in
    let below = lesser_is f g m a.made.answers in
    record {
      result = Ok (TruthIs words.Below b);
      new = old + 1;
      is = ((a.within, (b, (λ h. below.0 (same.0 h), λ h. same.1 (below.1 h)), refl)), refl);
      told = tt;
      keeps = tt;
    }
below_by f g old (Err faults.TooMany) c a found =
    record { result = Err TooMany; new = old + 1; is = (a, refl); told = many_told; keeps = tt }
below_by f g old (Err faults.TooWide) c a found =
    record { result = Err TooWide; new = old + 1; is = (a, refl); told = wide_told; keeps = tt }
below_by f g old (Err faults.NoMemory) c a found = absurd (found refl)

may_wait_or : (f g : SpecCurve) → IsCurve f → IsCurve g → MayWait f g ⊎ ¬ (MayWait f g)
may_wait_or f g c d =
    on_parts {A = IsFinite (value_at g) × (IsRising (value_at f) × IsRising (value_at g))}
    (λ a. record { finite = a.0; first = a.1.0; second = a.1.1 }) (λ m. (m.finite, (m.first, m.second)))
    (both (finite_or_not g d) (both (rising_or f c) (rising_or g d)))

asked_has : (q : TwoAsked) (f g : SpecCurve) (old : ℕ) → IsCurve f → IsCurve g → Has AnyAnswer (TwoFinds q f g) old
asked_has Delay f g old c d =
    guarded_has AnyAnswer (MayWait f g) (Once (CallFinds calls.Horizontal f g (IsDelay f g))) old (may_wait_or f g c d)
    (λ may. let r = horizontal_answered f g c d may.finite may.first may.second in
    measure_has calls.Horizontal IsHorizontalDeviation f g (IsDelay f g) AnyAnswer old
    (λ x dev. (NumberIs words.Delay x, (x, dev, refl), tt)) r.0 r.1)
asked_has Backlog f g old c d =
    guarded_has AnyAnswer (IsFinite (value_at g)) (Once (CallFinds calls.Vertical f g (IsBacklog f g))) old (finite_or_not g d)
    (λ fin. let r = vertical_answered f g c d fin in
    measure_has calls.Vertical IsVerticalDeviation f g (IsBacklog f g) AnyAnswer old
    (λ x dev. (NumberIs words.Backlog x, (x, dev, refl), tt)) r.0 r.1)
asked_has Equal f g old c d =
    let (b, same) = truth (same_values_or f g c d) in
    record { result = Ok (TruthIs words.Equal b); new = old; is = ((b, same, refl), refl); told = tt; keeps = tt }
asked_has Below f g old c d = let a = lower_answered f g c d in below_by f g old a.answer c a.is a.found

-- ---- statements
abbrev KeepsCurve : Added → Type 0
KeepsCurve (AddsName l) = IsCurve l.curve
KeepsCurve (AddsAnswer a) = Unit {0}

kept_has : (P : Result Answered LangKind → (old new : ℕ) → Type 0) (old : ℕ) → Has AnyAnswer P old → Has KeepsCurve (Kept P) old
kept_has P old h =
    then_has AnyAnswer KeepsCurve P (λ a. Still (Gives (AddsAnswer a))) old h
    (λ a n k. record { result = Ok (AddsAnswer a); new = n; is = (inl refl, refl); told = tt; keeps = tt })

given_told : C5 ≢ NoMemory
given_told e = cc

new_has : (o : Option SpecCurve) (next : Result Added LangKind → (old new : ℕ) → Type 0) (old : ℕ) → Has KeepsCurve next old
    → Has KeepsCurve (NewName o next) old
new_has None next old h = record { result = h.result; new = h.new; is = h.is; told = h.told; keeps = h.keeps }
new_has (Some c) next old h = record { result = Err C5; new = old; is = (refl, refl); told = given_told; keeps = tt }

abbrev named : List ℕ → SpecCurve → Let
named w c = record { name = w; curve = c }

statement_has : (ls : List Let) (s : Statement ℚ) (old : ℕ) → AreCurves ls → AreSmallIn s → Has KeepsCurve (StatementFinds ls s) old
statement_has ls (Lets w e) old each small =
    new_has (curve_named ls w) (Then (Finds ls e) (λ c. Still (Gives (AddsName (named w c))))) old
    (then_has IsCurve KeepsCurve (Finds ls e) (λ c. Still (Gives (AddsName (named w c)))) old (finds_has ls e old each small)
    (λ c n k. record { result = Ok (AddsName (named w c)); new = n; is = (inl refl, refl); told = tt; keeps = k }))
statement_has ls (ValueAt e t) old each small =
    kept_has (AsksTime ls e t) old
    (then_has IsCurve AnyAnswer (Finds ls e) (λ f. TimeFinds f t) old (finds_has ls e old each small) (λ f n c. time_has f t n))
statement_has ls (AsksOne q e) old each small =
    kept_has (AsksOf ls q e) old
    (then_has IsCurve AnyAnswer (Finds ls e) (λ f. Still (λ s. s ≡ Ok (one_answer q f))) old (finds_has ls e old each small)
    (λ f n c. record { result = Ok (one_answer q f); new = n; is = (refl, refl); told = tt; keeps = tt }))
statement_has ls (AsksTwo q a b) old each small =
    kept_has (AsksBoth ls q a b) old
    (then_has IsCurve AnyAnswer (Finds ls a) (λ f. Then (Finds ls b) (TwoFinds q f)) old (finds_has ls a old each small.0)
    (λ f n c. then_has IsCurve AnyAnswer (Finds ls b) (TwoFinds q f) n (finds_has ls b n each small.1) (λ g m d. asked_has q f g m c d)))

-- ---- scripts
pub record IsTold (ls : List Let) (out : List Answered) (lines : List Numbered) (old : ℕ) : Type 0 where
  pub told : Told
  pub new : ℕ
  pub finds : ScriptFinds ls out lines told old new
  pub kind : IfErr told (λ fault. fault.kind ≢ NoMemory)

fault_named : (k : LangKind) (line : ℕ) → k ≢ NoMemory → (fault_at k line).kind ≢ NoMemory
fault_named NoMemory line h = absurd (h refl)
fault_named k line h = h

line_by : (l : Numbered) (rest : List Numbered) (ls : List Let) (out : List Answered) (old between : ℕ) (r : Result Added LangKind)
    → AreCurves ls → StatementFinds ls l.1 r old between → IfErr r (λ k. k ≢ NoMemory) → IfOk r KeepsCurve
    → ((ms : List Let) (more : List Answered) (n : ℕ) → AreCurves ms → IsTold ms more rest n) → IsTold ls out (l ∷ rest) old
line_by l rest ls out old between (Ok (AddsName m)) each is told keeps next =
    let h = next (ls ++ m ∷ []) out between (one_more ls m each keeps) in
    record { told = h.told; new = h.new; finds = script.goes_on (AddsName m) between is h.finds; kind = h.kind }
line_by l rest ls out old between (Ok (AddsAnswer a)) each is told keeps next =
    let h = next ls (out ++ a ∷ []) between each in
    record { told = h.told; new = h.new; finds = script.goes_on (AddsAnswer a) between is h.finds; kind = h.kind }
line_by l rest ls out old between (Err k) each is told keeps next =
    record { told = Err (fault_at k l.0); new = between; finds = script.stops k is refl; kind = fault_named k l.0 told }

pub script_has : (lines : List Numbered) (ls : List Let) (out : List Answered) (old : ℕ) → AreCurves ls → EachSmall lines
    → IsTold ls out lines old
script_has [] ls out old each small = record { told = Ok out; new = old; finds = (refl, refl); kind = tt }
script_has (l ∷ rest) ls out old each small =
    let h = statement_has ls l.1 old each small.0 in
    line_by l rest ls out old h.new h.result each h.is h.told h.keeps (λ ms more n kept. script_has rest ms more n kept small.1)
