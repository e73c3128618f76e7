-- The answers that a script finds are those that it means.
use Rattle.std.specs.Prelude.{◌≡◌, ℕ, List, [], ◌∷◌, ◌++◌, Option, Some, None, Result, Ok}
use Rattle.std.proofs.Common.{refl, sym, ap, subst, ◌∙◌}
use Rattle.std.proofs.lemmas.List.{append-nil, append_assoc}
use Rattle.rational.specs.Rational.{ℚ, ◌≤ℚ◌}
use Rattle.min_plus.specs.Functions.{zero_q}
use Rattle.upp_curve.specs.Curve.{SpecCurve, value_at}
use Rattle.input_texts.specs.declared.curve_script.fault.LangKind.{LangKind}
use Rattle.input_texts.specs.declared.curve_script.keyword.TwoAsked.{TwoAsked}
use Rattle.input_texts.specs.declared.curve_script.keyword.TwoAsked.TheVariants.{Delay, Backlog, Equal, Below}
use Rattle.input_texts.specs.curve_script.Grammar.{Expression, Statement, Lets, ValueAt, AsksOne, AsksTwo}
use Rattle.input_texts.specs.curve_script.Scripts.{Numbered}
use Rattle.curve_lang.specs.Answers.{Answered, NumberIs, MeansOfTwo, ScriptMeans, one_answer}
use Rattle.min_plus.specs.Functions.{IsFinite}
use Rattle.upp_limits.specs.declared.op_kind.OpKind.TheVariants as calls
use Rattle.curve_lang.specs.declared.answer.Word.TheVariants as words
use Rattle.curve_lang.specs.Finding.{Still, Once, Then, Gives, CallFinds, MayWait}
use Rattle.curve_lang.specs.Found.{Let, with_values, Finds, Added, AddsName, AddsAnswer, NewName, IsDelay, IsBacklog, TwoFinds, curve_named, TellsValue, StatementFinds, LineThen, goes_on, stops, after_added, ScriptFinds}
use Rattle.curve_lang.specs.Laws.{AnswersAreMeant}
use Rattle.curve_lang.proofs.Findings.{then_ok, gives_ok, guarded_ok}
use Rattle.curve_lang.proofs.Meant.{found_means}
use Rattle.curve_lang.proofs.Normal.{EachNormal, one_more, found_normal}

-- the answers behind others, where the names of ls were given before
pub record IsRest (ls : List Let) (out : List Answered) (lines : List Numbered) (all : List Answered) : Type 0 where
  pub later : List Answered
  pub is : all ≡ out ++ later
  pub means : ScriptMeans (with_values ls) lines later

more_values : (ls : List Let) (l : Let) → with_values (ls ++ l ∷ []) ≡ with_values ls ++ record { name = l.name; values = value_at l.curve } ∷ []
more_values [] l = refl
more_values (m ∷ ls) l = ap (λ gs. record { name = m.name; values = value_at m.curve } ∷ gs) (more_values ls l)

-- what the statements after one owe
abbrev Later : List Numbered → List Answered → Type 0
Later rest all = (ms : List Let) (more : List Answered) (old new : ℕ) → EachNormal ms → ScriptFinds ms more rest (Ok all) old new
    → IsRest ms more rest all

new_ok : (o : Option SpecCurve) (next : Result Added LangKind → (old new : ℕ) → Type 0) (x : Added) (old new : ℕ) → NewName o next (Ok x) old new
    → next (Ok x) old new
new_ok None next x old new h = h
new_ok (Some c) next x old new h = absurd (cc h.0)

two_means : (q : TwoAsked) (f g : SpecCurve) (a : Answered) (old new : ℕ) → TwoFinds q f g (Ok a) old new → MeansOfTwo q (value_at f) (value_at g) a
two_means Delay f g a old new h = (guarded_ok (MayWait f g) (Once (CallFinds calls.Horizontal f g (IsDelay f g))) a old new h).1.0.1
two_means Backlog f g a old new h = (guarded_ok (IsFinite (value_at g)) (Once (CallFinds calls.Vertical f g (IsBacklog f g))) a old new h).1.0.1
two_means Equal f g a old new ((b, same, e), still) = (b, same, cc e)
two_means Below f g a old new h = h.0.1

-- a name
named : (ls : List Let) (out : List Answered) (w : List ℕ) (e : Expression ℚ) (rest : List Numbered) (all : List Answered) (line : ℕ) (c : SpecCurve)
    (old made between new : ℕ) → EachNormal ls → Finds ls e (Ok c) old made → Later rest all
    → ScriptFinds (ls ++ record { name = w; curve = c } ∷ []) out rest (Ok all) between new → IsRest ls out ((line, Lets w e) ∷ rest) all
named ls out w e rest all line c old made between new each found later next =
    let r = later (ls ++ record { name = w; curve = c } ∷ []) out between new
    (one_more ls record { name = w; curve = c } each (found_normal ls e c old made each found)) next in
    record {
      later = r.later;
      is = r.is;
      means = (value_at c, found_means ls e c old made found, subst (λ gs. ScriptMeans gs rest r.later) (more_values ls record { name = w; curve = c }) r.means);
    }

-- an answer
told : (ls : List Let) (out : List Answered) (a : Answered) (rest : List Numbered) (all : List Answered) (old new : ℕ)
    → EachNormal ls → Later rest all → ScriptFinds ls (out ++ a ∷ []) rest (Ok all) old new → (r : IsRest ls (out ++ a ∷ []) rest all) × (all ≡ out ++ (a ∷ r.later))
told ls out a rest all old new each later next =
    let r = later ls (out ++ a ∷ []) old new each next in (r, r.is ∙ append_assoc out (a ∷ []) r.later)

statement_means : (s : Statement ℚ) (ls : List Let) (out : List Answered) (rest : List Numbered) (all : List Answered) (line : ℕ) (x : Added)
    (old between new : ℕ) → EachNormal ls → StatementFinds ls s (Ok x) old between → Later rest all
    → after_added (λ ms more. ScriptFinds ms more rest (Ok all) between new) ls out x → IsRest ls out ((line, s) ∷ rest) all
statement_means (Lets w e) ls out rest all line x old between new each h later next =
    let b = then_ok (new_ok (curve_named ls w) (Then (Finds ls e) (λ c. Still (Gives (AddsName record { name = w; curve = c })))) x old between h) in
    let is = gives_ok (AddsName record { name = w; curve = b.value }) x b.second.0 in
    named ls out w e rest all line b.value old b.between between new each b.first later
    (subst (λ y. after_added (λ ms more. ScriptFinds ms more rest (Ok all) between new) ls out y) is next)
statement_means (ValueAt e t) ls out rest all line x old between new each h later next =
    let b = then_ok h in
    let is = gives_ok (AddsAnswer b.value) x b.second.0 in
    let f = then_ok b.first in
    let g = guarded_ok (zero_q ≤ℚ t) (TellsValue f.value t) b.value f.between b.between f.second in
    let v = then_ok g.1 in
    let n = told ls out b.value rest all between new each later
    (subst (λ y. after_added (λ ms more. ScriptFinds ms more rest (Ok all) between new) ls out y) is next) in
    let same : b.value ≡ NumberIs words.Value v.value = cc v.second.0 in
    record {
      later = b.value ∷ n.0.later;
      is = n.1;
      means = (
        g.0,
        (value_at f.value, found_means ls e f.value old f.between f.first, (same ∙ ap (λ y. NumberIs words.Value y) v.first.0.1, n.0.means)),
      );
    }
statement_means (AsksOne q e) ls out rest all line x old between new each h later next =
    let b = then_ok h in
    let is = gives_ok (AddsAnswer b.value) x b.second.0 in
    let f = then_ok b.first in
    let n = told ls out b.value rest all between new each later
    (subst (λ y. after_added (λ ms more. ScriptFinds ms more rest (Ok all) between new) ls out y) is next) in
    let same : b.value ≡ one_answer q f.value = cc f.second.0 in
    record {
      later = b.value ∷ n.0.later;
      is = n.1;
      means = (
        value_at f.value,
        found_means ls e f.value old f.between f.first,
        ((f.value, record { normal = found_normal ls e f.value old f.between each f.first; values = λ t k. refl }, same), n.0.means),
      );
    }
statement_means (AsksTwo q d e) ls out rest all line x old between new each h later next =
    let b = then_ok h in
    let is = gives_ok (AddsAnswer b.value) x b.second.0 in
    let f = then_ok b.first in
    let g = then_ok f.second in
    let n = told ls out b.value rest all between new each later
    (subst (λ y. after_added (λ ms more. ScriptFinds ms more rest (Ok all) between new) ls out y) is next) in
    record {
      later = b.value ∷ n.0.later;
      is = n.1;
      means = (
        value_at f.value,
        value_at g.value,
        found_means ls d f.value old f.between f.first,
        found_means ls e g.value f.between g.between g.first,
        (two_means q f.value g.value b.value g.between b.between g.second, n.0.means),
      );
    }

first_means : (line : ℕ) (s : Statement ℚ) (ls : List Let) (out : List Answered) (rest : List Numbered) (all : List Answered) (old new : ℕ)
    → EachNormal ls → Later rest all
    → LineThen line (StatementFinds ls s) (λ x r m n. after_added (λ ms more. ScriptFinds ms more rest r m n) ls out x) (Ok all) old new
    → IsRest ls out ((line, s) ∷ rest) all
first_means line s ls out rest all old new each later (goes_on x between p next) = statement_means s ls out rest all line x old between new each p later next
first_means line s ls out rest all old new each later (stops k p e) = absurd (cc e)

pub script_means : (lines : List Numbered) (ls : List Let) (out all : List Answered) (old new : ℕ) → EachNormal ls → ScriptFinds ls out lines (Ok all) old new
    → IsRest ls out lines all
script_means [] ls out all old new each h = let same : all ≡ out = cc h.0 in record { later = []; is = same ∙ sym (append-nil out); means = refl }
script_means (l ∷ rest) ls out all old new each h =
    first_means l.0 l.1 ls out rest all old new each (λ ms more m n k g. script_means rest ms more all m n k g) h

pub answers_are_meant : AnswersAreMeant
answers_are_meant lines out h =
    let r = script_means lines [] [] out h.old h.new tt h.finds in subst (λ answers. ScriptMeans [] lines answers) (sym r.is) r.means
