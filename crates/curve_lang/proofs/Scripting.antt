-- Statement after statement: what a script finds, from what each statement adds.
use Rattle.std.specs.Prelude.{◌≡◌, ℕ, ◌+◌, ◌≤◌, ◌<◌, length, List, [], ◌∷◌, ◌++◌, map, Option, Some, None, Result, Ok, Err, is_some, false}
use Rattle.std.proofs.Common.{refl, sym, ap, subst, ◌∙◌, inl, inr, get_or, drop, drop_of_length-le}
use Rattle.std.proofs.lemmas.List.{drop_more}
use Rattle.rational.specs.Rational.{ℚ}
use Rattle.upp_curve.specs.Curve.{SpecCurve}
use Rattle.input_texts.specs.declared.curve_script.fault.LangKind.{LangKind}
use Rattle.input_texts.specs.declared.curve_script.fault.LangKind.TheVariants.{NoMemory}
use Rattle.input_texts.specs.curve_script.Grammar.{Expression, Statement, Lets}
use Rattle.input_texts.specs.declared.curve_script.script.ScriptLine.{ScriptLine}
use Rattle.input_texts.specs.curve_script.Scripts.{Numbered, line_view}
use Rattle.curve_lang.specs.Answers.{Answered, ScriptMeans}
use Rattle.curve_lang.specs.Finding.{Still, Then, goes_on, stops, Gives}
use Rattle.curve_lang.specs.Found.{Let, curve_named, Finds, Kept, NewName, Added, AddsName, AddsAnswer, StatementFinds, Told, goes_on as line_on, stops as line_stops, fault_at, after_added, ScriptFinds}
use Rattle.curve_lang.specs.Scripts.{HasAdded, IsAdded, IsGiven, IsKept}
use Rattle.curve_lang.proofs.ScriptMeant.{answers_are_meant}

-- ---- what a statement adds
-- an answer that is kept
pub kept_added : {U : Type 0} (ls : List Let) (out more : List Answered) (P : Result Answered LangKind → (old new : ℕ) → Type 0)
    (made : Result Answered LangKind) (r : Result U LangKind) (old new : ℕ) → P made old new → IsKept made out more r → (s : Statement ℚ)
    → ((x : Result Added LangKind) → Kept P x old new → StatementFinds ls s x old new) → IsAdded ls out s ls more r old new
kept_added ls out more P (Ok a) (Ok u) old new p k s all = (AddsAnswer a, all (Ok (AddsAnswer a)) (goes_on a new p (inl refl, refl)), (refl, k))
kept_added ls out more P (Ok a) (Err j) old new p k s all = all (Err j) (goes_on a new p (inr (ap Err k), refl))
kept_added ls out more P (Err j) (Ok u) old new p k s all = absurd k
kept_added ls out more P (Err j) (Err i) old new p k s all = all (Err i) (stops j p (ap Err k))

-- a name
pub given_added : {U : Type 0} (ls ms : List Let) (out : List Answered) (w : List ℕ) (e : Expression ℚ) (r : Result U LangKind) (old new : ℕ)
    → IsGiven ls w e ms r old new → IsAdded ls out (Lets w e) ms out r old new
given_added ls ms out w e (Ok u) old new (l, finds, is) = (AddsName l, finds, (is, refl))
given_added ls ms out w e (Err k) old new h = h

-- a name that was not given before
new_finds : (o : Option SpecCurve) (next : Result Added LangKind → (old new : ℕ) → Type 0) (r : Result Added LangKind) (old new : ℕ)
    → is_some o ≡ false → next r old new → NewName o next r old new
new_finds None next r old new e h = h
new_finds (Some c) next r old new e h = absurd (cc e)

-- its curve is found, and then it is given
abbrev IsNamed : List Let → List ℕ → Expression ℚ → Result Added LangKind → (old new : ℕ) → Type 0
IsNamed ls w e r old new = Then (Finds ls e) (λ c. Still (Gives (AddsName record { name = w; curve = c }))) r old new

pub name_refused : (ls : List Let) (w : List ℕ) (e : Expression ℚ) (k : LangKind) (old new : ℕ) → is_some (curve_named ls w) ≡ false
    → Finds ls e (Err k) old new → StatementFinds ls (Lets w e) (Err k) old new
name_refused ls w e k old new fresh h = new_finds (curve_named ls w) (IsNamed ls w e) (Err k) old new fresh (stops k h refl)

pub name_lost : (ls : List Let) (w : List ℕ) (e : Expression ℚ) (c : SpecCurve) (old new : ℕ) → is_some (curve_named ls w) ≡ false
    → Finds ls e (Ok c) old new → StatementFinds ls (Lets w e) (Err NoMemory) old new
name_lost ls w e c old new fresh h =
    new_finds (curve_named ls w) (IsNamed ls w e) (Err NoMemory) old new fresh (goes_on c new h (inr refl, refl))

pub name_found : (ls : List Let) (w : List ℕ) (e : Expression ℚ) (c : SpecCurve) (old new : ℕ) → is_some (curve_named ls w) ≡ false
    → Finds ls e (Ok c) old new → StatementFinds ls (Lets w e) (Ok (AddsName record { name = w; curve = c })) old new
name_found ls w e c old new fresh h =
    new_finds (curve_named ls w) (IsNamed ls w e) (Ok (AddsName record { name = w; curve = c })) old new fresh (goes_on c new h (inl refl, refl))

-- ---- one statement after another
next_after : (x : Added) (ls ms : List Let) (out more : List Answered) (rest : List Numbered) (r : Told) (old new : ℕ) → HasAdded ls out x ms more
    → ScriptFinds ms more rest r old new → after_added (λ ks others. ScriptFinds ks others rest r old new) ls out x
next_after (AddsName l) ls ms out more rest r old new (names, answers) h =
    subst (λ o. ScriptFinds (ls ++ l ∷ []) o rest r old new) answers (subst (λ ks. ScriptFinds ks more rest r old new) names h)
next_after (AddsAnswer a) ls ms out more rest r old new (names, answers) h =
    subst (λ ks. ScriptFinds ks (out ++ a ∷ []) rest r old new) names (subst (λ o. ScriptFinds ms o rest r old new) answers h)

pub script_goes_on : {U : Type 0} (u : U) (l : Numbered) (ls ms : List Let) (out more : List Answered) (rest : List Numbered) (r : Told) (old between new : ℕ)
    → IsAdded ls out l.1 ms more (Ok u) old between → ScriptFinds ms more rest r between new → ScriptFinds ls out (l ∷ rest) r old new
script_goes_on u l ls ms out more rest r old between new (x, finds, added) h =
    line_on x between finds (next_after x ls ms out more rest r between new added h)

pub script_stops : (U : Type 0) (l : Numbered) (ls ms : List Let) (out more : List Answered) (rest : List Numbered) (k : LangKind) (old new : ℕ)
    → IsAdded {U = U} ls out l.1 ms more (Err k) old new → ScriptFinds ls out (l ∷ rest) (Err (fault_at k l.0)) old new
script_stops U l ls ms out more rest k old new h = line_stops k h refl

-- ---- the lines that are left
-- what a line finds with those after it is what the lines from it on find
pub from_line : (ls : List Let) (out : List Answered) (xs : List ScriptLine) (i : ℕ) (line : ScriptLine) (r : Told) (old new : ℕ) → i < length xs
    → line ≡ get_or xs i line → ScriptFinds ls out (line_view line ∷ map line_view (drop (i + 1) xs)) r old new
    → ScriptFinds ls out (map line_view (drop i xs)) r old new
from_line ls out xs i line r old new within is h =
    subst (λ ys. ScriptFinds ls out (map line_view ys) r old new) (sym (drop_more xs i line within ∙ ap (λ y. y ∷ drop (i + 1) xs) (sym is))) h

-- none is: the answers are those of the script
pub found_at_end : (ls : List Let) (out : List Answered) (xs : List ScriptLine) (i : ℕ) (old new : ℕ) → length xs ≤ i
    → ((r : Told) (n : ℕ) → ScriptFinds ls out (map line_view (drop i xs)) r new n → ScriptFinds [] [] (map line_view xs) r old n)
    → ScriptFinds [] [] (map line_view xs) (Ok out) old new
found_at_end ls out xs i old new l on =
    on (Ok out) new (subst (λ ys. ScriptFinds ls out (map line_view ys) (Ok out) new new) (sym (drop_of_length-le xs l)) (refl, refl))

pub found_again : (ls : List Let) (out : List Answered) (xs : List ScriptLine) (i : ℕ) (old new : ℕ) → length xs ≤ i
    → ((r : Told) (n : ℕ) → ScriptFinds ls out (map line_view (drop i xs)) r new n → ScriptFinds [] [] (map line_view xs) r old n)
    → ScriptMeans [] (map line_view xs) out
found_again ls out xs i old new l on =
    answers_are_meant (map line_view xs) out record { old = old; new = new; finds = found_at_end ls out xs i old new l on }
