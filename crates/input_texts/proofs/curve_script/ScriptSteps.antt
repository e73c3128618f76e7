-- One line after another.
use Rattle.std.proofs.Common.{◌≡◌, ℕ, zero, suc, ◌+◌, ◌<◌, ◌≤◌, List, [], ◌∷◌, ◌++◌, length, take, drop, Bool, true, false, refl, sym, ap, ◌∙◌, subst, arith, inl, inr}
use Rattle.std.specs.Prelude.{◌-◌, ◌⊎◌, MatchBool, slice_index}
use Rattle.std.proofs.lemmas.Bool.{eq-eqb, ne_eqb}
use Rattle.std.proofs.lemmas.List.{append_assoc, length-append, drop-drop}
use Rattle.std.specs.List.{slice_range}
use Rattle.std.proofs.Math.Seq.{drop-cons}
use Rattle.rational.specs.Rational.{ℚ}
use Rattle.input_texts.specs.declared.curve_script.fault.LangKind.{LangKind}
use Rattle.input_texts.specs.declared.curve_script.fault.LangFault.{LangFault}
use Rattle.input_texts.specs.curve_script.Grammar.{Statement}
use Rattle.input_texts.specs.curve_script.Lines.{most, is_skipped, IsLine}
use Rattle.input_texts.specs.curve_script.Scripts.{line_with, lines_of, Numbered, IsNext, IsScriptFrom, IsWrong, IsRight, IsScript, IsFaultFrom, IsFirstFault, Adds, Refuses}

-- the lines behind the byte at the front, which is a newline
abbrev pub tail_lines : List ℕ → List (List ℕ)
tail_lines [] = []
tail_lines (b ∷ bs) = lines_of bs

-- the lines from a place on, where a line starts there or the text is over
abbrev pub lines_from : List ℕ → ℕ → List (List ℕ)
lines_from text zero = lines_of text
lines_from text (suc end) = tail_lines (drop end text)

pub lines_split : (s : List ℕ) (n : ℕ) → n ≤ length s → ((k : ℕ) → k < n → slice_index s k ≡ 10 → ⊥) → (n < length s → slice_index s n ≡ 10) → lines_of s ≡ take n s ∷ tail_lines (drop n s)
lines_split [] zero le none ends = refl
lines_split [] (suc n) le none ends = absurd (omega arith)
lines_split (b ∷ bs) zero le none ends = ap (λ t. line_with t b (lines_of bs)) (eq-eqb b 10 (ends (omega arith)))
lines_split (b ∷ bs) (suc n) le none ends =
    ap (λ t. line_with t b (lines_of bs)) (ne_eqb b 10 (none 0 (omega arith)))
    ∙ ap (line_with false b) (lines_split bs n (omega arith) (λ k lt. none (suc k) (omega arith)) (λ lt. ends (omega arith)))

-- from a place within the text
pub lines_there : (text : List ℕ) (start : ℕ) → start ≤ length text → lines_from text start ≡ lines_of (drop start text)
lines_there text zero le = refl
lines_there text (suc end) le = ap tail_lines (drop-cons text end 0 (omega arith))

-- behind a text that is over
pub lines_over : (text : List ℕ) (start : ℕ) → length text < start → lines_from text start ≡ []
lines_over text zero lt = absurd (omega arith)
lines_over [] (suc zero) lt = refl
lines_over [] (suc (suc end)) lt = refl
lines_over (b ∷ bs) (suc zero) lt = absurd (omega arith)
lines_over (b ∷ bs) (suc (suc end)) lt = lines_over bs (suc end) (omega arith)

-- ---- what a line adds
adds_go : (n : ℕ) (line : List ℕ) (rest : List (List ℕ)) (old new out : List Numbered) (b : Bool)
    → MatchBool b (new ≡ old) ((s : Statement ℚ) × (new ≡ old ++ (n, s) ∷ []) × IsLine line s × (length old < most))
    → IsScriptFrom (suc n) (length new) rest out
    → (more : List Numbered) × MatchBool b (IsScriptFrom (suc n) (length old) rest more) (IsNext n (length old) line (IsScriptFrom (suc n) (suc (length old)) rest) more) × (old ++ more ≡ new ++ out)
adds_go n line rest old new out true e h = (out, subst (λ l. IsScriptFrom (suc n) (length l) rest out) e h, ap (λ l. l ++ out) (sym e))
adds_go n line rest old new out false s h =
    let x : Numbered = (n, s.0) in
    let longer : length new ≡ suc (length old) = ap length s.1 ∙ length-append old (x ∷ []) ∙ (let e : length old + 1 ≡ suc (length old) = omega arith in e) in
    (x ∷ out, (refl, s.3, s.2, subst (λ k. IsScriptFrom (suc n) k rest out) longer h), sym (ap (λ l. l ++ out) s.1 ∙ append_assoc old (x ∷ []) out))

pub adds_script : (n : ℕ) (line : List ℕ) (rest : List (List ℕ)) (old new out : List Numbered) → Adds n line old new → IsScriptFrom (suc n) (length new) rest out
    → (more : List Numbered) × IsScriptFrom n (length old) (line ∷ rest) more × (old ++ more ≡ new ++ out)
adds_script n line rest old new out a h = adds_go n line rest old new out (is_skipped line) a h

adds_fault_go : (n at : ℕ) (kind : LangKind) (line : List ℕ) (rest : List (List ℕ)) (old new : List Numbered) (b : Bool)
    → MatchBool b (new ≡ old) ((s : Statement ℚ) × (new ≡ old ++ (n, s) ∷ []) × IsLine line s × (length old < most))
    → IsFaultFrom (suc n) (length new) rest kind at
    → MatchBool b (IsFaultFrom (suc n) (length old) rest kind at) (((at ≡ n) × IsWrong (length old) kind line) ⊎ (IsRight (length old) line × IsFaultFrom (suc n) (suc (length old)) rest kind at))
adds_fault_go n at kind line rest old new true e h = subst (λ l. IsFaultFrom (suc n) (length l) rest kind at) e h
adds_fault_go n at kind line rest old new false s h =
    let x : Numbered = (n, s.0) in
    let longer : length new ≡ suc (length old) = ap length s.1 ∙ length-append old (x ∷ []) ∙ (let e : length old + 1 ≡ suc (length old) = omega arith in e) in
    inr ((s.3, (s.0, s.2)), subst (λ k. IsFaultFrom (suc n) k rest kind at) longer h)

pub adds_fault : (n at : ℕ) (kind : LangKind) (line : List ℕ) (rest : List (List ℕ)) (old new : List Numbered) → Adds n line old new → IsFaultFrom (suc n) (length new) rest kind at
    → IsFaultFrom n (length old) (line ∷ rest) kind at
adds_fault n at kind line rest old new a h = adds_fault_go n at kind line rest old new (is_skipped line) a h

-- what a line refuses
refuses_go : (n k at : ℕ) (kind : LangKind) (line : List ℕ) (rest : List (List ℕ)) (b : Bool) → b ≡ false → at ≡ n → IsWrong k kind line
    → MatchBool b (IsFaultFrom (suc n) k rest kind at) (((at ≡ n) × IsWrong k kind line) ⊎ (IsRight k line × IsFaultFrom (suc n) (suc k) rest kind at))
refuses_go n k at kind line rest true e f w = absurd cc
refuses_go n k at kind line rest false e f w = inl (f, w)

pub refuses_fault : (n k : ℕ) (line : List ℕ) (rest : List (List ℕ)) (e : LangFault) → Refuses n k line e → IsFaultFrom n k (line ∷ rest) e.kind e.line
refuses_fault n k line rest e r = refuses_go n k e.line e.kind line rest (is_skipped line) r.0 r.1 r.2

-- ---- from one turn to the next
-- the lines from a place on: the line there, and the lines behind its newline
pub next_line : (text part : List ℕ) (start n : ℕ) → start ≤ length text → part ≡ drop start text → n ≤ length part
    → ((k : ℕ) → k < n → slice_index part k ≡ 10 → ⊥) → (n < length part → slice_index part n ≡ 10)
    → lines_from text start ≡ slice_range text start (start + n) ∷ lines_from text (start + n + 1)
next_line text part start n le p within none ends =
    let m : n ≡ start + n - start = omega arith in
    let cut : take n part ≡ slice_range text start (start + n) = ap (take n) p ∙ ap (λ k. take k (drop start text)) m in
    let behind : drop n part ≡ drop (start + n) text = ap (drop n) p ∙ drop-drop n start text in
    let one : suc (start + n) ≡ start + n + 1 = omega arith in
    lines_there text start le ∙ ap lines_of (sym p) ∙ lines_split part n within none ends
    ∙ ap (λ l. l ∷ tail_lines (drop n part)) cut
    ∙ ap (λ l. slice_range text start (start + n) ∷ tail_lines l) behind
    ∙ ap (λ k. slice_range text start (start + n) ∷ lines_from text k) one

pub script_kept : (n : ℕ) (text line : List ℕ) (lines rest : List (List ℕ)) (old new : List Numbered) → lines ≡ line ∷ rest → Adds (n + 1) line old new
    → ((out : List Numbered) → IsScriptFrom (n + 1) (length old) lines out → IsScript text (old ++ out))
    → (out : List Numbered) → IsScriptFrom (n + 1 + 1) (length new) rest out → IsScript text (new ++ out)
script_kept n text line lines rest old new e adds known out h =
    let one : n + 1 + 1 ≡ suc (n + 1) = omega arith in
    let a = adds_script (n + 1) line rest old new out adds (subst (λ k. IsScriptFrom k (length new) rest out) one h) in
    subst (λ l. IsScript text l) a.2 (known a.0 (subst (λ ls. IsScriptFrom (n + 1) (length old) ls a.0) (sym e) a.1))

pub fault_kept : (n : ℕ) (text line : List ℕ) (lines rest : List (List ℕ)) (old new : List Numbered) → lines ≡ line ∷ rest → Adds (n + 1) line old new
    → ((kind : LangKind) (at : ℕ) → IsFaultFrom (n + 1) (length old) lines kind at → IsFirstFault text kind at)
    → (kind : LangKind) (at : ℕ) → IsFaultFrom (n + 1 + 1) (length new) rest kind at → IsFirstFault text kind at
fault_kept n text line lines rest old new e adds known kind at h =
    let one : n + 1 + 1 ≡ suc (n + 1) = omega arith in
    let a = adds_fault (n + 1) at kind line rest old new adds (subst (λ k. IsFaultFrom k (length new) rest kind at) one h) in
    known kind at (subst (λ ls. IsFaultFrom (n + 1) (length old) ls kind at) (sym e) a)

pub fault_found : (n : ℕ) (text line : List ℕ) (lines rest : List (List ℕ)) (k : ℕ) (e : LangFault) → lines ≡ line ∷ rest → Refuses (n + 1) k line e
    → ((kind : LangKind) (at : ℕ) → IsFaultFrom (n + 1) k lines kind at → IsFirstFault text kind at)
    → IsFirstFault text e.kind e.line
fault_found n text line lines rest k e same refused known =
    known e.kind e.line (subst (λ ls. IsFaultFrom (n + 1) k ls e.kind e.line) (sym same) (refuses_fault (n + 1) k line rest e refused))
