-- A text is one script at most, and none where it has a fault.
use Rattle.std.proofs.Common.{◌≡◌, ℕ, suc, ◌+◌, ◌<◌, ◌≤◌, List, [], ◌∷◌, ◌++◌, Some, Bool, true, false, sym, ap, ap₂, ◌∙◌, subst, arith, ⊎_elim}
use Rattle.std.specs.Prelude.{is_some, MatchBool, ◌⊎◌}
use Rattle.rational.specs.Rational.{ℚ}
use Rattle.input_texts.specs.declared.curve_script.shape.Symbol.TheVariants.{Statement as Whole}
use Rattle.input_texts.specs.declared.curve_script.fault.LangKind.{LangKind}
use Rattle.input_texts.specs.declared.curve_script.fault.LangKind.TheVariants.{C1, C2, C3, C4, C5, C6, C7, C8, TooMany, TooWide, NoMemory}
use Rattle.input_texts.specs.curve_script.Grammar.{Statement, statement_tokens, depth_in, numbers_read_in}
use Rattle.input_texts.specs.curve_script.Shapes.{run}
use Rattle.input_texts.specs.curve_script.Building.{statement_from}
use Rattle.input_texts.specs.curve_script.Lines.{most, is_skipped, IsDraft, HasFault, IsLine}
use Rattle.input_texts.specs.curve_script.Scripts.{lines_of, Numbered, IsNext, IsScriptFrom, IsWrong, IsRight, IsFaultFrom}
use Rattle.input_texts.specs.curve_script.Laws.{LineSaysOne, LineSpellsOne, TextIsOne, FaultExcludesScript}
use Rattle.input_texts.proofs.curve_script.Lexed.{says_one}
use Rattle.input_texts.proofs.curve_script.Shaped.{spelt_shape}
use Rattle.input_texts.proofs.curve_script.Built.{statement_ok}
use Rattle.input_texts.proofs.curve_script.LineFacts.{same_depth_in, first_or}

-- two drafts of a line have the same tokens
draft_tokens_one : (line : List ℕ) (d e : Statement (List ℕ)) → IsDraft line d → IsDraft line e → statement_tokens d ≡ statement_tokens e
draft_tokens_one line d e p q = says_one p.says q.says

pub spells_one : LineSpellsOne
spells_one line s t p q =
    let n = depth_in s + depth_in t in
    let ds = same_depth_in p.draft s p.numbers in
    let dt = same_depth_in q.draft t q.numbers in
    let first = statement_ok p.draft n [] s p.is.named (omega arith) p.numbers in
    let second = statement_ok q.draft n [] t q.is.named (omega arith) q.numbers in
    let both : Some (s, []) ≡ Some (t, []) = sym first ∙ ap (λ l. statement_from n (l ++ [])) (draft_tokens_one line p.draft q.draft p.is q.is) ∙ second in
    ap (first_or s) both

-- a line within the limits has no fault of its own
no_fault : (kind : LangKind) (line : List ℕ) (s : Statement ℚ) → IsLine line s → HasFault kind line → ⊥
no_fault C1 line s h f = let bad : true ≡ false = sym h.spelt.plain ∙ f in cc
no_fault C2 line s h f = f.1 h.spelt.draft h.spelt.is
no_fault C3 line s h f =
    let d = f.1.0 in
    let one = spelt_shape d f.1.1.named in
    let two = spelt_shape h.spelt.draft h.spelt.is.named in
    let bad : Some (is_some (numbers_read_in d)) ≡ Some (is_some (numbers_read_in h.spelt.draft)) =
    sym one ∙ ap (run (Whole ∷ []) true) (draft_tokens_one line d h.spelt.draft f.1.1 h.spelt.is) ∙ two in
    let left : is_some (numbers_read_in d) ≡ false = ap is_some f.1.2 in
    let right : is_some (numbers_read_in h.spelt.draft) ≡ true = ap is_some h.spelt.numbers in
    cc
no_fault C4 line s h f =
    let same = spells_one line f.0 s f.1 h.spelt in
    let deep : 64 < depth_in s = subst (λ t. 64 < depth_in t) same f.2 in
    let shallow : depth_in s ≤ 64 = h.shallow in
    absurd (omega arith)
no_fault C5 line s h f = f
no_fault C6 line s h f = f
no_fault C7 line s h f = f
no_fault C8 line s h f = f
no_fault TooMany line s h f = f
no_fault TooWide line s h f = f
no_fault NoMemory line s h f = f

not_wrong : (k : ℕ) (kind : LangKind) (line : List ℕ) (s : Statement ℚ) → k < most → IsLine line s → IsWrong k kind line → ⊥
not_wrong k kind line s lt h w = ⊎_elim (λ f. no_fault kind line s h f) (λ many. let ge : 256 ≤ k = many.1 in let less : k < 256 = lt in absurd (omega arith)) w

same_next : (n k : ℕ) (line : List ℕ) (later : List Numbered → Type 0) → ((a b : List Numbered) → later a → later b → a ≡ b)
    → (a b : List Numbered) → IsNext n k line later a → IsNext n k line later b → a ≡ b
same_next n k line later ih [] b h g = absurd h
same_next n k line later ih (x ∷ a) [] h g = absurd g
same_next n k line later ih (x ∷ a) (y ∷ b) h g =
    let number : x.0 ≡ y.0 = h.0 ∙ sym g.0 in
    let statement = spells_one line x.1 y.1 h.2.spelt g.2.spelt in
    let one : x ≡ y = ap₂ (λ m s. let r : Numbered = (m, s) in r) number statement in
    ap₂ (λ z l. z ∷ l) one (ih a b h.3 g.3)

script_one : (ls : List (List ℕ)) (n k : ℕ) (a b : List Numbered) → IsScriptFrom n k ls a → IsScriptFrom n k ls b → a ≡ b
script_one [] n k a b h g = h ∙ sym g
script_one (l ∷ ls) n k a b h g = go (is_skipped l) (script_one ls (suc n) k) (script_one ls (suc n) (suc k)) h g
  where
    go : (t : Bool) → ((a b : List Numbered) → IsScriptFrom (suc n) k ls a → IsScriptFrom (suc n) k ls b → a ≡ b) → ((a b : List Numbered) → IsScriptFrom (suc n) (suc k) ls a → IsScriptFrom (suc n) (suc k) ls b → a ≡ b)
        → MatchBool t (IsScriptFrom (suc n) k ls a) (IsNext n k l (IsScriptFrom (suc n) (suc k) ls) a) → MatchBool t (IsScriptFrom (suc n) k ls b) (IsNext n k l (IsScriptFrom (suc n) (suc k) ls) b) → a ≡ b
    go true p q h g = p a b h g
    go false p q h g = same_next n k l (IsScriptFrom (suc n) (suc k) ls) q a b h g

next_no_fault : (n k at : ℕ) (kind : LangKind) (line : List ℕ) (later : List Numbered → Type 0) (fault : Type 0) → ((a : List Numbered) → later a → fault → ⊥)
    → (a : List Numbered) → IsNext n k line later a → (((at ≡ n) × IsWrong k kind line) ⊎ (IsRight k line × fault)) → ⊥
next_no_fault n k at kind line later fault ih [] h f = h
next_no_fault n k at kind line later fault ih (x ∷ a) h f = ⊎_elim (λ w. not_wrong k kind line x.1 h.1 h.2 w.1) (λ r. ih a h.3 r.1) f

script_no_fault : (ls : List (List ℕ)) (n k at : ℕ) (kind : LangKind) (a : List Numbered) → IsScriptFrom n k ls a → IsFaultFrom n k ls kind at → ⊥
script_no_fault [] n k at kind a h f = f
script_no_fault (l ∷ ls) n k at kind a h f = go (is_skipped l) (script_no_fault ls (suc n) k at kind) (script_no_fault ls (suc n) (suc k) at kind) h f
  where
    go : (t : Bool) → ((a : List Numbered) → IsScriptFrom (suc n) k ls a → IsFaultFrom (suc n) k ls kind at → ⊥) → ((a : List Numbered) → IsScriptFrom (suc n) (suc k) ls a → IsFaultFrom (suc n) (suc k) ls kind at → ⊥)
        → MatchBool t (IsScriptFrom (suc n) k ls a) (IsNext n k l (IsScriptFrom (suc n) (suc k) ls) a)
        → MatchBool t (IsFaultFrom (suc n) k ls kind at) (((at ≡ n) × IsWrong k kind l) ⊎ (IsRight k l × IsFaultFrom (suc n) (suc k) ls kind at)) → ⊥
    go true p q h f = p a h f
    go false p q h f = next_no_fault n k at kind l (IsScriptFrom (suc n) (suc k) ls) (IsFaultFrom (suc n) (suc k) ls kind at) q a h f

pub line_says_one : LineSaysOne
line_says_one line a b p q = says_one p q

pub text_is_one : TextIsOne
text_is_one text a b h g = script_one (lines_of text) 1 0 a b h g

pub fault_excludes_script : FaultExcludesScript
fault_excludes_script text out kind at h f = script_no_fault (lines_of text) 1 0 at kind out h f
