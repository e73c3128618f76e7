-- The first fault of a text's lines: its kind is one of C1 to C4, and there is one at most.
use Rattle.std.proofs.Common.{◌≡◌, ℕ, suc, ◌<◌, ◌≤◌, List, [], ◌∷◌, Some, Bool, true, false, refl, sym, ap, ◌∙◌, subst}
use Rattle.std.proofs.Common.{inl, inr, arith}
use Rattle.std.specs.Prelude.{is_some, MatchBool, ◌⊎◌}
use Rattle.rational.specs.Rational.{ℚ}
use Rattle.input_texts.specs.declared.curve_script.fault.LangKind.{LangKind}
use Rattle.input_texts.specs.declared.curve_script.fault.LangKind.TheVariants.{C1, C2, C3, C4, TooMany, TooWide, NoMemory}
use Rattle.input_texts.specs.curve_script.Grammar.{Statement, statement_tokens, depth_in, numbers_read_in}
use Rattle.input_texts.specs.curve_script.Lines.{is_skipped, Spells, HasFault}
use Rattle.input_texts.specs.curve_script.Scripts.{lines_of, IsWrong, IsRight, IsFaultFrom, IsFirstFault}
use Rattle.input_texts.proofs.curve_script.Lexed.{says_one}
use Rattle.input_texts.proofs.curve_script.OneScript.{spells_one}
use Rattle.input_texts.proofs.curve_script.Shaped.{spelt_shape}
use Rattle.commands.specs.curve.OnScripts.{IsByRule}

-- ---- of a line
-- a line that spells a statement has no word that stands for a number and writes none
numbers_written : (line : List ℕ) (s : Statement ℚ) → Spells line s → HasFault C3 line → ⊥
numbers_written line s h f =
    let d = f.1.0 in
    let one = spelt_shape d f.1.1.named in
    let two = spelt_shape h.draft h.is.named in
    let tokens : statement_tokens d ≡ statement_tokens h.draft = says_one f.1.1.says h.is.says in
    let same : Some (is_some (numbers_read_in d)) ≡ Some (is_some (numbers_read_in h.draft)) = cc (one, two, tokens) in
    let left : is_some (numbers_read_in d) ≡ false = ap is_some f.1.2 in
    let right : is_some (numbers_read_in h.draft) ≡ true = ap is_some h.numbers in
    cc

-- it nests too deep, if it has a fault
of_spelt : (kind : LangKind) (line : List ℕ) (s : Statement ℚ) → Spells line s → HasFault kind line → kind ≡ C4
of_spelt C1 line s h f = let bad : true ≡ false = sym h.plain ∙ f in absurd (cc)
of_spelt C2 line s h f = absurd (f.1 h.draft h.is)
of_spelt C3 line s h f = absurd (numbers_written line s h f)
of_spelt C4 line s h f = refl
of_spelt kind line s h f = absurd f

-- a line with bytes that are not plain has that fault
of_bytes : (kind : LangKind) (line : List ℕ) → HasFault C1 line → HasFault kind line → kind ≡ C1
of_bytes C1 line h f = refl
of_bytes C2 line h f = let bad : true ≡ false = sym f.0 ∙ h in absurd (cc)
of_bytes C3 line h f = let bad : true ≡ false = sym f.0 ∙ h in absurd (cc)
of_bytes C4 line h f = let bad : true ≡ false = sym f.1.plain ∙ h in absurd (cc)
of_bytes kind line h f = absurd f

one_kind : (i j : LangKind) (line : List ℕ) → HasFault i line → HasFault j line → i ≡ j
one_kind C1 j line h f = sym (of_bytes j line h f)
one_kind C2 C1 line h f = of_bytes C2 line f h
one_kind C2 C2 line h f = refl
one_kind C2 C3 line h f = absurd (h.1 f.1.0 f.1.1)
one_kind C2 C4 line h f = absurd (h.1 f.1.draft f.1.is)
one_kind C2 j line h f = absurd f
one_kind C3 C1 line h f = of_bytes C3 line f h
one_kind C3 C2 line h f = absurd (f.1 h.1.0 h.1.1)
one_kind C3 C3 line h f = refl
one_kind C3 C4 line h f = absurd (numbers_written line f.0 f.1 h)
one_kind C3 j line h f = absurd f
one_kind C4 j line h f = sym (of_spelt j line h.0 h.1 f)
one_kind i j line h f = absurd h

by_rule_of : (kind : LangKind) (line : List ℕ) → HasFault kind line → IsByRule kind
by_rule_of TooMany line f = f
by_rule_of TooWide line f = f
by_rule_of NoMemory line f = f
by_rule_of kind line f = tt

-- ---- of a line behind others
one_wrong : (k : ℕ) (i j : LangKind) (line : List ℕ) → IsWrong k i line → IsWrong k j line → i ≡ j
one_wrong k i j line (inl h) (inl f) = one_kind i j line h f
one_wrong k i j line (inl h) (inr f) = of_spelt i line f.2.0 f.2.1.spelt h ∙ sym f.0
one_wrong k i j line (inr h) (inl f) = h.0 ∙ sym (of_spelt j line h.2.0 h.2.1.spelt f)
one_wrong k i j line (inr h) (inr f) = h.0 ∙ sym f.0

not_both : (k : ℕ) (kind : LangKind) (line : List ℕ) → IsWrong k kind line → IsRight k line → ⊥
not_both k kind line (inl f) right =
    let four = of_spelt kind line right.1.0 right.1.1.spelt f in
    let deep = subst (λ c. HasFault c line) four f in
    let same = spells_one line deep.0 right.1.0 deep.1 right.1.1.spelt in
    let more : 64 < depth_in right.1.0 = subst (λ t. 64 < depth_in t) same deep.2 in
    let less : depth_in right.1.0 ≤ 64 = right.1.1.shallow in
    absurd (omega arith)
not_both k kind line (inr many) right =
    let ge : 256 ≤ k = many.1 in
    let less : k < 256 = right.0 in
    absurd (omega arith)

by_rule_wrong : (k : ℕ) (kind : LangKind) (line : List ℕ) → IsWrong k kind line → IsByRule kind
by_rule_wrong k kind line (inl f) = by_rule_of kind line f
by_rule_wrong k kind line (inr many) = subst IsByRule (sym many.0) tt

-- ---- of a text
abbrev Here : ℕ → ℕ → ℕ → LangKind → List ℕ → Type 0 → Type 0
Here n k at kind line later = ((at ≡ n) × IsWrong k kind line) ⊎ (IsRight k line × later)

here_one : (n k a b : ℕ) (i j : LangKind) (line : List ℕ) (x y : Type 0) → (x → y → (i ≡ j) × (a ≡ b))
    → Here n k a i line x → Here n k b j line y → (i ≡ j) × (a ≡ b)
here_one n k a b i j line x y ih (inl h) (inl f) = (one_wrong k i j line h.1 f.1, h.0 ∙ sym f.0)
here_one n k a b i j line x y ih (inl h) (inr f) = absurd (not_both k i line h.1 f.0)
here_one n k a b i j line x y ih (inr h) (inl f) = absurd (not_both k j line f.1 h.0)
here_one n k a b i j line x y ih (inr h) (inr f) = ih h.1 f.1

fault_one : (ls : List (List ℕ)) (n k a b : ℕ) (i j : LangKind) → IsFaultFrom n k ls i a → IsFaultFrom n k ls j b
    → (i ≡ j) × (a ≡ b)
fault_one [] n k a b i j h f = absurd h
fault_one (l ∷ ls) n k a b i j h f =
    go (is_skipped l) (fault_one ls (suc n) k a b i j) (fault_one ls (suc n) (suc k) a b i j) h f
  where
    go : (t : Bool)
        → (IsFaultFrom (suc n) k ls i a → IsFaultFrom (suc n) k ls j b → (i ≡ j) × (a ≡ b))
        → (IsFaultFrom (suc n) (suc k) ls i a → IsFaultFrom (suc n) (suc k) ls j b → (i ≡ j) × (a ≡ b))
        → MatchBool t (IsFaultFrom (suc n) k ls i a) (Here n k a i l (IsFaultFrom (suc n) (suc k) ls i a))
        → MatchBool t (IsFaultFrom (suc n) k ls j b) (Here n k b j l (IsFaultFrom (suc n) (suc k) ls j b))
        → (i ≡ j) × (a ≡ b)
    go true p q h f = p h f
    go false p q h f =
        here_one n k a b i j l (IsFaultFrom (suc n) (suc k) ls i a) (IsFaultFrom (suc n) (suc k) ls j b) q h f

pub first_one : (text : List ℕ) (a b : ℕ) (i j : LangKind) → IsFirstFault text i a → IsFirstFault text j b
    → (i ≡ j) × (a ≡ b)
first_one text a b i j h f = fault_one (lines_of text) 1 0 a b i j h f

fault_by_rule : (ls : List (List ℕ)) (n k at : ℕ) (kind : LangKind) → IsFaultFrom n k ls kind at → IsByRule kind
fault_by_rule [] n k at kind h = absurd h
fault_by_rule (l ∷ ls) n k at kind h =
    go (is_skipped l) (fault_by_rule ls (suc n) k at kind) (fault_by_rule ls (suc n) (suc k) at kind) h
  where
    here : Here n k at kind l (IsFaultFrom (suc n) (suc k) ls kind at)
        → (IsFaultFrom (suc n) (suc k) ls kind at → IsByRule kind) → IsByRule kind
    here (inl h) q = by_rule_wrong k kind l h.1
    here (inr h) q = q h.1

    go : (t : Bool) → (IsFaultFrom (suc n) k ls kind at → IsByRule kind)
        → (IsFaultFrom (suc n) (suc k) ls kind at → IsByRule kind)
        → MatchBool t (IsFaultFrom (suc n) k ls kind at) (Here n k at kind l (IsFaultFrom (suc n) (suc k) ls kind at))
        → IsByRule kind
    go true p q h = p h
    go false p q h = here h q

pub first_by_rule : (text : List ℕ) (at : ℕ) (kind : LangKind) → IsFirstFault text kind at → IsByRule kind
first_by_rule text at kind h = fault_by_rule (lines_of text) 1 0 at kind h
