-- A text is a script, or has a first fault.
use Rattle.std.proofs.Common.{◌≡◌, ℕ, suc, List, [], ◌∷◌, Some, None, true, false, Bool, refl, sym, ap, subst, inl, inr, ◌⊎◌, ◌∙◌}
use Rattle.std.specs.Prelude.{Option, MatchBool, is_some}
use Rattle.std.proofs.lemmas.Bool.{cases_lt}
use Rattle.rational.specs.Rational.{ℚ}
use Rattle.input_texts.specs.plain_text.Plain.{is_plain}
use Rattle.input_texts.specs.declared.curve_script.fault.LangKind.{LangKind}
use Rattle.input_texts.specs.declared.curve_script.fault.LangKind.TheVariants.{C1, C2, C3, C4}
use Rattle.input_texts.specs.curve_script.Tokens.{Token, Says}
use Rattle.input_texts.specs.curve_script.Grammar.{Statement, HasNamesIn, statement_tokens, numbers_read_in, depth_in}
use Rattle.input_texts.specs.curve_script.Lexing.{lex}
use Rattle.input_texts.specs.curve_script.Lines.{deepest, most, is_skipped, IsDraft, Spells, HasFault, IsLine}
use Rattle.input_texts.specs.curve_script.Scripts.{Numbered, lines_of, IsNext, IsScriptFrom, IsWrong, IsRight, IsFaultFrom}
use Rattle.existence.specs.texts.Laws.{ScriptsAreRead}
use Rattle.input_texts.proofs.curve_script.Lexed.{lex_sound, says_one, lex_none}
use Rattle.input_texts.proofs.curve_script.Shaped.{shape_spelt, spelt_shape}

-- ---- one line
abbrev IsLineOrFaulty : List ℕ → Type 0
IsLineOrFaulty line = ((s : Statement ℚ) × IsLine line s) ⊎ ((kind : LangKind) × HasFault kind line)

by_depth : (line : List ℕ) (s : Statement ℚ) → Spells line s → IsLineOrFaulty line
by_depth line s spelt = elim (cases_lt deepest (depth_in s)) [
  | inl deep ↦ inr (C4, (s, spelt, deep))
  | inr shallow ↦ inl (s, record { spelt = spelt; shallow = shallow })
]

by_numbers : (line : List ℕ) (d : Statement (List ℕ)) → is_plain line ≡ true → IsDraft line d → (o : Option (Statement ℚ)) → numbers_read_in d ≡ o
    → IsLineOrFaulty line
by_numbers line d plain is None e = inr (C3, (plain, (d, is, e)))
by_numbers line d plain is (Some s) e = by_depth line s record { plain = plain; draft = d; is = is; numbers = e }

-- a look at tokens: what it sees are those of a statement, and it sees each statement's
record IsLook (look : List Token → Option Bool) : Type 0 where
  spelt : (tokens : List Token) (b : Bool) → look tokens ≡ Some b
      → (d : Statement (List ℕ)) × HasNamesIn d × (tokens ≡ statement_tokens d) × (b ≡ is_some (numbers_read_in d))
  seen : (d : Statement (List ℕ)) → HasNamesIn d → look (statement_tokens d) ≡ Some (is_some (numbers_read_in d))

by_look : (look : List Token → Option Bool) → IsLook look → (line : List ℕ) (tokens : List Token) → is_plain line ≡ true
    → Says line tokens → (o : Option Bool) → look tokens ≡ o → IsLineOrFaulty line
by_look look is line tokens plain says None e = inr (
  C2,
  (
    plain,
    λ d draft.
        let same : tokens ≡ statement_tokens d = says_one says draft.says in
        let bad : None ≡ Some (is_some (numbers_read_in d)) = sym e ∙ ap look same ∙ is.seen d draft.named in
        cc,
  ),
)
by_look look is line tokens plain says (Some b) e =
    let found = is.spelt tokens b e in
    let draft : IsDraft line found.0 = record { says = subst (λ (ts : List Token). Says line ts) found.2 says; named = found.1 } in
    by_numbers line found.0 plain draft (numbers_read_in found.0) refl

by_shape : (line : List ℕ) (tokens : List Token) → is_plain line ≡ true → Says line tokens → IsLineOrFaulty line
by_shape line tokens plain says =
    by_look _ (record { spelt = shape_spelt; seen = spelt_shape }) line tokens plain says _ refl

by_tokens : (line : List ℕ) → is_plain line ≡ true → (o : Option (List Token)) → lex line ≡ o → IsLineOrFaulty line
by_tokens line plain None e = inr (C2, (plain, λ d is. lex_none line e (statement_tokens d) is.says))
by_tokens line plain (Some tokens) e = by_shape line tokens plain (lex_sound line tokens e)

by_bytes : (line : List ℕ) (plain : Bool) → is_plain line ≡ plain → IsLineOrFaulty line
by_bytes line false e = inr (C1, e)
by_bytes line true e = by_tokens line e (lex line) refl

-- ---- line after line
abbrev IsScriptOrFaulty : ℕ → ℕ → List (List ℕ) → Type 0
IsScriptOrFaulty n k lines = ((out : List Numbered) × IsScriptFrom n k lines out) ⊎ ((kind : LangKind) × (at : ℕ) × IsFaultFrom n k lines kind at)

-- a line that is skipped or not
abbrev IsOneMore : ℕ → ℕ → List ℕ → List (List ℕ) → Bool → Type 0
IsOneMore n k line rest skipped =
    ((out : List Numbered) × MatchBool skipped (IsScriptFrom (suc n) k rest out) (IsNext n k line (IsScriptFrom (suc n) (suc k) rest) out))
    ⊎ ((kind : LangKind) × (at : ℕ) × MatchBool skipped (IsFaultFrom (suc n) k rest kind at)
    (((at ≡ n) × IsWrong k kind line) ⊎ (IsRight k line × IsFaultFrom (suc n) (suc k) rest kind at)))

one_more : (n k : ℕ) (line : List ℕ) (rest : List (List ℕ)) → IsScriptOrFaulty (suc n) k rest → IsScriptOrFaulty (suc n) (suc k) rest
    → IsLineOrFaulty line → (skipped : Bool) → IsOneMore n k line rest skipped
one_more n k line rest (inl h) other one true = inl h
one_more n k line rest (inr f) other one true = inr f
one_more n k line rest same other (inr f) false = inr (f.0, n, inl (refl, inl f.1))
one_more n k line rest same other (inl s) false = elim (cases_lt k most) [
  | inr many ↦ inr (C4, n, inl (refl, inr (refl, many, s)))
  | inl few ↦ elim other [
    | inl h ↦ inl ((n, s.0) ∷ h.0, (refl, few, s.1, h.1))
    | inr f ↦ inr (f.0, f.1, inr ((few, s), f.2))
  ]
]

script_from : (lines : List (List ℕ)) (n k : ℕ) → IsScriptOrFaulty n k lines
script_from [] n k = inl ([], refl)
script_from (line ∷ rest) n k =
    one_more n k line rest (script_from rest (suc n) k) (script_from rest (suc n) (suc k)) (by_bytes line (is_plain line) refl) (is_skipped line)

pub scripts_are_read : ScriptsAreRead
scripts_are_read text = script_from (lines_of text) 1 0
