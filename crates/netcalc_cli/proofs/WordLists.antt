-- Words by their number.
use Rattle.std.proofs.Common.{◌≡◌, ◌≤◌, ◌<◌, ◌-◌, ◌++◌, List, [], ◌∷◌, length, take, drop, String, Bool, true, false, Option, Some, None, refl, sym, ap, ◌∙◌, arith}
use Rattle.std.specs.Prelude.{string_bytes, slice_index_or}
use Rattle.std.specs.Prelude.{◌&&◌, option_map}
use Rattle.std.specs.List.{list_all}
use Rattle.std.specs.Option.{is_some, unwrap_or}
use Rattle.std.proofs.lemmas.List.{append-nil, map-append, take_all}
use Rattle.std.proofs.lemmas.List.Folds.{list_all-append}
use Rattle.std.specs.declared.alloc.Global.{Global}
use Rattle.command_words.specs.Lines.{Text, is_operand, without_json, operands_of, asks_json}
use Rattle.netcalc_cli.specs.Commands.{Command}
use Rattle.netcalc_cli.specs.Words.{texts, called, command_on, command_of}
use Rattle.command_words.proofs.JsonWords.{Words}

-- ---- operands by their number
pub same_of_two : {A B : Type 0} (f : A → A → B) (a b v w : A) → v ≡ a → w ≡ b → f v w ≡ f a b
same_of_two f a b v w one two = cc

pub same_of_four : {A B : Type 0} (f : A → A → A → A → B) (a b c d v w x y : A) → v ≡ a → w ≡ b → x ≡ c → y ≡ d
    → f v w x y ≡ f a b c d
same_of_four f a b c d v w x y one two three four = cc

pub of_one : (words : Words) (file : String Global) → length words ≡ 1 → file ≡ slice_index_or words 0 file
    → string_bytes file ∷ [] ≡ texts words
of_one [] file one at = absurd (omega (arith, one))
of_one (a ∷ []) file one at = ap (λ (w : String Global). string_bytes w ∷ []) at
of_one (a ∷ b ∷ more) file one at = absurd (omega (arith, one))

pub of_two : (words : Words) (first second : String Global) → length words ≡ 2
    → first ≡ slice_index_or words 0 first → second ≡ slice_index_or words 1 second
    → string_bytes first ∷ string_bytes second ∷ [] ≡ texts words
of_two [] first second two at next = absurd (omega (arith, two))
of_two (a ∷ []) first second two at next = absurd (omega (arith, two))
of_two (a ∷ b ∷ []) first second two at next =
    same_of_two (λ (v w : String Global). string_bytes v ∷ string_bytes w ∷ []) a b first second at next
of_two (a ∷ b ∷ c ∷ more) first second two at next = absurd (omega (arith, two))

pub of_four : (words : Words) (net trace name rate : String Global) → length words ≡ 4
    → net ≡ slice_index_or words 0 net → trace ≡ slice_index_or words 1 trace
    → name ≡ slice_index_or words 2 name → rate ≡ slice_index_or words 3 rate
    → string_bytes net ∷ string_bytes trace ∷ string_bytes name ∷ string_bytes rate ∷ [] ≡ texts words
of_four [] n t f r four one two three last = absurd (omega (arith, four))
of_four (a ∷ []) n t f r four one two three last = absurd (omega (arith, four))
of_four (a ∷ b ∷ []) n t f r four one two three last = absurd (omega (arith, four))
of_four (a ∷ b ∷ c ∷ []) n t f r four one two three last = absurd (omega (arith, four))
of_four (a ∷ b ∷ c ∷ d ∷ []) n t f r four one two three last =
    same_of_four (λ (v w x y : String Global). string_bytes v ∷ string_bytes w ∷ string_bytes x ∷ string_bytes y ∷ [])
    a b c d n t f r one two three last
of_four (a ∷ b ∷ c ∷ d ∷ e ∷ more) n t f r four one two three last = absurd (omega (arith, four))

-- a command on them is one on the words
some_map : {A B : Type 0} (f : A → B) (o : Option A) → is_some (option_map f o) ≡ is_some o
some_map f None = refl
some_map f (Some x) = refl

pub some_called : {A : Type 0} (f : A → Command) (r : Option A) (b : Bool) (word : Text) (words : Words) (json : Bool)
    (operands : List Text) → b ≡ is_some r → option_map f r ≡ called word operands json → operands ≡ texts words
    → b ≡ is_some (called word (texts words) json)
some_called f r b word words json operands is told same =
    is ∙ sym (some_map f r) ∙ ap is_some told ∙ ap (λ (o : List Text). is_some (called word o json)) same

-- no command has other numbers of operands
pub of_others : (word : Text) (words : Words) (json : Bool) → (length words ≡ 1 → ⊥) → (length words ≡ 2 → ⊥)
    → (length words ≡ 4 → ⊥) → None ≡ called word (texts words) json
of_others word [] true one two four = refl
of_others word [] false one two four = refl
of_others word (a ∷ []) json one two four = absurd (one refl)
of_others word (a ∷ b ∷ []) json one two four = absurd (two refl)
of_others word (a ∷ b ∷ c ∷ []) true one two four = refl
of_others word (a ∷ b ∷ c ∷ []) false one two four = refl
of_others word (a ∷ b ∷ c ∷ d ∷ []) json one two four = absurd (four refl)
of_others word (a ∷ b ∷ c ∷ d ∷ e ∷ more) true one two four = refl
of_others word (a ∷ b ∷ c ∷ d ∷ e ∷ more) false one two four = refl

-- ---- the words of two lists
pub all_of_both : (before after : Words) → list_all is_operand (texts before) ≡ true
    → list_all is_operand (texts after) ≡ list_all is_operand (texts (before ++ after))
all_of_both before after all =
    let halves : list_all is_operand (texts (before ++ after))
    ≡ (list_all is_operand (texts before) && list_all is_operand (texts after)) =
    ap (list_all is_operand) (map-append string_bytes before after)
    ∙ list_all-append is_operand (texts before) (texts after) in
    sym (rw all at halves)

pub none_of_both : (before after : Words) → list_all is_operand (texts before) ≡ false
    → false ≡ list_all is_operand (texts (before ++ after))
none_of_both before after none =
    let halves : list_all is_operand (texts (before ++ after))
    ≡ (list_all is_operand (texts before) && list_all is_operand (texts after)) =
    ap (list_all is_operand) (map-append string_bytes before after)
    ∙ list_all-append is_operand (texts before) (texts after) in
    sym (rw none at halves)

pub called_on : (word : Text) (operands : List Text) (json : Bool) → list_all is_operand operands ≡ true
    → is_some (called word operands json) ≡ is_some (command_on word operands json)
called_on word operands json all = rw all refl

pub none_on : (word : Text) (operands : List Text) (json : Bool) → list_all is_operand operands ≡ false
    → false ≡ is_some (command_on word operands json)
none_on word operands json none = rw none refl

pub nothing_behind : (word : Text) (rest : Words)
    → command_on word (texts (rest ++ [])) false ≡ command_on word (texts rest) false
nothing_behind word rest = ap (λ (w : Words). command_on word (texts w) false) (append-nil rest)

-- ---- `--json`, where there is one, among what stands behind a command
pub with_flag : (word : Text) (rest operands : List Text) → without_json rest ≡ Some operands
    → command_on word operands true ≡ command_on word (operands_of rest) (asks_json rest)
with_flag word rest operands is =
    sym (ap (λ (o : Option (List Text)). command_on word (unwrap_or o rest) (is_some o)) is)

pub no_flag : (word : Text) (rest : List Text) → without_json rest ≡ None
    → command_on word rest false ≡ command_on word (operands_of rest) (asks_json rest)
no_flag word rest is = sym (ap (λ (o : Option (List Text)). command_on word (unwrap_or o rest) (is_some o)) is)

-- ---- the whole command line
-- what stands behind the first two words
abbrev pub behind : Words → Words
behind words = take (length words - 2) (drop 2 words)

pub by_parts : (words : Words) (word : String Global) → 2 ≤ length words → word ≡ slice_index_or words 1 word
    → command_on (string_bytes word) (operands_of (texts (behind words))) (asks_json (texts (behind words)))
    ≡ command_of (texts words)
by_parts [] word least at = absurd (omega (arith, least))
by_parts (a ∷ []) word least at = absurd (omega (arith, least))
by_parts (a ∷ b ∷ c) word least at =
    let f = λ (w : String Global) (r : Words).
    command_on (string_bytes w) (operands_of (texts r)) (asks_json (texts r)) in
    let whole : behind (a ∷ b ∷ c) ≡ c = take_all _ c (omega arith) in
    ap (λ (w : String Global). f w (behind (a ∷ b ∷ c))) at ∙ ap (λ (r : Words). f b r) whole

-- too few words are not taken
pub none_of_few : (words : Words) → length words < 2 → command_of (texts words) ≡ None
none_of_few [] few = refl
none_of_few (a ∷ []) few = refl
none_of_few (a ∷ b ∷ c) few = absurd (omega (arith, few))
