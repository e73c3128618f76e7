-- What is read of matches, from their rows.
use Rattle.std.proofs.Common.{◌≡◌, ◌++◌, ◌∷◌, [], map, append-nil, Bool, true, false, List, Option, Some, None, inl, inr, refl, sym, ap, ◌∙◌}
use Rattle.std.specs.Borrow.{Bor}
use Rattle.std.specs.Prelude.{codes, option_map}
use Rattle.std.specs.Option.{option_to_list}
use Rattle.std.proofs.lemmas.List.{map-append}
use Rattle.clap.specs.Matches.{first_value, one_text, subcommand_name_of}
use Rattle.clap.specs.Simple.{subcommand_rows}
use Rattle.clap.specs.Words.{Row, Text, first_of, one_of, rows_of, subcommand_rows_of}
use Rattle.clap.specs.declared.parser.matches.ArgMatches.{ArgMatches}
use Rattle.clap.specs.declared.parser.matches.ArgMatches.TheViews.{out-ArgMatches}
use Rattle.clap.specs.declared.parser.matches.Found.{Found}
use Rattle.clap.proofs.WalkLemmas.{first_value-rows, one_text-rows}
use Rattle.command_words.specs.Reads.{IsFlag}

-- the name of the command that was met, and its rows
name_in : {A : Type 0} (f : A → Text × List Row) (o : Option A) (word name : Text) (rows : List Row)
    → option_map f o ≡ Some (word, rows) → Some name ≡ option_map (λ x. (f x).0) o → name ≡ word
name_in f None word name rows is told = absurd (cc)
name_in f (Some x) word name rows is told =
    let pair : f x ≡ (word, rows) = cc in
    let here : name ≡ (f x).0 = cc in
    here ∙ ap (λ (p : Text × List Row). p.0) pair

rows_in : {A : Type 0} (f : A → Text × List Row) (o : Option A) (word : Text) (rows found : List Row)
    → option_map f o ≡ Some (word, rows) → Some found ≡ option_map (λ (p : Text × List Row). p.1) (option_map f o)
    → found ≡ rows
rows_in f None word rows found is told = absurd (cc)
rows_in f (Some x) word rows found is told =
    let pair : f x ≡ (word, rows) = cc in
    let here : found ≡ (f x).1 = cc in
    here ∙ ap (λ (p : Text × List Row). p.1) pair

pub of_name : (m : ArgMatches) (word : Text) (rows : List Row) (name : Text)
    → subcommand_rows_of m ≡ Some (word, rows) → Some name ≡ subcommand_name_of m → name ≡ word
of_name m word rows name is told = name_in _ (out-ArgMatches m).subcommand word name rows is told

pub of_rows : (m : ArgMatches) (word : Text) (rows found : List Row) → subcommand_rows_of m ≡ Some (word, rows)
    → Some found ≡ option_map (λ (p : Text × List Row). p.1) (subcommand_rows (out-ArgMatches m).subcommand)
    → found ≡ rows
of_rows m word rows found is told = rows_in _ (out-ArgMatches m).subcommand word rows found is told

-- ---- operands
-- one more where it was given
pub push_some : (old new : List (Bor Text)) (given : Option (Bor Text)) (word : Bor Text) → given ≡ Some word
    → new ≡ old ++ word ∷ []
    → map (λ s. s.now) new ≡ map (λ s. s.now) old ++ option_to_list (option_map (λ s. s.now) given)
push_some old new given word is more =
    ap (map (λ (s : Bor Text). s.now)) more
    ∙ map-append (λ (s : Bor Text). s.now) old (word ∷ [])
    ∙ ap (λ (o : Option (Bor Text)). map (λ s. s.now) old ++ option_to_list (option_map (λ s. s.now) o)) (sym is)

pub push_none : (old : List (Bor Text)) (given : Option (Bor Text)) → given ≡ None
    → map (λ s. s.now) old ≡ map (λ s. s.now) old ++ option_to_list (option_map (λ s. s.now) given)
push_none old given is =
    sym (append-nil (map (λ (s : Bor Text). s.now) old))
    ∙ ap (λ (o : Option (Bor Text)). map (λ s. s.now) old ++ option_to_list (option_map (λ s. s.now) o)) (sym is)

pub given_in : (f : Found) (id : Text) (given : Option Text) → given ≡ first_value f id
    → option_to_list given ≡ option_to_list (first_of id (rows_of f))
given_in f id given is = ap (λ (o : Option Text). option_to_list o) (is ∙ first_value-rows f id)

pub four_given : (a b c d : Option Text) (one two three four : List Text) → one ≡ [] ++ option_to_list a
    → two ≡ one ++ option_to_list b → three ≡ two ++ option_to_list c → four ≡ three ++ option_to_list d
    → (v w x y : List Text) → option_to_list a ≡ v → option_to_list b ≡ w → option_to_list c ≡ x
    → option_to_list d ≡ y → four ≡ v ++ w ++ x ++ y
four_given a b c d one two three four p q r s v w x y i j k l =
    rw (s, r, q, p, i, j, k, l) refl

-- ---- the flag
pub of_flag : (f : Found) (rows : List Row) (given json : Bool) → rows_of f ≡ rows
    → (one_text f (codes "json") ≡ None → given ≡ false) → (one_text f (codes "json") ≡ Some (codes "true") → given ≡ true)
    → (one_text f (codes "json") ≡ Some (codes "false") → given ≡ false) → IsFlag (one_of (codes "json") rows) json
    → given ≡ json
of_flag f rows given json same none value other (inl (found, is)) =
    none (one_text-rows f (codes "json") ∙ ap (one_of (codes "json")) same ∙ found) ∙ sym is
of_flag f rows given json same none value other (inr (inl (found, is))) =
    value (one_text-rows f (codes "json") ∙ ap (one_of (codes "json")) same ∙ found) ∙ sym is
of_flag f rows given json same none value other (inr (inr (found, is))) =
    other (one_text-rows f (codes "json") ∙ ap (one_of (codes "json")) same ∙ found) ∙ sym is
