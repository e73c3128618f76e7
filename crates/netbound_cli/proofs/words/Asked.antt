-- What is asked for, by what a parse of the words gives.
use Rattle.std.proofs.Common.{◌≡◌, ◌⊎◌, true, List, [], ◌∷◌, Result, inl, inr}
use Rattle.std.proofs.Common.{refl, sym, ap, ap₂, subst, ◌∙◌}
use Rattle.clap.specs.Simple.{App, matches_of}
use Rattle.clap.specs.Words.{IsAmong, Kinds, Row, Text, fault_of, is_simple, is_simple_and_free}
use Rattle.clap.specs.declared.error.kind.ErrorKind.{ErrorKind}
use Rattle.clap.specs.declared.error.kind.ErrorKind.TheVariants as kind
use Rattle.netbound_cli.specs.words.Apps.{netbound}
use Rattle.netbound_cli.specs.words.Requests as requests
use Rattle.netbound_cli.specs.words.View.{IsRefusal, TellsRequest}
use Rattle.netbound_cli.specs.declared.words.request.Request.{Request}
use Rattle.netbound_cli.specs.declared.words.request.WordFault.{WordFault}
use Rattle.netbound_cli.proofs.words.OneKind.{at_words, is_only}

-- the command is one whose matches and refusals the words determine
pub is_simple_and_free_app : is_simple_and_free netbound ≡ true
is_simple_and_free_app = refl

pub is_simple_app : is_simple netbound ≡ true
is_simple_app = refl

-- ---- taken words
pub by_matches : (app : App) (words : List Text) (rows : List Row) → app ≡ netbound → fault_of app words ≡ []
    → rows ≡ matches_of app words → requests.request_of words ≡ requests.bounds_in rows
by_matches app words rows same none matches =
    let kinds : fault_of netbound words ≡ [] = ap (λ (a : App). fault_of a words) (sym same) ∙ none in
    let is : matches_of netbound words ≡ rows = ap (λ (a : App). matches_of a words) (sym same) ∙ sym matches in
    ap₂ (λ (ks : Kinds) (rs : List Row). requests.asked_by ks rs) kinds is

-- ---- refused words
by_kind : (k : ErrorKind) (rows : List Row) (r : Result Request WordFault) → IsRefusal k r
    → TellsRequest r (requests.asked_by (k ∷ []) rows)
by_kind kind.InvalidValue rows r is = rw is refl
by_kind kind.UnknownArgument rows r is = rw is refl
by_kind kind.InvalidSubcommand rows r is = rw is refl
by_kind kind.NoEquals rows r is = rw is refl
by_kind kind.ValueValidation rows r is = rw is refl
by_kind kind.TooManyValues rows r is = rw is refl
by_kind kind.TooFewValues rows r is = rw is refl
by_kind kind.WrongNumberOfValues rows r is = rw is refl
by_kind kind.ArgumentConflict rows r is = rw is refl
by_kind kind.MissingRequiredArgument rows r is = rw is refl
by_kind kind.MissingSubcommand rows r is = rw is refl
by_kind kind.DisplayHelp rows r is = rw is refl
by_kind kind.DisplayHelpOnMissingArgumentOrSubcommand rows r is = rw is refl
by_kind kind.DisplayVersion rows r is = rw is refl
by_kind kind.Io rows r is = rw is refl
by_kind kind.Format rows r is = rw is refl
by_kind kind.OutOfMemory rows r is = rw is tt

pub by_refusal : (app : App) (words : List Text) (k : ErrorKind) (r : Result Request WordFault) → app ≡ netbound
    → (k ≡ kind.OutOfMemory) ⊎ IsAmong k (fault_of app words) → IsRefusal k r
    → TellsRequest r (requests.request_of words)
by_refusal app words k r same (inl memory) is =
    let no : IsRefusal kind.OutOfMemory r = subst (λ (x : ErrorKind). IsRefusal x r) memory is in
    rw no tt
by_refusal app words k r same (inr among) is =
    let here : IsAmong k (fault_of netbound words) = subst (λ (a : App). IsAmong k (fault_of a words)) same among in
    let only : fault_of netbound words ≡ k ∷ [] = is_only (fault_of netbound words) k
    (at_words netbound words refl refl) here in
    subst (λ (ks : Kinds). TellsRequest r (requests.asked_by ks (matches_of netbound words))) (sym only)
    (by_kind k (matches_of netbound words) r is)
