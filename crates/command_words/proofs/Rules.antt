-- What a command is by its rules, once a part was given.
use Rattle.std.proofs.Common.{◌≡◌, ◌<◌, ◌+◌, ℕ, Bool, false, List, [], ◌∷◌, length, get_or, take, ap, ap₂, ◌∙◌}
use Rattle.std.specs.Prelude.{◌||◌, map}
use Rattle.std.specs.Borrow.{Bor}
use Rattle.std.proofs.lemmas.List.{map-append, take_more}
use Rattle.std.proofs.lemmas.List.Sums.{fold_push}
use Rattle.clap.specs.Words.{AddsArg, AddsSubcommand, App, Rule, Text, app_of, new_app, rule_of, with_rule, with_subcommand}
use Rattle.clap.specs.declared.builder.arg.Arg.{Arg}
use Rattle.clap.specs.declared.builder.command.Command.{Command}
use Rattle.clap.specs.declared.builder.command.Command.TheViews.{out-Command}
use Rattle.command_words.specs.Apps.{argument_rule, of_arguments}

-- a command with one argument more
module _ (old new : Command) (arg : Arg) (local : arg.global ≡ false) (adds : AddsArg old arg new) where
  pub more_app : (app : App) (rule : Rule) → app_of old ≡ app → rule_of arg ≡ rule → app_of new ≡ with_rule app rule
  more_app app rule before is = adds.shape local ∙ ap₂ with_rule before is

  pub more_local : (out-Command old).has_globals ≡ false → (out-Command new).has_globals ≡ false
  more_local before = adds.globals ∙ ap₂ (λ (x : Bool) (y : Bool). x || y) before local

-- a command with one below it more
module _ (old new below : Command) (local : (out-Command below).has_globals ≡ false) (adds : AddsSubcommand old below new) where
  pub below_is : (app of_below : App) → app_of old ≡ app → app_of below ≡ of_below → app_of new ≡ with_subcommand app of_below.top
  below_is app of_below before is = adds.shape local ∙ ap₂ with_subcommand before (ap (λ (a : App). a.top) is)

-- ---- a command by the names of its arguments
pub argument_more : (word : Text) (ids : List (Bor Text)) (i : ℕ) (id : Bor Text) → i < length ids
    → of_arguments word (map (λ x. x.now) (take (i + 1) ids))
    ≡ with_rule (of_arguments word (map (λ x. x.now) (take i ids))) (argument_rule (get_or ids i id).now)
argument_more word ids i id h =
    let given = λ (x : Bor Text). x.now in
    let add = λ (app : App) (x : Text). with_rule app (argument_rule x) in
    ap (λ (xs : List (Bor Text)). of_arguments word (map given xs)) (take_more ids i id h)
    ∙ ap (of_arguments word) (map-append given (take i ids) (get_or ids i id ∷ []))
    ∙ fold_push add (new_app word) (map given (take i ids)) (get_or ids i id).now

-- ---- the commands of a table
abbrev pub Row : Type 0
Row = Bor Text × Bor (List (Bor Text))

abbrev pub with_row : App → Row → App
with_row app row = with_subcommand app (of_arguments row.0.now (map (λ id. id.now) row.1.now)).top
