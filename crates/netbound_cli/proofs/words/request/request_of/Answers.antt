use Rattle.std.proofs.Common.{sym, ap, ◌∙◌}
use Rattle.clap.specs.Matches.{found_of}
use Rattle.clap.specs.Words.{app_of, is_simple, is_simple_and_free, rows_of}
use Rattle.netbound_cli.specs.words.Requests.{texts}
use Rattle.netbound_cli.proofs.words.Asked.{by_matches, by_refusal, is_simple_and_free_app, is_simple_app}
use Rattle.netbound_cli.proofs.words.request.request_of.Goals as goal

pub returns-in-Some-clause-request : goal.returns-in-Some-clause-request
returns-in-Some-clause-request c =
    let app = c.in-Ok.ensures in
    let told = c.in-Ok-try_get_matches_from.ensures in
    let none = told.kinds (ap is_simple_and_free app ∙ is_simple_and_free_app) in
    let rows = (told.matches (ap is_simple app ∙ is_simple_app)).0 in
    by_matches (app_of c.in-Ok.command) (texts c.args.words.now)
    (rows_of (found_of c.in-Ok-try_get_matches_from.matches)) app none rows
    ∙ sym c.in-Some.ensures.value

pub returns-clause-request : goal.returns-clause-request
returns-clause-request c =
    let app = c.in-Ok.ensures in
    let kinds = c.in-Err.ensures.kinds (ap is_simple_and_free app ∙ is_simple_and_free_app) in
    by_refusal (app_of c.in-Ok.command) (texts c.args.words.now) c.kind.result c.refused.result app
    (rw (← c.kind.ensures) at kinds) c.refused.ensures.kind

pub returns-in-Some-clause-range : goal.returns-in-Some-clause-range
returns-in-Some-clause-range c = c.in-Some.ensures.range

pub returns-clause-range : goal.returns-clause-range
returns-clause-range c = c.refused.ensures.range
