use Rattle.std.proofs.Common.{◌≡◌, false, true, None, ap, ◌∙◌}
use Rattle.std.specs.Prelude.{is_some}
use Rattle.netcalc_cli.specs.Words.{texts, command_of}
use Rattle.netcalc_cli.proofs.Taking.{line_taken, call_asks}
use Rattle.netcalc_cli.proofs.words.parsed.Goals as goal

pub parse-requires : goal.parse-requires
parse-requires c = line_taken (texts c.args.words.now) c.requires

pub unreachable-requires : goal.unreachable-requires
unreachable-requires c =
    let asks = call_asks (texts c.args.words.now) _ _ _ c.requires c.in_ok-call.ensures in
    let none : None ≡ command_of (texts c.args.words.now) =
    (rw c.deref.ensures.value at c.in-None.ensures.command) ∙ asks in
    let never : false ≡ true = ap is_some none ∙ c.requires in
    cc

pub returns-clause-command : goal.returns-clause-command
returns-clause-command c =
    let asks = call_asks (texts c.args.words.now) _ _ _ c.requires c.in_ok-call.ensures in
    (rw c.deref.ensures.value at c.in-Some.ensures.command) ∙ asks
