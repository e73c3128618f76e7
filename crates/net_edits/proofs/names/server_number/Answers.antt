use Rattle.std.proofs.Common.{Err, List, ℕ, ap, ◌∙◌, sym}
use Rattle.std.proofs.lemmas.Option.{slice_get_within}
use Rattle.std.proofs.lemmas.Result.{err_from_is_err_and}
use Rattle.net_edits.specs.Refusals.{unknown_name}
use Rattle.net_edits.proofs.Found.{server_found, server_unknown}
use Rattle.net_edits.proofs.names.server_number.Goals as goal

pub returns-in-Some-clause-number : goal.returns-in-Some-clause-number
returns-in-Some-clause-number c =
    server_found c.args.net.now c.args.name.now c.in-Some.number c.keeps.ensures.names.0 c.in-Some.ensures

pub returns-in-Some-clause-within : goal.returns-in-Some-clause-within
returns-in-Some-clause-within c =
    slice_get_within c.args.net.now.servers c.in-Some.number c.in-Some.ensures.server c.in-Some.ensures.is

pub returns-in_ok-from_str-in-None-clause-number : goal.returns-in_ok-from_str-in-None-clause-number
returns-in_ok-from_str-in-None-clause-number c =
    server_unknown c.args.net.now c.args.name.now c.in-None.ensures
    ∙ ap (λ (bytes : List ℕ). Err (unknown_name bytes)) (sym c.in_ok-from_str-in-None.ensures.ok)

pub returns-in_ok-from_str-in-None-clause-unknown : goal.returns-in_ok-from_str-in-None-clause-unknown
returns-in_ok-from_str-in-None-clause-unknown c = server_unknown c.args.net.now c.args.name.now c.in-None.ensures

pub returns-in_err-from_str-in-None-clause-unknown : goal.returns-in_err-from_str-in-None-clause-unknown
returns-in_err-from_str-in-None-clause-unknown c =
    let p = err_from_is_err_and c.from_residual.result c.from_residual.ensures.1 in
    rw p.1 (server_unknown c.args.net.now c.args.name.now c.in-None.ensures)
