use Rattle.std.proofs.Common.{◌≡◌, ◌+◌, List, ℕ, Ok, take, drop, subst, sym, ap, ◌∙◌}
use Rattle.std.specs.String.{string_bytes}
use Rattle.std.proofs.lemmas.Result.{err_from_is_err_and}
use Rattle.net_model.specs.declared.edit.PathEntry.{PathEntry}
use Rattle.net_edits.specs.Lookups.{server_number, server_numbers}
use Rattle.net_edits.specs.Replies.{Refuses}
use Rattle.net_edits.proofs.Places.{split_at, take_one}
use Rattle.net_edits.proofs.Found.{numbers_more, numbers_refused}
use Rattle.net_edits.proofs.names.server_numbers.Goals as goal

pub returns-in_err-number-clause-refused : goal.returns-in_err-number-clause-refused
returns-in_err-number-clause-refused c =
    let p = err_from_is_err_and c.from_residual-in_err-number.result c.from_residual-in_err-number.ensures.1 in
    let net = c.args.net.now in
    let path = c.args.path.now in
    let i = c.loop-entry.entry-index in
    let entry = c.entry-item.result in
    let e = c.in_err-number.field-0.0 in
    let here : Refuses (server_number net (string_bytes entry.server)) e =
    subst (λ (bytes : List ℕ). Refuses (server_number net bytes) e) c.deref.ensures c.in_err-number.ensures.number in
    rw (p.1, p.2)
    (subst (λ (es : List PathEntry). Refuses (server_numbers net es) e) (sym (split_at path i entry c.loop-entry-test.true c.entry-item.is))
    (numbers_refused net (take i path) entry (drop (i + 1) path) c.loop-entry.numbers.items e c.loop-entry.invariant here))

pub loop-entry-preserved : goal.loop-entry-preserved
loop-entry-preserved c =
    let net = c.args.net.now in
    let path = c.args.path.now in
    let i = c.loop-entry.entry-index in
    let entry = c.entry-item.result in
    let s = c.in_ok-number.number in
    let here : server_number net (string_bytes entry.server) ≡ Ok s =
    subst (λ (bytes : List ℕ). server_number net bytes ≡ Ok s) c.deref.ensures c.in_ok-number.ensures.number in
    ap (server_numbers net) (take_one path i entry c.loop-entry-test.true c.entry-item.is)
    ∙ numbers_more net (take i path) entry c.loop-entry.numbers.items s c.loop-entry.invariant here
    ∙ ap Ok (sym c.in_ok-push.ensures.items)
