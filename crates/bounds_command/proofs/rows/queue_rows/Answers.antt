use Rattle.std.proofs.Common.{◌<◌, ◌^◌, ◌++◌, [], ℕ, Vec, Global, List, length, get_or, sym, ◌∙◌, ap, ap₂, subst, arith}
use Rattle.std.proofs.lemmas.List.{get_or_default}
use Rattle.tree_network.specs.Networks.{no_port}
use Rattle.document_tables.specs.Documents.{document_view}
use Rattle.tree_bounds.specs.Tables.{items_of}
use Rattle.bounds_command.specs.Reports.{QueueText, queues_at}
use Rattle.bounds_command.proofs.QueueRows.{port_rows, ports_more}
use Rattle.bounds_command.proofs.Rates.{rates_fit}
use Rattle.bounds_command.proofs.rows.queue_rows.Goals as goal

pub push_port-requires-clause-small : goal.push_port-requires-clause-small
push_port-requires-clause-small c = λ k d h.
    let net = c.args.document.now.network in
    let s = c.loop-number.number in
    let rates = c.in_ok-rates.rates.items in
    let is = c.rates_at.ensures ∙ ap (λ (vs : List (Vec ℕ Global)). get_or (items_of vs) s []) c.deref.ensures.value in
    let count = c.len-number-end.ensures in
    let inside : s < length net.ports.items = omega (arith, c.loop-number-test.true, count) in
    let long = ap length is in
    let within : k < length (get_or (items_of rates) s []) = omega (arith, h, long) in
    let P : List ℕ → Type 0 = λ xs. get_or xs k d < 2 ^ 100 in
    subst P (sym is) (rates_fit net (items_of rates) s k d c.requires.network c.in_ok-rates.ensures inside within)

pub loop-number-preserved : goal.loop-number-preserved
loop-number-preserved c =
    let net = c.args.document.now.network in
    let d = document_view c.args.document.now in
    let s = c.loop-number.number in
    let rates = c.in_ok-rates.rates.items in
    let is = c.rates_at.ensures ∙ ap (λ (vs : List (Vec ℕ Global)). get_or (items_of vs) s []) c.deref.ensures.value in
    let count = c.len-number-end.ensures in
    let inside : s < length net.ports.items = omega (arith, c.loop-number-test.true, count) in
    let port = c.index.ensures ∙ get_or_default net.ports.items s c.index.result.now no_port inside in
    let rows = port_rows d net c.args.table.now (items_of rates) s c.name_of-name.result.now c.index.result.now
    c.rates_at.result.now
    c.found_at.result.now c.requires.table c.in_ok-rates.ensures inside c.name_of-name.ensures port is
    c.found_at.ensures in
    c.in_ok-push_port.ensures
    ∙ ap₂ (λ (xs : List QueueText) (ys : List QueueText). xs ++ ys) c.loop-number.invariant rows
    ∙ ports_more (queues_at d net c.args.table.now) s
