use Rattle.std.specs.List.{list_any}
use Rattle.std.proofs.Common.{Bor, List, ℕ, ◌≡◌, ◌==◌, false, ◌+◌, ◌∷◌, [], map, length, drop, Ok, Err, sym, ap, subst, ◌∙◌, arith, length-append}
use Rattle.std.proofs.lemmas.List.{length-map}
use Rattle.document_rows.specs.declared.fault.Column.TheVariants as column
use Rattle.document_rows.specs.Reads.{CellRead, at}
use Rattle.document_tables.specs.Growing.{HasOwnPorts}
use Rattle.document_tables.specs.Paths.{next_port, path_from}
use Rattle.document_tables.specs.Ports.{ports_view}
use Rattle.document_tables.proofs.PathSteps.{path_more, path_wrong, path_all, own_more}
use Rattle.document_tables.proofs.paths.path_ports.Goals as goal

seen : Bor (List ℕ) → List ℕ
seen word = word.now

pub returns-in-Err-clause-value : goal.returns-in-Err-clause-value
unfolding seen
returns-in-Err-clause-value c =
    let ports = ports_view c.args.table.now in
    let words = map seen c.args.words.now in
    let n = length-map c.args.words.now seen in
    let below = c.loop-place-test.true in
    let bad = subst (λ (before : List ℕ). next_port ports c.args.priority c.args.frame before c.word_at.result.now ≡ Err c.in-Err.wrong) c.deref.ensures.value (sym c.in-Err.ensures.value) in
    ap (λ (read : CellRead (List ℕ)). at column.Path read)
    (c.loop-place.invariant.value
    ∙ path_wrong ports c.args.priority c.args.frame c.loop-place.path.items words c.loop-place.place c.word_at.result.now c.in-Err.wrong (omega (arith, n, below)) c.word_at.ensures bad)

pub loop-place-preserved : goal.loop-place-preserved
unfolding seen
loop-place-preserved c =
    let ports = ports_view c.args.table.now in
    let words = map seen c.args.words.now in
    let k = c.loop-place.place in
    let n = length-map c.args.words.now seen in
    let below = c.loop-place-test.true in
    let path = c.loop-place.path.items in
    let new = c.in-Ok.number in
    let items = c.in_ok-push-in-Ok.ensures.items in
    let ok = subst (λ (before : List ℕ). next_port ports c.args.priority c.args.frame before c.word_at.result.now ≡ Ok new) c.deref.ensures.value (sym c.in-Ok.ensures.value) in
    let own = subst (λ (before : List ℕ). list_any (λ m. m == new) before ≡ false) c.deref.ensures.value c.in-Ok.ensures.own in
    let longer = length-append path (new ∷ []) in record {
      value = c.loop-place.invariant.value
          ∙ (path_more ports c.args.priority c.args.frame path words k c.word_at.result.now new (omega (arith, n, below)) c.word_at.ensures ok
          ∙ ap (λ (before : List ℕ). path_from ports c.args.priority c.args.frame before (drop (k + 1) words)) (sym items));
      own = subst HasOwnPorts (sym items) (own_more path new c.loop-place.invariant.own own);
      all = let l = ap length items in omega (arith, l, longer, c.loop-place.invariant.all);
    }

pub returns-clause-value : goal.returns-clause-value
unfolding seen
returns-clause-value c =
    let words = map seen c.args.words.now in
    let n = length-map c.args.words.now seen in
    let past = c.loop-place-test.false in
    ap (λ (read : CellRead (List ℕ)). at column.Path read)
    (c.loop-place.invariant.value ∙ path_all (ports_view c.args.table.now) c.args.priority c.args.frame c.loop-place.path.items words c.loop-place.place (omega (arith, n, past)))
