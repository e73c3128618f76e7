use Rattle.std.proofs.Common.{◌≡◌, ◌+◌, ℕ, List, Bool, true, take, sym, subst, arith}
use Rattle.std.proofs.lemmas.List.{take_all}
use Rattle.cell_rules.specs.Marks.{is_marked, MarksEach}
use Rattle.cell_rules.proofs.Marking.{mark_kept, each_more}
use Rattle.cell_rules.proofs.marks.mark_each.Goals as goal

pub loop-server-init : goal.loop-server-init
loop-server-init c = record { kept = λ s m. m; each = λ s m. absurd (let bad : ⊥ = cc in bad) }

pub loop-server-preserved : goal.loop-server-preserved
loop-server-preserved c =
    let marks = c.loop-server.marks.items in
    let servers = c.args.servers.now in
    let i = c.loop-server.server-index in
    record {
      kept = λ s m. subst (λ (ms : List Bool). is_marked ms s ≡ true) (sym c.mark.ensures)
          (mark_kept marks _ s (c.loop-server.invariant.kept s m));
      each = subst (λ (ms : List Bool). MarksEach (take (i + 1) servers) ms) (sym c.mark.ensures)
          (each_more servers i 0 marks (omega arith) c.loop-server.invariant.each);
    }

pub returns-clause-each : goal.returns-clause-each
returns-clause-each c =
    subst (λ (ns : List ℕ). MarksEach ns c.loop-server.marks.items)
    (take_all c.loop-server.server-index c.args.servers.now (omega arith)) c.loop-server.invariant.each
