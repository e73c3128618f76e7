use Rattle.std.proofs.Common.{arith}
use Rattle.cell_rules.proofs.Marking.{behind_more}
use Rattle.cell_rules.proofs.marks.mark_behind.Goals as goal

pub loop-hop-init : goal.loop-hop-init
loop-hop-init c = record { kept = λ s m. m; behind = λ k h e. absurd (omega (arith, h)) }

pub loop-hop-preserved : goal.loop-hop-preserved
loop-hop-preserved c = record {
  kept = λ s m. c.mark_if.ensures.kept s (c.loop-hop.invariant.kept s m);
  behind = behind_more c.args.path.now c.args.server c.loop-hop.hop c.loop-hop.marks.items c.mark_if.new.marks.items
      (omega arith) c.loop-hop.invariant.behind c.mark_if.ensures.kept c.mark_if.ensures.here;
}

pub returns-clause-behind : goal.returns-clause-behind
returns-clause-behind c = λ k h e. c.loop-hop.invariant.behind k (omega (arith, h, c.loop-hop-test.false)) e
