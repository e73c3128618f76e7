use Rattle.std.proofs.Common.{◌≡◌, List, Bool, true, false, sym, ◌∙◌, subst}
use Rattle.cell_rules.specs.Marks.{is_marked}
use Rattle.cell_rules.proofs.Marking.{mark_here, server_candidates}
use Rattle.cell_rules.proofs.marks.marks_of_server.Goals as goal
use Rattle.cell_rules.proofs.marks.marks_of_server.Goals.{then-is_by_links, else-is_by_links}

pub returns : goal.returns
returns c =
    let net = c.args.net.now in
    let s = c.args.server in
    let here : is_marked c.mark.new.marks.items s ≡ true =
    subst (λ (ms : List Bool). is_marked ms s ≡ true) (sym c.mark.ensures) (mark_here c.in_ok-marks.marks.items s) in
    elim c.if-is_by_links.branch [
      | then-is_by_links w ↦ rw w.marks-is
          (server_candidates net s w.mark_next.new.marks.items c.keeps.ensures (w.mark_next.ensures.kept s here)
          (λ e. w.mark_next.ensures.next))
      | else-is_by_links w ↦ rw w.marks-is
          (server_candidates net s c.mark.new.marks.items c.keeps.ensures here
          (λ e. let bad : true ≡ false = sym e ∙ sym c.is_by_links.ensures ∙ w.if-is_by_links.false in
          absurd (let never : ⊥ = cc in never)))
    ]
