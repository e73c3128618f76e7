-- The cells that an edit takes away are of the server or the flow that it changes.
use Rattle.std.proofs.Common.{◌≡◌, ℕ, ◌==◌, List, Bool, true, false, sym, ap, ◌∙◌, subst, refl}
use Rattle.std.specs.Prelude.{Contains, not}
use Rattle.std.proofs.lemmas.Bool.{eqb-true, eqb-false, not-true}
use Rattle.net_model.specs.Networks.{Net}
use Rattle.net_model.specs.Accepted.{IsAccepted}
use Rattle.net_cells.specs.declared.cell.Cell.{Cell}
use Rattle.net_cells.specs.Cells.{has_cell}
use Rattle.net_cells.proofs.Lists.{Has, contains_has, has_contains, has_filter, filter_has}
use Rattle.cell_rules.proofs.cell_changes.HasSlots.{slots_are_own}
use Rattle.cell_rules.specs.declared.site.Site.{Site}
use Rattle.cell_rules.specs.declared.site.Site.TheVariants.{Anywhere, Server, Flow}
use Rattle.cell_rules.specs.Finding.{AreCellsOf, HaveSameCellsBut, gone_of}
use Rattle.cell_rules.specs.Sites.{IsSameBut}
use Rattle.cell_rules.proofs.OfNumber.{same_but_server, same_but_flow}
use Rattle.cell_store.specs.edit_store.Stored.{AreLost}
use Rattle.cell_rules.specs.edit_sites.Replaced.{IsMadeAt}

-- ---- by where an edit changes a network
pub server_shares : (site : Site) (s : ℕ) (old net : Net) → site ≡ Server s → IsSameBut site old net
    → HaveSameCellsBut s old net
server_shares site s old net e same = same_but_server s old net (subst (λ (x : Site). IsSameBut x old net) e same)

pub flow_shares : (site : Site) (i : ℕ) (old net : Net) → site ≡ Flow i → IsSameBut site old net
    → HaveSameCellsBut i old net
flow_shares site i old net e same = same_but_flow i old net (subst (λ (x : Site). IsSameBut x old net) e same)

pub never_anywhere : (site : Site) (old net : Net) → site ≡ Anywhere → IsMadeAt site old net → ⊥
never_anywhere site old net e made = subst (λ (x : Site). IsMadeAt x old net) e made

-- ---- those of a number
pub lost : (old net : Net) (number : ℕ) (near gone : List Cell) → IsAccepted old → AreCellsOf old number near
    → HaveSameCellsBut number old net → gone ≡ gone_of net near → AreLost old net gone
lost old net number near gone a are same e = record {
  only = λ c m. let found = among c m in
      (not-true (has_cell net c) found.1, slots_are_own.has old c a (are.only c found.0).0);
  were = λ c m. (are.only c (among c m).0).0;
  all = λ c has absent. by c has absent (c.a == number) refl;
}
  where
    among : (c : Cell) → Contains gone c → Contains near c × (not (has_cell net c) ≡ true)
    among c m =
        let found = filter_has (λ d. not (has_cell net d)) near c
        (subst (λ (cs : List Cell). Has cs c) e (contains_has gone c m)) in
        (has_contains near c found.0, found.1)

    by : (c : Cell) → has_cell old c ≡ true → has_cell net c ≡ false → (b : Bool) → c.a == number ≡ b → Contains gone c
    by c has absent true is =
        has_contains gone c (subst (λ (cs : List Cell). Has cs c) (sym e)
        (has_filter (λ d. not (has_cell net d)) near c
        (contains_has near c (are.all c has (eqb-true c.a number is))) (ap not absent)))
    by c has absent false is =
        let both : true ≡ false = sym has ∙ same c (eqb-false c.a number is) ∙ absent in absurd cc
