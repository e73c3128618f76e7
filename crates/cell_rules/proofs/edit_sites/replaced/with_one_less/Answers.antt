use Rattle.std.proofs.Common.{rules, arith, ◌≡◌, ◌-◌, length, take, ap, sym, ◌∙◌, subst}
use Rattle.std.proofs.lemmas.Grind.{common_steps}
use Rattle.net_model.specs.Accepted.{IsAccepted}
use Rattle.cell_rules.proofs.edit_sites.PutBack.{one_less}
use Rattle.cell_rules.proofs.edit_sites.replaced.with_one_less.Goals as goal

pub of_version-requires : goal.of_version-requires
of_version-requires c =
    let parts = c.into_parts-servers in
    let few : c.saturating_sub-kept.result ≡ length parts.result.1.items - 1 = first_of (search rules, grind (arith, common_steps)) in
    let kept : c.truncate.new.self.items ≡ take (length parts.result.1.items - 1) parts.result.1.items =
    c.truncate.ensures.items ∙ ap (λ n. take n parts.result.1.items) few in
    subst IsAccepted
    (sym (one_less c.args.net c.version-version.result parts.result.0.items parts.result.1.items c.truncate.new.self.items
    c.version-version.ensures.version parts.ensures.servers parts.ensures.flows kept)) c.requires

pub returns : goal.returns
returns c =
    let parts = c.into_parts-servers in
    let few : c.saturating_sub-kept.result ≡ length parts.result.1.items - 1 = first_of (search rules, grind (arith, common_steps)) in
    let kept : c.truncate.new.self.items ≡ take (length parts.result.1.items - 1) parts.result.1.items =
    c.truncate.ensures.items ∙ ap (λ n. take n parts.result.1.items) few in
    c.of_version.ensures
    ∙ one_less c.args.net c.version-version.result parts.result.0.items parts.result.1.items c.truncate.new.self.items
    c.version-version.ensures.version parts.ensures.servers parts.ensures.flows kept
