use Rattle.std.proofs.Common.{◌≡◌, ℕ, suc, ◌+◌, ◌-◌, length, ap, ap₂, ◌∙◌, arith}
use Rattle.std.specs.List.{range_with_len}
use Rattle.std.proofs.lemmas.List.{length-map}
use Rattle.net_model.specs.Networks.{Net}
use Rattle.net_model.specs.Views.{server_of}
use Rattle.net_cells.specs.QueueParts.{in_part, by_parts, links_among}
use Rattle.net_cells.specs.Work.{parts_work}
use Rattle.net_cells.proofs.parts.parts_work.Invariants.{Counts}
use Rattle.net_cells.proofs.PartCounts.{more_items, links_more}
use Rattle.net_cells.proofs.parts.parts_work.Goals as goal

pub loop-part-preserved : goal.loop-part-preserved
loop-part-preserved c =
    let net = c.args.net.now in
    let s = c.args.server in
    let q = c.args.queue in
    let n = c.loop-part.part in
    let old = c.loop-part.invariant in
    record {
      is = more_items (in_part net s q) n c.loop-part.terms c.count_part-more.result old.is c.count_part-more.ensures.count;
      over = links_more net s q n c.loop-part.links c.count_part-more.result c.link_of-links.result old.over c.count_part-more.ensures.count
          c.link_of-links.ensures.link;
      few = omega (arith, old.few, c.count_part-more.ensures.few);
      fewer = omega (arith, old.fewer, c.link_of-links.ensures.few);
    }

-- all parts are counted
all_counted : (net : Net) (s q terms links n : ℕ) → Counts net s q terms links n → n ≡ suc (length net.servers)
    → terms - 1 + links ≡ parts_work net s q
all_counted net s q terms links n h e =
    let hops = h.is ∙ ap (λ (m : ℕ). length (by_parts net s q (range_with_len 0 m))) e in
    let over = h.over ∙ ap (λ (m : ℕ). links_among net s q (range_with_len 0 m)) e in
    ap₂ (λ (x y : ℕ). x - 1 + y) hops over

pub returns-then-terms-eq0 : goal.returns-then-terms-eq0
returns-then-terms-eq0 c =
    let count = ap length c.servers.ensures.servers in
    let every = length-map c.servers.result.now server_of in
    let last : c.loop-part.part ≡ suc (length c.args.net.now.servers) =
    omega (arith, count, every, c.loop-part-test.false, c.loop-part.auto.part-end) in
    let sum = all_counted c.args.net.now c.args.server c.args.queue c.loop-part.terms c.loop-part.links c.loop-part.part c.loop-part.invariant last in
    let none : c.loop-part.links ≡ c.loop-part.terms - 1 + c.loop-part.links = omega (arith, c.if-terms-eq0.true) in
    none ∙ sum

pub returns-else-terms-eq0 : goal.returns-else-terms-eq0
returns-else-terms-eq0 c =
    let count = ap length c.servers.ensures.servers in
    let every = length-map c.servers.result.now server_of in
    let last : c.loop-part.part ≡ suc (length c.args.net.now.servers) =
    omega (arith, count, every, c.loop-part-test.false, c.loop-part.auto.part-end) in
    all_counted c.args.net.now c.args.server c.args.queue c.loop-part.terms c.loop-part.links c.loop-part.part c.loop-part.invariant last
