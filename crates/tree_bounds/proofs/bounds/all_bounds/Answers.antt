use Rattle.std.proofs.Common.{◌≡◌, ◌<◌, ◌+◌, ◌∷◌, [], ℕ, Option, Some, List, length, get_or, refl, sym, ◌∙◌, ap, subst, arith}
use Rattle.std.specs.Prelude.{slice_get}
use Rattle.std.proofs.lemmas.List.{map-append}
use Rattle.std.proofs.lemmas.Option.{slice_get_read}
use Rattle.tree_network.specs.Networks.{IsLink}
use Rattle.tree_network.specs.declared.network.Link.{Link}
use Rattle.tree_bounds.specs.Solved.{HaveBounds}
use Rattle.tree_bounds.specs.Tables.{items_of, row_at, AreBounds}
use Rattle.tree_bounds.proofs.Bounded.{link_more}
use Rattle.tree_bounds.proofs.bounds.all_bounds.Goals as goal

pub link_bounds-requires-clause-link : goal.link_bounds-requires-clause-link
link_bounds-requires-clause-link c =
    let L : Link → Type 0 = λ l. IsLink c.args.network.now l in
    let same = c.deref-link-items.ensures.value in
    let long = ap length same in
    let k = c.loop-link.link-index in
    let item = c.link-item.result in
    subst L (sym (c.link-item.is ∙ ap (λ (ls : List Link). get_or ls k item) same))
    (c.requires.network.links k item (omega (arith, c.loop-link-test.true, long)))

pub loop-link-preserved : goal.loop-link-preserved
loop-link-preserved c =
    let net = c.args.network.now in
    let row = row_at (items_of c.args.rows.now) in
    let same = c.deref-link-items.ensures.value in
    let long = ap length same in
    let k = c.loop-link.link-index in
    let item = c.link-item.result in
    let inside : k < length net.links.items = omega (arith, c.loop-link-test.true, long) in
    let is = slice_get_read net.links.items (length net.links.items) k item refl inside (c.link-item.is ∙ ap (λ (ls : List Link). get_or ls k item) same) in
    let new = c.in_ok-link_bounds.field-0 in
    let one = λ (link : Link) (e : slice_get net.links.items k ≡ Some link).
    let B : Link → Type 0 = λ l. AreBounds net row l new.items in
    let f : Some item ≡ Some link = sym is ∙ e in
    let g : item ≡ link = cc in
    subst B g c.in_ok-link_bounds.ensures in
    let P : List (List (Option ℕ)) → Type 0 = λ bs. HaveBounds net row (k + 1) bs in
    subst P (sym (ap items_of c.in_ok-push.ensures.items ∙ map-append (λ v. v.items) c.loop-link.bounds.items (new ∷ [])))
    (link_more net row k (items_of c.loop-link.bounds.items) new.items one c.loop-link.invariant)
