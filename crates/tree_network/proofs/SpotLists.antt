-- The spots of links, one node and one link more.
use Rattle.std.proofs.Common.{◌≡◌, ℕ, zero, suc, ◌<◌, ◌+◌, List, [], ◌∷◌, ◌++◌, length, get_or, refl, sym, ◌∙◌, ap, arith, inl, inr, add-one, length-append, append_assoc, Some}
use Rattle.std.specs.Prelude.{slice_get}
use Rattle.std.proofs.lemmas.Bool.{cases_eq}
use Rattle.std.proofs.lemmas.List.{get_or_append_left, get_or_at}
use Rattle.tree_network.specs.Networks.{node_at}
use Rattle.tree_network.specs.declared.network.Link.{Link}
use Rattle.tree_network.specs.declared.network.Network.{Network}
use Rattle.tree_network.specs.declared.network.Node.{Node}
use Rattle.tree_network.specs.declared.spots.Spot.{Spot}
use Rattle.tree_network.specs.Lists.{number_at, ports_in}
use Rattle.tree_network.specs.Spots.{no_spot, spot_at, spot_of, spots_in, spots_below, spots_of_link, source_in, number_before}

pub in_zero : (i first : ℕ) (link : Link) → spots_in i first link 0 ≡ []
unfolding spots_in
in_zero i first link = refl

pub in_more : (i first : ℕ) (link : Link) (place : ℕ) → spots_in i first link (place + 1) ≡ spots_in i first link place ++ spot_of i first link place ∷ []
unfolding spots_in
in_more i first link place = rw add-one refl

pub in_length : (i first : ℕ) (link : Link) (place : ℕ) → length (spots_in i first link place) ≡ place
unfolding spots_in
in_length i first link zero = refl
in_length i first link (suc place) =
    let count = length-append (spots_in i first link place) (spot_of i first link place ∷ []) in
    let few = in_length i first link place in
    omega (arith, count, few)

pub in_at : (i first : ℕ) (link : Link) (n place : ℕ) → place < n → get_or (spots_in i first link n) place no_spot ≡ spot_of i first link place
unfolding spots_in
in_at i first link zero place h = absurd (omega arith)
in_at i first link (suc n) place h =
    elim (cases_eq place n) [
      | inl same ↦
          let few = in_length i first link n in
          get_or_at (spots_in i first link n) (spot_of i first link n) [] no_spot place (omega (arith, few, same)) ∙ ap (λ k. spot_of i first link k) (sym same)
      | inr other ↦
          let few = in_length i first link n in
          let within : place < length (spots_in i first link n) = omega (arith, few) in
          get_or_append_left (spots_in i first link n) (spot_of i first link n ∷ []) no_spot place within ∙ in_at i first link n place (omega arith)
    ]

-- a spot by its fields
pub is_spot_of : (i first : ℕ) (link : Link) (place : ℕ) (node : Node) (source from start : ℕ) → node ≡ node_at link place → source ≡ source_in link node.from
    → start ≡ first → from ≡ number_before start place node.from
    → record { link = i; frame = link.frame; port = node.port; queue = node.queue; source = source; from = from } ≡ spot_of i first link place
is_spot_of i first link place node source from start en es ef eb =
    let S : ℕ → ℕ → Node → Spot = λ s f n. record { link = i; frame = link.frame; port = n.port; queue = n.queue; source = s; from = f } in
    ap (λ s. S s from node) es ∙ ap (λ f. S (source_in link node.from) f node) (eb ∙ ap (λ f. number_before f place node.from) ef)
    ∙ ap (λ n. S (source_in link n.from) (number_before first place n.from) n) en

pub link_more : (i : ℕ) (link : Link) (place : ℕ) (old now new : List Spot) (spot : Spot) → now ≡ old ++ spots_in i (length old) link place
    → new ≡ now ++ spot ∷ [] → spot ≡ spot_of i (length old) link place → new ≡ old ++ spots_in i (length old) link (place + 1)
link_more i link place old now new spot e more is =
    more ∙ ap (λ s. now ++ s ∷ []) is ∙ ap (λ l. l ++ spot_of i (length old) link place ∷ []) e
    ∙ append_assoc old (spots_in i (length old) link place) (spot_of i (length old) link place ∷ [])
    ∙ ap (λ l. old ++ l) (sym (in_more i (length old) link place))

pub link_length : (i : ℕ) (link : Link) (place : ℕ) (old now : List Spot) → now ≡ old ++ spots_in i (length old) link place → length now ≡ length old + place
link_length i link place old now e =
    ap length e ∙ length-append old (spots_in i (length old) link place) ∙ ap (λ k. length old + k) (in_length i (length old) link place)

pub below_zero : (net : Network) → spots_below net 0 ≡ []
unfolding spots_below
below_zero net = refl

pub below_more : (net : Network) (i : ℕ) (link : Link) → slice_get net.links.items i ≡ Some link
    → spots_below net (i + 1) ≡ spots_below net i ++ spots_in i (length (spots_below net i)) link (length link.nodes.items)
unfolding spots_below
below_more net i link e = rw add-one (ap (λ l. spots_below net i ++ spots_of_link i (length (spots_below net i)) l) e)

-- the port of each spot, by the list of the ports alone
pub its_port : (spots : List Spot) (n : ℕ) → number_at (ports_in spots) n ≡ (spot_at spots n).port
its_port [] n = refl
its_port (spot ∷ spots) zero = refl
its_port (spot ∷ spots) (suc n) = its_port spots n

pub port_by : (spots : List Spot) (ports : List ℕ) → ports ≡ ports_in spots → (n : ℕ) → number_at ports n ≡ (spot_at spots n).port
port_by spots ports own n = ap (λ (l : List ℕ). number_at l n) own ∙ its_port spots n
