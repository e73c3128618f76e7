-- A walk serves its flow by what each hop serves it.
use Rattle.std.specs.Prelude.{◌≡◌, ℕ, suc, pos, List, [], ◌∷◌, length}
use Rattle.std.proofs.Common.{arith, ap, refl, subst}
use Rattle.rational.specs.Rational.{ℚ, int, ◌+ℚ◌, ◌-ℚ◌, ◌≤ℚ◌}
use Rattle.rational.specs.Extended.{Ext, ◌≤ₑ◌, ◌+ₑ◌}
use Rattle.rational.specs.declared.Extended.TheVariants.{Fin, Inf}
use Rattle.rational.proofs.Laws.{le_refl, le_trans}
use Rattle.rational.proofs.ExtendedOrder.{le_ext_trans, add_le_ext, le_ext_refl}
use Rattle.rational.proofs.Linear.{with2, with3, with4, with5, with6}
use Rattle.min_plus.specs.Functions.{IsNonnegative}
use Rattle.min_plus.specs.Convolution.{AllNonneg, sum_of}
use Rattle.run_laws.specs.Runs.{SpecRun}
use Rattle.run_laws.specs.Cards.{of_flow}
use Rattle.run_laws.specs.Counts.{arrived, worked, departed}
use Rattle.run_laws.specs.Serves.{IsPacketServed}
use Rattle.run_laws.specs.Routes.{Hop, Routes, link_at, first_server, last_server}
use Rattle.run_laws.specs.Views.{view}
use Rattle.net_laws.specs.Paths.{links_between, IsServedAlong, sum_of_values, IsWithinSplits, IsServedOver}
use Rattle.net_laws.specs.Multicast.{NextServers, IsLawfulBy}
use Rattle.net_laws.proofs.Arcs.{IsWalk}
use Rattle.net_laws.proofs.Links.{arc_carries}

-- ---- service along the hops that are left
record IsServedSince (net : Routes) (run : SpecRun) (i : ℕ) (hs : List Hop) (curves : List (ℚ → Ext)) (t s : ℚ) : Type 0 where
  waits : List ℚ
  nonneg : AllNonneg waits
  as_many : length waits ≡ length curves
  whole : sum_of waits ≡ t -ℚ links_between net hs -ℚ s
  earlier : s ≤ℚ t -ℚ links_between net hs
  left : arrived (of_flow i) (view net run (first_server hs)) s ≤ℚ departed (of_flow i) (view net run (last_server hs)) t
  kept_up : (Fin (arrived (of_flow i) (view net run (first_server hs)) s) +ₑ sum_of_values curves waits)
      ≤ₑ Fin (worked (of_flow i) (view net run (last_server hs)) t)

pub links_nonneg : (net : Routes) (to : NextServers) (i : ℕ) (hs : List Hop) → IsWalk net to i hs → int (pos 0) ≤ℚ links_between net hs
links_nonneg net to i [] p = le_refl (int (pos 0))
links_nonneg net to i (h ∷ []) p = le_refl (int (pos 0))
links_nonneg net to i (h ∷ g ∷ hs) p =
    let one = p.1 in
    let rest = links_nonneg net to i (g ∷ hs) p.3 in
    with2 (link_at net h.server) (links_between net (g ∷ hs)) (λ c. omega (arith, c.le, c.lt, c.same))

-- a value from 0 on that is added leaves no less
nothing_less : (a l : ℚ) (x : Ext) → Fin (int (pos 0)) ≤ₑ x → (Fin a +ₑ x) ≤ₑ Fin l → a ≤ℚ l
nothing_less a l (Fin x) on h = with3 a l x (λ c. omega (arith, c.le, c.lt, c.same))
nothing_less a l Inf on h = absurd h

-- what is kept up with at a hop, and from there on
one_more_hop : (came moved work : ℚ) (x rest : Ext) → (Fin came +ₑ x) ≤ₑ Fin moved → (Fin moved +ₑ rest) ≤ₑ Fin work
    → (Fin came +ₑ (x +ₑ rest)) ≤ₑ Fin work
one_more_hop came moved work (Fin x) (Fin y) h k = with5 came moved work x y (λ c. omega (arith, c.le, c.lt, c.same))
one_more_hop came moved work (Fin x) Inf h k = absurd k
one_more_hop came moved work Inf rest h k = absurd h

with_zero : (a w : ℚ) (x : Ext) → (Fin a +ₑ x) ≤ₑ Fin w → (Fin a +ₑ (x +ₑ Fin (int (pos 0)))) ≤ₑ Fin w
with_zero a w (Fin x) h = with3 a w x (λ c. omega (arith, c.le, c.lt, c.same))
with_zero a w Inf h = absurd h

-- the times of the hops from there on, and of one before them
wait_more : (rest t u s D E : ℚ) → rest ≡ t -ℚ E -ℚ u → (u -ℚ D -ℚ s) +ℚ rest ≡ t -ℚ (D +ℚ E) -ℚ s
wait_more rest t u s D E e = with6 rest t u s D E (λ c. omega (arith, c.le, c.lt, c.same))

before_both : (t u s D E : ℚ) → u ≤ℚ t -ℚ E → s ≤ℚ u -ℚ D → s ≤ℚ t -ℚ (D +ℚ E)
before_both t u s D E h k = with5 t u s D E (λ c. omega (arith, c.le, c.lt, c.same))

in_run_still : (t u D E end : ℚ) → u ≤ℚ t -ℚ E → t ≤ℚ end → int (pos 0) ≤ℚ E → int (pos 0) ≤ℚ D → (u ≤ℚ end) × (u -ℚ D ≤ℚ end)
in_run_still t u D E end h l m n =
    (with4 u t E end (λ c. omega (arith, c.le, c.lt, c.same)), with5 u t E D end (λ c. omega (arith, c.le, c.lt, c.same)))

from_zero : (x s : ℚ) → s ≤ℚ x → int (pos 0) ≤ℚ x -ℚ s
from_zero x s h = with2 x s (λ c. omega (arith, c.le, c.lt, c.same))

further : (net : Routes) (run : SpecRun) (i : ℕ) (h g : Hop) (hs : List Hop) (γ : ℚ → Ext) (γs : List (ℚ → Ext)) (t u s D E : ℚ)
    → link_at net h.server ≡ D → links_between net (g ∷ hs) ≡ E → IsNonnegative γ
    → IsPacketServed (of_flow i) γ (view net run h.server) (u -ℚ D) s → IsServedSince net run i (g ∷ hs) γs t u
    → arrived (of_flow i) (view net run g.server) u ≡ departed (of_flow i) (view net run h.server) (u -ℚ D)
    → IsServedSince net run i (h ∷ g ∷ hs) (γ ∷ γs) t s
further net run i h g hs γ γs t u s D E is_D is_E on one rest moved =
    let came = arrived (of_flow i) (view net run h.server) s in
    let gone = departed (of_flow i) (view net run h.server) (u -ℚ D) in
    let work = worked (of_flow i) (view net run (last_server (g ∷ hs))) t in
    let less = nothing_less came gone (γ (u -ℚ D -ℚ s)) (on (u -ℚ D -ℚ s) (from_zero (u -ℚ D) s one.earlier)) one.kept_up in
    record {
      waits = (u -ℚ D -ℚ s) ∷ rest.waits;
      nonneg = (from_zero (u -ℚ D) s one.earlier, rest.nonneg);
      as_many = ap suc rest.as_many;
      whole = rw (is_D, is_E) (wait_more (sum_of rest.waits) t u s D E (rw is_E at rest.whole));
      earlier = rw (is_D, is_E) (before_both t u s D E (rw is_E at rest.earlier) one.earlier);
      left = le_trans less (subst (λ (x : ℚ). x ≤ℚ departed (of_flow i) (view net run (last_server (g ∷ hs))) t) moved rest.left);
      kept_up = one_more_hop came gone work (γ (u -ℚ D -ℚ s)) (sum_of_values γs rest.waits) one.kept_up
          (subst (λ (x : ℚ). (Fin x +ₑ sum_of_values γs rest.waits) ≤ₑ Fin work) moved rest.kept_up);
    }

served_along : (net : Routes) (to : NextServers) (run : SpecRun) (i : ℕ) (hs : List Hop) (curves : List (ℚ → Ext)) → IsLawfulBy net to run
    → IsWalk net to i hs → IsServedAlong net run i hs curves
    → (t : ℚ) → t ≤ℚ run.end → (s : ℚ) × IsServedSince net run i hs curves t s
served_along net to run i [] curves lawful walk serves t l = absurd serves
served_along net to run i (h ∷ []) [] lawful walk serves t l = absurd serves
served_along net to run i (h ∷ []) (γ ∷ δ ∷ γs) lawful walk serves t l = absurd serves
served_along net to run i (h ∷ g ∷ hs) [] lawful walk serves t l = absurd serves
served_along net to run i (h ∷ []) (γ ∷ []) lawful walk serves t l =
    let (s, one) = serves t l in
    let e = one.earlier in (
      s,
      record {
        waits = (t -ℚ s) ∷ [];
        nonneg = (with2 s t (λ c. omega (arith, c.le, c.lt, c.same)), tt);
        as_many = refl;
        whole = with2 s t (λ c. omega (arith, c.le, c.lt, c.same));
        earlier = with2 s t (λ c. omega (arith, c.le, c.lt, c.same));
        left = one.left;
        kept_up = with_zero (arrived (of_flow i) (view net run h.server) s) (worked (of_flow i) (view net run h.server) t) (γ (t -ℚ s)) one.kept_up;
      },
    )
served_along net to run i (h ∷ g ∷ hs) (γ ∷ γs) lawful walk serves t l =
    let D = link_at net h.server in
    let E = links_between net (g ∷ hs) in
    let (u, rest) = served_along net to run i (g ∷ hs) γs lawful walk.3 serves.2 t l in
    let in_run = in_run_still t u D E run.end rest.earlier l (links_nonneg net to i (g ∷ hs) walk.3) walk.1 in
    let moved : arrived (of_flow i) (view net run g.server) u ≡ departed (of_flow i) (view net run h.server) (u -ℚ D) =
    arc_carries net to run i h.server g.server u lawful walk.2 in_run.0 in
    let (s, one) = serves.1 (u -ℚ D) in_run.1 in (
      s,
      further net run i h g hs γ γs t u s (link_at net h.server) (links_between net (g ∷ hs)) refl refl serves.0 one rest moved,
    )

pub walk_is_served : (net : Routes) (to : NextServers) (run : SpecRun) (i : ℕ) (hs : List Hop) (γ : ℚ → Ext) (curves : List (ℚ → Ext)) → IsLawfulBy net to run
    → IsWalk net to i hs → IsServedAlong net run i hs curves → IsWithinSplits γ curves
    → (t : ℚ) → t ≤ℚ run.end → (s : ℚ) × IsServedOver net run i hs γ t s
walk_is_served net to run i hs γ curves lawful walk serves within t l =
    let (s, since) = served_along net to run i hs curves lawful walk serves t l in
    let came = arrived (of_flow i) (view net run (first_server hs)) s in
    let less : γ (t -ℚ links_between net hs -ℚ s) ≤ₑ sum_of_values curves since.waits =
    subst (λ (x : ℚ). γ x ≤ₑ sum_of_values curves since.waits) since.whole (within since.waits since.nonneg since.as_many) in (
      s,
      record {
        earlier = since.earlier;
        left = since.left;
        kept_up = le_ext_trans (Fin came +ₑ γ (t -ℚ links_between net hs -ℚ s)) (Fin came +ₑ sum_of_values curves since.waits) (Fin (worked (of_flow i) (view net run (last_server hs)) t))
            (add_le_ext (Fin came) (Fin came) (γ (t -ℚ links_between net hs -ℚ s)) (sum_of_values curves since.waits) (le_ext_refl (Fin came)) less) since.kept_up;
      },
    )
