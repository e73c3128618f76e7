-- Stairs as the arrival curves of flows. A flow that sends one packet each period keeps its stair along a tree: what
-- grows is the jitter, by the stay. (Le Boudec and Thiran, stair functions; the jitter of a periodic flow.)
use Rattle.std.specs.Prelude.{◌≡◌, ℕ, pos, true}
use Rattle.rational.specs.Rational.{ℚ, int, ◌≤ℚ◌, ◌<ℚ◌}
use Rattle.rational.specs.Extended.{Ext, ◌≤ₑ◌, ◌+ₑ◌}
use Rattle.rational.specs.declared.Extended.TheVariants.{Fin, Inf}
use Rattle.min_plus.specs.Formulas.{stair_value}
use Rattle.run_laws.specs.Routes.{queue_at}
use Rattle.tree_runs.specs.Trees.{TreeRoutes, tree_of, hops_in, Hangs}
use Rattle.tree_runs.specs.Bounded.{GrowsByStays, stay_in}

-- a stair; of an infinite jitter it says nothing
abbrev pub stair_of : ℚ → ℚ → Ext → ℚ → Ext
stair_of packet period Inf t = Inf
stair_of packet period (Fin jitter) t = stair_value packet period jitter t

-- a jitter at a server and the delay of the flow's queue there are at most the jitter at each next server
abbrev pub JittersGrow : TreeRoutes → (ℕ → ℕ → Ext) → (ℕ → ℕ → Ext) → Type 0
JittersGrow net jitter delay = (i a b : ℕ) → (tree_of net i).live ≡ true → Hangs net i a b →
    (jitter i a +ₑ delay a (queue_at a (hops_in (tree_of net i).nodes))) ≤ₑ jitter i b

-- then the stairs grow by the stays
abbrev pub StairsGrow : Type 0
StairsGrow = (net : TreeRoutes) (packet period : ℕ → ℚ) (jitter delay : ℕ → ℕ → Ext) →
    ((i : ℕ) → int (pos 0) ≤ℚ packet i) →
    ((i : ℕ) → int (pos 0) <ℚ period i) → JittersGrow net jitter delay →
    GrowsByStays net (λ i s. stair_of (packet i) (period i) (jitter i s)) (stay_in net delay)
