-- Token buckets as the arrival curves of flows. What grows along a tree is the burst, by the rate times the stay. (Le
-- Boudec and Thiran, burstiness increase.)
use Rattle.std.specs.Prelude.{◌≡◌, ℕ, true}
use Rattle.rational.specs.Rational.{ℚ}
use Rattle.rational.specs.Extended.{Ext, ◌≤ₑ◌, ◌+ₑ◌}
use Rattle.rational.specs.declared.Extended.TheVariants.{Fin, Inf}
use Rattle.min_plus.specs.Formulas.{bucket_value}
use Rattle.min_plus.specs.Pointwise.{scaled}
use Rattle.run_laws.specs.Routes.{queue_at}
use Rattle.tree_runs.specs.Trees.{TreeRoutes, tree_of, hops_in, Hangs}
use Rattle.tree_runs.specs.Bounded.{GrowsByStays, stay_in}

-- a token bucket; of an infinite burst it says nothing
abbrev pub bucket_of : Ext → ℚ → ℚ → Ext
bucket_of Inf rate t = Inf
bucket_of (Fin burst) rate t = bucket_value burst rate t

-- a burst at a server and the rate times the delay of the flow's queue there are at most the burst at each next server
abbrev pub BurstsGrow : TreeRoutes → (ℕ → ℕ → Ext) → (ℕ → ℚ) → (ℕ → ℕ → Ext) → Type 0
BurstsGrow net burst rate delay = (i a b : ℕ) → (tree_of net i).live ≡ true → Hangs net i a b →
    (burst i a +ₑ scaled (rate i) (delay a (queue_at a (hops_in (tree_of net i).nodes)))) ≤ₑ burst i b

-- then the buckets grow by the stays
abbrev pub BucketsGrow : Type 0
BucketsGrow = (net : TreeRoutes) (burst : ℕ → ℕ → Ext) (rate : ℕ → ℚ) (delay : ℕ → ℕ → Ext) →
    BurstsGrow net burst rate delay →
    GrowsByStays net (λ i s. bucket_of (burst i s) (rate i)) (stay_in net delay)
