-- Token buckets grow along a tree by the rate times the stay.
use Rattle.std.proofs.Common.{arith}
use Rattle.rational.specs.Rational.{ℚ, ◌+ℚ◌, ◌*ℚ◌}
use Rattle.rational.specs.Extended.{Ext, ◌≤ₑ◌, ◌+ₑ◌}
use Rattle.rational.specs.declared.Extended.TheVariants.{Fin, Inf}
use Rattle.rational.proofs.Laws.{mul_add}
use Rattle.rational.proofs.Linear.{with5}
use Rattle.min_plus.specs.Pointwise.{scaled, shifted}
use Rattle.run_laws.specs.Routes.{queue_at}
use Rattle.tree_runs.specs.Trees.{tree_of, hops_in}
use Rattle.tree_runs.specs.Buckets.{bucket_of, BucketsGrow}

-- a bucket is at most a later one whose burst takes up the stay
pub moved_bucket : (burst : Ext) (rate : ℚ) (stay later : Ext) (t : ℚ) → (burst +ₑ scaled rate stay) ≤ₑ later
    → shifted (bucket_of burst rate) stay t ≤ₑ bucket_of later rate t
moved_bucket burst rate stay Inf t h = tt
moved_bucket Inf rate Inf (Fin later) t h = absurd h
moved_bucket Inf rate (Fin stay) (Fin later) t h = absurd h
moved_bucket (Fin burst) rate Inf (Fin later) t h = absurd h
moved_bucket (Fin burst) rate (Fin stay) (Fin later) t h =
    let e = mul_add rate t stay in
    with5 burst (rate *ℚ stay) later (rate *ℚ t) (rate *ℚ (t +ℚ stay)) (λ c. omega (arith, c.le, c.lt, c.same))

pub buckets_grow : BucketsGrow
buckets_grow net burst rate delay grow i a b live hangs t on =
    moved_bucket (burst i a) (rate i) (delay a (queue_at a (hops_in (tree_of net i).nodes))) (burst i b) t (grow i a b live hangs)
