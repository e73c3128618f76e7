-- The gauges of all queues, where one of them is changed.
use Rattle.std.specs.Prelude.{◌≡◌, ◌≢◌, ℕ, ◌<◌, List, [], length, get_or, set}
use Rattle.std.proofs.Common.{sym, ap, ◌∙◌, subst, inl, inr}
use Rattle.std.proofs.lemmas.Bool.{cases_eq}
use Rattle.std.proofs.lemmas.List.{get_or-map, map-set, get_or-set_same, get_or-set_other, length-set}
use Rattle.std.specs.declared.vec.Vec.{Vec}
use Rattle.simulator.specs.declared.run_measures.gauge.Gauge.{Gauge}
use Rattle.simulator.specs.run_measures.Gauges.{gauges_of, empty_gauge, gauge_in, with_gauge, HasGauge, ChangesOne}

row_own : (rows : List (List Gauge)) (s q : ℕ) (g : Gauge) → HasGauge rows s q → get_or (with_gauge rows s q g) s [] ≡ set (get_or rows s []) q g
row_own rows s q g h = get_or-set_same rows s (set (get_or rows s []) q g) [] h.server

pub gauge_own : (rows : List (List Gauge)) (s q : ℕ) (g : Gauge) → HasGauge rows s q → gauge_in (with_gauge rows s q g) s q ≡ g
gauge_own rows s q g h =
    ap (λ row. get_or row q empty_gauge) (row_own rows s q g h) ∙ get_or-set_same (get_or rows s []) q g empty_gauge h.queue

pub gauge_beside : (rows : List (List Gauge)) (s q k : ℕ) (g : Gauge) → HasGauge rows s q → k ≢ q → gauge_in (with_gauge rows s q g) s k ≡ gauge_in rows s k
gauge_beside rows s q k g h n =
    ap (λ row. get_or row k empty_gauge) (row_own rows s q g h) ∙ get_or-set_other (get_or rows s []) q k g empty_gauge n

pub gauge_elsewhere : (rows : List (List Gauge)) (s q i k : ℕ) (g : Gauge) → i ≢ s → gauge_in (with_gauge rows s q g) i k ≡ gauge_in rows i k
gauge_elsewhere rows s q i k g n =
    ap (λ row. get_or row k empty_gauge) (get_or-set_other rows s i (set (get_or rows s []) q g) [] n)

pub row_length : (rows : List (List Gauge)) (s q i : ℕ) (g : Gauge) → HasGauge rows s q → length (get_or (with_gauge rows s q g) i []) ≡ length (get_or rows i [])
row_length rows s q i g h = elim (cases_eq i s) [
  | inl e ↦
      ap (λ k. length (get_or (with_gauge rows s q g) k [])) e ∙ ap length (row_own rows s q g h) ∙ length-set (get_or rows s []) q g
      ∙ ap (λ k. length (get_or rows k [])) (sym e)
  | inr n ↦ ap length (get_or-set_other rows s i (set (get_or rows s []) q g) [] n)
]

pub put_is : {Z : Type 0} (vs : List (Vec Gauge Z)) (s q : ℕ) (v w : Vec Gauge Z) (g : Gauge) → s < length vs → v ≡ get_or vs s v → w.items ≡ set v.items q g
    → gauges_of (set vs s w) ≡ with_gauge (gauges_of vs) s q g
put_is {Z = Z} vs s q v w g l is made =
    let row : get_or (gauges_of vs) s [] ≡ v.items = get_or-map (λ (x : Vec Gauge Z). x.items) vs s v [] l ∙ ap (λ (x : Vec Gauge Z). x.items) (sym is) in
    map-set (λ (x : Vec Gauge Z). x.items) vs s w ∙ ap (set (gauges_of vs) s) (made ∙ ap (λ row. set row q g) (sym row))

-- ---- one gauge changes
pub changed_as : (P : ℕ → Gauge → Gauge → Type 0) (u v w x : List (List Gauge)) (s p q b d : ℕ) → u ≡ w → v ≡ x → p ≡ q → b ≡ d
    → ChangesOne (P b) u v s p → ChangesOne (P d) w x s q
changed_as P u v w x s p q b d e f g h c =
    subst (λ k. ChangesOne (P k) w x s q) h (subst (ChangesOne (P b) w x s) g (subst (λ y. ChangesOne (P b) w y s p) f (subst (λ y. ChangesOne (P b) y v s p) e c)))

pub changed_own : (P : Gauge → Gauge → Type 0) (before after : List (List Gauge)) (s q : ℕ) → HasGauge before s q → ChangesOne P before after s q
    → P (gauge_in before s q) (gauge_in after s q)
changed_own P before after s q h c =
    subst (λ rows. P (gauge_in before s q) (gauge_in rows s q)) (sym c.rows)
    (subst (P (gauge_in before s q)) (sym (gauge_own before s q c.gauge h)) c.changed)

pub changed_beside : (P : Gauge → Gauge → Type 0) (before after : List (List Gauge)) (s q k : ℕ) → HasGauge before s q → ChangesOne P before after s q → k ≢ q
    → gauge_in after s k ≡ gauge_in before s k
changed_beside P before after s q k h c n = ap (λ rows. gauge_in rows s k) c.rows ∙ gauge_beside before s q k c.gauge h n

pub changed_elsewhere : (P : Gauge → Gauge → Type 0) (before after : List (List Gauge)) (s q i k : ℕ) → ChangesOne P before after s q → i ≢ s
    → gauge_in after i k ≡ gauge_in before i k
changed_elsewhere P before after s q i k c n = ap (λ rows. gauge_in rows i k) c.rows ∙ gauge_elsewhere before s q i k c.gauge n

pub changed_rows : (P : Gauge → Gauge → Type 0) (before after : List (List Gauge)) (s q : ℕ) → ChangesOne P before after s q → length after ≡ length before
changed_rows P before after s q c = ap length c.rows ∙ length-set before s (set (get_or before s []) q c.gauge)

pub changed_row : (P : Gauge → Gauge → Type 0) (before after : List (List Gauge)) (s q i : ℕ) → HasGauge before s q → ChangesOne P before after s q
    → length (get_or after i []) ≡ length (get_or before i [])
changed_row P before after s q i h c = ap (λ rows. length (get_or rows i [])) c.rows ∙ row_length before s q i c.gauge h
