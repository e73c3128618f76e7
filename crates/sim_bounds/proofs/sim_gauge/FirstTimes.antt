-- The latest of several times, one after another, and server by server.
use Rattle.std.proofs.Common.{◌≡◌, ℕ, zero, suc, ◌<◌, ◌+◌, List, [], ◌∷◌, length, get_or, map, drop, refl, sym, ap, ◌∙◌, subst, arith, inl, inr}
use Rattle.std.specs.Prelude.{pos, ◌==◌}
use Rattle.std.proofs.lemmas.Bool.{cases_Bool, eq-eqb}
use Rattle.std.proofs.lemmas.List.{drop_more}
use Rattle.rational.specs.Rational.{ℚ, int, ◌≤ℚ◌}
use Rattle.rational.specs.MinMax.{max_q}
use Rattle.rational.proofs.Laws.{le_refl, le_trans, antisym}
use Rattle.rational.proofs.MinMax.{max_q_assoc, max_q_is_left, max_q_right, max_q_ge_left, max_q_ge_right, max_q_le}
use Rattle.net_model.specs.declared.trace.TracePacket.{TracePacket}
use Rattle.net_model.specs.declared.trace.Stall.{Stall}
use Rattle.net_model.specs.Networks.{Net, NetServer}
use Rattle.net_model.specs.Traces.{SpecTrace}
use Rattle.net_model.specs.stated_runs.Setups.{Entering, StallTimes, Opening}
use Rattle.net_model.specs.stated_runs.FromTraces.{stalls_at, openings_from, entering, setup_of}
use Rattle.net_model.proofs.stated_runs.Lists.{In}
use Rattle.sim_bounds.specs.Horizons.{latest_of, first_time}
use Rattle.sim_bounds.proofs.Spans.{latest_nonneg}

-- ---- one after another
pub latest_step : {A : Type 0} (time : A → ℚ) (xs : List A) (i : ℕ) (d : A) (m : ℚ) → i < length xs
    → max_q (max_q m (time (get_or xs i d))) (latest_of time (drop (i + 1) xs)) ≡ max_q m (latest_of time (drop i xs))
latest_step time xs i d m h =
    max_q_assoc m (time (get_or xs i d)) (latest_of time (drop (i + 1) xs)) ∙ ap (λ ys. max_q m (latest_of time ys)) (sym (drop_more xs i d h))

pub max_zero : (m : ℚ) → int (pos 0) ≤ℚ m → max_q m (int (pos 0)) ≡ m
max_zero m h = max_q_is_left m (int (pos 0)) h

pub zero_max : (m : ℚ) → int (pos 0) ≤ℚ m → max_q (int (pos 0)) m ≡ m
zero_max m h = max_q_right (int (pos 0)) m h

pub latest_map : {A B : Type 0} (f : A → B) (time : B → ℚ) (xs : List A) → latest_of time (map f xs) ≡ latest_of (λ x. time (f x)) xs
latest_map f time [] = refl
latest_map f time (x ∷ xs) = ap (max_q (time (f x))) (latest_map f time xs)

-- ---- server by server
abbrev stall_end : Stall → ℚ
stall_end x = x.end

abbrev end_of : StallTimes → ℚ
end_of x = x.end

own_latest : (s : ℕ) (xs : List Stall) → latest_of end_of (stalls_at s xs) ≤ℚ latest_of stall_end xs
own_latest s [] = le_refl (int (pos 0))
own_latest s (x ∷ xs) = elim (cases_Bool (x.server == s)) [
  | inl e ↦ rw e (max_q_le x.end (latest_of end_of (stalls_at s xs)) (max_q x.end (latest_of stall_end xs)) (max_q_ge_left x.end (latest_of stall_end xs))
      (le_trans (own_latest s xs) (max_q_ge_right x.end (latest_of stall_end xs))))
  | inr e ↦ rw e (le_trans (own_latest s xs) (max_q_ge_right x.end (latest_of stall_end xs)))
]

openings_most : (k : ℕ) (servers : List NetServer) (stalls : List Stall) → latest_of (λ (o : Opening). latest_of end_of o.stalls) (openings_from k servers stalls) ≤ℚ latest_of stall_end stalls
openings_most k [] stalls = latest_nonneg stall_end stalls
openings_most k (x ∷ xs) stalls =
    max_q_le (latest_of end_of (stalls_at k stalls)) (latest_of (λ (o : Opening). latest_of end_of o.stalls) (openings_from (suc k) xs stalls)) (latest_of stall_end stalls)
    (own_latest k stalls) (openings_most (suc k) xs stalls)

in_own : (x : Stall) (xs : List Stall) → In xs x → x.end ≤ℚ latest_of end_of (stalls_at x.server xs)
in_own x [] h = absurd h
in_own x (y ∷ ys) (inl e) =
    subst (λ (z : Stall). z.end ≤ℚ latest_of end_of (stalls_at z.server (y ∷ ys))) e (rw (eq-eqb y.server y.server refl) (max_q_ge_left y.end (latest_of end_of (stalls_at y.server ys))))
in_own x (y ∷ ys) (inr h) = elim (cases_Bool (y.server == x.server)) [
  | inl e ↦ rw e (le_trans (in_own x ys h) (max_q_ge_right y.end (latest_of end_of (stalls_at x.server ys))))
  | inr e ↦ rw e (in_own x ys h)
]

opening_least : (k i : ℕ) (servers : List NetServer) (stalls : List Stall) → i < length servers
    → latest_of end_of (stalls_at (k + i) stalls) ≤ℚ latest_of (λ (o : Opening). latest_of end_of o.stalls) (openings_from k servers stalls)
opening_least k i [] stalls h = absurd (omega (arith, h))
opening_least k zero (x ∷ xs) stalls h =
    subst (λ j. latest_of end_of (stalls_at j stalls) ≤ℚ latest_of (λ (o : Opening). latest_of end_of o.stalls) (openings_from k (x ∷ xs) stalls)) (let e : k ≡ k + 0 = omega arith in e)
    (max_q_ge_left (latest_of end_of (stalls_at k stalls)) (latest_of (λ (o : Opening). latest_of end_of o.stalls) (openings_from (suc k) xs stalls)))
opening_least k (suc i) (x ∷ xs) stalls h =
    subst (λ j. latest_of end_of (stalls_at j stalls) ≤ℚ latest_of (λ (o : Opening). latest_of end_of o.stalls) (openings_from k (x ∷ xs) stalls)) (let e : suc k + i ≡ k + suc i = omega arith in e)
    (le_trans (opening_least (suc k) i xs stalls (omega (arith, h))) (max_q_ge_right (latest_of end_of (stalls_at k stalls)) (latest_of (λ (o : Opening). latest_of end_of o.stalls) (openings_from (suc k) xs stalls))))

latest_least : (xs : List Stall) (m : ℚ) → int (pos 0) ≤ℚ m → ((x : Stall) → In xs x → x.end ≤ℚ m) → latest_of stall_end xs ≤ℚ m
latest_least [] m z h = z
latest_least (x ∷ xs) m z h = max_q_le x.end (latest_of stall_end xs) m (h x (inl refl)) (latest_least xs m z (λ y i. h y (inr i)))

pub openings_latest : (servers : List NetServer) (stalls : List Stall) → ((x : Stall) → In stalls x → x.server < length servers)
    → latest_of (λ (o : Opening). latest_of end_of o.stalls) (openings_from 0 servers stalls) ≡ latest_of stall_end stalls
openings_latest servers stalls known = antisym (
  openings_most 0 servers stalls,
  latest_least stalls (latest_of (λ (o : Opening). latest_of end_of o.stalls) (openings_from 0 servers stalls))
      (latest_nonneg (λ (o : Opening). latest_of end_of o.stalls) (openings_from 0 servers stalls))
      (λ x i. le_trans (in_own x stalls i)
      (subst (λ j. latest_of end_of (stalls_at j stalls) ≤ℚ latest_of (λ (o : Opening). latest_of end_of o.stalls) (openings_from 0 servers stalls)) (let e : 0 + x.server ≡ x.server = omega arith in e)
      (opening_least 0 x.server servers stalls (known x i)))),
)

-- all of it
pub first_is : (net : Net) (trace : SpecTrace) → ((x : Stall) → In trace.stalls x → x.server < length net.servers)
    → first_time (setup_of net trace) ≡ max_q (latest_of (λ (p : TracePacket). p.time) trace.packets) (latest_of (λ (x : Stall). x.end) trace.stalls)
first_is net trace known =
    ap (λ t. max_q t (latest_of (λ (o : Opening). latest_of end_of o.stalls) (openings_from 0 net.servers trace.stalls))) (latest_map entering (λ (e : Entering). e.time) trace.packets)
    ∙ ap (max_q (latest_of (λ (p : TracePacket). p.time) trace.packets)) (openings_latest net.servers trace.stalls known)
