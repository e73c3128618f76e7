-- A break of a curve before a time is the start of one of the pieces that are unrolled up to that time.
use Rattle.std.specs.Prelude.{◌≡◌, ◌⊎◌, ℕ, zero, suc, ◌<◌, pos, List, [], ◌∷◌, ◌++◌}
use Rattle.std.proofs.Common.{arith, sym, subst, ap, ◌∙◌, inl, inr}
use Rattle.std.proofs.lemmas.Bool.{cases_lt}
use Rattle.rational.specs.Rational.{ℚ, int, ◌+ℚ◌, ◌-ℚ◌, ◌*ℚ◌, ◌≤ℚ◌, ◌<ℚ◌}
use Rattle.rational.specs.Whole.{periods}
use Rattle.rational.proofs.Laws.{le_refl, le_trans, le_of_lt, zero_mul, mul_comm, mul_one, mul_le_mul_right}
use Rattle.rational.proofs.Integers.{nat_le}
use Rattle.rational.proofs.Whole.{one_more_times, periods_high}
use Rattle.rational.proofs.Linear.{with_atoms, with2, with3}
use Rattle.upp_curve.specs.declared.affine_segment.line.Piece.{Piece}
use Rattle.upp_curve.specs.declared.curve.Tail.{Tail}
use Rattle.upp_curve.specs.declared.curve.Tail.TheVariants.{Periodic, Affine, Infinite}
use Rattle.upp_curve.specs.Curve.{SpecCurve}
use Rattle.upp_curve.specs.affine_segment.Pieces.{HasStart, StartsAtZero, RisesFrom}
use Rattle.upp_curve.specs.Normal.{IsNormal}
use Rattle.upp_curve.specs.Unrolled.{each_later, copies, upto, from, unrolled, unroll}
use Rattle.flow_watch.specs.watch_laws.Breaks.{IsBreak}
use Rattle.upp_normal.proofs.Below.{cut_at_start}
use Rattle.upp_curve.proofs.Normal.{start_in_upto, start_from_upto}
use Rattle.upp_curve.proofs.Unique.{upto_none}
use Rattle.upp_normal.proofs.UnrolledPieces.{periodic_starts}
use Rattle.upp_curve.proofs.affine_segment.PieceIn.{low_start}

start_parts : (x : ℚ) (ps qs : List Piece) → HasStart x (ps ++ qs) → HasStart x ps ⊎ HasStart x qs
start_parts x [] qs h = inr h
start_parts x (p ∷ ps) qs h = elim h [
  | inl e ↦ inl (inl e)
  | inr k ↦ elim (start_parts x ps qs k) [ inl l ↦ inl (inr l) | inr l ↦ inr l ]
]

start_left : (x : ℚ) (ps qs : List Piece) → HasStart x ps → HasStart x (ps ++ qs)
start_left x [] qs h = absurd h
start_left x (p ∷ ps) qs h = elim h [ inl e ↦ inl e | inr k ↦ inr (start_left x ps qs k) ]

start_right : (x : ℚ) (ps qs : List Piece) → HasStart x qs → HasStart x (ps ++ qs)
start_right x [] qs h = h
start_right x (p ∷ ps) qs h = inr (start_right x ps qs h)

-- ---- copies
earlier : (d c x : ℚ) (ps : List Piece) → HasStart x (each_later d c ps) → HasStart (x -ℚ d) ps
unfolding each_later
earlier d c x [] h = absurd h
earlier d c x (p ∷ ps) h = elim h [
  | inl e ↦ inl (let y = p.x in with3 x d y (λ k. omega (arith, k.le, k.lt, k.same)))
  | inr k ↦ inr (earlier d c x ps k)
]

moved : (d c s : ℚ) (ps : List Piece) → HasStart s ps → HasStart (s +ℚ d) (each_later d c ps)
unfolding each_later
moved d c s [] h = absurd h
moved d c s (p ∷ ps) h = elim h [ inl e ↦ inl (ap (λ y. y +ℚ d) e) | inr k ↦ inr (moved d c s ps k) ]

-- the start is one of the first copy's, k periods later
record IsCopy (n : ℕ) (d x : ℚ) (ps : List Piece) : Type 0 where
  times : ℕ
  few : times < n
  start : HasStart (x -ℚ int (pos times) *ℚ d) ps

in_copy : (n : ℕ) (d c x : ℚ) (ps : List Piece) → HasStart x (copies n d c ps) → IsCopy n d x ps
unfolding copies
in_copy zero d c x ps h = absurd h
in_copy (suc n) d c x ps h = elim (start_parts x ps (each_later d c (copies n d c ps)) h) [
  | inl k ↦ record { times = 0; few = omega arith; start = subst (λ y. HasStart y ps) (nothing_off x d) k }
  | inr k ↦
      let r = in_copy n d c (x -ℚ d) ps (earlier d c x (copies n d c ps) k) in
      record { times = suc r.times; few = let f = r.few in omega arith; start = subst (λ y. HasStart y ps) (one_more_off r.times x d) r.start }
]
  where
    nothing_off : (x d : ℚ) → x ≡ x -ℚ int (pos 0) *ℚ d
    nothing_off x d = let e = zero_mul d in let m = int (pos 0) *ℚ d in with2 x m (λ k. omega (arith, k.le, k.lt, k.same))

    one_more_off : (n : ℕ) (x d : ℚ) → (x -ℚ d) -ℚ int (pos n) *ℚ d ≡ x -ℚ int (pos (suc n)) *ℚ d
    one_more_off n x d =
        let e = one_more_times n d in
        let m = int (pos n) *ℚ d in
        let l = int (pos (suc n)) *ℚ d in
        with_atoms (x ∷ d ∷ m ∷ l ∷ []) (λ k. omega (arith, k.le, k.lt, k.same))

copy_in : (n : ℕ) (d c x : ℚ) (ps : List Piece) (k : ℕ) → k < n → HasStart (x -ℚ int (pos k) *ℚ d) ps → HasStart x (copies n d c ps)
unfolding copies
copy_in zero d c x ps k h s = absurd (omega arith)
copy_in (suc n) d c x ps zero h s = start_left x ps (each_later d c (copies n d c ps)) (subst (λ y. HasStart y ps) (nothing_off x d) s)
  where
    nothing_off : (x d : ℚ) → x -ℚ int (pos 0) *ℚ d ≡ x
    nothing_off x d = let e = zero_mul d in let m = int (pos 0) *ℚ d in with2 x m (λ k. omega (arith, k.le, k.lt, k.same))
copy_in (suc n) d c x ps (suc k) h s =
    let rest = copy_in n d c (x -ℚ d) ps k (omega arith) (subst (λ y. HasStart y ps) (one_more_off k x d) s) in
    start_right x ps (each_later d c (copies n d c ps)) (subst (λ y. HasStart y (each_later d c (copies n d c ps))) (back x d) (moved d c (x -ℚ d) (copies n d c ps) rest))
  where
    one_more_off : (n : ℕ) (x d : ℚ) → x -ℚ int (pos (suc n)) *ℚ d ≡ (x -ℚ d) -ℚ int (pos n) *ℚ d
    one_more_off n x d =
        let e = one_more_times n d in
        let m = int (pos n) *ℚ d in
        let l = int (pos (suc n)) *ℚ d in
        with_atoms (x ∷ d ∷ m ∷ l ∷ []) (λ k. omega (arith, k.le, k.lt, k.same))

    back : (x d : ℚ) → (x -ℚ d) +ℚ d ≡ x
    back x d = with2 x d (λ k. omega (arith, k.le, k.lt, k.same))

-- ---- those of a period's start or later
later_start : (y s : ℚ) (p : Piece) (ps : List Piece) → RisesFrom p.x ps → HasStart s (p ∷ ps) → p.x ≤ℚ s
later_start y s p [] r h = elim h [ inl e ↦ subst (λ x. p.x ≤ℚ x) e (le_refl p.x) | inr k ↦ absurd k ]
later_start y s p (q ∷ ps) r h = elim h [
  | inl e ↦ subst (λ x. p.x ≤ℚ x) e (le_refl p.x)
  | inr k ↦ le_trans (le_of_lt r.0) (later_start y s q ps r.1 k)
]

-- copy k of a start from r on that is before the end is one of the copies that begin before it
few_times : (r d x end : ℚ) (k : ℕ) → int (pos 0) <ℚ d → r ≤ℚ x -ℚ int (pos k) *ℚ d → x <ℚ end → k < suc (periods r d end)
few_times r d x end k some low early =
    let m = periods r d end in
    elim (cases_lt k (suc m)) [
      | inl l ↦ l
      | inr l ↦ absurd (never r d x end (int (pos k) *ℚ d) (int (pos (suc m)) *ℚ d) (int (pos m) *ℚ d) low early (mul_le_mul_right d (le_of_lt some) (nat_le (suc m) k l)) (one_more_times m d) (periods_high r d end some))
    ]
  where
    never : (r d x end a b c : ℚ) → r ≤ℚ x -ℚ a → x <ℚ end → b ≤ℚ a → b ≡ c +ℚ d → end <ℚ r +ℚ c +ℚ d → ⊥
    never r d x end a b c h k l e m = with_atoms (r ∷ d ∷ x ∷ end ∷ a ∷ b ∷ c ∷ []) (λ w. omega (arith, w.le, w.lt, w.same))

start_by_tail : (ps : List Piece) (tail : Tail) (end far x : ℚ) → IsNormal record { pieces = ps; tail = tail } → HasStart x (unrolled ps tail far) → x <ℚ end → HasStart x (unrolled ps tail end)
start_by_tail ps (Periodic rank d c) end far x n h l =
    let low = int (pos 0) -ℚ int (pos 1) in
    let turn = from rank ps in
    let m = periods rank d end in
    let cut = cut_at_start low rank ps (low_start ps n.raw.starts) n.rank_is_start in
    let seen = start_from_upto x far (upto rank ps ++ copies (suc (periods rank d far)) d c turn) h in
    let whole : HasStart x (upto rank ps ++ copies (suc m) d c turn) = elim (start_parts x (upto rank ps) (copies (suc (periods rank d far)) d c turn) seen) [
      | inl k ↦ start_left x (upto rank ps) (copies (suc m) d c turn) k
      | inr k ↦
          let r = in_copy (suc (periods rank d far)) d c x turn k in
          let after : cut.first.x ≤ℚ x -ℚ int (pos r.times) *ℚ d = later_start low (x -ℚ int (pos r.times) *ℚ d) cut.first cut.rest cut.rises (subst (HasStart (x -ℚ int (pos r.times) *ℚ d)) cut.from_is r.start) in
          let after_rank : rank ≤ℚ x -ℚ int (pos r.times) *ℚ d = subst (λ y. y ≤ℚ x -ℚ int (pos r.times) *ℚ d) cut.at after in
          start_right x (upto rank ps) (copies (suc m) d c turn) (copy_in (suc m) d c x turn r.times (few_times rank d x end r.times n.raw.tail.some after_rank l) r.start)
    ] in
    start_in_upto low x end (upto rank ps ++ copies (suc m) d c turn)
    (low_start (upto rank ps ++ copies (suc m) d c turn) (periodic_starts ps rank d c m n.raw.starts n.rank_is_start n.raw.tail.some n.raw.tail.starts)) whole l
start_by_tail ps (Affine rank) end far x n h l =
    start_in_upto (int (pos 0) -ℚ int (pos 1)) x end ps (low_start ps n.raw.starts) (start_from_upto x far ps h) l
start_by_tail ps (Infinite rank) end far x n h l =
    start_in_upto (int (pos 0) -ℚ int (pos 1)) x end ps (low_start ps n.raw.starts) (start_from_upto x far ps h) l

pub start_before : (c : SpecCurve) (end far x : ℚ) → IsNormal c → HasStart x (unroll c far) → x <ℚ end → HasStart x (unroll c end)
unfolding unroll
start_before c end far x n h l = start_by_tail c.pieces c.tail end far x n h l

-- ---- a period later
-- a start from the rank on, so many periods later
copy_later : (ps : List Piece) (rank d c y : ℚ) (k : ℕ) → IsNormal record { pieces = ps; tail = Periodic rank d c } → HasStart y (from rank ps)
    → HasStart (y +ℚ int (pos k) *ℚ d) (unrolled ps (Periodic rank d c) (y +ℚ int (pos k) *ℚ d +ℚ int (pos 1)))
copy_later ps rank d c y k n h =
    let low = int (pos 0) -ℚ int (pos 1) in
    let turn = from rank ps in
    let by = int (pos k) *ℚ d in
    let x = y +ℚ by in
    let end = x +ℚ int (pos 1) in
    let m = periods rank d end in
    let cut = cut_at_start low rank ps (low_start ps n.raw.starts) n.rank_is_start in
    let after : cut.first.x ≤ℚ y = later_start low y cut.first cut.rest cut.rises (subst (HasStart y) cut.from_is h) in
    let same : y ≡ x -ℚ by = with2 y by (λ w. omega (arith, w.le, w.lt, w.same)) in
    let after_rank : rank ≤ℚ x -ℚ by = subst (λ t. rank ≤ℚ t) same (subst (λ t. t ≤ℚ y) cut.at after) in
    let early : x <ℚ end = with2 y by (λ w. omega (arith, w.le, w.lt, w.same)) in
    start_in_upto low x end (upto rank ps ++ copies (suc m) d c turn)
    (low_start (upto rank ps ++ copies (suc m) d c turn) (periodic_starts ps rank d c m n.raw.starts n.rank_is_start n.raw.tail.some n.raw.tail.starts))
    (start_right x (upto rank ps) (copies (suc m) d c turn) (copy_in (suc m) d c x turn k (few_times rank d x end k n.raw.tail.some after_rank early) (subst (λ t. HasStart t turn) same h)))
    early

-- the rank itself, a period later
rank_later_by : (ps : List Piece) (rank d c : ℚ) → IsNormal record { pieces = ps; tail = Periodic rank d c }
    → HasStart (rank +ℚ int (pos 1) *ℚ d) (unrolled ps (Periodic rank d c) (rank +ℚ int (pos 1) *ℚ d +ℚ int (pos 1)))
rank_later_by ps rank d c n =
    let cut = cut_at_start (int (pos 0) -ℚ int (pos 1)) rank ps (low_start ps n.raw.starts) n.rank_is_start in
    copy_later ps rank d c rank 1 n (subst (HasStart rank) (sym cut.from_is) (inl cut.at))

pub rank_later : (c : SpecCurve) (rank d rise : ℚ) → IsNormal c → c.tail ≡ Periodic rank d rise → IsBreak c (rank +ℚ d)
unfolding unroll
rank_later c rank d rise n e =
    let once : int (pos 1) *ℚ d ≡ d = mul_comm (int (pos 1)) d ∙ mul_one d in
    let far = rank +ℚ int (pos 1) *ℚ d +ℚ int (pos 1) in
    let normal = subst (λ (t : Tail). IsNormal record { pieces = c.pieces; tail = t }) e n in
    let start : HasStart (rank +ℚ int (pos 1) *ℚ d) (unrolled c.pieces c.tail far) =
    subst (λ (t : Tail). HasStart (rank +ℚ int (pos 1) *ℚ d) (unrolled c.pieces t far)) (sym e) (rank_later_by c.pieces rank d rise normal) in
    (far, subst (λ y. HasStart y (unrolled c.pieces c.tail far)) (ap (λ y. rank +ℚ y) once) start)

-- ---- a curve that repeats from 0 on
no_rest : (rank : ℚ) (ps : List Piece) → StartsAtZero ps → rank ≤ℚ int (pos 0) → upto rank ps ≡ []
no_rest rank [] h l = absurd h
no_rest rank (p ∷ ps) h l = upto_none rank p ps (subst (λ y. rank ≤ℚ y) (sym h.0) l)

-- a period after a start another piece starts
again_by : (ps : List Piece) (rank d c end x : ℚ) → IsNormal record { pieces = ps; tail = Periodic rank d c } → rank ≤ℚ int (pos 0)
    → HasStart x (unrolled ps (Periodic rank d c) end) → (far : ℚ) × HasStart (x +ℚ d) (unrolled ps (Periodic rank d c) far)
again_by ps rank d c end x n early h =
    let turn = from rank ps in
    let m = suc (periods rank d end) in
    let seen = start_from_upto x end (upto rank ps ++ copies m d c turn) h in
    elim (start_parts x (upto rank ps) (copies m d c turn) seen) [
      | inl k ↦ absurd (subst (HasStart x) (no_rest rank ps n.raw.starts early) k)
      | inr k ↦
          let r = in_copy m d c x turn k in
          let y = x -ℚ int (pos r.times) *ℚ d in
          let by = int (pos (suc r.times)) *ℚ d in
          (y +ℚ by +ℚ int (pos 1), subst (λ t. HasStart t (unrolled ps (Periodic rank d c) (y +ℚ by +ℚ int (pos 1)))) (once r.times x d) (copy_later ps rank d c y (suc r.times) n r.start))
    ]
  where
    once : (k : ℕ) (x d : ℚ) → (x -ℚ int (pos k) *ℚ d) +ℚ int (pos (suc k)) *ℚ d ≡ x +ℚ d
    once k x d =
        let e = one_more_times k d in
        let m = int (pos k) *ℚ d in
        let l = int (pos (suc k)) *ℚ d in
        with_atoms (x ∷ d ∷ m ∷ l ∷ []) (λ w. omega (arith, w.le, w.lt, w.same))

break_again : (c : SpecCurve) (rank d rise x : ℚ) → IsNormal c → c.tail ≡ Periodic rank d rise → rank ≤ℚ int (pos 0) → IsBreak c x → IsBreak c (x +ℚ d)
unfolding unroll
break_again c rank d rise x n e early b =
    let (end, start) = b in
    let (far, later) = again_by c.pieces rank d rise end x (subst (λ (t : Tail). IsNormal record { pieces = c.pieces; tail = t }) e n) early (subst (λ (t : Tail). HasStart x (unrolled c.pieces t end)) e start) in
    (far, subst (λ (t : Tail). HasStart (x +ℚ d) (unrolled c.pieces t far)) (sym e) later)

breaks_again : (c : SpecCurve) (rank d rise x : ℚ) (k : ℕ) → IsNormal c → c.tail ≡ Periodic rank d rise → rank ≤ℚ int (pos 0) → IsBreak c x → IsBreak c (x +ℚ int (pos k) *ℚ d)
breaks_again c rank d rise x zero n e early b = subst (IsBreak c) (nothing x d) b
  where
    nothing : (x d : ℚ) → x ≡ x +ℚ int (pos 0) *ℚ d
    nothing x d = let e = zero_mul d in let m = int (pos 0) *ℚ d in with2 x m (λ k. omega (arith, k.le, k.lt, k.same))
breaks_again c rank d rise x (suc k) n e early b =
    subst (IsBreak c) (one_more k x d) (break_again c rank d rise (x +ℚ int (pos k) *ℚ d) n e early (breaks_again c rank d rise x k n e early b))
  where
    one_more : (k : ℕ) (x d : ℚ) → x +ℚ int (pos k) *ℚ d +ℚ d ≡ x +ℚ int (pos (suc k)) *ℚ d
    one_more k x d =
        let e = one_more_times k d in
        let m = int (pos k) *ℚ d in
        let l = int (pos (suc k)) *ℚ d in
        with_atoms (x ∷ d ∷ m ∷ l ∷ []) (λ w. omega (arith, w.le, w.lt, w.same))

-- whole periods after a start and before the end another piece starts
pub starts_again : (c : SpecCurve) (rank d rise end x : ℚ) (k : ℕ) → IsNormal c → c.tail ≡ Periodic rank d rise → rank ≤ℚ int (pos 0) → HasStart x (unroll c end) → x +ℚ int (pos k) *ℚ d <ℚ end
    → HasStart (x +ℚ int (pos k) *ℚ d) (unroll c end)
starts_again c rank d rise end x k n e early h l =
    let (far, start) = breaks_again c rank d rise x k n e early (end, h) in
    start_before c end far (x +ℚ int (pos k) *ℚ d) n start l
