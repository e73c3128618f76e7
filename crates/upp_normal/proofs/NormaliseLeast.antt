-- The search for the least period: what a division answers, and what the loop keeps.
use Rattle.std.specs.Prelude.{◌≡◌, ℕ, zero, suc, ◌+◌, ◌*◌, ◌/◌, ◌%◌, ◌<◌, ◌≤◌, pos, List, ◌∷◌, length, ◌⊎◌}
use Rattle.std.proofs.Common.{arith, sym, ap, ap₂, ◌∙◌, refl, subst, inl, inr, take, drop}
use Rattle.std.proofs.lemmas.List.{length-append}
use Rattle.std.proofs.lemmas.Bool.{cases_lt}
use Prim.Native.Nat.{◌∣◌}
use native.Mathlib.Nat.{dvd_trans, dvd_of_mul-dvd-mul_left, mul-div_cancel', le_of_dvd, dvd-mul_left, dvd_of_mod-eq-zero, mod-eq-zero_of_dvd, dvd_refl, mul-pos}
use Rattle.rational.specs.Gcd.{gcd}
use Rattle.rational.specs.Euclid.{gcd_is, divides_other, gcd_pos}
use Rattle.rational.specs.Rational.{ℚ, ◌*ℚ◌, ◌/ℚ◌, ◌≤ℚ◌, ◌<ℚ◌, int}
use Rattle.rational.specs.Grid.{Whole}
use Rattle.rational.proofs.Integers.{nat_lt}
use Rattle.rational.proofs.Laws.{le_of_lt, mul_comm, mul_assoc, mul_cancel, div_mul, mul_one}
use Rattle.rational.proofs.Linear.{with1}
use Rattle.rational.proofs.Whole.{lt_of_mul}
use Rattle.rational.specs.Extended.{Ext}
use Rattle.upp_curve.specs.declared.affine_segment.line.Piece.{Piece}
use Rattle.upp_curve.specs.affine_segment.Reading.{read}
use Rattle.upp_curve.specs.Steady.{Repeats}
use Rattle.upp_curve.specs.Unrolled.{upto, from}
use Rattle.upp_normal.specs.declared.cycle.Cycle.{Cycle}
use Rattle.upp_normal.specs.Normalising.{IsCycle, Turned, GoesOn, IsTurning, cycle_values, turn_count, OnGrids, StaysWhole, IsCut, IsDivided, IsLeast, IsFront, SharesFit}
use Rattle.upp_curve.specs.affine_segment.Pieces.{Each}
use Rattle.upp_curve.specs.Fitting.{LaterFits}
use Rattle.upp_curve.proofs.Repeats.{repeats_times, repeated_rule}
use Rattle.upp_curve.proofs.Rules.{int_mul}
use Rattle.upp_curve.proofs.Normal.{transfer}
use Rattle.upp_normal.proofs.NormaliseCuts.{split_is, drop_upto, front_self, front_take, front_trans, each_front}
use Rattle.upp_normal.proofs.NormaliseShare.{parts_some}
use Rattle.upp_normal.proofs.NormaliseDivided.{cut_of, divides_count, goes_on_if, cut_turned}
use Rattle.upp_limits.proofs.PieceCounts.{each_from}

-- ---- shares
pub share_back : (x : ℚ) (n : ℕ) → 0 < n → x ≡ int (pos n) *ℚ (x /ℚ int (pos n))
share_back x n h = sym (mul_comm (int (pos n)) (x /ℚ int (pos n)) ∙ div_mul x (int (pos n)) (parts_some n h))

pub share_some : (x : ℚ) (n : ℕ) → 0 < n → int (pos 0) <ℚ x → int (pos 0) <ℚ x /ℚ int (pos n)
share_some x n h some =
    let k = int (pos n) in
    let o : int (pos 0) *ℚ k ≡ int (pos 0) = with1 k (λ c. omega (arith, c.le, c.lt, c.same)) in
    lt_of_mul k (int (pos 0)) (x /ℚ k) (nat_lt 0 n h) (subst (λ y. y <ℚ (x /ℚ k) *ℚ k) (sym o) (subst (λ y. int (pos 0) <ℚ y) (sym (div_mul x k (parts_some n h))) some))

-- a share of a share
pub share_twice : (x : ℚ) (p n : ℕ) → 0 < p → 0 < n → (x /ℚ int (pos p)) /ℚ int (pos n) ≡ x /ℚ int (pos (p * n))
share_twice x p n hp hn =
    let a = int (pos p) in
    let b = int (pos n) in
    let both : 0 < p * n = mul-pos hp hn in
    mul_cancel ((x /ℚ a) /ℚ b) (x /ℚ int (pos (p * n))) (int (pos (p * n))) (parts_some (p * n) both)
    (ap (λ z. ((x /ℚ a) /ℚ b) *ℚ z) (int_mul p n ∙ mul_comm a b) ∙ sym (mul_assoc ((x /ℚ a) /ℚ b) b a) ∙ ap (λ z. z *ℚ a) (div_mul (x /ℚ a) b (parts_some n hn)) ∙ div_mul x a (parts_some p hp)
    ∙ sym (div_mul x (int (pos (p * n))) (parts_some (p * n) both)))

-- n / p shares of x by n are its share by p
pub share_times : (x : ℚ) (p j n : ℕ) → 0 < n → p * j ≡ n → int (pos j) *ℚ (x /ℚ int (pos n)) ≡ x /ℚ int (pos p)
share_times x p j n hn e =
    let hp : 0 < p = some_left p j e in
    let a = int (pos p) in
    let q = x /ℚ int (pos n) in
    mul_cancel (int (pos j) *ℚ q) (x /ℚ a) a (parts_some p hp)
    (mul_comm (int (pos j) *ℚ q) a ∙ sym (mul_assoc a (int (pos j)) q) ∙ ap (λ z. z *ℚ q) (sym (int_mul p j) ∙ ap (λ m. int (pos m)) e) ∙ sym (share_back x n hn) ∙ sym (div_mul x a (parts_some p hp)))
  where
    some_left : (p j : ℕ) → p * j ≡ n → 0 < p
    some_left zero j e = absurd (omega arith)
    some_left (suc p) j e = omega arith

-- ---- one division
abbrev pub Shorter : Cycle → ℕ → Type 0
Shorter c n = Repeats (cycle_values c) c.rank (c.period /ℚ int (pos n)) (c.rise /ℚ int (pos n))

pub stays : (c : Cycle) (parts : ℕ) → IsTurning c (cycle_values c) → ¬ (Shorter c parts) → IsDivided c parts c
stays c parts T n = record { front = front_self c.pieces.items; turned = T; rank = refl; outcome = inl record { period = refl; rise = refl; count = refl; none = n } }

pub no_share_of_time : (c : Cycle) (parts times values : ℕ) → IsTurning c (cycle_values c) → OnGrids times values (cycle_values c) c.rank c.period c.rise → 0 < parts → ¬ (Whole times (c.period /ℚ int (pos parts))) → ¬ (Shorter c parts)
no_share_of_time c parts times values T G h n R = n (G.time parts h R)

pub no_share_of_value : (c : Cycle) (parts times values : ℕ) → IsTurning c (cycle_values c) → OnGrids times values (cycle_values c) c.rank c.period c.rise → 0 < parts → ¬ (Whole values (c.rise /ℚ int (pos parts))) → ¬ (Shorter c parts)
no_share_of_value c parts times values T G h n R = n (G.value parts h R)

pub no_copies_left : (c : Cycle) (parts k : ℕ) (by rise : ℚ) → IsTurning c (cycle_values c) → 0 < parts → turn_count c ≡ parts * k → by ≡ c.period /ℚ int (pos parts) → rise ≡ c.rise /ℚ int (pos parts)
    → ¬ (GoesOn (from c.rank c.pieces.items) k by rise) → ¬ (Shorter c parts)
no_copies_left c zero k by rise T h len b r n R = absurd (omega arith)
no_copies_left c (suc m) k by rise T h len b r n R =
    n (subst (λ x. GoesOn (from c.rank c.pieces.items) k x rise) (sym b) (subst (λ y. GoesOn (from c.rank c.pieces.items) k (c.period /ℚ int (pos (suc m))) y) (sym r)
    (goes_on_if c.pieces.items c.rank c.period c.rise (c.period /ℚ int (pos (suc m))) (c.rise /ℚ int (pos (suc m))) m k T.cycle T.break (share_some c.period (suc m) h T.cycle.some)
    (share_back c.period (suc m) h) (share_back c.rise (suc m) h) len R)))

pub is_cut : (c d : Cycle) (parts k : ℕ) → IsTurning c (cycle_values c) → 2 ≤ parts → turn_count c ≡ parts * k → GoesOn (from c.rank c.pieces.items) k d.period d.rise
    → d.pieces.items ≡ take (c.first + k) c.pieces.items → d.first ≡ c.first → d.rank ≡ c.rank → d.period ≡ c.period /ℚ int (pos parts) → d.rise ≡ c.rise /ℚ int (pos parts) → IsDivided c parts d
is_cut c d zero k T h len G is_pieces is_first is_rank is_period is_rise = absurd (omega arith)
is_cut c d (suc zero) k T h len G is_pieces is_first is_rank is_period is_rise = absurd (omega arith)
is_cut c d (suc (suc m)) k T h len G is_pieces is_first is_rank is_period is_rise =
    let n = suc (suc m) in
    let some : 0 < n = omega arith in
    let e = d.period in
    let u = d.rise in
    let pos_e = subst (λ x. int (pos 0) <ℚ x) (sym is_period) (share_some c.period n some T.cycle.some) in
    let dk : c.period ≡ int (pos n) *ℚ e = share_back c.period n some ∙ ap (λ x. int (pos n) *ℚ x) (sym is_period) in
    let ck : c.rise ≡ int (pos n) *ℚ u = share_back c.rise n some ∙ ap (λ x. int (pos n) *ℚ x) (sym is_rise) in
    let D = cut_turned c.pieces.items c.rank c.period c.rise e u m k c.first T.cycle T.break pos_e dk ck len G T.first_is in
    record {
      front = subst (λ zs. IsFront zs c.pieces.items) (sym is_pieces) (front_take (c.first + k) c.pieces.items);
      turned =
          subst (λ r. Turned d.pieces.items d.first r e u (cycle_values c)) (sym is_rank)
          (subst (λ i. Turned d.pieces.items i c.rank e u (cycle_values c)) (sym is_first)
          (subst (λ zs. Turned zs c.first c.rank e u (cycle_values c)) (sym is_pieces) D.0));
      rank = is_rank;
      outcome = inr record {
        period = is_period;
        rise = is_rise;
        count = len ∙ ap (λ x. n * x) (sym (ap₂ (λ (r : ℚ) (zs : List Piece). length (from r zs)) is_rank is_pieces ∙ D.1));
      };
    }

-- ---- from what the code has
pub first_inside : (c : Cycle) (f : ℚ → Ext) → IsTurning c f → c.first ≤ length c.pieces.items
first_inside c f T = omega (arith, T.first_is, length-append (upto c.rank c.pieces.items) (from c.rank c.pieces.items), ap length (split_is c.rank c.pieces.items))

pub turn_is : (c : Cycle) (f : ℚ → Ext) (seen turn : List Piece) → IsTurning c f → seen ≡ c.pieces.items → turn ≡ drop c.first seen → turn ≡ from c.rank c.pieces.items
turn_is c f seen turn T s t = t ∙ ap₂ drop T.first_is s ∙ drop_upto c.rank c.pieces.items

pub turn_share : (c : Cycle) (turn : List Piece) (n k parts : ℕ) → turn ≡ from c.rank c.pieces.items → n ≡ length turn → k ≡ n / parts → parts ∣ turn_count c → turn_count c ≡ parts * k
turn_share c turn n k parts t l e h =
    sym (ap (λ m. parts * m) (e ∙ ap (λ m. m / parts) (l ∙ ap length t)) ∙ mul-div_cancel' parts h)

-- ---- one curve's rules are another's with its values
pub own_turning : (d : Cycle) (f : ℚ → Ext) → IsTurning d f → IsTurning d (cycle_values d)
own_turning d f T = record { cycle = T.cycle; break = T.break; first_is = T.first_is; same = λ t h. refl }

turned_through : (d c : Cycle) (f : ℚ → Ext) → IsTurning d (cycle_values c) → IsTurning c f → IsTurning d f
turned_through d c f D C = record { cycle = D.cycle; break = D.break; first_is = D.first_is; same = λ t h. D.same t h ∙ C.same t h }

-- what repeats in d from its rank repeats in f, whose values d has
to_values : (d : Cycle) (f : ℚ → Ext) (r e u : ℚ) → IsTurning d f → d.rank ≡ r → int (pos 0) ≤ℚ e → Repeats (cycle_values d) d.rank e u → Repeats f r e u
to_values d f r e u T k h R = subst (λ x. Repeats f x e u) k (transfer f (cycle_values d) d.rank e u T.cycle.nonneg h (λ t l. sym (T.same t l)) R)

from_values : (d : Cycle) (f : ℚ → Ext) (r e u : ℚ) → IsTurning d f → d.rank ≡ r → int (pos 0) ≤ℚ e → Repeats f r e u → Repeats (cycle_values d) d.rank e u
from_values d f r e u T k h R = transfer (cycle_values d) f d.rank e u T.cycle.nonneg h T.same (subst (λ x. Repeats f x e u) (sym k) R)

abbrev pub OwnGrids : ℕ → ℕ → Cycle → Type 0
OwnGrids times values c = OnGrids times values (cycle_values c) c.rank c.period c.rise

-- a curve with c's values and its period, or that divided by `parts`, has its fractions on the grids where c has
grids_kept : (times values : ℕ) (c d : Cycle) → OwnGrids times values c → IsTurning d (cycle_values c) → d.rank ≡ c.rank → d.period ≡ c.period → d.rise ≡ c.rise → OwnGrids times values d
grids_kept times values c d G T k e u = record {
  time = λ n h R. subst (λ x. Whole times (x /ℚ int (pos n))) (sym e) (G.time n h (back n h R));
  value = λ n h R. subst (λ x. Whole values (x /ℚ int (pos n))) (sym u) (G.value n h (back n h R));
}
  where
    back : (n : ℕ) → 1 ≤ n → Shorter d n → Shorter c n
    back n h R =
        subst (λ x. Repeats (cycle_values c) c.rank (x /ℚ int (pos n)) (c.rise /ℚ int (pos n))) e (subst (λ y. Repeats (cycle_values c) c.rank (d.period /ℚ int (pos n)) (y /ℚ int (pos n))) u
        (to_values d (cycle_values c) c.rank (d.period /ℚ int (pos n)) (d.rise /ℚ int (pos n)) T k (le_of_lt (share_some d.period n h T.cycle.some)) R))

grids_cut : (times values parts : ℕ) (c d : Cycle) → OwnGrids times values c → IsTurning d (cycle_values c) → d.rank ≡ c.rank → 0 < parts → d.period ≡ c.period /ℚ int (pos parts) → d.rise ≡ c.rise /ℚ int (pos parts)
    → OwnGrids times values d
grids_cut times values parts c d G T k some e u = record {
  time = λ n h R. subst (Whole times) (sym (shares d.period c.period e n h)) (G.time (parts * n) (mul-pos some h) (back n h R));
  value = λ n h R. subst (Whole values) (sym (shares d.rise c.rise u n h)) (G.value (parts * n) (mul-pos some h) (back n h R));
}
  where
    shares : (x y : ℚ) → x ≡ y /ℚ int (pos parts) → (n : ℕ) → 1 ≤ n → x /ℚ int (pos n) ≡ y /ℚ int (pos (parts * n))
    shares x y is n h = ap (λ z. z /ℚ int (pos n)) is ∙ share_twice y parts n some h

    back : (n : ℕ) → 1 ≤ n → Shorter d n → Shorter c (parts * n)
    back n h R =
        subst (λ x. Repeats (cycle_values c) c.rank x (c.rise /ℚ int (pos (parts * n)))) (shares d.period c.period e n h) (subst (λ y. Repeats (cycle_values c) c.rank (d.period /ℚ int (pos n)) y) (shares d.rise c.rise u n h)
        (to_values d (cycle_values c) c.rank (d.period /ℚ int (pos n)) (d.rise /ℚ int (pos n)) T k (le_of_lt (share_some d.period n h T.cycle.some)) R))

pub whole_share : (x : ℚ) → x /ℚ int (pos 1) ≡ x
whole_share x = mul_cancel (x /ℚ int (pos 1)) x (int (pos 1)) (parts_some 1 (omega arith)) (div_mul x (int (pos 1)) (parts_some 1 (omega arith)) ∙ sym (mul_one x))

fits_kept : (times values : ℕ) (c d : Cycle) → SharesFit times values c.pieces.items c.period c.rise → IsFront d.pieces.items c.pieces.items → d.period ≡ c.period → d.rise ≡ c.rise
    → SharesFit times values d.pieces.items d.period d.rise
fits_kept times values c d S F e u =
    subst (λ x. SharesFit times values d.pieces.items x d.rise) (sym e) (subst (λ y. SharesFit times values d.pieces.items c.period y) (sym u)
    (λ n h a b. each_front (LaterFits (c.period /ℚ int (pos n)) (c.rise /ℚ int (pos n))) d.pieces.items c.pieces.items F (S n h a b)))

fits_cut : (times values parts : ℕ) (c d : Cycle) → SharesFit times values c.pieces.items c.period c.rise → IsFront d.pieces.items c.pieces.items → 0 < parts → d.period ≡ c.period /ℚ int (pos parts)
    → d.rise ≡ c.rise /ℚ int (pos parts) → SharesFit times values d.pieces.items d.period d.rise
fits_cut times values parts c d S F some e u = λ n h a b.
    let p = ap (λ z. z /ℚ int (pos n)) e ∙ share_twice c.period parts n some h in
    let r = ap (λ z. z /ℚ int (pos n)) u ∙ share_twice c.rise parts n some h in
    subst (λ x. Each (LaterFits x (d.rise /ℚ int (pos n))) d.pieces.items) (sym p) (subst (λ y. Each (LaterFits (c.period /ℚ int (pos (parts * n))) y) d.pieces.items) (sym r)
    (each_front (LaterFits (c.period /ℚ int (pos (parts * n))) (c.rise /ℚ int (pos (parts * n)))) d.pieces.items c.pieces.items F
    (S (parts * n) (mul-pos some h) (subst (Whole times) p a) (subst (Whole values) r b))))

-- the pieces of a period, moved by a fraction that is on the grids, fit
pub turn_fits : (times values parts : ℕ) (c : Cycle) (turn : List Piece) (by rise : ℚ) → SharesFit times values c.pieces.items c.period c.rise → 0 < parts → turn ≡ from c.rank c.pieces.items
    → (by ≡ c.period /ℚ int (pos parts)) × Whole times by → (rise ≡ c.rise /ℚ int (pos parts)) × Whole values rise → Each (LaterFits by rise) turn
turn_fits times values parts c turn by rise S some t b r =
    subst (Each (LaterFits by rise)) (sym t) (each_from (LaterFits by rise) c.rank c.pieces.items
    (subst (λ x. Each (LaterFits x rise) c.pieces.items) (sym b.0) (subst (λ y. Each (LaterFits (c.period /ℚ int (pos parts)) y) c.pieces.items) (sym r.0)
    (S parts some (subst (Whole times) b.0 b.1) (subst (Whole values) r.0 r.1)))))

-- ---- the search
-- `found` has c's values; a whole number by which its period can be divided divides `rest`, which none from 2 to below `parts` does
pub record Searching (times values : ℕ) (c found : Cycle) (parts rest : ℕ) : Type 0 where
  pub grids : OwnGrids times values found
  pub fits : SharesFit times values found.pieces.items found.period found.rise
  pub front : IsFront found.pieces.items c.pieces.items
  pub divided : (n : ℕ) × (1 ≤ n) × (found.period ≡ c.period /ℚ int (pos n)) × (found.rise ≡ c.rise /ℚ int (pos n))
  pub turned : IsTurning found (cycle_values c)
  pub rank : found.rank ≡ c.rank
  pub some : 2 ≤ parts
  pub left : 0 < rest
  pub share : rest ∣ turn_count found
  pub none : (q : ℕ) → 2 ≤ q → q < parts → ¬ (q ∣ rest)
  pub only : (n : ℕ) → 1 ≤ n → Repeats (cycle_values c) c.rank (found.period /ℚ int (pos n)) (found.rise /ℚ int (pos n)) → n ∣ rest

pub some_pieces_from : (ps : List Piece) (r d : ℚ) → IsCycle ps r d → 0 < length (from r ps)
some_pieces_from ps r d C = let K = cut_of ps r d C in longer K.first K.rest (ap length K.from_is)
  where
    longer : (q : Piece) (qs : List Piece) → length (from r ps) ≡ length (q ∷ qs) → 0 < length (from r ps)
    longer q qs e = omega (arith, e)

divides_turn : (c : Cycle) (n : ℕ) → IsTurning c (cycle_values c) → 1 ≤ n → Shorter c n → n ∣ turn_count c
divides_turn c zero T h R = absurd (omega arith)
divides_turn c (suc m) T h R =
    divides_count c.pieces.items c.rank c.period c.rise (c.period /ℚ int (pos (suc m))) (c.rise /ℚ int (pos (suc m))) m T.cycle T.break (share_some c.period (suc m) h T.cycle.some)
    (share_back c.period (suc m) h) (share_back c.rise (suc m) h) R

pub search_begins : (times values : ℕ) (c : Cycle) (turn : List Piece) (rest : ℕ) → OwnGrids times values c → SharesFit times values c.pieces.items c.period c.rise → IsTurning c (cycle_values c) → turn ≡ from c.rank c.pieces.items → rest ≡ length turn → Searching times values c c 2 rest
search_begins times values c turn rest G S T t l =
    let n : turn_count c ≡ rest = sym (l ∙ ap length t) in
    subst (Searching times values c c 2) n record {
      grids = G;
      fits = S;
      front = front_self c.pieces.items;
      divided = (1, omega arith, sym (whole_share c.period), sym (whole_share c.rise));
      turned = T;
      rank = refl;
      some = omega arith;
      left = some_pieces_from c.pieces.items c.rank c.period T.cycle;
      share = dvd_refl (turn_count c);
      none = λ q a b. absurd (omega arith);
      only = λ n h R. divides_turn c n T h R;
    }

pub search_goes_on : (times values : ℕ) (c found : Cycle) (parts rest : ℕ) → Searching times values c found parts rest → (rest % parts ≡ 0 → ⊥) → Searching times values c found (parts + 1) rest
search_goes_on times values c found parts rest S n = record {
  grids = S.grids;
  fits = S.fits;
  front = S.front;
  divided = S.divided;
  turned = S.turned;
  rank = S.rank;
  some = let k = S.some in omega arith;
  left = S.left;
  share = S.share;
  none = λ q a b. by_next q a (cases_lt q parts) b;
  only = S.only;
}
  where
    by_next : (q : ℕ) → 2 ≤ q → (q < parts) ⊎ (parts ≤ q) → q < parts + 1 → ¬ (q ∣ rest)
    by_next q a (inl l) b = S.none q a l
    by_next q a (inr l) b = let e : q ≡ parts = omega arith in λ h. n (mod-eq-zero_of_dvd parts (subst (λ z. z ∣ rest) e h))

-- `parts` divides `rest`, and so is a prime: a number that it does not divide has no divisor in common with it
coprime : (parts rest n : ℕ) → 2 ≤ parts → parts ∣ rest → 0 < n → ((q : ℕ) → 2 ≤ q → q < parts → ¬ (q ∣ rest)) → ¬ (parts ∣ n) → gcd parts n ≡ 1
coprime parts rest n h d some none apart =
    let is = gcd_is parts n in
    let g = gcd parts n in
    let g_some : 0 < g = gcd_pos parts n some in
    let g_most : g ≤ parts = le_of_dvd (omega arith) is.0 in
    by_size g g_some g_most is.0 is.1 (cases_lt g 2) (cases_lt g parts)
  where
    by_size : (g : ℕ) → 0 < g → g ≤ parts → g ∣ parts → g ∣ n → (g < 2) ⊎ (2 ≤ g) → (g < parts) ⊎ (parts ≤ g) → g ≡ 1
    by_size g a b x y (inl l) m = omega arith
    by_size g a b x y (inr l) (inl m) = absurd (none g l m (dvd_trans g x d))
    by_size g a b x y (inr l) (inr m) = let e : g ≡ parts = omega arith in absurd (apart (subst (λ z. z ∣ n) e y))

-- a period divided by n, which `parts` divides, gives one divided by `parts`
shorter_by : (f : ℚ → Ext) (r d c : ℚ) (parts n : ℕ) → int (pos 0) <ℚ d → 0 < n → parts ∣ n → Repeats f r (d /ℚ int (pos n)) (c /ℚ int (pos n)) → Repeats f r (d /ℚ int (pos parts)) (c /ℚ int (pos parts))
shorter_by f r d c parts n some h k R =
    let j = n / parts in
    let e : parts * j ≡ n = mul-div_cancel' parts k in
    let T = repeats_times f r (d /ℚ int (pos n)) (c /ℚ int (pos n)) j (le_of_lt (share_some d n h some)) R in
    subst (λ x. Repeats f r x (c /ℚ int (pos parts))) (share_times d parts j n h e)
    (subst (λ y. Repeats f r (int (pos j) *ℚ (d /ℚ int (pos n))) y) (share_times c parts j n h e) T)

pub search_divides : (times values : ℕ) (c found d : Cycle) (parts rest : ℕ) → Searching times values c found parts rest → rest % parts ≡ 0 → IsDivided found parts d → Searching times values c d parts (rest / parts)
search_divides times values c found d parts rest S e D =
    let more = S.some in
    let h : parts ∣ rest = dvd_of_mod-eq-zero parts e in
    let next : parts * (rest / parts) ≡ rest = mul-div_cancel' parts h in
    let back : rest / parts ∣ rest = subst (λ z. rest / parts ∣ z) next (dvd-mul_left (rest / parts) parts) in
    let F = own_turning found (cycle_values c) S.turned in
    let T = turned_through d found (cycle_values c) D.turned S.turned in
    let r : d.rank ≡ c.rank = D.rank ∙ S.rank in
    let left : 0 < rest / parts = some_left (rest / parts) next S.left in
    let none = λ (q : ℕ) (a : 2 ≤ q) (b : q < parts) (k : q ∣ rest / parts). S.none q a b (dvd_trans q k back) in
    by_outcome h next left back none T r D.outcome
  where
    some_left : (m : ℕ) → parts * m ≡ rest → 0 < rest → 0 < m
    some_left zero p q = absurd (omega arith)
    some_left (suc m) p q = omega arith

    by_outcome : parts ∣ rest → parts * (rest / parts) ≡ rest → 0 < rest / parts → rest / parts ∣ rest → ((q : ℕ) → 2 ≤ q → q < parts → ¬ (q ∣ rest / parts)) → IsTurning d (cycle_values c) → d.rank ≡ c.rank
        → StaysWhole found parts d ⊎ IsCut found parts d → Searching times values c d parts (rest / parts)
    by_outcome h next left back none T r (inl W) = record {
      grids = grids_kept times values found d S.grids D.turned D.rank W.period W.rise;
      fits = fits_kept times values found d S.fits D.front W.period W.rise;
      front = front_trans d.pieces.items found.pieces.items c.pieces.items D.front S.front;
      divided = let (m, some, p, r) = S.divided in (m, some, W.period ∙ p, W.rise ∙ r);
      turned = T;
      rank = r;
      some = S.some;
      left = left;
      share = subst (λ m. rest / parts ∣ m) (sym W.count) (dvd_trans (rest / parts) back S.share);
      none = none;
      only = λ n a R.
          let some_n : 0 < n = omega arith in
          let repeats_shorter = subst (λ x. Repeats (cycle_values c) c.rank (x /ℚ int (pos n)) (found.rise /ℚ int (pos n))) W.period (subst (λ y. Repeats (cycle_values c) c.rank (d.period /ℚ int (pos n)) (y /ℚ int (pos n))) W.rise R) in
          let apart = λ (k : parts ∣ n).
          W.none (from_values found (cycle_values c) c.rank (found.period /ℚ int (pos parts)) (found.rise /ℚ int (pos parts)) S.turned S.rank
          (le_of_lt (share_some found.period parts (let m = S.some in omega arith) S.turned.cycle.some))
          (shorter_by (cycle_values c) c.rank found.period found.rise parts n S.turned.cycle.some some_n k repeats_shorter)) in
          divides_other parts n (rest / parts) left (coprime parts rest n S.some h some_n S.none apart) (subst (λ z. n ∣ z) (sym next) (S.only n a repeats_shorter));
    }
    by_outcome h next left back none T r (inr W) =
        let some_p : 0 < parts = let m = S.some in omega arith in
        record {
          grids = grids_cut times values parts found d S.grids D.turned D.rank some_p W.period W.rise;
          fits = fits_cut times values parts found d S.fits D.front some_p W.period W.rise;
          front = front_trans d.pieces.items found.pieces.items c.pieces.items D.front S.front;
          divided =
              let (m, some, p, r) = S.divided in
              (m * parts, mul-pos some some_p, W.period ∙ ap (λ z. z /ℚ int (pos parts)) p ∙ share_twice c.period m parts some some_p, W.rise ∙ ap (λ z. z /ℚ int (pos parts)) r ∙ share_twice c.rise m parts some some_p);
          turned = T;
          rank = r;
          some = S.some;
          left = left;
          share = dvd_of_mul-dvd-mul_left (rest / parts) some_p (subst (λ z. z ∣ parts * turn_count d) (sym next) (subst (λ z. rest ∣ z) W.count S.share));
          none = none;
          only = λ n a R.
              let some_n : 0 < n = omega arith in
              let repeats_shorter = subst (λ x. Repeats (cycle_values c) c.rank x (found.rise /ℚ int (pos (parts * n)))) (ap (λ z. z /ℚ int (pos n)) W.period ∙ share_twice found.period parts n some_p some_n)
              (subst (λ y. Repeats (cycle_values c) c.rank (d.period /ℚ int (pos n)) y) (ap (λ z. z /ℚ int (pos n)) W.rise ∙ share_twice found.rise parts n some_p some_n) R) in
              dvd_of_mul-dvd-mul_left n some_p (subst (λ z. parts * n ∣ z) (sym next) (S.only (parts * n) (mul-pos some_p some_n) repeats_shorter));
        }

pub search_ends : (times values : ℕ) (c found : Cycle) (parts rest : ℕ) → Searching times values c found parts rest → rest < parts → IsLeast times values c found
search_ends times values c found parts rest S h = record {
  front = S.front;
  share =
      let (n, some, p, r) = S.divided in
      let own = subst (λ x. Repeats (cycle_values found) found.rank x (found.rise /ℚ int (pos 1))) (sym (whole_share found.period)) (subst (λ y. Repeats (cycle_values found) found.rank found.period y) (sym (whole_share found.rise))
      (repeated_rule (read found.pieces.items) found.rank found.period found.rise S.turned.cycle.some)) in
      (n, some, p, r, subst (Whole times) (whole_share found.period) (S.grids.time 1 (omega arith) own), subst (Whole values) (whole_share found.rise) (S.grids.value 1 (omega arith) own));
  turned = S.turned;
  rank = S.rank;
  least = λ n a R.
      let some_n : 0 < n = omega arith in
      let repeats_shorter = to_values found (cycle_values c) c.rank (found.period /ℚ int (pos n)) (found.rise /ℚ int (pos n)) S.turned S.rank (le_of_lt (share_some found.period n some_n S.turned.cycle.some)) R in
      let k = S.only n some_n repeats_shorter in
      let most : n ≤ rest = le_of_dvd S.left k in
      S.none n a (omega arith) k;
}
