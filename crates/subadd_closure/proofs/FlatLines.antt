-- Lines of a slope alone: they are readable where the slope times the time fits.
use Rattle.std.specs.Prelude.{◌≡◌, ℕ, ◌<◌, ◌/◌, ◌*◌, ◌^◌, ℤ, pos, zero, suc, ◌+ℤ◌, ◌*ℤ◌, nat_abs, List, [], ◌∷◌, Option, Some, None, ◌↔◌, ◌+◌, length}
use Rattle.std.proofs.Common.{arith, sym, ap, ap₂, ◌∙◌, subst, inl, inr, get_or, drop}
use Rattle.std.proofs.lemmas.Int.{ints}
use native.Mathlib.Nat.{le_of_dvd, zero-lt-suc, div-one}
use Rattle.rational.specs.Gcd.{gcd}
use Rattle.rational.specs.Euclid.{gcd_is, gcd_pos}
use Rattle.rational.specs.Rational.{ℚ, ◌*ℚ◌, int, den}
use Rattle.rational.specs.Ratio.{IsSmall, SumFits, PartsFit}
use Rattle.rational.proofs.Laws.{mul_zero, le_or_lt}
use Rattle.upp_curve.specs.declared.affine_segment.line.Line.{Line}
use Rattle.upp_curve.specs.declared.affine_segment.line.Piece.{Piece}
use Rattle.upp_curve.proofs.affine_segment.NextPiece.{next_piece}
use Rattle.min_plus.specs.Functions.{zero_q}
use Rattle.upp_curve.specs.affine_segment.Pieces.{Each, start_after}
use Rattle.upp_curve.specs.affine_segment.Fits.{LineFitsAt}
use Rattle.upp_curve.specs.Readable.{LineFitsTo, EachFits}
use Rattle.subadd_closure.specs.ElementCurves.{stretch, stretches, all_stretches}
use Rattle.subadd_closure.specs.PieceFits.{SlopeFitsAt, SlopesRead}
use Rattle.subadd_closure.proofs.PieceReads.{gap_kept, gap_left, late_start, early_start}
use Rattle.upp_curve.proofs.ReadableKinds.{zero_num, zero_den}
use Rattle.min_plus.specs.closure_laws.Star.{nat_times}

-- ---- a sum with 0 fits
gcd_of_one : (d : ℕ) → 0 < d → gcd 1 d ≡ 1
gcd_of_one d some =
    let low = gcd_pos 1 d some in
    let high = le_of_dvd (zero-lt-suc 0) (gcd_is 1 d).0 in
    omega arith

zero_parts : (n : ℤ) (d : ℕ) → 0 < d → nat_abs n < 2 ^ 127 → d < 2 ^ 127 → PartsFit (pos 0) 1 n d
zero_parts n d some h k = record {
  left = subst (λ z. nat_abs z < 2 ^ 127) (sym none) (omega arith);
  right = subst (λ z. nat_abs z < 2 ^ 127) (sym same) h;
  sum = subst (λ z. nat_abs z < 2 ^ 127) (ap₂ (λ (x y : ℤ). x +ℤ y) (sym none) (sym same)) (subst (λ z. nat_abs z < 2 ^ 127) more h);
  bottom = subst (λ z. 1 / z * d < 2 ^ 127) (sym one) (let e : 1 / 1 ≡ 1 = div-one 1 in omega arith);
}
  where
    one : gcd 1 d ≡ 1
    one = gcd_of_one d some

    same : n *ℤ pos (1 / gcd 1 d) ≡ n
    same = ap (λ g. n *ℤ pos (1 / g)) one ∙ times_one n
      where
        times_one : (n : ℤ) → n *ℤ pos 1 ≡ n
        times_one n = omega (arith, ints)

    none : pos 0 *ℤ pos (d / gcd 1 d) ≡ pos 0
    none = ap pos (omega arith)

    more : n ≡ pos 0 +ℤ n
    more = omega (arith, ints)

pub zero_sum : (x : ℚ) → IsSmall x → SumFits (int (pos 0)) x
zero_sum x h = rw (zero_num, zero_den) (zero_parts x.num (den x) (zero-lt-suc x.pre) h.top h.bottom)

-- ---- lines
abbrev pub IsFlat : Option Line → Type 0
IsFlat None = Unit {0}
IsFlat (Some l) = l.icept ≡ zero_q

flat_fits : (x : ℚ) (l : Option Line) → IsFlat l → SlopeFitsAt x l → LineFitsAt x l
flat_fits x None f h = tt
flat_fits x (Some l) f h = record { product = h; sum = subst (λ z. SumFits z (l.slope *ℚ x)) (sym f) (zero_sum (l.slope *ℚ x) h) }

slope_of : (x : ℚ) (l : Option Line) → LineFitsAt x l → SlopeFitsAt x l
slope_of x None h = tt
slope_of x (Some l) h = h.product

pub none_next : (ps : List Piece) → LineFitsTo (start_after ps None) None
none_next [] = tt
none_next (p ∷ ps) = tt

pub slopes_of : (l : Option Line) (ps : List Piece) → LineFitsTo (start_after ps None) l → EachFits None ps → SlopesRead l ps
slopes_of l [] a h = tt
slopes_of l (p ∷ ps) a h = (slope_of p.x l a, slope_of p.x p.line h.0, slopes_of p.line ps h.1 h.2)

flat_next : (l : Option Line) (ps : List Piece) → IsFlat l → SlopesRead l ps → LineFitsTo (start_after ps None) l
flat_next l [] f h = tt
flat_next l (p ∷ ps) f h = flat_fits p.x l f h.0

pub flat_each : (l : Option Line) (ps : List Piece) → IsFlat l → Each (λ p. IsFlat p.line) ps → SlopesRead l ps → EachFits None ps
flat_each l [] f g h = tt
flat_each l (p ∷ ps) f g h = (flat_fits p.x p.line g.0 h.1, flat_next p.line ps g.0 h.2, flat_each p.line ps g.0 g.1 h.2)

-- ---- the lines of stretches
flat_times : (l : Line) (n : ℕ) → l.icept ≡ zero_q → nat_times n l.icept ≡ zero_q
flat_times l n e = ap (λ z. nat_times n z) e ∙ mul_zero (int (pos n))

flat_more : (a b : ℚ) (l : Line) (n m : ℕ) → l.icept ≡ zero_q → Each (λ p. IsFlat p.line) (stretches a b l n m [])
unfolding stretches
flat_more a b l n zero e = tt
flat_more a b l n (suc m) e =
    let x = nat_times n b in
    let y = nat_times (suc n) a in
    let ps = stretch a l (suc n) ∷ stretches a b l (suc n) m [] in
    let rest = flat_more a b l (suc n) m e in
    elim (le_or_lt y x) [
      | inl none ↦ subst (Each (λ p. IsFlat p.line)) (sym (gap_left x y ps none)) (flat_times l (suc n) e, rest)
      | inr some ↦ subst (Each (λ p. IsFlat p.line)) (sym (gap_kept x y ps some)) (tt, (flat_times l (suc n) e, rest))
    ]

pub flat_stretches : (a b : ℚ) (l : Line) (m : ℕ) → l.icept ≡ zero_q → Each (λ p. IsFlat p.line) (all_stretches a b l m [])
flat_stretches a b l m e =
    let ps = stretch a l 1 ∷ stretches a b l 1 m [] in
    let rest = flat_more a b l 1 m e in
    elim (le_or_lt a zero_q) [
      | inl none ↦ subst (Each (λ p. IsFlat p.line)) (sym (early_start a ps none)) (flat_times l 1 e, rest)
      | inr some ↦ subst (Each (λ p. IsFlat p.line)) (sym (late_start a ps some)) (tt, (flat_times l 1 e, rest))
    ]

-- ---- the loop over pieces
pub reads_on : (ps : List Piece) (l : Option Line) (j : ℕ) (p : Piece) → (SlopesRead None ps ↔ SlopesRead l (drop j ps)) → j < length ps → p ≡ get_or ps j p
    → SlopeFitsAt p.x l → SlopeFitsAt p.x p.line → (SlopesRead None ps ↔ SlopesRead p.line (drop (j + 1) ps))
reads_on ps l j p inv h e a b =
    let shape = next_piece p ps j h e in
    (λ all. (subst (SlopesRead l) shape (inv.0 all)).2, λ rest. inv.1 (subst (SlopesRead l) (sym shape) (a, b, rest)))

pub first_off : (ps : List Piece) (l : Option Line) (j : ℕ) (p : Piece) → (SlopesRead None ps ↔ SlopesRead l (drop j ps)) → j < length ps → p ≡ get_or ps j p
    → ¬ (SlopeFitsAt p.x l) → ¬ (SlopesRead None ps)
first_off ps l j p inv h e fails all = fails (subst (SlopesRead l) (next_piece p ps j h e) (inv.0 all)).0
