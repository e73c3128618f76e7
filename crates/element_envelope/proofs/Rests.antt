-- What is left of pieces when those that are over before a time are skipped: it reads alike from where it starts on.
use Rattle.std.specs.Prelude.{◌≡◌, ◌⊎◌, ℕ, zero, suc, ◌≤◌, ◌<◌, pos, List, [], ◌∷◌, drop, length}
use Rattle.std.proofs.Common.{arith, sym, ap, ◌∙◌, refl, subst, inl, inr}
use Rattle.rational.specs.Rational.{ℚ, ◌≤ℚ◌, ◌<ℚ◌, int}
use Rattle.rational.proofs.Laws.{le_or_lt, le_of_lt, le_refl, le_trans}
use Rattle.upp_curve.specs.declared.affine_segment.line.Piece.{Piece}
use Rattle.upp_curve.specs.affine_segment.Pieces.{Each, RisesFrom, StartsAtZero}
use Rattle.upp_curve.specs.affine_segment.Reading.{read}
use Rattle.upp_curve.proofs.affine_segment.PieceIn.{read_go}
use Rattle.upp_curve.specs.Unrolled.{upto}
use Rattle.upp_curve.proofs.Unique.{upto_none, upto_some, upto_end}
use Rattle.element_envelope.specs.CopyPieces.{skipped}

-- pieces from p on read as g from there on
pub record EndsIn (g : List Piece) (p : Piece) (ps : List Piece) : Type 0 where
  pub nonneg : int (pos 0) ≤ℚ p.x
  pub rises : RisesFrom p.x ps
  pub reads : (t : ℚ) → p.x ≤ℚ t → read (p ∷ ps) t ≡ read g t

pub record IsRest (g : List Piece) (k : ℕ) (late : List Piece) : Type 0 where
  pub head : Piece
  pub rest : List Piece
  pub is : late ≡ head ∷ rest
  pub ends : EndsIn g head rest
  pub first : k ≡ 0 → late ≡ g
  pub early : (t : ℚ) → k < length (upto t g) → head.x <ℚ t

-- ---- how many start before a time
none_early : (t : ℚ) (p : Piece) (ps : List Piece) → t ≤ℚ p.x → length (upto t (p ∷ ps)) ≡ 0
none_early t p ps h = ap length (upto_none t p ps h)

one_early : (t : ℚ) (p : Piece) (ps : List Piece) → p.x <ℚ t → length (upto t (p ∷ ps)) ≡ suc (length (upto t ps))
one_early t p ps h = ap length (upto_some t p ps h)

few_early : (t : ℚ) (ps : List Piece) → length (upto t ps) ≤ length ps
few_early t [] = let e = ap length (upto_end t) in omega (arith, e)
few_early t (p ∷ ps) = elim (le_or_lt t p.x) [
  | inl h ↦ let e = none_early t p ps h in omega (arith, e)
  | inr h ↦ let e = one_early t p ps h in let l = few_early t ps in omega (arith, e, l)
]

first_early : (t : ℚ) (p : Piece) (ps : List Piece) → 0 < length (upto t (p ∷ ps)) → p.x <ℚ t
first_early t p ps l = elim (le_or_lt t p.x) [
  | inl h ↦ let e = none_early t p ps h in absurd (omega (arith, e, l))
  | inr h ↦ h
]

later_early : (t : ℚ) (p : Piece) (ps : List Piece) (n : ℕ) → suc n < length (upto t (p ∷ ps)) → n < length (upto t ps)
later_early t p ps n l = elim (le_or_lt t p.x) [
  | inl h ↦ let e = none_early t p ps h in absurd (omega (arith, e, l))
  | inr h ↦ let e = one_early t p ps h in omega (arith, e, l)
]

-- ---- what is left
rest_of : (p : Piece) (ps : List Piece) (k : ℕ) → int (pos 0) ≤ℚ p.x → RisesFrom p.x ps → k < length (p ∷ ps) → (R : IsRest (p ∷ ps) k (drop k (p ∷ ps))) × (p.x ≤ℚ R.head.x)
rest_of p ps zero low rises some = (
  record {
    head = p;
    rest = ps;
    is = refl;
    ends = record { nonneg = low; rises = rises; reads = λ t l. refl };
    first = λ e. refl;
    early = λ t l. first_early t p ps l;
  },
  le_refl p.x,
)
rest_of p [] (suc n) low rises some = absurd (omega (arith, some))
rest_of p (q ∷ qs) (suc n) low rises some =
    let up = le_of_lt rises.0 in
    let (R, l) = rest_of q qs n (le_trans low up) rises.1 (omega (arith, some)) in (
      record {
        head = R.head;
        rest = R.rest;
        is = R.is;
        ends = record { nonneg = R.ends.nonneg; rises = R.ends.rises; reads = λ t m. R.ends.reads t m ∙ sym (read_go p q qs t (le_trans l m)) };
        first = λ e. absurd (omega (arith, e));
        early = λ t m. R.early t (later_early t p (q ∷ qs) n m);
      },
      le_trans up l,
    )

pub rest_is : (g : List Piece) (t : ℚ) → StartsAtZero g → IsRest g (skipped t g) (drop (skipped t g) g)
rest_is [] t h = absurd h
rest_is (p ∷ ps) t h =
    let l = few_early t (p ∷ ps) in
    (rest_of p ps (skipped t (p ∷ ps)) (subst (λ z. int (pos 0) ≤ℚ z) (sym h.0) (le_refl (int (pos 0)))) h.1 (omega (arith, l))).0

-- so many are not too many
pub skipped_fits : (g : List Piece) (t : ℚ) → skipped t g ≤ length g
skipped_fits g t = let l = few_early t g in omega (arith, l)

-- nothing is skipped, or what is left starts before the time
pub rest_first : (g late : List Piece) (t : ℚ) (R : IsRest g (skipped t g) late) → (late ≡ g) ⊎ (R.head.x <ℚ t)
rest_first g late t R = by (length (upto t g)) refl
  where
    by : (n : ℕ) → n ≡ length (upto t g) → (late ≡ g) ⊎ (R.head.x <ℚ t)
    by zero e = inl (R.first (omega (arith, e)))
    by (suc m) e = inr (R.early t (omega (arith, e)))

pub each_rest : (P : Piece → Type 0) (k : ℕ) (g : List Piece) → Each P g → Each P (drop k g)
each_rest P zero g h = h
each_rest P (suc n) [] h = tt
each_rest P (suc n) (p ∷ ps) h = each_rest P n ps h.1
