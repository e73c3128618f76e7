-- The unrolled pieces read as the curve below their end.
use Rattle.std.specs.Prelude.{◌≡◌, ℕ, suc, pos, cond, List, [], ◌∷◌, ◌++◌}
use Rattle.std.proofs.Common.{arith, sym, ap, ap₂, ◌∙◌, refl, subst, inl, inr}
use Rattle.rational.specs.Rational.{ℚ, ◌+ℚ◌, ◌-ℚ◌, ◌*ℚ◌, ◌≤ℚ◌, ◌<ℚ◌, int, le_q}
use Rattle.rational.specs.Whole.{periods}
use Rattle.rational.proofs.Linear.{with1, with2, with3, with5}
use Rattle.rational.proofs.Laws.{le_or_lt, le_refl, lt_le_trans, le_lt_trans}
use Rattle.rational.specs.Extended.{Ext, ◌+ₑ◌}
use Rattle.rational.specs.declared.Extended.TheVariants.{Fin}
use Rattle.upp_curve.specs.declared.affine_segment.line.Piece.{Piece}
use Rattle.upp_curve.specs.declared.curve.Tail.{Tail}
use Rattle.upp_curve.specs.declared.curve.Tail.TheVariants.{Periodic, Affine, Infinite}
use Rattle.upp_curve.specs.Curve.{SpecCurve, value_at, repeated}
use Rattle.upp_curve.specs.Normal.{IsNormal}
use Rattle.upp_curve.specs.affine_segment.Pieces.{Each, HasStart, RisesFrom, StartsAtZero}
use Rattle.upp_curve.specs.Unrolled.{unroll, unrolled, copies, each_later, upto, from}
use Rattle.upp_curve.specs.affine_segment.Reading.{piece_in, piece_value, read}
use Rattle.upp_curve.proofs.OneForm.{infinite_value}
use Rattle.rational.proofs.Whole.{periods_low, periods_high, one_more_times}
use Rattle.upp_curve.proofs.affine_segment.PieceIn.{piece_in_stop}
use Rattle.upp_curve.proofs.Unique.{upto_none, upto_some, upto_end}
use Rattle.upp_curve.proofs.Repeats.{repeated_first}
use Rattle.upp_normal.proofs.UnrolledValues.{copies_read, copies_some, read_before, read_past_list, each_up}
use Rattle.upp_limits.proofs.PieceCounts.{from_none, from_some}

-- ---- dropping what starts at the end or after changes no reading before it
piece_in_upto : (X : ℚ) (p : Piece) (ps : List Piece) (t : ℚ) → t <ℚ X → piece_in p (upto X ps) t ≡ piece_in p ps t
unfolding piece_in
piece_in_upto X p [] t h = ap (λ zs. piece_in p zs t) (upto_end X)
piece_in_upto X p (q ∷ qs) t h = elim (le_or_lt X q.x) [
  | inl l ↦ ap (λ zs. piece_in p zs t) (upto_none X q qs l) ∙ sym (piece_in_stop p q qs t (lt_le_trans h l))
  | inr l ↦ ap (λ zs. piece_in p zs t) (upto_some X q qs l) ∙ ap (λ z. cond (le_q q.x t) z p) (piece_in_upto X q qs t h)
]

pub read_upto : (X : ℚ) (p : Piece) (ps : List Piece) (t : ℚ) → t <ℚ X → p.x <ℚ X → read (upto X (p ∷ ps)) t ≡ read (p ∷ ps) t
unfolding read
read_upto X p ps t h l = ap (λ zs. read zs t) (upto_some X p ps l) ∙ ap (λ z. piece_value z t) (piece_in_upto X p ps t h)

-- ---- the pieces before the rank and from it

-- a list whose starts rise and which has a piece at x is the pieces before x, that piece and the rest
pub record Cut (x : ℚ) (ps : List Piece) : Type 0 where
  pub before : List Piece
  pub first : Piece
  pub rest : List Piece
  pub upto_is : upto x ps ≡ before
  pub from_is : from x ps ≡ first ∷ rest
  pub whole : ps ≡ before ++ first ∷ rest
  pub early : Each (λ z. z.x <ℚ x) before
  pub at : first.x ≡ x
  pub rises : RisesFrom first.x rest

pub cut_at_start : (y x : ℚ) (ps : List Piece) → RisesFrom y ps → HasStart x ps → Cut x ps
cut_at_start y x [] r h = absurd h
cut_at_start y x (p ∷ ps) r (inl e) = record {
  before = [];
  first = p;
  rest = ps;
  upto_is = upto_none x p ps (subst (λ z. z ≤ℚ p.x) e (le_refl p.x));
  from_is = from_none x p ps (subst (λ z. z ≤ℚ p.x) e (le_refl p.x));
  whole = refl;
  early = tt;
  at = e;
  rises = r.1;
}
cut_at_start y x (p ∷ ps) r (inr h) =
    let c = cut_at_start p.x x ps r.1 h in
    let l : p.x <ℚ x = past p.x x ps r.1 h in
    record {
      before = p ∷ c.before;
      first = c.first;
      rest = c.rest;
      upto_is = upto_some x p ps l ∙ ap (λ zs. p ∷ zs) c.upto_is;
      from_is = from_some x p ps l ∙ c.from_is;
      whole = ap (λ zs. p ∷ zs) c.whole;
      early = (l, c.early);
      at = c.at;
      rises = c.rises;
    }
  where
    past : (y x : ℚ) (ps : List Piece) → RisesFrom y ps → HasStart x ps → y <ℚ x
    past y x [] r h = absurd h
    past y x (p ∷ ps) r (inl e) = subst (λ z. y <ℚ z) e r.0
    past y x (p ∷ ps) r (inr h) = let l = past p.x x ps r.1 h in let k = r.0 in with3 y x p.x (λ c. omega (arith, c.le, c.lt, c.same))

-- the repeated function only reads f from the rank on, past the rank
pub repeated_same : (f g : ℚ → Ext) (r d c t : ℚ) → int (pos 0) <ℚ d → r ≤ℚ t → ((u : ℚ) → r ≤ℚ u → f u ≡ g u) → repeated f r d c t ≡ repeated g r d c t
unfolding repeated
repeated_same f g r d c t some h same =
    let l = periods_low r d t some h in
    let n = int (pos (periods r d t)) *ℚ d in
    ap (λ v. v +ₑ Fin (int (pos (periods r d t)) *ℚ c)) (same (t -ℚ n) (with3 r t n (λ c. omega (arith, c.le, c.lt, c.same))))

pub read_from_cut : (bs : List Piece) (p : Piece) (rest : List Piece) (t : ℚ) → Each (λ z. z.x ≤ℚ t) bs → p.x ≤ℚ t → read (bs ++ p ∷ rest) t ≡ read (p ∷ rest) t
read_from_cut [] p rest t h k = refl
read_from_cut (b ∷ bs) p rest t h k = read_past_list b bs p rest t h.1 k

-- the first piece starts at 0
read_upto_list : (bs : List Piece) (p : Piece) (rest more : List Piece) (X t : ℚ) → StartsAtZero (bs ++ p ∷ rest) → int (pos 0) ≤ℚ t → t <ℚ X
    → read (upto X (bs ++ p ∷ more)) t ≡ read (bs ++ p ∷ more) t
read_upto_list [] p rest more X t at0 h l = read_upto X p more t l (subst (λ z. z <ℚ X) (sym at0.0) (le_lt_trans h l))
read_upto_list (b ∷ bs) p rest more X t at0 h l = read_upto X b (bs ++ p ∷ more) t l (subst (λ z. z <ℚ X) (sym at0.0) (le_lt_trans h l))

pub early_same : (bs : List Piece) (p : Piece) (rest more : List Piece) (t : ℚ) → StartsAtZero (bs ++ p ∷ rest) → int (pos 0) ≤ℚ t → t <ℚ p.x
    → read (bs ++ p ∷ more) t ≡ read (bs ++ p ∷ rest) t
early_same [] p rest more t at0 h l = let e = at0.0 in let x = p.x in absurd (with2 t x (λ c. omega (arith, c.le, c.lt, c.same)))
early_same (b ∷ bs) p rest more t at0 h l = read_before b bs p more t l ∙ sym (read_before b bs p rest t l)

pub each_rest : (bs : List Piece) (p : Piece) (rest : List Piece) (x : ℚ) → Each (λ z. z.x <ℚ x) (bs ++ p ∷ rest) → Each (λ z. z.x <ℚ x) rest
each_rest [] p rest x h = h.1
each_rest (b ∷ bs) p rest x h = each_rest bs p rest x h.1

-- pieces before the rank, then k + 1 copies of those from the rank on
pub parts_read : (bs : List Piece) (p : Piece) (rest : List Piece) (k : ℕ) (d c X t : ℚ) → StartsAtZero (bs ++ p ∷ rest) → int (pos 0) <ℚ d
    → Each (λ z. z.x <ℚ p.x) bs → Each (λ z. z.x <ℚ p.x +ℚ d) (bs ++ p ∷ rest) → int (pos 0) ≤ℚ t → t <ℚ X → t <ℚ p.x +ℚ int (pos (suc k)) *ℚ d
    → read (upto X (bs ++ copies (suc k) d c (p ∷ rest))) t ≡ repeated (read (bs ++ p ∷ rest)) p.x d c t
parts_read bs p rest k d c X t at0 some early starts start below high =
    let more = rest ++ each_later d c (copies k d c (p ∷ rest)) in
    let shape = ap (λ zs. bs ++ zs) (copies_some k d c p rest) in
    let x = p.x in
    ap (λ zs. read (upto X zs) t) shape ∙ read_upto_list bs p rest more X t at0 start below ∙ elim (le_or_lt p.x t) [
      | inr l ↦ early_same bs p rest more t at0 start l
          ∙ sym (repeated_first (read (bs ++ p ∷ rest)) p.x d c t some (with3 t x d (λ c. omega (arith, c.le, c.lt, c.same))))
      | inl l ↦ read_from_cut bs p more t (each_up bs p.x t l early) l ∙ ap (λ zs. read zs t) (sym (copies_some k d c p rest))
          ∙ copies_read k p rest d c t some (each_rest bs p rest (p.x +ℚ d) starts) l high
          ∙ repeated_same (read (p ∷ rest)) (read (bs ++ p ∷ rest)) p.x d c t some l (λ u h. sym (read_from_cut bs p rest u (each_up bs p.x u h early) h))
    ]

-- below its end an unrolled periodic curve reads as the curve
pub periodic_unrolled : (ps : List Piece) (r d c X t : ℚ) → StartsAtZero ps → HasStart r ps → int (pos 0) <ℚ d → Each (λ z. z.x <ℚ r +ℚ d) ps → int (pos 0) ≤ℚ t → t <ℚ X
    → read (upto X (upto r ps ++ copies (suc (periods r d X)) d c (from r ps))) t ≡ repeated (read ps) r d c t
periodic_unrolled ps r d c X t at0 has some starts start below =
    let cut = cut_at_start (int (pos 0) -ℚ int (pos 1)) r ps (low ps at0) has in
    let k = periods r d X in
    let high = periods_high r d X some in
    let o = one_more_times k d in
    let inside : t <ℚ r +ℚ int (pos (suc k)) *ℚ d = with5 t r d X (int (pos k) *ℚ d) (λ c. omega (arith, c.le, c.lt, c.same)) in
    ap₂ (λ (xs ys : List Piece). read (upto X (xs ++ copies (suc k) d c ys)) t) cut.upto_is cut.from_is
    ∙ parts_read cut.before cut.first cut.rest k d c X t (subst StartsAtZero cut.whole at0) some
    (subst (λ x. Each (λ z. z.x <ℚ x) cut.before) (sym cut.at) cut.early)
    (subst (λ x. Each (λ z. z.x <ℚ x +ℚ d) (cut.before ++ cut.first ∷ cut.rest)) (sym cut.at) (subst (λ zs. Each (λ z. z.x <ℚ r +ℚ d) zs) cut.whole starts))
    start below (subst (λ x. t <ℚ x +ℚ int (pos (suc k)) *ℚ d) (sym cut.at) inside)
    ∙ ap₂ (λ (x : ℚ) (zs : List Piece). repeated (read zs) x d c t) cut.at (sym cut.whole)
  where
    low : (ps : List Piece) → StartsAtZero ps → RisesFrom (int (pos 0) -ℚ int (pos 1)) ps
    low [] h = absurd h
    low (p ∷ ps) h = (subst (λ z. int (pos 0) -ℚ int (pos 1) <ℚ z) (sym h.0) (with1 (int (pos 0)) (λ c. omega (arith, c.le, c.lt, c.same))), h.1)

pub plain_upto : (ps : List Piece) (X t : ℚ) → StartsAtZero ps → int (pos 0) ≤ℚ t → t <ℚ X → read (upto X ps) t ≡ read ps t
plain_upto [] X t at0 h l = absurd at0
plain_upto (p ∷ ps) X t at0 h l = read_upto X p ps t l (subst (λ z. z <ℚ X) (sym at0.0) (le_lt_trans h l))

by_tail : (ps : List Piece) (k : Tail) (X t : ℚ) → IsNormal record { pieces = ps; tail = k } → int (pos 0) ≤ℚ t → t <ℚ X
    → read (unrolled ps k X) t ≡ value_at record { pieces = ps; tail = k } t
unfolding value_at
by_tail ps (Periodic r d c) X t N h l = periodic_unrolled ps r d c X t N.raw.starts N.rank_is_start N.raw.tail.some N.raw.tail.starts h l
by_tail ps (Affine r) X t N h l = plain_upto ps X t N.raw.starts h l
by_tail ps (Infinite r) X t N h l = plain_upto ps X t N.raw.starts h l ∙ sym (infinite_value ps r t N.raw.tail.starts N.tail)

-- the pieces of a normal curve, unrolled up to X, read as the curve below X
pub unroll_reads : (c : SpecCurve) (X t : ℚ) → IsNormal c → int (pos 0) ≤ℚ t → t <ℚ X → read (unroll c X) t ≡ value_at c t
unfolding unroll
unroll_reads c X t N h l = by_tail c.pieces c.tail X t N h l
