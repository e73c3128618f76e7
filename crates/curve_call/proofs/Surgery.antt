-- Lists of pieces in parts: what is read in the middle, and that a cut changes no reading.
use Rattle.std.specs.Prelude.{◌≡◌, pos, List, [], ◌∷◌, ◌++◌}
use Rattle.std.proofs.Common.{arith, sym, ap, ◌∙◌, refl, subst, inl, inr}
use Rattle.rational.specs.Rational.{ℚ, ◌≤ℚ◌, ◌<ℚ◌, int}
use Rattle.rational.proofs.Linear.{with3}
use Rattle.rational.proofs.Laws.{antisym, le_refl, le_of_lt, le_or_lt, le_trans, lt_le_trans}
use Rattle.upp_curve.specs.declared.affine_segment.line.Piece.{Piece}
use Rattle.upp_curve.specs.affine_segment.Reading.{read, piece_in, piece_value, line_in}
use Rattle.upp_curve.specs.affine_segment.Pieces.{RisesFrom, StartsAtZero}
use Rattle.upp_curve.proofs.affine_segment.PieceIn.{piece_in_end, piece_in_go, piece_in_stop, value_past, value_at_start, read_is}
use Rattle.curve_call.specs.Stretches.{cut_at}

-- ---- appending
pub one_more : {A : Type 0} (xs : List A) (x : A) (ys : List A) → (xs ++ x ∷ []) ++ ys ≡ xs ++ x ∷ ys
one_more [] x ys = refl
one_more (z ∷ zs) x ys = ap (λ l. z ∷ l) (one_more zs x ys)

-- ---- t is before the first of some pieces
abbrev pub BeforeNext : ℚ → List Piece → Type 0
BeforeNext t [] = Unit {0}
BeforeNext t (q ∷ qs) = t <ℚ q.x

-- ---- the piece in the middle
mid_first : (p : Piece) (rest : List Piece) (t : ℚ) → BeforeNext t rest → piece_in p rest t ≡ p
mid_first p [] t h = piece_in_end p t
mid_first p (q ∷ qs) t h = piece_in_stop p q qs t h

-- a later piece starts past x
pub past_start : (x : ℚ) (bs : List Piece) (p : Piece) (rest : List Piece) → RisesFrom x (bs ++ p ∷ rest) → x <ℚ p.x
past_start x [] p rest r = r.0
past_start x (b ∷ bs) p rest r = let l = past_start b.x bs p rest r.1 in let a = r.0 in with3 x b.x p.x (λ c. omega (arith, c.le, c.lt, c.same))

mid_later : (b : Piece) (bs : List Piece) (p : Piece) (rest : List Piece) (t : ℚ) → RisesFrom b.x (bs ++ p ∷ rest) → p.x ≤ℚ t → BeforeNext t rest
    → piece_in b (bs ++ p ∷ rest) t ≡ p
mid_later b [] p rest t r h k = piece_in_go b p rest t h ∙ mid_first p rest t k
mid_later b (c ∷ cs) p rest t r h k =
    piece_in_go b c (cs ++ p ∷ rest) t (le_trans (le_of_lt (past_start c.x cs p rest r.1)) h) ∙ mid_later c cs p rest t r.1 h k

-- the first piece, before the next one, and from there on
pub read_first : (p : Piece) (rest : List Piece) (t : ℚ) → BeforeNext t rest → read (p ∷ rest) t ≡ piece_value p t
read_first p rest t h = read_is p rest t ∙ ap (λ z. piece_value z t) (mid_first p rest t h)

pub read_middle : (bs : List Piece) (p : Piece) (rest : List Piece) (t : ℚ) → StartsAtZero (bs ++ p ∷ rest) → p.x ≤ℚ t → BeforeNext t rest
    → read (bs ++ p ∷ rest) t ≡ piece_value p t
read_middle [] p rest t s h k = read_is p rest t ∙ ap (λ z. piece_value z t) (mid_first p rest t k)
read_middle (b ∷ bs) p rest t s h k = read_is b (bs ++ p ∷ rest) t ∙ ap (λ z. piece_value z t) (mid_later b bs p rest t s.1 h k)

pub line_middle : (bs : List Piece) (p : Piece) (rest : List Piece) (t : ℚ) → StartsAtZero (bs ++ p ∷ rest) → p.x ≤ℚ t → BeforeNext t rest
    → line_in (bs ++ p ∷ rest) t ≡ p.line
line_middle [] p rest t s h k = ap (λ z. z.line) (mid_first p rest t k)
line_middle (b ∷ bs) p rest t s h k = ap (λ z. z.line) (mid_later b bs p rest t s.1 h k)

-- ---- the next piece starts later
next_past : (x : ℚ) (bs : List Piece) (p : Piece) (rest : List Piece) → RisesFrom x (bs ++ p ∷ rest) → RisesFrom p.x rest
next_past x [] p rest r = r.1
next_past x (b ∷ bs) p rest r = next_past b.x bs p rest r.1

pub rest_rises : (bs : List Piece) (p : Piece) (rest : List Piece) → StartsAtZero (bs ++ p ∷ rest) → RisesFrom p.x rest
rest_rises [] p rest s = s.1
rest_rises (b ∷ bs) p rest s = next_past b.x bs p rest s.1

pub start_nonneg : (bs : List Piece) (p : Piece) (rest : List Piece) → StartsAtZero (bs ++ p ∷ rest) → int (pos 0) ≤ℚ p.x
start_nonneg [] p rest s = subst (λ z. int (pos 0) ≤ℚ z) (sym s.0) (le_refl (int (pos 0)))
start_nonneg (b ∷ bs) p rest s = le_of_lt (subst (λ z. z <ℚ p.x) s.0 (past_start b.x bs p rest s.1))

-- at its own start
pub before_own : (p : Piece) (rest : List Piece) → RisesFrom p.x rest → BeforeNext p.x rest
before_own p [] r = tt
before_own p (q ∷ qs) r = r.0

-- ---- a cut
-- a piece cut at x has its values from there on
cut_value : (p : Piece) (x t : ℚ) → p.x <ℚ x → x ≤ℚ t → piece_value (cut_at p x) t ≡ piece_value p t
cut_value p x t past h = elim (le_or_lt t x) [
  | inl l ↦
      let same : x ≡ t = antisym (h, l) in
      subst (λ u. piece_value (cut_at p x) u ≡ piece_value p u) same (value_at_start (cut_at p x) ∙ sym (value_past p x past))
  | inr l ↦ value_past (cut_at p x) t l ∙ sym (value_past p t (lt_le_trans past h))
]

record SamePiece (p q : Piece) (t : ℚ) : Type 0 where
  pub value : piece_value p t ≡ piece_value q t
  pub line : p.line ≡ q.line

same_piece : (p q : Piece) (t : ℚ) → p ≡ q → SamePiece p q t
same_piece p q t e = record { value = ap (λ z. piece_value z t) e; line = ap (λ z. z.line) e }

cut_first : (p : Piece) (rest : List Piece) (x t : ℚ) → p.x <ℚ x → BeforeNext x rest → SamePiece (piece_in p (cut_at p x ∷ rest) t) (piece_in p rest t) t
cut_first p rest x t past early = elim (le_or_lt x t) [
  | inr l ↦ same_piece _ _ t (piece_in_stop p (cut_at p x) rest t l ∙ sym (mid_first p rest t (before rest early l)))
  | inl h ↦ after rest early h
]
  where
    before : (rest : List Piece) → BeforeNext x rest → t <ℚ x → BeforeNext t rest
    before [] e l = tt
    before (q ∷ qs) e l = let y = q.x in with3 t x y (λ c. omega (arith, c.le, c.lt, c.same))

    after : (rest : List Piece) → BeforeNext x rest → x ≤ℚ t → SamePiece (piece_in p (cut_at p x ∷ rest) t) (piece_in p rest t) t
    after [] e h =
        let a = piece_in_go p (cut_at p x) [] t h ∙ piece_in_end (cut_at p x) t in
        let b = piece_in_end p t in
        record { value = ap (λ z. piece_value z t) a ∙ cut_value p x t past h ∙ sym (ap (λ z. piece_value z t) b); line = ap (λ z. z.line) a ∙ sym (ap (λ z. z.line) b) }
    after (q ∷ qs) e h = elim (le_or_lt q.x t) [
      | inl k ↦ same_piece _ _ t (piece_in_go p (cut_at p x) (q ∷ qs) t h ∙ piece_in_go (cut_at p x) q qs t k ∙ sym (piece_in_go p q qs t k))
      | inr l ↦
          let a = piece_in_go p (cut_at p x) (q ∷ qs) t h ∙ piece_in_stop (cut_at p x) q qs t l in
          let b = piece_in_stop p q qs t l in
          record { value = ap (λ z. piece_value z t) a ∙ cut_value p x t past h ∙ sym (ap (λ z. piece_value z t) b); line = ap (λ z. z.line) a ∙ sym (ap (λ z. z.line) b) }
    ]

through : (b c : Piece) (ps qs : List Piece) (t : ℚ) → SamePiece (piece_in c ps t) (piece_in c qs t) t → SamePiece (piece_in b (c ∷ ps) t) (piece_in b (c ∷ qs) t) t
through b c ps qs t h = elim (le_or_lt c.x t) [
  | inl l ↦
      let a = piece_in_go b c ps t l in
      let d = piece_in_go b c qs t l in
      record { value = ap (λ z. piece_value z t) a ∙ h.value ∙ sym (ap (λ z. piece_value z t) d); line = ap (λ z. z.line) a ∙ h.line ∙ sym (ap (λ z. z.line) d) }
  | inr l ↦ same_piece _ _ t (piece_in_stop b c ps t l ∙ sym (piece_in_stop b c qs t l))
]

cut_later : (b : Piece) (bs : List Piece) (p : Piece) (rest : List Piece) (x t : ℚ) → p.x <ℚ x → BeforeNext x rest
    → SamePiece (piece_in b (bs ++ p ∷ cut_at p x ∷ rest) t) (piece_in b (bs ++ p ∷ rest) t) t
cut_later b [] p rest x t past early = through b p (cut_at p x ∷ rest) rest t (cut_first p rest x t past early)
cut_later b (c ∷ cs) p rest x t past early = through b c (cs ++ p ∷ cut_at p x ∷ rest) (cs ++ p ∷ rest) t (cut_later c cs p rest x t past early)

pub cut_reads : (bs : List Piece) (p : Piece) (rest : List Piece) (x t : ℚ) → p.x <ℚ x → BeforeNext x rest
    → read (bs ++ p ∷ cut_at p x ∷ rest) t ≡ read (bs ++ p ∷ rest) t
cut_reads [] p rest x t past early = read_is p (cut_at p x ∷ rest) t ∙ (cut_first p rest x t past early).value ∙ sym (read_is p rest t)
cut_reads (b ∷ bs) p rest x t past early =
    read_is b (bs ++ p ∷ cut_at p x ∷ rest) t ∙ (cut_later b bs p rest x t past early).value ∙ sym (read_is b (bs ++ p ∷ rest) t)

pub cut_lines : (bs : List Piece) (p : Piece) (rest : List Piece) (x t : ℚ) → p.x <ℚ x → BeforeNext x rest
    → line_in (bs ++ p ∷ cut_at p x ∷ rest) t ≡ line_in (bs ++ p ∷ rest) t
cut_lines [] p rest x t past early = (cut_first p rest x t past early).line
cut_lines (b ∷ bs) p rest x t past early = (cut_later b bs p rest x t past early).line

-- and the starts still rise
cut_rises_in : (y : ℚ) (bs : List Piece) (p : Piece) (rest : List Piece) (x : ℚ) → RisesFrom y (bs ++ p ∷ rest) → p.x <ℚ x → BeforeNext x rest
    → RisesFrom y (bs ++ p ∷ cut_at p x ∷ rest)
cut_rises_in y [] p [] x r past early = (r.0, (past, tt))
cut_rises_in y [] p (q ∷ qs) x r past early = (r.0, (past, (early, r.1.1)))
cut_rises_in y (b ∷ bs) p rest x r past early = (r.0, cut_rises_in b.x bs p rest x r.1 past early)

pub cut_rises : (bs : List Piece) (p : Piece) (rest : List Piece) (x : ℚ) → StartsAtZero (bs ++ p ∷ rest) → p.x <ℚ x → BeforeNext x rest
    → StartsAtZero (bs ++ p ∷ cut_at p x ∷ rest)
cut_rises [] p [] x s past early = (s.0, (past, tt))
cut_rises [] p (q ∷ qs) x s past early = (s.0, (past, (early, s.1.1)))
cut_rises (b ∷ bs) p rest x s past early = (s.0, cut_rises_in b.x bs p rest x s.1 past early)
