-- The loops that lay the pieces out: what is done so far and what is left make the whole.
use Rattle.std.specs.Prelude.{◌≡◌, ℕ, ◌+◌, ◌<◌, ◌≤◌, List, [], ◌∷◌, ◌++◌, length, drop}
use Rattle.std.proofs.Common.{arith, sym, ap, ◌∙◌, refl, subst, inl, inr, get_or, append_assoc, append-nil, Ordering, Greater, Equal, Less}
use Rattle.std.proofs.lemmas.List.{get_or_append_left}
use Rattle.rational.specs.Rational.{ℚ, ◌≤ℚ◌, ◌<ℚ◌}
use Rattle.rational.specs.Ratio.{cmp_q}
use Rattle.rational.proofs.Comparison.{cmp_greater, cmp_not_greater, cmp_less, cmp_ranks}
use Rattle.rational.proofs.Over.{le_q_out}
use Rattle.rational.proofs.Laws.{le_refl, le_of_lt, le_or_lt}
use Rattle.std.specs.Ordering.{MatchOrdering}
use Rattle.rational.proofs.MinMax.{le_q_not}
use Rattle.upp_curve.specs.declared.affine_segment.line.Piece.{Piece}
use Rattle.upp_curve.specs.affine_segment.Pieces.{StartsAtZero}
use Rattle.upp_curve.specs.Fitting.{LaterFits}
use Rattle.upp_curve.specs.Unrolled.{later, each_later, upto}
use Rattle.upp_normal.specs.Normalising.{past, first_start, cut_at, second_copy}
use Rattle.upp_curve.proofs.affine_segment.NextPiece.{next_piece, none_left}
use Rattle.upp_curve.proofs.Unique.{upto_none, upto_some, upto_end}

pub cmp_not_less : (x y : ℚ) → (cmp_q x y ≡ Less → ⊥) → y ≤ℚ x
cmp_not_less x y n = go (cmp_q x y) refl (cmp_ranks x y)
  where
    go : (r : Ordering) → cmp_q x y ≡ r → MatchOrdering r (x <ℚ y) (x ≡ y) (y <ℚ x) → y ≤ℚ x
    go Less e h = absurd (n e)
    go Equal e h = subst (λ v. v ≤ℚ x) h (le_refl x)
    go Greater e h = le_of_lt h

-- ---- the pieces past a time
pub past_go : (t : ℚ) (p : Piece) (ps : List Piece) → p.x ≤ℚ t → past t (p ∷ ps) ≡ past t ps
unfolding past
past_go t p ps h = rw (le_q_out p.x t h) refl

pub past_stop : (t : ℚ) (p : Piece) (ps : List Piece) → t <ℚ p.x → past t (p ∷ ps) ≡ p ∷ past t ps
unfolding past
past_stop t p ps h = rw (le_q_not p.x t h) refl

pub past_none : (t : ℚ) → past t [] ≡ []
unfolding past
past_none t = refl

-- ---- a piece is looked at
pub past_skips : (t : ℚ) (p : Piece) (left more all : List Piece) (o : Ordering) → left ≡ p ∷ more → o ≡ cmp_q p.x t → (o ≡ Greater → ⊥) → past t left ≡ all → past t more ≡ all
past_skips t p left more all o e q n h =
    sym (ap (past t) e ∙ past_go t p more (cmp_not_greater p.x t (λ k. n (q ∙ k)))) ∙ h

pub past_found : (t : ℚ) (p : Piece) (left more all : List Piece) (o : Ordering) → left ≡ p ∷ more → o ≡ cmp_q p.x t → o ≡ Greater → past t left ≡ all
    → first_start all ≡ first_start (p ∷ past t more)
past_found t p left more all o e q g h =
    ap first_start (sym h ∙ ap (past t) e ∙ past_stop t p more (cmp_greater p.x t (sym q ∙ g)))

pub past_ends : (t : ℚ) (left all : List Piece) → left ≡ [] → past t left ≡ all → all ≡ []
past_ends t left all e h = sym h ∙ ap (past t) e ∙ past_none t

pub count_more : (t : ℚ) (p : Piece) (left more all : List Piece) (i : ℕ) (o : Ordering) → left ≡ p ∷ more → o ≡ cmp_q p.x t → o ≡ Less
    → i + length (upto t left) ≡ length all → i + 1 + length (upto t more) ≡ length all
count_more t p left more all i o e q g h =
    let k = ap length (ap (upto t) e ∙ upto_some t p more (cmp_less p.x t (sym q ∙ g))) in
    omega (arith, h, k)

pub count_stops : (t : ℚ) (p : Piece) (left more all : List Piece) (i : ℕ) (o : Ordering) → left ≡ p ∷ more → o ≡ cmp_q p.x t → (o ≡ Less → ⊥)
    → i + length (upto t left) ≡ length all → i ≡ length all
count_stops t p left more all i o e q n h =
    let k = ap length (ap (upto t) e ∙ upto_none t p more (cmp_not_less p.x t (λ l. n (q ∙ l)))) in
    omega (arith, h, k)

pub count_ends : (t : ℚ) (left all : List Piece) (i : ℕ) → left ≡ [] → i + length (upto t left) ≡ length all → i ≡ length all
count_ends t left all i e h = let k = ap length (ap (upto t) e ∙ upto_end t) in omega (arith, h, k)

-- ---- a piece is copied
pub later_none : (d c : ℚ) → each_later d c [] ≡ []
unfolding each_later
later_none d c = refl

pub later_some : (d c : ℚ) (p : Piece) (ps : List Piece) → each_later d c (p ∷ ps) ≡ later d c p ∷ each_later d c ps
unfolding each_later
later_some d c p ps = refl

pub copy_more : (t d c : ℚ) (p q : Piece) (left more done done2 all : List Piece) (o : Ordering) → left ≡ p ∷ more → o ≡ cmp_q p.x t → o ≡ Greater
    → q ≡ later d c p → done2 ≡ done ++ q ∷ [] → done ++ each_later d c (past t left) ≡ all → done2 ++ each_later d c (past t more) ≡ all
copy_more t d c p q left more done done2 all o e k g m w h =
    ap (λ zs. zs ++ each_later d c (past t more)) w ∙ append_assoc done (q ∷ []) (each_later d c (past t more))
    ∙ ap (λ zs. done ++ zs) (ap (λ z. z ∷ each_later d c (past t more)) m ∙ sym (ap (λ zs. each_later d c (past t zs)) e ∙ ap (each_later d c) (past_stop t p more (cmp_greater p.x t (sym k ∙ g))) ∙ later_some d c p (past t more))) ∙ h

pub copy_skips : (t d c : ℚ) (p : Piece) (left more done done2 all : List Piece) (o : Ordering) → left ≡ p ∷ more → o ≡ cmp_q p.x t → (o ≡ Greater → ⊥)
    → done2 ≡ done → done ++ each_later d c (past t left) ≡ all → done2 ++ each_later d c (past t more) ≡ all
copy_skips t d c p left more done done2 all o e k n w h =
    ap (λ zs. zs ++ each_later d c (past t more)) w
    ∙ ap (λ zs. done ++ each_later d c zs) (sym (ap (past t) e ∙ past_go t p more (cmp_not_greater p.x t (λ l. n (k ∙ l))))) ∙ h

pub copy_ends : (t d c : ℚ) (left done all : List Piece) → left ≡ [] → done ++ each_later d c (past t left) ≡ all → done ≡ all
copy_ends t d c left done all e h = sym (append-nil done) ∙ ap (λ zs. done ++ zs) (sym (ap (λ zs. each_later d c (past t zs)) e ∙ ap (each_later d c) (past_none t) ∙ later_none d c)) ∙ h

-- ---- a second copy after the pieces that are given, in one list
-- the pieces that start before t may be passed over
pub past_from : (t : ℚ) (ps : List Piece) → past t (drop (length (upto t ps)) ps) ≡ past t ps
past_from t [] = ap (λ n. past t (drop n [])) (ap length (upto_end t))
past_from t (p ∷ ps) = elim (le_or_lt t p.x) [
  | inl l ↦ ap (λ n. past t (drop n (p ∷ ps))) (ap length (upto_none t p ps l))
  | inr l ↦ ap (λ n. past t (drop n (p ∷ ps))) (ap length (upto_some t p ps l)) ∙ past_from t ps ∙ sym (past_go t p ps (le_of_lt l))
]

-- what is cut at t fits where it moves, if that of pieces from 0 on does
pub cut_fits : (given seen : List Piece) (t d c : ℚ) (q : Piece) → StartsAtZero given → seen ≡ given → ((p : Piece) (ps : List Piece) → seen ≡ p ∷ ps → q ≡ cut_at p ps t)
    → ((p : Piece) (ps : List Piece) → given ≡ p ∷ ps → LaterFits d c (cut_at p ps t)) → LaterFits d c q
cut_fits [] seen t d c q zero e m f = absurd zero
cut_fits (p ∷ ps) seen t d c q zero e m f = subst (LaterFits d c) (sym (m p ps e)) (f p ps refl)

-- `pieces` are those given, with the copies of those past t among the first i; what is left makes the second copy
pub record CopiesOn (given pieces : List Piece) (t d c : ℚ) (i : ℕ) : Type 0 where
  pub copies : List Piece
  pub are : pieces ≡ given ++ copies
  pub left : (p : Piece) (ps : List Piece) → given ≡ p ∷ ps → copies ++ each_later d c (past t (drop i given)) ≡ each_later d c (cut_at p ps t ∷ past t given)

pub copies_begin : (given pieces : List Piece) (t d c : ℚ) (i : ℕ) (q : Piece) → i ≡ length (upto t given) → pieces ≡ given ++ q ∷ []
    → ((p : Piece) (ps : List Piece) → given ≡ p ∷ ps → q ≡ later d c (cut_at p ps t)) → CopiesOn given pieces t d c i
copies_begin given pieces t d c i q n w m = record {
  copies = q ∷ [];
  are = w;
  left = λ p ps e.
      ap (λ z. z ∷ each_later d c (past t (drop i given))) (m p ps e)
      ∙ ap (λ zs. later d c (cut_at p ps t) ∷ each_later d c zs) (ap (λ n. past t (drop n given)) n ∙ past_from t given)
      ∙ sym (later_some d c (cut_at p ps t) (past t given));
}

-- the i-th piece is one that is given
pub copies_at : (given pieces : List Piece) (t d c : ℚ) (i : ℕ) (p : Piece) → i < length given → p ≡ get_or pieces i p → CopiesOn given pieces t d c i → p ≡ get_or given i p
copies_at given pieces t d c i p h e k = e ∙ ap (λ zs. get_or zs i p) k.are ∙ get_or_append_left given k.copies p i h

pub copies_more : (given pieces pieces2 : List Piece) (t d c : ℚ) (i : ℕ) (p q : Piece) (o : Ordering) → i < length given → p ≡ get_or pieces i p → o ≡ cmp_q p.x t
    → o ≡ Greater → q ≡ later d c p → pieces2 ≡ pieces ++ q ∷ [] → CopiesOn given pieces t d c i → CopiesOn given pieces2 t d c (i + 1)
copies_more given pieces pieces2 t d c i p q o h e n g m w k =
    let left = next_piece p given i h (copies_at given pieces t d c i p h e k) in
    record {
      copies = k.copies ++ q ∷ [];
      are = w ∙ ap (λ zs. zs ++ q ∷ []) k.are ∙ append_assoc given k.copies (q ∷ []);
      left = λ s ss f.
          copy_more t d c p q _ (drop (i + 1) given) k.copies (k.copies ++ q ∷ []) (each_later d c (cut_at s ss t ∷ past t given)) o left n g m refl (k.left s ss f);
    }

pub copies_skip : (given pieces pieces2 : List Piece) (t d c : ℚ) (i : ℕ) (p : Piece) (o : Ordering) → i < length given → p ≡ get_or pieces i p → o ≡ cmp_q p.x t
    → (o ≡ Greater → ⊥) → pieces2 ≡ pieces → CopiesOn given pieces t d c i → CopiesOn given pieces2 t d c (i + 1)
copies_skip given pieces pieces2 t d c i p o h e n g w k =
    let left = next_piece p given i h (copies_at given pieces t d c i p h e k) in
    record {
      copies = k.copies;
      are = w ∙ k.are;
      left = λ s ss f. copy_skips t d c p _ (drop (i + 1) given) k.copies k.copies (each_later d c (cut_at s ss t ∷ past t given)) o left n g refl (k.left s ss f);
    }

-- at the end they are those given and the second copy
pub copies_end : (given pieces : List Piece) (t d c : ℚ) (i : ℕ) (p : Piece) (ps : List Piece) → length given ≤ i → p.x ≤ℚ t → given ≡ p ∷ ps → CopiesOn given pieces t d c i
    → pieces ≡ p ∷ (ps ++ second_copy p ps t d c)
copies_end given pieces t d c i p ps h l e k =
    k.are
    ∙ ap (λ zs. given ++ zs)
    (copy_ends t d c _ k.copies (each_later d c (cut_at p ps t ∷ past t given)) (none_left given i h) (k.left p ps e)
    ∙ ap (λ zs. each_later d c (cut_at p ps t ∷ zs)) (ap (past t) e ∙ past_go t p ps l))
    ∙ ap (λ zs. zs ++ second_copy p ps t d c) e
