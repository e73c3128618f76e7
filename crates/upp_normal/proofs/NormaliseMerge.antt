-- Pieces that go on with the one before them may be taken out.
use Rattle.std.specs.Prelude.{◌≡◌, ℕ, ◌+◌, ◌<◌, ◌≤◌, Bool, true, false, List, [], ◌∷◌, ◌++◌, ◌⊎◌, length, take, drop}
use Rattle.std.proofs.Common.{arith, sym, ap, ◌∙◌, refl, subst, inl, inr, append_assoc, true≢false, get_or, set}
use Rattle.std.proofs.lemmas.List.{length-append, length-set, length_push, get_or_at, set_at, take_at, drop_at, nil_from_length}
use Rattle.rational.specs.Rational.{ℚ, ◌≤ℚ◌, ◌<ℚ◌}
use Rattle.rational.proofs.Laws.{antisym, lt_le_trans, le_or_lt, le_of_lt}
use Rattle.upp_curve.specs.declared.affine_segment.line.Piece.{Piece}
use Rattle.upp_curve.specs.affine_segment.Reading.{read, piece_value}
use Rattle.upp_curve.specs.affine_segment.Values.{line_value}
use Rattle.upp_curve.specs.affine_segment.Pieces.{Each, RisesFrom, StartsAtZero}
use Rattle.upp_curve.specs.affine_segment.Fits.{LineFitsAt}
use Rattle.upp_curve.specs.Normal.{Continues}
use Rattle.upp_normal.specs.Normalising.{IsMerged}
use Rattle.upp_curve.proofs.affine_segment.NextPiece.{next_piece}
use Rattle.upp_curve.proofs.affine_segment.PieceIn.{value_past, value_at_start}
use Rattle.upp_curve.proofs.affine_segment.PieceIn.{read_first, read_stop, read_go, read_one}
use Rattle.upp_curve.proofs.affine_segment.PieceOrder.{rises_down}

-- ---- one piece left out
-- a piece that goes on with p's line has p's values
same_value : (p q : Piece) (t : ℚ) → Continues p q → p.x <ℚ q.x → q.x ≤ℚ t → piece_value q t ≡ piece_value p t
same_value p q t C h l = elim (le_or_lt t q.x) [
  | inl k ↦
      let e : q.x ≡ t = antisym (l, k) in
      subst (λ t. piece_value q t ≡ piece_value p t) e (value_at_start q ∙ C.0 ∙ sym (value_past p q.x h))
  | inr k ↦ value_past q t k ∙ ap (λ z. line_value z t) C.1 ∙ sym (value_past p t (lt_le_trans h l))
]

same_reading : (p q : Piece) (qs : List Piece) (t : ℚ) → piece_value q t ≡ piece_value p t → read (q ∷ qs) t ≡ read (p ∷ qs) t
same_reading p q [] t e = read_one q t ∙ e ∙ sym (read_one p t)
same_reading p q (s ∷ ss) t e = elim (le_or_lt s.x t) [
  | inl l ↦ read_go q s ss t l ∙ sym (read_go p s ss t l)
  | inr l ↦ read_stop q s ss t l ∙ e ∙ sym (read_stop p s ss t l)
]

-- it reads the same without it
pub skip : (p q : Piece) (qs : List Piece) (t : ℚ) → Continues p q → p.x <ℚ q.x → RisesFrom q.x qs → read (p ∷ q ∷ qs) t ≡ read (p ∷ qs) t
skip p q qs t C h r = elim (le_or_lt q.x t) [
  | inr l ↦ read_stop p q qs t l ∙ sym (read_first p qs q.x t r (le_of_lt l))
  | inl l ↦ read_go p q qs t l ∙ same_reading p q qs t (same_value p q t C h l)
]

-- ---- the steps of a merge
pub merged_none : (p : Piece) → IsMerged p [] []
merged_none p = record { rises = tt; none = tt; part = refl; reads = λ t. refl }

pub merged_skip : (p q : Piece) (qs rest : List Piece) → Continues p q → p.x <ℚ q.x → RisesFrom q.x qs → IsMerged p qs rest → IsMerged p (q ∷ qs) rest
merged_skip p q qs rest C h r M = record {
  rises = M.rises;
  none = M.none;
  part = inl M.part;
  reads = λ t. M.reads t ∙ sym (skip p q qs t C h r);
}

pub merged_keep : (p q : Piece) (qs rest : List Piece) → ¬ (Continues p q) → p.x <ℚ q.x → IsMerged q qs rest → IsMerged p (q ∷ qs) (q ∷ rest)
merged_keep p q qs rest n h M = record {
  rises = (h, M.rises);
  none = (n, M.none);
  part = inr (rest, refl, M.part);
  reads = λ t. by_time t (le_or_lt q.x t);
}
  where
    by_time : (t : ℚ) → (q.x ≤ℚ t) ⊎ (t <ℚ q.x) → read (p ∷ q ∷ rest) t ≡ read (p ∷ q ∷ qs) t
    by_time t (inl l) = read_go p q rest t l ∙ M.reads t ∙ sym (read_go p q qs t l)
    by_time t (inr l) = read_stop p q rest t l ∙ sym (read_stop p q qs t l)

-- ---- what a merge under way keeps: however it ends for the pieces that are left, it ends so for all
pub record MergesOn (first : Piece) (rest kept : List Piece) (last : Piece) (left : List Piece) : Type 0 where
  pub rises : RisesFrom last.x left
  pub ends : (more : List Piece) → IsMerged last left more → (all : List Piece) × (kept ++ last ∷ more ≡ first ∷ all) × IsMerged first rest all

pub merge_skips : (first : Piece) (rest kept : List Piece) (last q : Piece) (left : List Piece) → Continues last q → MergesOn first rest kept last (q ∷ left)
    → MergesOn first rest kept last left
merge_skips first rest kept last q left C h = record {
  rises = rises_down last.x q.x left (le_of_lt h.rises.0) h.rises.1;
  ends = λ more M. h.ends more (merged_skip last q left more C h.rises.0 h.rises.1 M);
}

pub merge_keeps : (first : Piece) (rest kept : List Piece) (last q : Piece) (left : List Piece) → ¬ (Continues last q) → MergesOn first rest kept last (q ∷ left)
    → MergesOn first rest (kept ++ last ∷ []) q left
merge_keeps first rest kept last q left n h = record {
  rises = h.rises.1;
  ends = λ more M.
      let (all, e, A) = h.ends (q ∷ more) (merged_keep last q left more n h.rises.0 M) in
      (all, append_assoc kept (last ∷ []) (q ∷ more) ∙ e, A);
}

pub merge_is : (first : Piece) (rest kept : List Piece) (last : Piece) (left found : List Piece) → left ≡ [] → found ≡ kept ++ last ∷ [] → MergesOn first rest kept last left
    → (all : List Piece) × (found ≡ first ∷ all) × IsMerged first rest all
merge_is first rest kept last left found e f h =
    let (all, g, A) = h.ends [] (subst (λ ps. IsMerged last ps []) (sym e) (merged_none last)) in
    (all, f ∙ g, A)

-- ---- a merge in place: of `items` so many as `last` are done, `top` is the one under way, then come places that are free, up
-- to the number `next`, and the pieces that are left
pub record JoinsInPlace (all items : List Piece) (last next : ℕ) : Type 0 where
  pub first : Piece
  pub rest : List Piece
  pub all_is : all ≡ first ∷ rest
  pub kept : List Piece
  pub top : Piece
  pub free : List Piece
  pub left : List Piece
  pub items_are : items ≡ kept ++ (top ∷ (free ++ left))
  pub done : length kept ≡ last
  pub seen : length kept + (1 + length free) ≡ next
  pub long : length items ≡ length all
  pub merges : MergesOn first rest kept top left
  pub fits : Each (λ q. LineFitsAt q.x q.line) left

pub joins_begin : (all : List Piece) → StartsAtZero all → Each (λ q. LineFitsAt q.x q.line) all → JoinsInPlace all all 0 1
joins_begin [] z f = absurd z
joins_begin (p ∷ ps) z f = record {
  first = p;
  rest = ps;
  all_is = refl;
  kept = [];
  top = p;
  free = [];
  left = ps;
  items_are = refl;
  done = refl;
  seen = refl;
  long = refl;
  merges = record { rises = z.1; ends = λ more M. (more, refl, M) };
  fits = f.1;
}

pub joins_behind : (all items : List Piece) (last next : ℕ) → JoinsInPlace all items last next → last < next
joins_behind all items last next j = omega (arith, j.done, j.seen)

pub joins_top : (all items : List Piece) (last next : ℕ) (p : Piece) → p ≡ get_or items last p → (j : JoinsInPlace all items last next) → p ≡ j.top
joins_top all items last next p e j = e ∙ ap (λ zs. get_or zs last p) j.items_are ∙ get_or_at j.kept j.top (j.free ++ j.left) p last j.done

pub joins_left : (all items : List Piece) (last next : ℕ) (q : Piece) → next < length items → q ≡ get_or items next q → (j : JoinsInPlace all items last next)
    → j.left ≡ q ∷ drop (next + 1) items
joins_left all items last next q h e j =
    let front = j.kept ++ (j.top ∷ j.free) in
    let n : length front ≡ next = omega (arith, length-append j.kept (j.top ∷ j.free), j.seen) in
    sym (ap (drop next) (j.items_are ∙ sym (append_assoc j.kept (j.top ∷ j.free) j.left)) ∙ drop_at front j.left next n) ∙ next_piece q items next h e

pub joins_fits : (all items : List Piece) (last next : ℕ) (q : Piece) → next < length items → q ≡ get_or items next q → JoinsInPlace all items last next
    → LineFitsAt q.x q.line
joins_fits all items last next q h e j = (subst (Each (λ q. LineFitsAt q.x q.line)) (joins_left all items last next q h e j) j.fits).0

pub joins_skip : (all items : List Piece) (last next : ℕ) (p q : Piece) (b : Bool) → p ≡ get_or items last p → next < length items → q ≡ get_or items next q
    → b ≡ true → (b ≡ true → Continues p q) → JoinsInPlace all items last next → JoinsInPlace all items last (next + 1)
joins_skip all items last next p q b at h e on test j =
    let more = drop (next + 1) items in
    let L = joins_left all items last next q h e j in
    let C = subst (λ z. Continues z q) (joins_top all items last next p at j) (test on) in
    record {
      first = j.first;
      rest = j.rest;
      all_is = j.all_is;
      kept = j.kept;
      top = j.top;
      free = j.free ++ q ∷ [];
      left = more;
      items_are = j.items_are ∙ ap (λ zs. j.kept ++ (j.top ∷ (j.free ++ zs))) L ∙ ap (λ zs. j.kept ++ (j.top ∷ zs)) (sym (append_assoc j.free (q ∷ []) more));
      done = j.done;
      seen = omega (arith, j.seen, length_push j.free q);
      long = j.long;
      merges = merge_skips j.first j.rest j.kept j.top q more C (subst (MergesOn j.first j.rest j.kept j.top) L j.merges);
      fits = (subst (Each (λ q. LineFitsAt q.x q.line)) L j.fits).1;
    }

-- q goes into the first place that is free, or stays where that is its own
record MovesFree (free : List Piece) (q : Piece) (more : List Piece) : Type 0 where
  pub head : Piece
  pub now : List Piece
  pub is : free ++ (q ∷ more) ≡ head ∷ (now ++ more)
  pub long : length now ≡ length free

moves_free : (free : List Piece) (q : Piece) (more : List Piece) → MovesFree free q more
moves_free [] q more = record { head = q; now = []; is = refl; long = refl }
moves_free (m ∷ ms) q more = record {
  head = m;
  now = ms ++ q ∷ [];
  is = ap (λ zs. m ∷ zs) (sym (append_assoc ms (q ∷ []) more));
  long = omega (arith, length_push ms q);
}

pub joins_keep : (all items items2 : List Piece) (last next : ℕ) (p q : Piece) (b : Bool) → p ≡ get_or items last p → next < length items → q ≡ get_or items next q
    → b ≡ false → (Continues p q → b ≡ true) → items2 ≡ set items (last + 1) q → JoinsInPlace all items last next → JoinsInPlace all items2 (last + 1) (next + 1)
joins_keep all items items2 last next p q b at h e off test w j =
    let more = drop (next + 1) items in
    let L = joins_left all items last next q h e j in
    let n = λ (C : Continues j.top q). true≢false (sym (test (subst (λ z. Continues z q) (sym (joins_top all items last next p at j)) C)) ∙ off) in
    let F = moves_free j.free q more in
    let k : length (j.kept ++ j.top ∷ []) ≡ last + 1 = omega (arith, length_push j.kept j.top, j.done) in
    record {
      first = j.first;
      rest = j.rest;
      all_is = j.all_is;
      kept = j.kept ++ j.top ∷ [];
      top = q;
      free = F.now;
      left = more;
      items_are =
          w
          ∙ ap (λ zs. set zs (last + 1) q)
          (j.items_are ∙ ap (λ zs. j.kept ++ (j.top ∷ (j.free ++ zs))) L ∙ ap (λ zs. j.kept ++ (j.top ∷ zs)) F.is ∙ sym (append_assoc j.kept (j.top ∷ []) (F.head ∷ (F.now ++ more))))
          ∙ set_at (j.kept ++ j.top ∷ []) F.head (F.now ++ more) q (last + 1) k;
      done = k;
      seen = omega (arith, k, F.long, j.seen, j.done);
      long = ap length w ∙ length-set items (last + 1) q ∙ j.long;
      merges = merge_keeps j.first j.rest j.kept j.top q more n (subst (MergesOn j.first j.rest j.kept j.top) L j.merges);
      fits = (subst (Each (λ q. LineFitsAt q.x q.line)) L j.fits).1;
    }

-- found is what a merge of these leaves
abbrev Leaves : List Piece → List Piece → Type 0
Leaves [] found = Unit {0}
Leaves (p ∷ ps) found = (kept : List Piece) × (found ≡ p ∷ kept) × IsMerged p ps kept

pub joins_end : (all items found : List Piece) (last next : ℕ) (p : Piece) (ps : List Piece) → length all ≤ next → found ≡ take (last + 1) items → all ≡ p ∷ ps
    → JoinsInPlace all items last next → (kept : List Piece) × (found ≡ p ∷ kept) × IsMerged p ps kept
joins_end all items found last next p ps h f e j =
    let k : length (j.kept ++ j.top ∷ []) ≡ last + 1 = omega (arith, length_push j.kept j.top, j.done) in
    let n : length j.left ≡ 0 =
    omega (arith, h, j.long, j.seen, ap length j.items_are, length-append j.kept (j.top ∷ (j.free ++ j.left)), length-append j.free j.left) in
    let t = f ∙ ap (take (last + 1)) (j.items_are ∙ sym (append_assoc j.kept (j.top ∷ []) (j.free ++ j.left))) ∙ take_at (j.kept ++ j.top ∷ []) (j.free ++ j.left) (last + 1) k in
    subst (λ zs. Leaves zs found) (sym j.all_is ∙ e) (merge_is j.first j.rest j.kept j.top j.left found (nil_from_length j.left n) t j.merges)
