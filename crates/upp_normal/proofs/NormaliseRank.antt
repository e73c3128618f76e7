-- The rule holds from the start before the rank exactly where that piece's values repeat in the last piece.
use Rattle.std.specs.Prelude.{◌≡◌, ℕ, suc, ◌+◌, ◌-◌, ◌<◌, ◌≤◌, pos, List, [], ◌∷◌, ◌++◌, ◌⊎◌, length, cond, None, Some}
use Rattle.std.proofs.Common.{arith, sym, ap, ap₂, ◌∙◌, refl, subst, inl, inr, take, drop, get_or, drop-cons, drop_of_length-le, append_assoc}
use Rattle.std.proofs.lemmas.List.{take-append-drop, take_at, length-take-le, length-append}
use Rattle.rational.specs.Rational.{ℚ, ◌+ℚ◌, ◌-ℚ◌, ◌≤ℚ◌, ◌<ℚ◌, int}
use Rattle.rational.proofs.MinMax.{lt_q_not}
use Rattle.rational.proofs.Over.{lt_q_out}
use Rattle.rational.proofs.Laws.{antisym, le_or_lt, le_of_lt, le_refl, le_trans, lt_le_trans, le_lt_trans, lt_irrefl}
use Rattle.rational.proofs.Linear.{with2, with3, with4}
use Rattle.rational.specs.Extended.{Ext, ◌+ₑ◌}
use Rattle.rational.specs.declared.Extended.TheVariants.{Fin}
use Rattle.upp_curve.specs.declared.affine_segment.line.Piece.{Piece}
use Rattle.upp_curve.specs.affine_segment.Fits.{LineFitsAt}
use Rattle.upp_curve.specs.affine_segment.Reading.{read, piece_value}
use Rattle.upp_curve.specs.affine_segment.Values.{line_value}
use Rattle.upp_curve.specs.Unrolled.{line_later, later, upto, from}
use Rattle.upp_curve.specs.Curve.{repeated}
use Rattle.upp_curve.specs.affine_segment.Pieces.{RisesFrom, StartsAtZero, Each, HasStart}
use Rattle.upp_curve.specs.Normal.{NoMerge, Continues}
use Rattle.upp_curve.specs.Steady.{Repeats, last_of}
use Rattle.upp_normal.specs.Normalising.{IsCycle, IsFront, IsLowest, RepeatsIn, cut_last, Lowers, MoveReads, StepFits, StepsFit}
use Rattle.upp_normal.proofs.UnrolledValues.{line_value_later, read_before}
use Rattle.upp_curve.proofs.Unique.{upto_none, upto_some}
use Rattle.upp_curve.proofs.affine_segment.PieceIn.{value_past, value_at_start, read_stop, read_one, low_start}
use Rattle.upp_curve.proofs.Steady.{read_past}
use Rattle.upp_normal.proofs.Below.{read_from_cut, plain_upto}
use Rattle.upp_curve.proofs.Normal.{start_in_upto, upto_all}
use Rattle.upp_curve.proofs.Repeats.{repeated_first, repeated_rule}
use Rattle.upp_curve.proofs.affine_segment.PieceOrder.{each_map, each_append, rises_left, rises_split, each_mid, has_mid}
use Rattle.upp_normal.proofs.NormaliseLists.{last_is_last, last_in, none_between}
use Rattle.upp_normal.proofs.NormaliseCuts.{split_is, take_upto, drop_upto, zero_upto, no_merge_upto, upto_upto, front_self, front_upto, front_trans, each_front}
use Rattle.upp_normal.proofs.NormalisePeriods.{agree, repeats_after}
use Rattle.upp_normal.proofs.NormaliseBreaks.{lines_apart}
use Rattle.upp_limits.proofs.PieceCounts.{from_none, from_some, from_end, upto_early}

-- ---- a list about one of its pieces
pub upto_mid : (x : ℚ) (es : List Piece) (p : Piece) (bs : List Piece) → Each (λ z. z.x <ℚ x) es → x ≤ℚ p.x → upto x (es ++ p ∷ bs) ≡ es
upto_mid x [] p bs h l = upto_none x p bs l
upto_mid x (a ∷ es) p bs h l = upto_some x a (es ++ p ∷ bs) h.0 ∙ ap (λ zs. a ∷ zs) (upto_mid x es p bs h.1 l)

pub rises_late : (x y : ℚ) (ps : List Piece) → x ≤ℚ y → RisesFrom y ps → Each (λ z. x ≤ℚ z.x) ps
rises_late x y [] h r = tt
rises_late x y (p ∷ ps) h r = (le_trans h (le_of_lt r.0), rises_late x p.x ps (le_trans h (le_of_lt r.0)) r.1)

pub from_late : (x y : ℚ) (ps : List Piece) → RisesFrom y ps → Each (λ z. x ≤ℚ z.x) (from x ps)
from_late x y [] r = subst (Each (λ z. x ≤ℚ z.x)) (sym (from_end x)) tt
from_late x y (p ∷ ps) r = elim (le_or_lt x p.x) [
  | inl l ↦ subst (Each (λ z. x ≤ℚ z.x)) (sym (from_none x p ps l)) (l, rises_late x p.x ps l r.1)
  | inr l ↦ subst (Each (λ z. x ≤ℚ z.x)) (sym (from_some x p ps l)) (from_late x p.x ps r.1)
]

read_stays : (p : Piece) (ps : List Piece) (t : ℚ) → Each (λ z. t <ℚ z.x) ps → read (p ∷ ps) t ≡ piece_value p t
read_stays p [] t h = read_one p t
read_stays p (q ∷ qs) t h = read_stop p q qs t h.0

-- ---- the piece before the rank
pub record Before (ps : List Piece) (rank : ℚ) (p : Piece) : Type 0 where
  pub low : p.x <ℚ rank
  pub nonneg : int (pos 0) ≤ℚ p.x
  pub between : Each (λ z. z.x <ℚ rank → z.x ≤ℚ p.x) ps
  pub reads : (t : ℚ) → p.x ≤ℚ t → t <ℚ rank → read ps t ≡ piece_value p t
  pub has : HasStart p.x ps
  pub count : length (upto rank ps) ≡ suc (length (upto p.x ps))

before_parts : (rank : ℚ) (es : List Piece) (p : Piece) (bs : List Piece) → StartsAtZero (es ++ p ∷ bs) → p.x <ℚ rank → Each (λ z. rank ≤ℚ z.x) bs
    → upto rank (es ++ p ∷ bs) ≡ es ++ p ∷ [] → Before (es ++ p ∷ bs) rank p
before_parts rank es p bs zero low late is =
    let k = rises_split (int (pos 0) -ℚ int (pos 1)) es p bs (low_start (es ++ p ∷ bs) zero) in
    let x = p.x in
    let early = k.0 in
    record {
      low = low;
      nonneg = nonneg_mid es zero early;
      between =
          each_append (λ z. z.x <ℚ rank → z.x ≤ℚ p.x) es (p ∷ bs) (each_map (λ z. z.x <ℚ p.x) (λ z. z.x <ℚ rank → z.x ≤ℚ p.x) (λ z h l. le_of_lt h) es early)
          ((λ l. le_refl p.x), each_map (λ z. rank ≤ℚ z.x) (λ z. z.x <ℚ rank → z.x ≤ℚ p.x) (λ z h l. absurd (lt_irrefl rank (le_lt_trans h l))) bs late);
      reads = λ t h l.
          read_from_cut es p bs t (each_map (λ z. z.x <ℚ p.x) (λ z. z.x ≤ℚ t) (λ z m. le_trans (le_of_lt m) h) es early) h
          ∙ read_stays p bs t (each_map (λ z. rank ≤ℚ z.x) (λ z. t <ℚ z.x) (λ z m. lt_le_trans l m) bs late);
      has = has_mid es p bs;
      count = ap length is ∙ length_more es p ∙ ap suc (ap length (sym (upto_mid p.x es p bs early (le_refl p.x))));
    }
  where
    nonneg_mid : (es : List Piece) → StartsAtZero (es ++ p ∷ bs) → Each (λ z. z.x <ℚ p.x) es → int (pos 0) ≤ℚ p.x
    nonneg_mid [] z e = subst (λ x. int (pos 0) ≤ℚ x) (sym z.0) (le_refl (int (pos 0)))
    nonneg_mid (a ∷ es) z e = le_of_lt (subst (λ x. x <ℚ p.x) z.0 e.0)

    length_more : (es : List Piece) (p : Piece) → length (es ++ p ∷ []) ≡ suc (length es)
    length_more es p = omega (arith, length-append es (p ∷ []))

-- a list about the piece at an index
index_split : (ps : List Piece) (i : ℕ) (z : Piece) → i < length ps → ps ≡ take i ps ++ get_or ps i z ∷ drop (suc i) ps
index_split ps i z h = sym (take-append-drop i ps) ∙ ap (λ zs. take i ps ++ zs) (drop-cons ps i z h)

pub before_is : (ps : List Piece) (rank : ℚ) (n : ℕ) (z : Piece) → StartsAtZero ps → n ≡ length (upto rank ps) → 0 < n → Before ps rank (get_or ps (n - 1) z)
before_is ps rank n z zero count some =
    let i = n - 1 in
    let p = get_or ps i z in
    let whole_len : length (upto rank ps) + length (from rank ps) ≡ length ps = sym (length-append (upto rank ps) (from rank ps)) ∙ ap length (split_is rank ps) in
    let inside : i < length ps = omega arith in
    let next : suc i ≡ length (upto rank ps) = omega arith in
    let split = index_split ps i z inside in
    let rest : drop (suc i) ps ≡ from rank ps = ap (λ k. drop k ps) next ∙ drop_upto rank ps in
    let split2 : ps ≡ take i ps ++ p ∷ from rank ps = split ∙ ap (λ zs. take i ps ++ p ∷ zs) rest in
    let front : upto rank ps ≡ take i ps ++ p ∷ [] = sym (take_upto rank ps) ∙ ap (λ k. take k ps) (sym next) ∙ taken i p inside split2 in
    let zero2 : StartsAtZero (take i ps ++ p ∷ from rank ps) = subst StartsAtZero split2 zero in
    let low : p.x <ℚ rank = each_mid (λ z. z.x <ℚ rank) (take i ps) p [] (subst (Each (λ z. z.x <ℚ rank)) front (upto_early rank ps)) in
    let late = from_late rank _ ps (low_start ps zero) in
    subst (λ zs. Before zs rank p) (sym split2) (before_parts rank (take i ps) p (from rank ps) zero2 low late (sym (ap (upto rank) split2) ∙ front))
  where
    taken : (i : ℕ) (p : Piece) → i < length ps → ps ≡ take i ps ++ p ∷ from rank ps → take (suc i) ps ≡ take i ps ++ p ∷ []
    taken i p h e =
        let n : length (take i ps ++ p ∷ []) ≡ suc i = omega (arith, length-append (take i ps) (p ∷ []), length-take-le i ps (omega arith)) in
        ap (take (suc i)) (e ∙ sym (append_assoc (take i ps) (p ∷ []) (from rank ps))) ∙ take_at (take i ps ++ p ∷ []) (from rank ps) (suc i) n

-- ---- the last piece
pub record LastBreak (ps : List Piece) (last : Piece) : Type 0 where
  pub w : Piece
  pub early : w.x <ℚ last.x
  pub differs : ¬ (Continues w last)
  pub reads : (t : ℚ) → w.x <ℚ t → t <ℚ last.x → read ps t ≡ line_value w.line t

pub record Last (ps : List Piece) (last : Piece) : Type 0 where
  pub before : List Piece
  pub whole : ps ≡ before ++ last ∷ []
  pub early : Each (λ z. z.x <ℚ last.x) before
  pub reads : (t : ℚ) → last.x ≤ℚ t → read ps t ≡ piece_value last t
  pub break : int (pos 0) <ℚ last.x → LastBreak ps last

last_break : (es : List Piece) (last : Piece) → StartsAtZero (es ++ last ∷ []) → NoMerge (es ++ last ∷ []) → Each (λ z. z.x <ℚ last.x) es → int (pos 0) <ℚ last.x → LastBreak (es ++ last ∷ []) last
last_break [] last zero n e h = absurd (lt_irrefl (int (pos 0)) (subst (λ x. int (pos 0) <ℚ x) zero.0 h))
last_break (a ∷ es) last zero n e h = record {
  w = last_of a es;
  early = last_in (λ z. z.x <ℚ last.x) a es e.0 e.1;
  differs = none_between a es last [] n;
  reads = λ t l m. read_before a es last [] t m ∙ read_past (a ∷ es) (last_of a es).x t (last_is_last a es (rises_left a.x es (last ∷ []) zero.1)) l;
}

pub last_is : (ps : List Piece) (z : Piece) → StartsAtZero ps → NoMerge ps → 0 < length ps → Last ps (get_or ps (length ps - 1) z)
last_is ps z zero n some =
    let i = length ps - 1 in
    let last = get_or ps i z in
    let inside : i < length ps = omega arith in
    let all : length ps ≤ suc i = omega arith in
    let none : drop (suc i) ps ≡ [] = drop_of_length-le ps all in
    let split : ps ≡ take i ps ++ last ∷ [] = index_split ps i z inside ∙ ap (λ zs. take i ps ++ last ∷ zs) none in
    let zero2 = subst StartsAtZero split zero in
    let n2 = subst NoMerge split n in
    let early = (rises_split _ (take i ps) last [] (low_start _ zero2)).0 in
    record {
      before = take i ps;
      whole = split;
      early = early;
      reads = λ t h.
          ap (λ zs. read zs t) split ∙ read_from_cut (take i ps) last [] t (each_map (λ z. z.x <ℚ last.x) (λ z. z.x ≤ℚ t) (λ z m. le_trans (le_of_lt m) h) (take i ps) early) h ∙ read_one last t;
      break = λ h. subst (λ zs. LastBreak zs last) (sym split) (last_break (take i ps) last zero2 n2 early h);
    }

-- the pieces without the last where it does not start before `end` are those that start before `end`
pub cut_last_is : (ps : List Piece) (last : Piece) (end : ℚ) → Last ps last → last.x ≤ℚ end → cut_last ps last.x end ≡ upto end ps
unfolding cut_last
cut_last_is ps last end L h = elim (le_or_lt end last.x) [
  | inr l ↦
      let all : Each (λ z. z.x <ℚ end) ps =
      subst (Each (λ z. z.x <ℚ end)) (sym L.whole) (each_append (λ z. z.x <ℚ end) L.before (last ∷ []) (each_map (λ z. z.x <ℚ last.x) (λ z. z.x <ℚ end) (λ z m. lt_le_trans m h) L.before L.early) (l, tt)) in
      ap (λ b. cond b ps (take (length ps - 1) ps)) (lt_q_out last.x end l) ∙ sym (upto_all end ps all)
  | inl l ↦
      let n : length L.before ≡ length ps - 1 = omega (arith, ap length L.whole, length-append L.before (last ∷ [])) in
      ap (λ b. cond b ps (take (length ps - 1) ps)) (lt_q_not last.x end l)
      ∙ ap (take (length ps - 1)) L.whole ∙ take_at L.before (last ∷ []) (length ps - 1) n
      ∙ sym (ap (upto end) L.whole ∙ upto_mid end L.before last [] (each_map (λ z. z.x <ℚ last.x) (λ z. z.x <ℚ end) (λ z m. lt_le_trans m h) L.before L.early) l)
]

-- ---- the rule from the start before
shifted_value : (p : Piece) (d c t : ℚ) → line_value (line_later d c p.line) (t +ℚ d) ≡ line_value p.line t +ₑ Fin c
shifted_value p d c t =
    let same : (t +ℚ d) -ℚ d ≡ t = with2 t d (λ c. omega (arith, c.le, c.lt, c.same)) in
    line_value_later p.line d c (t +ℚ d) ∙ ap (λ z. line_value p.line z +ₑ Fin c) same

pub repeats_before : (ps : List Piece) (r d c : ℚ) (p last : Piece) → int (pos 0) <ℚ d → Before ps r p → Last ps last → RepeatsIn p last d c → Repeats (repeated (read ps) r d c) p.x d c
repeats_before ps r d c p last some B L I = record { rule = λ t h. by_rank t h (le_or_lt r t) }
  where
    value : (t : ℚ) → p.x ≤ℚ t → (t ≤ℚ p.x) ⊎ (p.x <ℚ t) → piece_value last (t +ℚ d) ≡ piece_value p t +ₑ Fin c
    value t h (inl l) =
        let e : p.x ≡ t = antisym (h, l) in
        subst (λ t. piece_value last (t +ℚ d) ≡ piece_value p t +ₑ Fin c) e (I.at ∙ ap (λ v. v +ₑ Fin c) (sym (value_at_start p)))
    value t h (inr l) =
        let x = p.x in
        let y = last.x in
        let k = I.early in
        let late : last.x <ℚ t +ℚ d = with4 x y t d (λ c. omega (arith, c.le, c.lt, c.same)) in
        value_past last (t +ℚ d) late ∙ ap (λ z. line_value z (t +ℚ d)) I.line ∙ shifted_value p d c t ∙ ap (λ v. v +ₑ Fin c) (sym (value_past p t l))

    by_rank : (t : ℚ) → p.x ≤ℚ t → (r ≤ℚ t) ⊎ (t <ℚ r) → repeated (read ps) r d c (t +ℚ d) ≡ repeated (read ps) r d c t +ₑ Fin c
    by_rank t h (inl l) = (repeated_rule (read ps) r d c some).rule t l
    by_rank t h (inr l) =
        let x = p.x in
        let y = last.x in
        let k = I.early in
        let high : t +ℚ d <ℚ r +ℚ d = with3 t r d (λ c. omega (arith, c.le, c.lt, c.same)) in
        let here : t <ℚ r +ℚ d = with3 t r d (λ c. omega (arith, c.le, c.lt, c.same)) in
        let late : last.x ≤ℚ t +ℚ d = with4 x y t d (λ c. omega (arith, c.le, c.lt, c.same)) in
        repeated_first (read ps) r d c (t +ℚ d) some high ∙ L.reads (t +ℚ d) late ∙ value t h (le_or_lt t p.x)
        ∙ ap (λ v. v +ₑ Fin c) (sym (repeated_first (read ps) r d c t some here ∙ B.reads t h l))

-- and where the rule holds from there, the values lie in the last piece
pub repeats_in_last : (ps : List Piece) (r d c : ℚ) (p last : Piece) → int (pos 0) <ℚ d → Before ps r p → Last ps last → last.x <ℚ r +ℚ d
    → Repeats (repeated (read ps) r d c) p.x d c → RepeatsIn p last d c
repeats_in_last ps r d c p last some B L room R =
    let early = in_time (le_or_lt last.x (p.x +ℚ d)) in
    let x = p.x in
    let low = B.low in
    let high : x +ℚ d <ℚ r +ℚ d = with3 x r d (λ c. omega (arith, c.le, c.lt, c.same)) in
    let here : x <ℚ r +ℚ d = with3 x r d (λ c. omega (arith, c.le, c.lt, c.same)) in
    record {
      early = early;
      line = line;
      at =
          sym (L.reads (x +ℚ d) early) ∙ sym (repeated_first (read ps) r d c (x +ℚ d) some high) ∙ R.rule x (le_refl x)
          ∙ ap (λ v. v +ₑ Fin c) (repeated_first (read ps) r d c x some here ∙ B.reads x (le_refl x) low ∙ value_at_start p);
    }
  where
    on_line : (t : ℚ) → p.x ≤ℚ t → p.x <ℚ t → t <ℚ r → repeated (read ps) r d c t ≡ line_value p.line t
    on_line t h l k = repeated_first (read ps) r d c t some (with3 t r d (λ c. omega (arith, c.le, c.lt, c.same))) ∙ B.reads t h k ∙ value_past p t l

    line : last.line ≡ line_later d c p.line
    line =
        let y = last.x in
        let low : y -ℚ d <ℚ r = with3 y r d (λ c. omega (arith, c.le, c.lt, c.same)) in
        lines_apart (repeated (read ps) r d c) p.line last.line p.x (y -ℚ d) p.x r d c B.low low B.low R on_line (λ t h l k.
        let late : y <ℚ t +ℚ d = with3 y t d (λ c. omega (arith, c.le, c.lt, c.same)) in
        let high : t +ℚ d <ℚ r +ℚ d = with3 t r d (λ c. omega (arith, c.le, c.lt, c.same)) in
        repeated_first (read ps) r d c (t +ℚ d) some high ∙ L.reads (t +ℚ d) (le_of_lt late) ∙ value_past last (t +ℚ d) late)

    -- else the last piece would go on with the one before it
    too_late : p.x +ℚ d <ℚ last.x → LastBreak ps last → ⊥
    too_late l K =
        let x = p.x in
        let y = last.x in
        let w = K.w in
        let v = w.x in
        let e = K.early in
        let high = y -ℚ d in
        let a : x <ℚ high = with3 x y d (λ c. omega (arith, c.le, c.lt, c.same)) in
        let b : v -ℚ d <ℚ high = with3 v y d (λ c. omega (arith, c.le, c.lt, c.same)) in
        let inside : high <ℚ r = with3 y r d (λ c. omega (arith, c.le, c.lt, c.same)) in
        let back : high +ℚ d ≡ y = with2 y d (λ c. omega (arith, c.le, c.lt, c.same)) in
        let before : w.line ≡ line_later d c p.line =
        lines_apart (repeated (read ps) r d c) p.line w.line p.x (v -ℚ d) p.x high d c a b a R (λ t h m k. on_line t h m (with3 t high r (λ c. omega (arith, c.le, c.lt, c.same)))) (λ t h m k.
        let late : v <ℚ t +ℚ d = with3 v t d (λ c. omega (arith, c.le, c.lt, c.same)) in
        let soon : t +ℚ d <ℚ y = with3 t y d (λ c. omega (arith, c.le, c.lt, c.same)) in
        let end : t +ℚ d <ℚ r +ℚ d = with4 t y r d (λ c. omega (arith, c.le, c.lt, c.same)) in
        repeated_first (read ps) r d c (t +ℚ d) some end ∙ K.reads (t +ℚ d) late soon) in
        let at : last.at ≡ line_value w.line y =
        sym (value_at_start last) ∙ sym (L.reads y (le_refl y)) ∙ sym (repeated_first (read ps) r d c y some room) ∙ ap (repeated (read ps) r d c) (sym back)
        ∙ R.rule high (le_of_lt a) ∙ ap (λ v. v +ₑ Fin c) (on_line high (le_of_lt a) a inside) ∙ sym (shifted_value p d c high)
        ∙ ap₂ line_value (sym before) back in
        K.differs (at, line ∙ sym before)

    in_time : (last.x ≤ℚ p.x +ℚ d) ⊎ (p.x +ℚ d <ℚ last.x) → last.x ≤ℚ p.x +ℚ d
    in_time (inl l) = l
    in_time (inr l) =
        let x = p.x in
        let y = last.x in
        let z = B.nonneg in
        absurd (too_late l (L.break (with3 x y d (λ c. omega (arith, c.le, c.lt, c.same)))))

-- ---- a step: the rank goes to the start before it
pub record Lowered (ps new : List Piece) (r d c x : ℚ) : Type 0 where
  pub cycle : IsCycle new x d
  pub count : length (upto r ps) ≡ suc (length (upto x new))
  pub same : (t : ℚ) → int (pos 0) ≤ℚ t → repeated (read new) x d c t ≡ repeated (read ps) r d c t

pub lowered_is : (ps new : List Piece) (r d c : ℚ) (p last : Piece) → IsCycle ps r d → Before ps r p → Last ps last → RepeatsIn p last d c → new ≡ upto (p.x +ℚ d) ps → Lowered ps new r d c p.x
lowered_is ps new r d c p last C B L I e =
    let some = C.some in
    let x = p.x in
    let end = x +ℚ d in
    let nonneg = B.nonneg in
    let low = B.low in
    let after : x <ℚ end = with2 x d (λ c. omega (arith, c.le, c.lt, c.same)) in
    let positive : int (pos 0) <ℚ end = with2 x d (λ c. omega (arith, c.le, c.lt, c.same)) in
    let f = repeated (read ps) r d c in
    let R : Repeats f x d c = repeats_before ps r d c p last some B L I in
    subst (λ zs. Lowered ps zs r d c x) (sym e) record {
      cycle = record {
        starts = zero_upto end ps positive C.starts;
        none = no_merge_upto end ps C.none;
        has = start_in_upto _ x end ps (low_start ps C.starts) B.has after;
        nonneg = nonneg;
        some = some;
        inside = upto_early end ps;
      };
      count = B.count ∙ ap suc (ap length (sym (upto_upto x end ps (le_of_lt after))));
      same = agree (repeated (read (upto end ps)) x d c) f x d c some (repeated_rule (read (upto end ps)) x d c some) R
          (λ t h m. repeated_first (read (upto end ps)) x d c t some m ∙ plain_upto ps end t C.starts h m
          ∙ sym (repeated_first (read ps) r d c t some (with4 t x r d (λ c. omega (arith, c.le, c.lt, c.same))))) nonneg;
    }

-- ---- the loop
-- what it keeps, of a curve with f's values whose rank was `rank`
pub record LowersOn (given ps : List Piece) (first : ℕ) (low d c rank : ℚ) (f : ℚ → Ext) : Type 0 where
  pub front : IsFront ps given
  pub cycle : IsCycle ps low d
  pub first_is : first ≡ length (upto low ps)
  pub lower : low ≤ℚ rank
  pub same : (t : ℚ) → int (pos 0) ≤ℚ t → repeated (read ps) low d c t ≡ f t

pub lowers_begins : (ps : List Piece) (first : ℕ) (rank d c : ℚ) → IsCycle ps rank d → first ≡ length (upto rank ps) → LowersOn ps ps first rank d c rank (repeated (read ps) rank d c)
lowers_begins ps first rank d c C e = record { front = front_self ps; cycle = C; first_is = e; lower = le_refl rank; same = λ t h. refl }

some_pieces : (x : ℚ) (ps : List Piece) → HasStart x ps → 0 < length ps
some_pieces x [] h = absurd h
some_pieces x (p ∷ ps) h = omega arith

last_inside : (ps : List Piece) (last : Piece) (x : ℚ) → Last ps last → Each (λ z. z.x <ℚ x) ps → last.x <ℚ x
last_inside ps last x L h = each_mid (λ z. z.x <ℚ x) L.before last [] (subst (Each (λ z. z.x <ℚ x)) L.whole h)

-- one step down
pub lowers_more : (given ps new : List Piece) (first : ℕ) (low d c rank x : ℚ) (f : ℚ → Ext) (z : Piece) → LowersOn given ps first low d c rank f → 0 < first
    → Lowers ps new first d c z (Some x)
    → LowersOn given new (first - 1) x d c rank f
lowers_more given ps new first low d c rank x f z K some step =
    let p = get_or ps (first - 1) z in
    let last = get_or ps (length ps - 1) z in
    let C = K.cycle in
    let B : Before ps low p = before_is ps low first z C.starts K.first_is some in
    let L : Last ps last = last_is ps z C.starts C.none (some_pieces low ps C.has) in
    let new_is : new ≡ upto (p.x +ℚ d) ps = step.2 ∙ cut_last_is ps last (p.x +ℚ d) L step.1.early in
    let W = lowered_is ps new low d c p last C B L step.1 new_is in
    subst (λ y. LowersOn given new (first - 1) y d c rank f) (sym step.0) record {
      front = front_trans new ps given (subst (λ zs. IsFront zs ps) (sym new_is) (front_upto (p.x +ℚ d) ps)) K.front;
      cycle = W.cycle;
      first_is = omega (arith, K.first_is, W.count);
      lower = le_trans (le_of_lt B.low) K.lower;
      same = λ t h. W.same t h ∙ K.same t h;
    }

abbrev pub NoneLower : List Piece → ℚ → ℚ → ℚ → Type 0
NoneLower ps low d c = Each (λ p. p.x <ℚ low → ¬ (Repeats (repeated (read ps) low d c) p.x d c)) ps

pub lowest_is : (given ps : List Piece) (first : ℕ) (low d c rank : ℚ) (f : ℚ → Ext) → LowersOn given ps first low d c rank f → NoneLower ps low d c → IsLowest given ps low d c rank f
lowest_is given ps first low d c rank f K n = record { front = K.front; cycle = K.cycle; lower = K.lower; same = K.same; least = n }

-- no start before the rank is left
pub lowers_to_zero : (given ps : List Piece) (first : ℕ) (low d c rank : ℚ) (f : ℚ → Ext) → LowersOn given ps first low d c rank f → first ≡ 0 → NoneLower ps low d c
lowers_to_zero given ps first low d c rank f K e =
    let none : from low ps ≡ ps = none_before (upto low ps) (omega (arith, e, K.first_is)) (split_is low ps) in
    each_map (λ z. low ≤ℚ z.x) (λ z. z.x <ℚ low → ¬ (Repeats (repeated (read ps) low d c) z.x d c)) (λ z h l R. lt_irrefl low (le_lt_trans h l)) ps
    (subst (Each (λ z. low ≤ℚ z.x)) none (from_late low _ ps (low_start ps K.cycle.starts)))
  where
    none_before : (before : List Piece) → length before ≡ 0 → before ++ from low ps ≡ ps → from low ps ≡ ps
    none_before [] e w = w
    none_before (b ∷ bs) e w = absurd (omega arith)

-- the rule does not hold from the start before the rank, so from none before it
pub lowers_no_more : (given ps : List Piece) (first : ℕ) (low d c rank : ℚ) (f : ℚ → Ext) (z : Piece) → LowersOn given ps first low d c rank f → 0 < first
    → (new : List Piece) → Lowers ps new first d c z None → IsLowest given new low d c rank f
lowers_no_more given ps first low d c rank f z K some new step =
    let p = get_or ps (first - 1) z in
    let last = get_or ps (length ps - 1) z in
    let C = K.cycle in
    let B : Before ps low p = before_is ps low first z C.starts K.first_is some in
    let L : Last ps last = last_is ps z C.starts C.none (some_pieces low ps C.has) in
    let room = last_inside ps last (low +ℚ d) L C.inside in
    let none = each_map (λ z. z.x <ℚ low → z.x ≤ℚ p.x) (λ z. z.x <ℚ low → ¬ (Repeats (repeated (read ps) low d c) z.x d c))
    (λ z h l R. step.1 (repeats_in_last ps low d c p last C.some B L room (repeats_after (repeated (read ps) low d c) z.x p.x d c (h l) R))) ps B.between in
    subst (λ zs. IsLowest given zs low d c rank f) (sym step.0) (lowest_is given ps first low d c rank f K none)

-- ---- the test, from what the code computes
pub in_last : (p last moved : Piece) (d c : ℚ) (reached : Ext) → moved ≡ later d c p → last.x ≤ℚ moved.x → last.line ≡ moved.line → reached ≡ piece_value last moved.x → reached ≡ moved.at
    → RepeatsIn p last d c × (moved.x ≡ p.x +ℚ d)
in_last p last moved d c reached e early line value at = (
  record {
    early = subst (λ z. last.x ≤ℚ z.x) e early;
    line = line ∙ ap (λ z. z.line) e;
    at = ap (λ z. piece_value last z.x) (sym e) ∙ sym value ∙ at ∙ ap (λ z. z.at) e;
  },
  ap (λ z. z.x) e,
)

pub late_not_in : (p last moved : Piece) (d c : ℚ) → moved ≡ later d c p → moved.x <ℚ last.x → ¬ (RepeatsIn p last d c)
late_not_in p last moved d c e late I = lt_irrefl moved.x (lt_le_trans late (subst (λ z. last.x ≤ℚ z.x) (sym e) I.early))

pub each_index : (P : Piece → Type 0) (ps : List Piece) (i : ℕ) (z : Piece) → i < length ps → Each P ps → P (get_or ps i z)
each_index P ps i z h e = each_mid P (take i ps) (get_or ps i z) (drop (suc i) ps) (subst (Each P) (index_split ps i z h) e)

-- a step down fits where each piece before the first rank, moved by a period, does
pub step_fits : (given ps : List Piece) (first : ℕ) (low d c rank : ℚ) (f : ℚ → Ext) (z : Piece) → LowersOn given ps first low d c rank f → 0 < first → StepsFit given rank d c → StepFits ps first d c z
step_fits given ps first low d c rank f z K some S =
    let p = get_or ps (first - 1) z in
    let C = K.cycle in
    let B : Before ps low p = before_is ps low first z C.starts K.first_is some in
    let len : length (upto low ps) + length (from low ps) ≡ length ps = sym (length-append (upto low ps) (from low ps)) ∙ ap length (split_is low ps) in
    let inside : first - 1 < length ps = omega (arith, len, K.first_is) in
    let M = each_index (λ p. p.x <ℚ rank → MoveReads d c p) ps (first - 1) z inside (each_front (λ p. p.x <ℚ rank → MoveReads d c p) ps given K.front S) (lt_le_trans B.low K.lower) in
    (M.moved, λ e. subst (LineFitsAt (p.x +ℚ d)) (sym e) M.reached)
