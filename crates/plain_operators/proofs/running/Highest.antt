-- The supremum between two times, piece by piece.
use Rattle.std.specs.Prelude.{◌≡◌, ℕ, ◌+◌, ◌≤◌, pos, List, length, drop, ◌⊎◌}
use Rattle.std.proofs.Common.{drop_of_length-le, sym, ap, ap₂, ◌∙◌, refl, subst, inl, inr}
use Rattle.rational.specs.Rational.{ℚ, ◌≤ℚ◌, ◌<ℚ◌, int}
use Rattle.rational.specs.MinMax.{min_q, max_q}
use Rattle.rational.specs.Extended.{Ext, ◌≤ₑ◌, ◌<ₑ◌}
use Rattle.rational.specs.declared.Extended.TheVariants.{Fin}
use Rattle.rational.proofs.Laws.{antisym, le_refl, le_of_lt, le_or_lt, le_trans, lt_irrefl, lt_le_trans, le_lt_trans}
use Rattle.rational.proofs.ExtendedOrder.{le_ext_trans, same_le_ext, lt_le_ext}
use Rattle.rational.proofs.MinMax.{max_q_one, max_q_ge_left, max_q_ge_right, max_q_le, min_q_one, min_q_le_left, min_q_le_right, below_min_in}
use Rattle.rational.proofs.Stretch.{line_supremum}
use Rattle.upp_curve.specs.declared.affine_segment.line.Line.{Line}
use Rattle.upp_curve.specs.declared.affine_segment.line.Piece.{Piece}
use Rattle.upp_curve.specs.affine_segment.Values.{line_at}
use Rattle.upp_curve.specs.affine_segment.Reading.{read}
use Rattle.upp_curve.specs.affine_segment.Fits.{LineFits}
use Rattle.plain_operators.specs.declared.running.stretch.Stretch.{Stretch}
use Rattle.plain_operators.specs.running.Scans.{start_or, Until, IsStretch, IsWindow, IsLevel, IsSupremumIn}
use Rattle.plain_operators.specs.running.Between.{FitsAtBoth, IsLevelBetween, Above, IsHighestIn}
use Rattle.plain_operators.proofs.running.Levels.{line_top}
use Rattle.plain_operators.proofs.running.Suprema.{IsLineOn}
use Rattle.plain_operators.proofs.running.SupremumLoop.{first_start}

-- ---- one piece
-- along the line, past its start or from `from` on
along : (f : ℚ → Ext) (b e from to : ℚ) (l : Line) (t : ℚ) → IsLineOn f b e l → b <ℚ t → t <ℚ e → from ≤ℚ t → t <ℚ to
    → f t ≤ₑ Fin (max_q (line_at l (max_q b from)) (line_at l (min_q e to)))
along f b e from to l t on past early least soon =
    subst (λ z. z ≤ₑ Fin (max_q (line_at l (max_q b from)) (line_at l (min_q e to)))) (sym (on t past early))
    (line_top l (max_q b from) t (min_q e to) (max_q_le b from t (le_of_lt past) least) (le_of_lt (below_min_in e to t early soon)))

close_along : (f : ℚ → Ext) (b e from to y : ℚ) (l : Line) → IsLineOn f b e l → max_q b from <ℚ min_q e to
    → y <ℚ max_q (line_at l (max_q b from)) (line_at l (min_q e to)) → Above f b e from to y
close_along f b e from to y l on some h =
    let (s, m) = (line_supremum (max_q b from) (min_q e to) l.icept l.slope some).near y h in
    let past = le_lt_trans (max_q_ge_left b from) s.above in
    let early = lt_le_trans s.below (min_q_le_left e to) in
    record {
      at = s.at;
      late = le_of_lt past;
      soon = early;
      least = le_of_lt (le_lt_trans (max_q_ge_right b from) s.above);
      early = lt_le_trans s.below (min_q_le_right e to);
      more = subst (λ z. Fin y <ₑ z) (sym (on s.at past early)) m;
    }

pub part_inside : (f : ℚ → Ext) (b e from to : ℚ) (l : Line) → IsLineOn f b e l → max_q b from <ℚ min_q e to → b <ℚ from
    → IsHighestIn f b e from to (max_q (line_at l (max_q b from)) (line_at l (min_q e to)))
part_inside f b e from to l on some late = record {
  above = λ t low high least early. along f b e from to l t on (lt_le_trans late least) high least early;
  near = λ y h. inr (close_along f b e from to y l on some h);
}

pub part_start : (f : ℚ → Ext) (b e from to v : ℚ) (l : Line) → IsLineOn f b e l → f b ≡ Fin v → max_q b from <ℚ min_q e to → from ≤ℚ b
    → IsHighestIn f b e from to (max_q v (max_q (line_at l (max_q b from)) (line_at l (min_q e to))))
part_start f b e from to v l on at some early = record { above = over; near = close }
  where
    over : (t : ℚ) → b ≤ℚ t → t <ℚ e → from ≤ℚ t → t <ℚ to → f t ≤ₑ Fin (max_q v (max_q (line_at l (max_q b from)) (line_at l (min_q e to))))
    over t low high least soon = elim (le_or_lt t b) [
      | inl m ↦
          le_ext_trans (f t) (Fin v) (Fin (max_q v (max_q (line_at l (max_q b from)) (line_at l (min_q e to))))) (same_le_ext (ap f (antisym (m, low)) ∙ at))
          (max_q_ge_left v (max_q (line_at l (max_q b from)) (line_at l (min_q e to))))
      | inr m ↦
          le_ext_trans (f t) (Fin (max_q (line_at l (max_q b from)) (line_at l (min_q e to)))) (Fin (max_q v (max_q (line_at l (max_q b from)) (line_at l (min_q e to)))))
          (along f b e from to l t on m high least soon) (max_q_ge_right v (max_q (line_at l (max_q b from)) (line_at l (min_q e to))))
    ]

    close : (y : ℚ) → y <ℚ max_q v (max_q (line_at l (max_q b from)) (line_at l (min_q e to))) → (y <ℚ int (pos 0)) ⊎ Above f b e from to y
    close y h = elim (max_q_one v (max_q (line_at l (max_q b from)) (line_at l (min_q e to)))) [
      | inl q ↦
          let whole = le_lt_trans (max_q_ge_left b from) some in
          inr record {
            at = b;
            late = le_refl b;
            soon = lt_le_trans whole (min_q_le_left e to);
            least = early;
            early = lt_le_trans whole (min_q_le_right e to);
            more = subst (λ z. Fin y <ₑ z) (sym at) (subst (λ z. y <ℚ z) q h);
          }
      | inr q ↦ inr (close_along f b e from to y l on some (subst (λ z. y <ℚ z) q h))
    ]

pub part_none : (f : ℚ → Ext) (b e from to : ℚ) → min_q e to ≤ℚ max_q b from → IsHighestIn f b e from to (int (pos 0))
part_none f b e from to none = record {
  above = λ t low high least early. absurd (lt_irrefl t (lt_le_trans (below_min_in e to t high early) (le_trans none (max_q_le b from t low least))));
  near = λ y h. inl h;
}

-- ---- its line's values at the ends of what is between both times
pub low_fits : (from to : ℚ) (ps : List Piece) (end : ℚ) (i : ℕ) (s : Stretch) → FitsAtBoth from to ps → IsStretch ps end i s → LineFits (max_q s.from from) s.line
low_fits from to ps end i s F S = elim (max_q_one s.from from) [
  | inl e ↦ subst (λ x. LineFits x s.line) (sym e) S.right_fits
  | inr e ↦ subst (λ x. LineFits x s.line) (sym e) (F s.line S.line).0
]

pub high_fits : (from to : ℚ) (ps : List Piece) (end : ℚ) (i : ℕ) (s : Stretch) → FitsAtBoth from to ps → IsStretch ps end i s → LineFits (min_q s.to to) s.line
high_fits from to ps end i s F S = elim (min_q_one s.to to) [
  | inl e ↦ subst (λ x. LineFits x s.line) (sym e) S.left_fits
  | inr e ↦ subst (λ x. LineFits x s.line) (sym e) (F s.line S.line).1
]

low_level : (from to : ℚ) (ps : List Piece) (end : ℚ) (i : ℕ) (s : Stretch) → IsStretch ps end i s → IsLevelBetween end from to ps (line_at s.line (max_q s.from from))
low_level from to ps end i s S = elim (max_q_one s.from from) [
  | inl e ↦ inr (inl (subst (IsLevel end ps) (S.right ∙ ap (line_at s.line) (sym e)) S.right_level))
  | inr e ↦ inr (inr (s.line, S.line, inl (ap (line_at s.line) e)))
]

high_level : (from to : ℚ) (ps : List Piece) (end : ℚ) (i : ℕ) (s : Stretch) → IsStretch ps end i s → IsLevelBetween end from to ps (line_at s.line (min_q s.to to))
high_level from to ps end i s S = elim (min_q_one s.to to) [
  | inl e ↦ inr (inl (subst (IsLevel end ps) (S.left ∙ ap (line_at s.line) (sym e)) S.left_level))
  | inr e ↦ inr (inr (s.line, S.line, inr (ap (line_at s.line) e)))
]

pub greater_between : (end from to : ℚ) (ps : List Piece) (v w : ℚ) → IsLevelBetween end from to ps v → IsLevelBetween end from to ps w
    → IsLevelBetween end from to ps (max_q v w)
greater_between end from to ps v w h k = elim (max_q_one v w) [
  | inl e ↦ subst (IsLevelBetween end from to ps) (sym e) h
  | inr e ↦ subst (IsLevelBetween end from to ps) (sym e) k
]

-- ---- the answers of one piece
abbrev pub IsPart : List Piece → ℚ → ℕ → ℚ → ℚ → ℚ → Type 0
IsPart ps end i from to h = IsHighestIn (read ps) (start_or end (drop i ps)) (start_or end (drop (i + 1) ps)) from to h

moved : (ps : List Piece) (end : ℚ) (i : ℕ) (s : Stretch) (from to h : ℚ) → IsStretch ps end i s → IsHighestIn (read ps) s.from s.to from to h → IsPart ps end i from to h
moved ps end i s from to h S k =
    subst (λ z. IsHighestIn (read ps) z (start_or end (drop (i + 1) ps)) from to h) S.from (subst (λ z. IsHighestIn (read ps) s.from z from to h) S.to k)

pub record Part (ps : List Piece) (end : ℚ) (i : ℕ) (from to h : ℚ) : Type 0 where
  pub highest : IsPart ps end i from to h
  pub level : IsLevelBetween end from to ps h
  pub rises : start_or end (drop i ps) ≤ℚ start_or end (drop (i + 1) ps)

rises_on : (ps : List Piece) (end : ℚ) (i : ℕ) (s : Stretch) → IsStretch ps end i s → start_or end (drop i ps) ≤ℚ start_or end (drop (i + 1) ps)
rises_on ps end i s S = le_of_lt (subst (λ z. z <ℚ start_or end (drop (i + 1) ps)) S.from (subst (λ z. s.from <ℚ z) S.to S.some))

part_by : (ps : List Piece) (end : ℚ) (i : ℕ) (from to h k : ℚ) → k ≡ h → Part ps end i from to h → Part ps end i from to k
part_by ps end i from to h k e p = subst (Part ps end i from to) (sym e) p

pub inside_is : (ps : List Piece) (end : ℚ) (i : ℕ) (s : Stretch) (from to low high first last h : ℚ) → IsStretch ps end i s → low ≡ max_q s.from from
    → high ≡ min_q s.to to → low <ℚ high
    → s.from <ℚ from → first ≡ line_at s.line low → last ≡ line_at s.line high → h ≡ max_q first last → Part ps end i from to h
inside_is ps end i s from to low high first last h S a b some late p q e =
    let some' = subst (λ z. z <ℚ min_q s.to to) a (subst (λ z. low <ℚ z) b some) in
    let is = e ∙ ap₂ max_q (p ∙ ap (line_at s.line) a) (q ∙ ap (line_at s.line) b) in
    part_by ps end i from to _ h is
    record {
      highest = moved ps end i s from to _ S (part_inside (read ps) s.from s.to from to s.line S.on some' late);
      level = greater_between end from to ps _ _ (low_level from to ps end i s S) (high_level from to ps end i s S);
      rises = rises_on ps end i s S;
    }

pub start_is : (ps : List Piece) (end : ℚ) (i : ℕ) (s : Stretch) (from to low high first last line h : ℚ) → IsStretch ps end i s → low ≡ max_q s.from from
    → high ≡ min_q s.to to → low <ℚ high
    → from ≤ℚ s.from → first ≡ line_at s.line low → last ≡ line_at s.line high → line ≡ max_q first last → h ≡ max_q s.at line → Part ps end i from to h
start_is ps end i s from to low high first last line h S a b some early p q e k =
    let some' = subst (λ z. z <ℚ min_q s.to to) a (subst (λ z. low <ℚ z) b some) in
    let is = k ∙ ap (max_q s.at) (e ∙ ap₂ max_q (p ∙ ap (line_at s.line) a) (q ∙ ap (line_at s.line) b)) in
    part_by ps end i from to _ h is
    record {
      highest = moved ps end i s from to _ S (part_start (read ps) s.from s.to from to s.at s.line S.on S.at some' early);
      level = greater_between end from to ps _ _ (inr (inl S.at_level)) (greater_between end from to ps _ _ (low_level from to ps end i s S) (high_level from to ps end i s S));
      rises = rises_on ps end i s S;
    }

pub none_is : (ps : List Piece) (end : ℚ) (i : ℕ) (s : Stretch) (from to low high h : ℚ) → IsStretch ps end i s → low ≡ max_q s.from from → high ≡ min_q s.to to
    → high ≤ℚ low → h ≡ int (pos 0)
    → Part ps end i from to h
none_is ps end i s from to low high h S a b none e =
    let none' = subst (λ z. min_q s.to to ≤ℚ z) a (subst (λ z. z ≤ℚ low) b none) in
    part_by ps end i from to (int (pos 0)) h e record {
      highest = moved ps end i s from to (int (pos 0)) S (part_none (read ps) s.from s.to from to none');
      level = inl
          refl;
      rises = rises_on ps end i s S;
    }

-- ---- all pieces before the i-th
pub record Seen (f : ℚ → Ext) (b from to y : ℚ) : Type 0 where
  pub at : ℚ
  pub soon : at <ℚ b
  pub least : from ≤ℚ at
  pub early : at <ℚ to
  pub more : Fin y <ₑ f at

pub record BetweenLoop (ps : List Piece) (end : ℚ) (i : ℕ) (from to level : ℚ) : Type 0 where
  pub above : (t : ℚ) → t <ℚ start_or end (drop i ps) → from ≤ℚ t → t <ℚ to → read ps t ≤ₑ Fin level
  pub near : (y : ℚ) → y <ℚ level → (y <ℚ int (pos 0)) ⊎ Seen (read ps) (start_or end (drop i ps)) from to y
  pub level_is : IsLevelBetween end from to ps level
  pub later : int (pos 0) ≤ℚ start_or end (drop i ps)

pub between_start : (ps : List Piece) (end from to level : ℚ) → IsWindow end ps → int (pos 0) ≤ℚ from → level ≡ int (pos 0) → BetweenLoop ps end 0 from to level
between_start ps end from to level W low e =
    let zero : start_or end (drop 0 ps) ≡ int (pos 0) = first_start end ps W.starts in
    record {
      above = λ t soon least early. absurd (lt_irrefl t (lt_le_trans (subst (λ z. t <ℚ z) zero soon) (le_trans low least)));
      near = λ y h. inl (subst (λ z. y <ℚ z) e h);
      level_is = inl e;
      later = subst (λ z. int (pos 0) ≤ℚ z) (sym zero) (le_refl (int (pos 0)));
    }

pub between_step : (ps : List Piece) (end : ℚ) (i : ℕ) (from to level h next : ℚ) → BetweenLoop ps end i from to level
    → start_or end (drop i ps) ≤ℚ start_or end (drop (i + 1) ps)
    → IsPart ps end i from to h → IsLevelBetween end from to ps h → next ≡ max_q level h → BetweenLoop ps end (i + 1) from to next
between_step ps end i from to level h next L rises P k e = record {
  above = λ t soon least early. subst (λ z. read ps t ≤ₑ Fin z) (sym e) (over t soon least early);
  near = λ y g. close y (subst (λ z. y <ℚ z) e g);
  level_is = subst (IsLevelBetween end from to ps) (sym e) (greater_between end from to ps level h L.level_is k);
  later = le_trans L.later rises;
}
  where
    over : (t : ℚ) → t <ℚ start_or end (drop (i + 1) ps) → from ≤ℚ t → t <ℚ to → read ps t ≤ₑ Fin (max_q level h)
    over t soon least early = elim (le_or_lt (start_or end (drop i ps)) t) [
      | inl m ↦ le_ext_trans (read ps t) (Fin h) (Fin (max_q level h)) (P.above t m soon least early) (max_q_ge_right level h)
      | inr m ↦ le_ext_trans (read ps t) (Fin level) (Fin (max_q level h)) (L.above t m least early) (max_q_ge_left level h)
    ]

    old : (y : ℚ) → ((y <ℚ int (pos 0)) ⊎ Seen (read ps) (start_or end (drop i ps)) from to y) → (y <ℚ int (pos 0)) ⊎ Seen (read ps) (start_or end (drop (i + 1) ps)) from to y
    old y (inl m) = inl m
    old y (inr s) = inr record { at = s.at; soon = lt_le_trans s.soon rises; least = s.least; early = s.early; more = s.more }

    new : (y : ℚ) → ((y <ℚ int (pos 0)) ⊎ Above (read ps) (start_or end (drop i ps)) (start_or end (drop (i + 1) ps)) from to y)
        → (y <ℚ int (pos 0)) ⊎ Seen (read ps) (start_or end (drop (i + 1) ps)) from to y
    new y (inl m) = inl m
    new y (inr s) = inr record { at = s.at; soon = s.soon; least = s.least; early = s.early; more = s.more }

    close : (y : ℚ) → y <ℚ max_q level h → (y <ℚ int (pos 0)) ⊎ Seen (read ps) (start_or end (drop (i + 1) ps)) from to y
    close y g = elim (max_q_one level h) [
      | inl q ↦ old y (L.near y (subst (λ z. y <ℚ z) q g))
      | inr q ↦ new y (P.near y (subst (λ z. y <ℚ z) q g))
    ]

pub between_end : (ps : List Piece) (end : ℚ) (i : ℕ) (from to level : ℚ) → BetweenLoop ps end i from to level → length ps ≤ i → int (pos 0) ≤ℚ from → from <ℚ to → to ≤ℚ end
    → ((t : ℚ) → int (pos 0) ≤ℚ t → t <ℚ end → Fin (int (pos 0)) ≤ₑ read ps t) → IsSupremumIn (read ps) from to (Fin level)
between_end ps end i from to level L done low some last nonneg = record {
  above = λ s. L.above s.at (subst (λ z. s.at <ℚ z) (sym is) (lt_le_trans s.early last)) s.least s.early;
  near = λ y h. take y (L.near y h);
}
  where
    is : start_or end (drop i ps) ≡ end
    is = ap (start_or end) (drop_of_length-le ps done)

    take : (y : ℚ) → ((y <ℚ int (pos 0)) ⊎ Seen (read ps) (start_or end (drop i ps)) from to y) → (s : Until from to) × (Fin y <ₑ read ps s.at)
    take y (inl m) = (record { at = from; least = le_refl from; early = some }, lt_le_ext (Fin y) (Fin (int (pos 0))) (read ps from) m (nonneg from low (lt_le_trans some last)))
    take y (inr s) = (record { at = s.at; least = s.least; early = s.early }, s.more)
