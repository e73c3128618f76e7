-- What the tests of listed pieces say.
use Rattle.std.specs.Prelude.{◌≡◌, ◌<◌, ◌≤◌, ◌^◌, Bool, true, ◌&&◌, nat_lt, nat_le, List, [], ◌∷◌, Option, Some, None}
use Rattle.std.specs.List.{AllByRecursion}
use Rattle.rational.specs.Rational.{ℚ, ◌+ℚ◌, ◌≤ℚ◌, ◌<ℚ◌}
use Rattle.rational.specs.Extended.{Ext, ◌≤ₑ◌}
use Rattle.upp_curve.specs.declared.affine_segment.line.Line.{Line}
use Rattle.upp_curve.specs.declared.affine_segment.line.Piece.{Piece}
use Rattle.upp_curve.specs.affine_segment.Values.{line_value}
use Rattle.upp_curve.specs.Curve.{SpecCurve, value_at}
use Rattle.min_plus.specs.Functions.{zero_q, IsRising}
use Rattle.upp_curve.specs.affine_segment.Pieces.{RisesFrom, StartsAtZero}
use Rattle.upp_curve.specs.Normal.{IsRaw}
use Rattle.upp_curve.specs.Shapes.{LineRises, PieceRises}
use Rattle.min_plus.specs.Continuity.{IsContinuous}
use Rattle.upp_curve.specs.JoinedPieces.{PieceJoins}
use Rattle.upp_limits.specs.Limits.{own_gauge, own_tally}
use Rattle.upp_limits.specs.OwnLimits.{IsWithinOwn}
use Rattle.upp_curve.proofs.RisingCurves.{GoesOn}
use Rattle.curve_library.specs.declared.texts.PieceText.{PieceText}
use Rattle.curve_library.specs.declared.texts.TailText.{TailText}
use Rattle.curve_library.specs.Listed.{text_pieces, IsNonnegText, IsNonnegTail, AreNonneg, HasLength, StartsBelow, AreInOrder}
use Rattle.net_draft.specs.Values.{less}
use Rattle.net_draft.specs.Refusals.{Next, at_most_q, is_zero, is_nonneg_text, are_nonneg_texts, is_nonneg_end, has_length, rise_from, starts_ascend, all_before, are_within_period, at_most, is_same, line_rises, ends_below, piece_rises, pieces_rise, piece_joins, pieces_join, end_of, rises, joins, is_within}
use Rattle.net_draft.proofs.Decided.{Decides, both, reworded, less_decides, same_decides, at_most_q_decides, at_most_decides, is_same_decides, nat_lt_decides, nat_le_decides}
use Rattle.net_draft.proofs.RawShapes.{Rises, Joins, rises_raw, pieces_raw, continuous_raw, joins_raw}

-- ---- numbers
text_decides : (p : PieceText) → Decides (is_nonneg_text p) (IsNonnegText p)
text_decides p =
    let three = both (at_most_q zero_q p.x) (at_most_q zero_q p.at && at_most_q zero_q p.after) (zero_q ≤ℚ p.x) ((zero_q ≤ℚ p.at) × (zero_q ≤ℚ p.after)) (at_most_q_decides zero_q p.x)
    (both (at_most_q zero_q p.at) (at_most_q zero_q p.after) (zero_q ≤ℚ p.at) (zero_q ≤ℚ p.after) (at_most_q_decides zero_q p.at) (at_most_q_decides zero_q p.after)) in
    reworded (is_nonneg_text p) ((zero_q ≤ℚ p.x) × ((zero_q ≤ℚ p.at) × (zero_q ≤ℚ p.after))) (IsNonnegText p)
    (λ h. record { start = h.0; value = h.1.0; limit = h.1.1 }) (λ h. (h.start, (h.value, h.limit))) three

texts_decide : (ps : List PieceText) → Decides (are_nonneg_texts ps) (AllByRecursion IsNonnegText ps)
texts_decide [] = tt
texts_decide (p ∷ ps) = both (is_nonneg_text p) (are_nonneg_texts ps) (IsNonnegText p) (AllByRecursion IsNonnegText ps) (text_decides p) (texts_decide ps)

tail_decides : (tail : Option TailText) → Decides (is_nonneg_end tail) (IsNonnegTail tail)
tail_decides None = tt
tail_decides (Some t) = both (at_most_q zero_q t.rank) (at_most_q zero_q t.rise) (zero_q ≤ℚ t.rank) (zero_q ≤ℚ t.rise) (at_most_q_decides zero_q t.rank) (at_most_q_decides zero_q t.rise)

pub nonneg_decides : (ps : List PieceText) (tail : Option TailText) → Decides (are_nonneg_texts ps && is_nonneg_end tail) (AreNonneg ps tail)
nonneg_decides ps tail =
    reworded (are_nonneg_texts ps && is_nonneg_end tail) (AllByRecursion IsNonnegText ps × IsNonnegTail tail) (AreNonneg ps tail)
    (λ h. record { pieces = h.0; ending = h.1 }) (λ h. (h.pieces, h.ending))
    (both (are_nonneg_texts ps) (is_nonneg_end tail) (AllByRecursion IsNonnegText ps) (IsNonnegTail tail) (texts_decide ps) (tail_decides tail))

pub length_decides : (tail : Option TailText) → Decides (has_length tail) (HasLength tail)
length_decides None = tt
length_decides (Some t) = less_decides zero_q t.period

-- ---- order
rise_decides : (x : ℚ) (ps : List PieceText) → Decides (rise_from x ps) (RisesFrom x (text_pieces ps))
rise_decides x [] = tt
rise_decides x (p ∷ ps) = both (less x p.x) (rise_from p.x ps) (x <ℚ p.x) (RisesFrom p.x (text_pieces ps)) (less_decides x p.x) (rise_decides p.x ps)

starts_decide : (ps : List PieceText) → Decides (starts_ascend ps) (StartsAtZero (text_pieces ps))
starts_decide [] = λ h. h
starts_decide (p ∷ ps) = both (is_zero p.x) (rise_from p.x ps) (p.x ≡ zero_q) (RisesFrom p.x (text_pieces ps)) (same_decides p.x zero_q) (rise_decides p.x ps)

before_decides : (x : ℚ) (ps : List PieceText) → Decides (all_before x ps) (AllByRecursion (λ p. p.x <ℚ x) ps)
before_decides x [] = tt
before_decides x (p ∷ ps) = both (less p.x x) (all_before x ps) (p.x <ℚ x) (AllByRecursion (λ p. p.x <ℚ x) ps) (less_decides p.x x) (before_decides x ps)

within_decides : (tail : Option TailText) (ps : List PieceText) → Decides (are_within_period tail ps) (StartsBelow tail ps)
within_decides None ps = tt
within_decides (Some t) ps = before_decides (t.rank +ℚ t.period) ps

pub order_decides : (ps : List PieceText) (tail : Option TailText) → Decides (starts_ascend ps && are_within_period tail ps) (AreInOrder ps tail)
order_decides ps tail =
    reworded (starts_ascend ps && are_within_period tail ps) (StartsAtZero (text_pieces ps) × StartsBelow tail ps) (AreInOrder ps tail)
    (λ h. record { starts = h.0; below = h.1 }) (λ h. (h.starts, h.below))
    (both (starts_ascend ps) (are_within_period tail ps) (StartsAtZero (text_pieces ps)) (StartsBelow tail ps) (starts_decide ps) (within_decides tail ps))

-- ---- limits
pub limits_decide : (c : SpecCurve) → Decides (is_within c) (IsWithinOwn c)
limits_decide c =
    let g = own_gauge c in
    let t = own_tally c in
    reworded (nat_lt g (2 ^ 120) && nat_le t (2 ^ 20)) ((g < 2 ^ 120) × (t ≤ 2 ^ 20)) (IsWithinOwn c)
    (λ h. record { narrow = h.0; few = h.1 }) (λ h. (h.narrow, h.few))
    (both (nat_lt g (2 ^ 120)) (nat_le t (2 ^ 20)) (g < 2 ^ 120) (t ≤ 2 ^ 20) (nat_lt_decides g (2 ^ 120)) (nat_le_decides t (2 ^ 20)))

-- ---- shapes
line_decides : (l : Option Line) → Decides (line_rises l) (LineRises l)
line_decides None = tt
line_decides (Some l) = at_most_q_decides zero_q l.slope

piece_decides : (p : Piece) (b : Bool) (E : Type 0) → Decides b E → Decides (at_most p.at (line_value p.line p.x) && (line_rises p.line && b)) ((p.at ≤ₑ line_value p.line p.x) × (LineRises p.line × E))
piece_decides p b E d =
    both (at_most p.at (line_value p.line p.x)) (line_rises p.line && b) (p.at ≤ₑ line_value p.line p.x) (LineRises p.line × E)
    (at_most_decides p.at (line_value p.line p.x)) (both (line_rises p.line) b (LineRises p.line) E (line_decides p.line) d)

free_decides : (p : Piece) → Decides (piece_rises p None) (PieceRises p None)
free_decides p =
    reworded (piece_rises p None) ((p.at ≤ₑ line_value p.line p.x) × (LineRises p.line × Unit {0})) (PieceRises p None)
    (λ h. record { first = h.0; slope = h.1.0; last = tt }) (λ h. (h.first, (h.slope, tt))) (piece_decides p true (Unit {0}) tt)

next_decides : (p : Piece) (x : ℚ) (v : Ext) → Decides (piece_rises p (Some (x, v))) (PieceRises p (Some record { x = x; at = v }))
next_decides p x v =
    reworded (piece_rises p (Some (x, v))) ((p.at ≤ₑ line_value p.line p.x) × (LineRises p.line × (line_value p.line x ≤ₑ v))) (PieceRises p (Some record { x = x; at = v }))
    (λ h. record { first = h.0; slope = h.1.0; last = h.1.1 }) (λ h. (h.first, (h.slope, h.last)))
    (piece_decides p (ends_below p.line (Some (x, v))) (line_value p.line x ≤ₑ v) (at_most_decides (line_value p.line x) v))

pieces_decide : (end : Next) (ps : List Piece) → Decides (pieces_rise end ps) (Rises end ps)
pieces_decide None [] = tt
pieces_decide (Some e) [] = tt
pieces_decide None (p ∷ []) = both (piece_rises p None) true (PieceRises p None) (Unit {0}) (free_decides p) tt
pieces_decide (Some e) (p ∷ []) =
    both (piece_rises p (Some (e.0, e.1))) true (PieceRises p (Some record { x = e.0; at = e.1 })) (Unit {0}) (next_decides p e.0 e.1) tt
pieces_decide None (p ∷ q ∷ qs) =
    both (piece_rises p (Some (q.x, q.at))) (pieces_rise None (q ∷ qs)) (PieceRises p (Some record { x = q.x; at = q.at })) (Rises None (q ∷ qs)) (next_decides p q.x q.at) (pieces_decide None (q ∷ qs))
pieces_decide (Some e) (p ∷ q ∷ qs) =
    both (piece_rises p (Some (q.x, q.at))) (pieces_rise (Some e) (q ∷ qs)) (PieceRises p (Some record { x = q.x; at = q.at })) (Rises (Some e) (q ∷ qs)) (next_decides p q.x q.at) (pieces_decide (Some e) (q ∷ qs))

join_free : (p : Piece) → Decides (piece_joins p None) (PieceJoins p None)
join_free p =
    reworded (piece_joins p None) ((line_value p.line p.x ≡ p.at) × Unit {0}) (PieceJoins p None) (λ h. record { first = h.0; last = tt }) (λ h. (h.first, tt))
    (both (is_same (line_value p.line p.x) p.at) true (line_value p.line p.x ≡ p.at) (Unit {0}) (is_same_decides (line_value p.line p.x) p.at) tt)

join_next : (p : Piece) (x : ℚ) (v : Ext) → Decides (piece_joins p (Some (x, v))) (PieceJoins p (Some record { x = x; at = v }))
join_next p x v =
    reworded (piece_joins p (Some (x, v))) ((line_value p.line p.x ≡ p.at) × (line_value p.line x ≡ v)) (PieceJoins p (Some record { x = x; at = v }))
    (λ h. record { first = h.0; last = h.1 }) (λ h. (h.first, h.last))
    (both (is_same (line_value p.line p.x) p.at) (is_same (line_value p.line x) v) (line_value p.line p.x ≡ p.at) (line_value p.line x ≡ v)
    (is_same_decides (line_value p.line p.x) p.at) (is_same_decides (line_value p.line x) v))

joins_decide : (end : Next) (ps : List Piece) → Decides (pieces_join end ps) (Joins end ps)
joins_decide None [] = tt
joins_decide (Some e) [] = tt
joins_decide None (p ∷ []) = both (piece_joins p None) true (PieceJoins p None) (Unit {0}) (join_free p) tt
joins_decide (Some e) (p ∷ []) = both (piece_joins p (Some (e.0, e.1))) true (PieceJoins p (Some record { x = e.0; at = e.1 })) (Unit {0}) (join_next p e.0 e.1) tt
joins_decide None (p ∷ q ∷ qs) =
    both (piece_joins p (Some (q.x, q.at))) (pieces_join None (q ∷ qs)) (PieceJoins p (Some record { x = q.x; at = q.at })) (Joins None (q ∷ qs)) (join_next p q.x q.at) (joins_decide None (q ∷ qs))
joins_decide (Some e) (p ∷ q ∷ qs) =
    both (piece_joins p (Some (q.x, q.at))) (pieces_join (Some e) (q ∷ qs)) (PieceJoins p (Some record { x = q.x; at = q.at })) (Joins (Some e) (q ∷ qs)) (join_next p q.x q.at) (joins_decide (Some e) (q ∷ qs))

pub rising_decides : (c : SpecCurve) → IsRaw c → GoesOn c.tail → Decides (rises c) (IsRising (value_at c))
rising_decides c raw on =
    reworded (rises c) (Rises (end_of c.pieces c.tail) c.pieces) (IsRising (value_at c)) (rises_raw c.pieces c.tail raw on) (pieces_raw c.pieces c.tail raw on)
    (pieces_decide (end_of c.pieces c.tail) c.pieces)

pub continuous_decides : (c : SpecCurve) → IsRaw c → GoesOn c.tail → IsRising (value_at c) → Decides (joins c) (IsContinuous (value_at c))
continuous_decides c raw on rise =
    reworded (joins c) (Joins (end_of c.pieces c.tail) c.pieces) (IsContinuous (value_at c)) (continuous_raw c.pieces c.tail raw on rise)
    (joins_raw c.pieces c.tail raw on (pieces_raw c.pieces c.tail raw on rise)) (joins_decide (end_of c.pieces c.tail) c.pieces)
