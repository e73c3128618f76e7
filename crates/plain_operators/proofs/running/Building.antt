-- Pieces appended one by one, or put in front one by one, that keep a property of each reading.
use Rattle.std.specs.Prelude.{◌≡◌, pos, List, [], ◌∷◌, ◌++◌}
use Rattle.std.proofs.Common.{sym, ap, ◌∙◌, subst, inl, inr}
use Rattle.rational.specs.Rational.{ℚ, ◌≤ℚ◌, ◌<ℚ◌, int}
use Rattle.rational.specs.Extended.{Ext}
use Rattle.rational.proofs.Laws.{antisym, le_or_lt, lt_irrefl, lt_le_trans, lt_trans}
use Rattle.upp_curve.specs.declared.affine_segment.line.Piece.{Piece}
use Rattle.upp_curve.specs.affine_segment.Values.{line_value}
use Rattle.upp_curve.specs.affine_segment.Reading.{read, piece_in, piece_value}
use Rattle.upp_curve.specs.affine_segment.Pieces.{Each, RisesFrom, StartsAtZero}
use Rattle.upp_curve.proofs.affine_segment.PieceIn.{piece_in_end, piece_in_go, piece_in_stop, value_past, value_at_start, read_stop, read_go, read_one}
use Rattle.curve_call.proofs.Surgery.{read_middle}

-- ---- appended
-- up to b each reading has the property, and a piece that starts at b comes next
pub record Built (P : ℚ → Ext → Type 0) (b : ℚ) (out : List Piece) : Type 0 where
  pub starts : (q : Piece) → q.x ≡ b → StartsAtZero (out ++ q ∷ [])
  pub holds : (t : ℚ) → int (pos 0) ≤ℚ t → t <ℚ b → P t (read out t)

pub built_none : (P : ℚ → Ext → Type 0) (b : ℚ) → b ≡ int (pos 0) → Built P b []
built_none P b e = record {
  starts = λ q h. (h ∙ e, tt);
  holds = λ t low early. absurd (lt_irrefl t (lt_le_trans (subst (λ z. t <ℚ z) e early) low));
}

rises_more : (x : ℚ) (out : List Piece) (q r : Piece) → RisesFrom x (out ++ q ∷ []) → q.x <ℚ r.x → RisesFrom x ((out ++ q ∷ []) ++ r ∷ [])
rises_more x [] q r h l = (h.0, (l, tt))
rises_more x (p ∷ ps) q r h l = (h.0, rises_more p.x ps q r h.1 l)

starts_more : (out : List Piece) (q r : Piece) → StartsAtZero (out ++ q ∷ []) → q.x <ℚ r.x → StartsAtZero ((out ++ q ∷ []) ++ r ∷ [])
starts_more [] q r h l = (h.0, (l, tt))
starts_more (p ∷ ps) q r h l = (h.0, rises_more p.x ps q r h.1 l)

-- before its start an appended piece is not read
found_early : (p : Piece) (ps : List Piece) (q : Piece) (t : ℚ) → t <ℚ q.x → piece_in p (ps ++ q ∷ []) t ≡ piece_in p ps t
found_early p [] q t l = piece_in_stop p q [] t l ∙ sym (piece_in_end p t)
found_early p (r ∷ rs) q t l = elim (le_or_lt r.x t) [
  | inl h ↦ piece_in_go p r (rs ++ q ∷ []) t h ∙ found_early r rs q t l ∙ sym (piece_in_go p r rs t h)
  | inr h ↦ piece_in_stop p r (rs ++ q ∷ []) t h ∙ sym (piece_in_stop p r rs t h)
]

read_before : (p : Piece) (ps : List Piece) (q : Piece) (t : ℚ) → t <ℚ q.x → read (p ∷ (ps ++ q ∷ [])) t ≡ read (p ∷ ps) t
unfolding read
read_before p ps q t l = ap (λ z. piece_value z t) (found_early p ps q t l)

read_early : (out : List Piece) (q : Piece) (t : ℚ) → StartsAtZero (out ++ q ∷ []) → int (pos 0) ≤ℚ t → t <ℚ q.x → read (out ++ q ∷ []) t ≡ read out t
read_early [] q t h low l = absurd (lt_irrefl t (lt_le_trans (subst (λ z. t <ℚ z) h.0 l) low))
read_early (p ∷ ps) q t h low l = read_before p ps q t l

pub built_more : (P : ℚ → Ext → Type 0) (b c : ℚ) (out : List Piece) (q : Piece) → Built P b out → q.x ≡ b → b <ℚ c → P b q.at
    → ((t : ℚ) → b <ℚ t → t <ℚ c → P t (line_value q.line t)) → Built P c (out ++ q ∷ [])
built_more P b c out q B e some at on = record {
  starts = λ r h. starts_more out q r (B.starts q e) (subst (λ z. z <ℚ r.x) (sym e) (subst (λ z. b <ℚ z) (sym h) some));
  holds = λ t low early. elim (le_or_lt b t) [
    | inr l ↦ subst (P t) (sym (read_early out q t (B.starts q e) low (subst (λ z. t <ℚ z) (sym e) l))) (B.holds t low l)
    | inl l ↦ subst (P t) (sym (read_middle out q [] t (B.starts q e) (subst (λ z. z ≤ℚ t) (sym e) l) tt)) (late t l early)
  ];
}
  where
    late : (t : ℚ) → b ≤ℚ t → t <ℚ c → P t (piece_value q t)
    late t l early = elim (le_or_lt t b) [
      | inl m ↦
          let same : b ≡ t = antisym (l, m) in
          subst (λ u. P u (piece_value q u)) same (subst (P b) (sym (ap (piece_value q) (sym e) ∙ value_at_start q)) at)
      | inr m ↦ subst (P t) (sym (value_past q t (subst (λ z. z <ℚ t) (sym e) m))) (on t m early)
    ]

rises_less : (x : ℚ) (out : List Piece) (q : Piece) → RisesFrom x (out ++ q ∷ []) → RisesFrom x out
rises_less x [] q h = tt
rises_less x (p ∷ ps) q h = (h.0, rises_less p.x ps q h.1)

rises_past : (x : ℚ) (out : List Piece) (q : Piece) → RisesFrom x (out ++ q ∷ []) → x <ℚ q.x
rises_past x [] q h = h.0
rises_past x (p ∷ ps) q h = lt_trans h.0 (rises_past p.x ps q h.1)

before_last : (x : ℚ) (out : List Piece) (q : Piece) → RisesFrom x (out ++ q ∷ []) → Each (λ z. z.x <ℚ q.x) out
before_last x [] q h = tt
before_last x (p ∷ ps) q h = (rises_past p.x ps q h.1, before_last p.x ps q h.1)

-- pieces from 0 on and before the end
pub record Whole (end : ℚ) (out : List Piece) : Type 0 where
  pub starts : StartsAtZero out
  pub before : Each (λ z. z.x <ℚ end) out

whole_by : (out : List Piece) (q : Piece) → int (pos 0) <ℚ q.x → StartsAtZero (out ++ q ∷ []) → Whole q.x out
whole_by [] q some h = absurd (lt_irrefl q.x (subst (λ z. z <ℚ q.x) (sym h.0) some))
whole_by (p ∷ ps) q some h = record { starts = (h.0, rises_less p.x ps q h.1); before = (rises_past p.x ps q h.1, before_last p.x ps q h.1) }

pub built_whole : (P : ℚ → Ext → Type 0) (end : ℚ) (out : List Piece) (q : Piece) → int (pos 0) <ℚ end → q.x ≡ end → Built P end out → Whole end out
built_whole P end out q some e B = subst (λ z. Whole z out) e (whole_by out q (subst (λ z. int (pos 0) <ℚ z) (sym e) some) (B.starts q e))

-- ---- put in front
-- from b on each reading before `end` has the property; the first piece starts at b
pub record BackFrom (P : ℚ → Ext → Type 0) (b end : ℚ) (q : Piece) (qs : List Piece) : Type 0 where
  pub first : q.x ≡ b
  pub rises : RisesFrom q.x qs
  pub before : Each (λ z. z.x <ℚ end) (q ∷ qs)
  pub holds : (t : ℚ) → b ≤ℚ t → t <ℚ end → P t (read (q ∷ qs) t)

abbrev pub BuiltBack : (ℚ → Ext → Type 0) → ℚ → ℚ → List Piece → Type 0
BuiltBack P b end [] = b ≡ end
BuiltBack P b end (q ∷ qs) = BackFrom P b end q qs

front_value : (P : ℚ → Ext → Type 0) (a b : ℚ) (q : Piece) → q.x ≡ a → P a q.at → ((t : ℚ) → a <ℚ t → t <ℚ b → P t (line_value q.line t))
    → (t : ℚ) → a ≤ℚ t → t <ℚ b → P t (piece_value q t)
front_value P a b q e at on t l early = elim (le_or_lt t a) [
  | inl m ↦
      let same : a ≡ t = antisym (l, m) in
      subst (λ u. P u (piece_value q u)) same (subst (P a) (sym (ap (piece_value q) (sym e) ∙ value_at_start q)) at)
  | inr m ↦ subst (P t) (sym (value_past q t (subst (λ z. z <ℚ t) (sym e) m))) (on t m early)
]

pub back_more : (P : ℚ → Ext → Type 0) (a b end : ℚ) (q : Piece) (out : List Piece) → BuiltBack P b end out → q.x ≡ a → a <ℚ b → b ≤ℚ end → P a q.at
    → ((t : ℚ) → a <ℚ t → t <ℚ b → P t (line_value q.line t)) → BuiltBack P a end (q ∷ out)
back_more P a b end q [] B e some most at on = record {
  first = e;
  rises = tt;
  before = (subst (λ z. z <ℚ end) (sym e) (lt_le_trans some most), tt);
  holds = λ t l early.
      subst (P t) (sym (read_one q t)) (front_value P a b q e at on t l (subst (λ z. t <ℚ z) (sym B) early));
}
back_more P a b end q (r ∷ rs) B e some most at on =
    let less : q.x <ℚ r.x = subst (λ z. z <ℚ r.x) (sym e) (subst (λ z. a <ℚ z) (sym B.first) some) in
    record {
      first = e;
      rises = (less, B.rises);
      before = (subst (λ z. z <ℚ end) (sym e) (lt_le_trans some most), B.before);
      holds = λ t l early. elim (le_or_lt b t) [
        | inl m ↦ subst (P t) (sym (read_go q r rs t (subst (λ z. z ≤ℚ t) (sym B.first) m))) (B.holds t m early)
        | inr m ↦ subst (P t) (sym (read_stop q r rs t (subst (λ z. t <ℚ z) (sym B.first) m))) (front_value P a b q e at on t l m)
      ];
    }
