-- The window of what two elements make reads as its parts.
use Rattle.std.specs.Prelude.{◌≡◌, ◌⊎◌, pos, cond, List, [], ◌∷◌, ◌++◌, Option, Some, None}
use Rattle.std.proofs.Common.{sym, ap, ◌∙◌, refl, subst, inl, inr}
use Rattle.rational.specs.Rational.{ℚ, ◌≤ℚ◌, ◌<ℚ◌, int}
use Rattle.rational.specs.Extended.{Ext, ◌<ₑ◌}
use Rattle.rational.specs.declared.Extended.TheVariants.{Fin, Inf}
use Rattle.rational.proofs.Laws.{le_or_lt, le_of_lt, le_trans, lt_irrefl, lt_trans, antisym, not_le_of_lt}
use Rattle.rational.proofs.MinMax.{le_q_not}
use Rattle.rational.proofs.Over.{le_q_out}
use Rattle.upp_curve.specs.declared.affine_segment.line.Line.{Line}
use Rattle.upp_curve.specs.declared.affine_segment.line.Piece.{Piece}
use Rattle.upp_curve.specs.declared.affine_segment.element.Element.{Element}
use Rattle.upp_curve.specs.declared.affine_segment.element.Element.TheVariants.{Point, Open}
use Rattle.upp_curve.specs.declared.affine_segment.element.Joined.{Joined}
use Rattle.upp_curve.specs.affine_segment.Values.{line_at}
use Rattle.upp_curve.specs.affine_segment.Elements.{start_of, joined_value, AreAdjoined}
use Rattle.upp_curve.proofs.affine_segment.ElementReading.{joined_read}
use Rattle.upp_curve.specs.affine_segment.Reading.{piece_value, read, nothing_at}
use Rattle.upp_curve.specs.affine_segment.Pieces.{RisesFrom, StartsAtZero}
use Rattle.upp_curve.proofs.affine_segment.PieceIn.{value_past, read_go, read_one, read_stop, value_by, nothing_read}
use Rattle.element_envelope.specs.JoinedWindows.{after_end, part_pieces, joined_list, lead_of, window_of, IsWindowOf}

-- ---- pieces that end

-- before its end a piece is read, and infinity from there on
before_end : (p : Piece) (end : Ext) (t : ℚ) → Fin t <ₑ end → read (p ∷ after_end end) t ≡ piece_value p t
before_end p Inf t h = read_one p t
before_end p (Fin e) t h = read_stop p (nothing_at e) [] t h

past_end : (p : Piece) (e t : ℚ) → e ≤ℚ t → read (p ∷ after_end (Fin e)) t ≡ Inf
past_end p e t h = read_go p (nothing_at e) [] t h ∙ read_one (nothing_at e) t ∙ nothing_read e t

-- t is before an end, or not
end_cases : (end : Ext) (t : ℚ) → (Fin t <ₑ end) ⊎ ((e : ℚ) × (end ≡ Fin e) × (e ≤ℚ t))
end_cases Inf t = inl tt
end_cases (Fin e) t = elim (le_or_lt e t) [ inl h ↦ inr (e, refl, h) | inr h ↦ inl h ]

-- ---- parts from their start on
-- a segment's piece, read before the segment's end
open_read : (from : ℚ) (line : Line) (to : Ext) (t : ℚ) → from ≤ℚ t → (v : Ext)
    → (t ≡ from → Inf ≡ v) → (from <ℚ t → Fin (line_at line t) ≡ v)
    → piece_value record { x = from; at = Inf; line = Some line } t ≡ v
open_read from line to t h v here past = elim (le_or_lt t from) [
  | inl k ↦ value_by record { x = from; at = Inf; line = Some line } t k ∙ here (antisym (k, h))
  | inr k ↦ value_past record { x = from; at = Inf; line = Some line } t k ∙ past k
]

alone_reads : (e : Element) (t : ℚ) → AreAdjoined e None None → start_of e ≤ℚ t → read (part_pieces e) t ≡ joined_value record { first = e; join = None; second = None } t
alone_reads (Point x v) t h late =
    let r = joined_read (Point x v) None None t h in
    read_one record { x = x; at = Fin v; line = None } t ∙ elim (le_or_lt t x) [
      | inl k ↦ value_by record { x = x; at = Fin v; line = None } t k ∙ sym (r.first (antisym (k, late)))
      | inr k ↦ value_past record { x = x; at = Fin v; line = None } t k ∙ sym (r.elsewhere (λ e. lt_irrefl x (subst (λ z. x <ℚ z) e k)) tt tt)
    ]
alone_reads (Open from to line) t h late =
    let r = joined_read (Open from to line) None None t h in
    let p : Piece = record { x = from; at = Inf; line = Some line } in
    elim (end_cases to t) [
      | inl b ↦
          before_end p to t b
          ∙ open_read from line to t late (joined_value record { first = Open from to line; join = None; second = None } t)
          (λ e. sym (r.elsewhere (λ w. lt_irrefl from (subst (λ z. from <ℚ z) e w.past)) tt tt))
          (λ k. sym (r.first record { past = k; before = b }))
      | inr m ↦
          let (e, is, past) = m in
          ap (λ z. read (p ∷ after_end z) t) is ∙ past_end p e t past
          ∙ sym (r.elsewhere (λ w. not_le_of_lt (subst (λ z. Fin t <ₑ z) is w.before) past) tt tt)
    ]

-- two parts, the point between at x
two_reads : (from x v : ℚ) (line : Line) (end : Ext) (next : Line) (t : ℚ) → from <ℚ x → Fin x <ₑ end → from ≤ℚ t
    → read (record { x = from; at = Inf; line = Some line } ∷ record { x = x; at = Fin v; line = Some next } ∷ after_end end) t
    ≡ joined_value record { first = Open from (Fin x) line; join = Some (Point x v); second = Some (Open x end next) } t
two_reads from x v line end next t long longer late =
    let p : Piece = record { x = from; at = Inf; line = Some line } in
    let q : Piece = record { x = x; at = Fin v; line = Some next } in
    let r = joined_read (Open from (Fin x) line) (Some (Point x v)) (Some (Open x end next)) t (refl, refl, long, longer) in
    elim (le_or_lt x t) [
      | inr early ↦
          read_stop p q (after_end end) t early
          ∙ open_read from line (Fin x) t late (joined_value record { first = Open from (Fin x) line; join = Some (Point x v); second = Some (Open x end next) } t)
          (λ e. sym (r.elsewhere (λ w. lt_irrefl from (subst (λ z. from <ℚ z) e w.past)) (λ c. lt_irrefl x (subst (λ z. z <ℚ x) c early)) (λ w. not_le_of_lt early (le_of_lt w.past))))
          (λ k. sym (r.first record { past = k; before = early }))
      | inl past ↦ read_go p q (after_end end) t past ∙ elim (end_cases end t) [
        | inl b ↦ before_end q end t b ∙ elim (le_or_lt t x) [
          | inl k ↦ value_by q t k ∙ sym (r.join (antisym (k, past)))
          | inr k ↦ value_past q t k ∙ sym (r.second record { past = k; before = b })
        ]
        | inr m ↦
            let (e, is, over) = m in
            let beyond : x <ℚ e = subst (λ z. Fin x <ₑ z) is longer in
            ap (λ z. read (q ∷ after_end z) t) is ∙ past_end q e t over
            ∙ sym (r.elsewhere (λ w. not_le_of_lt w.before past) (λ c. not_le_of_lt (subst (λ z. z <ℚ e) (sym c) beyond) over) (λ w. not_le_of_lt (subst (λ z. Fin t <ₑ z) is w.before) over))
      ]
    ]

-- all parts
pub list_reads : (first : Element) (join second : Option Element) (t : ℚ) → AreAdjoined first join second → start_of first ≤ℚ t
    → read (joined_list first join second) t ≡ joined_value record { first = first; join = join; second = second } t
list_reads first None None t h late = alone_reads first t h late
list_reads first None (Some second) t h late = absurd h
list_reads (Point x v) (Some join) None t h late = absurd h
list_reads (Open from to line) (Some join) None t h late = absurd h
list_reads (Point x v) (Some join) (Some second) t h late = absurd h
list_reads (Open from to line) (Some (Open f u l)) (Some second) t h late = absurd h
list_reads (Open from to line) (Some (Point x v)) (Some (Point y u)) t h late = absurd h
list_reads (Open from to line) (Some (Point x v)) (Some (Open y end next)) t h late =
    two_reads from x v line end next t h.2 (subst (λ z. Fin z <ₑ end) h.1 h.3) late
    ∙ ap (λ z. joined_value record { first = Open from z line; join = Some (Point x v); second = Some (Open x end next) } t) (sym h.0)
    ∙ ap (λ z. joined_value record { first = Open from to line; join = Some (Point x v); second = Some (Open z end next) } t) (sym h.1)

-- nothing is read before the start
early_reads : (first : Element) (join second : Option Element) (t : ℚ) → AreAdjoined first join second → t <ℚ start_of first
    → joined_value record { first = first; join = join; second = second } t ≡ Inf
early_reads (Point x v) None None t h early =
    (joined_read (Point x v) None None t h).elsewhere (λ e. lt_irrefl x (subst (λ z. z <ℚ x) e early)) tt tt
early_reads (Open from to line) None None t h early =
    (joined_read (Open from to line) None None t h).elsewhere (λ w. not_le_of_lt early (le_of_lt w.past)) tt tt
early_reads first None (Some second) t h early = absurd h
early_reads (Point x v) (Some join) None t h early = absurd h
early_reads (Open from to line) (Some join) None t h early = absurd h
early_reads (Point x v) (Some join) (Some second) t h early = absurd h
early_reads (Open from to line) (Some (Open f u l)) (Some second) t h early = absurd h
early_reads (Open from to line) (Some (Point x v)) (Some (Point y u)) t h early = absurd h
early_reads (Open from to line) (Some (Point x v)) (Some (Open y end next)) t h early =
    let before : t <ℚ x = lt_trans early h.2 in
    (joined_read (Open from to line) (Some (Point x v)) (Some (Open y end next)) t h).elsewhere
    (λ w. not_le_of_lt early (le_of_lt w.past))
    (λ c. lt_irrefl x (subst (λ z. z <ℚ x) c before))
    (λ w. not_le_of_lt (subst (λ z. t <ℚ z) (sym h.1) before) (le_of_lt w.past))

-- ---- the starts
pub record ListStarts (start : ℚ) (ps : List Piece) : Type 0 where
  pub head : Piece
  pub rest : List Piece
  pub is : ps ≡ head ∷ rest
  pub at : head.x ≡ start
  pub rises : RisesFrom head.x rest

end_rises : (x : ℚ) (end : Ext) → Fin x <ₑ end → RisesFrom x (after_end end)
end_rises x Inf h = tt
end_rises x (Fin e) h = (h, tt)

list_starts : (first : Element) (join second : Option Element) → AreAdjoined first join second → ListStarts (start_of first) (joined_list first join second)
list_starts (Point x v) None None h = record { head = record { x = x; at = Fin v; line = None }; rest = []; is = refl; at = refl; rises = tt }
list_starts (Open from to line) None None h = record {
  head = record { x = from; at = Inf; line = Some line };
  rest = after_end to;
  is = refl;
  at = refl;
  rises = end_rises from to h;
}
list_starts first None (Some second) h = absurd h
list_starts (Point x v) (Some join) None h = absurd h
list_starts (Open from to line) (Some join) None h = absurd h
list_starts (Point x v) (Some join) (Some second) h = absurd h
list_starts (Open from to line) (Some (Open f u l)) (Some second) h = absurd h
list_starts (Open from to line) (Some (Point x v)) (Some (Point y u)) h = absurd h
list_starts (Open from to line) (Some (Point x v)) (Some (Open y end next)) h = record {
  head = record { x = from; at = Inf; line = Some line };
  rest = record { x = x; at = Fin v; line = Some next } ∷ after_end end;
  is = refl;
  at = refl;
  rises = (h.2, end_rises x end (subst (λ z. Fin z <ₑ end) h.1 h.3));
}

-- ---- from 0 on
pub lead_empty : (start : ℚ) → start ≤ℚ int (pos 0) → lead_of start ≡ []
lead_empty start h = ap (λ b. cond b [] (nothing_at (int (pos 0)) ∷ [])) (le_q_out start (int (pos 0)) h)

pub lead_one : (start : ℚ) → int (pos 0) <ℚ start → lead_of start ≡ nothing_at (int (pos 0)) ∷ []
lead_one start h = ap (λ b. cond b [] (nothing_at (int (pos 0)) ∷ [])) (le_q_not start (int (pos 0)) h)

lead_none : (start : ℚ) (ps : List Piece) → start ≤ℚ int (pos 0) → lead_of start ++ ps ≡ ps
lead_none start ps h = ap (λ z. z ++ ps) (lead_empty start h)

lead_some : (start : ℚ) (ps : List Piece) → int (pos 0) <ℚ start → lead_of start ++ ps ≡ nothing_at (int (pos 0)) ∷ ps
lead_some start ps h = ap (λ z. z ++ ps) (lead_one start h)

pub lead_starts : (start : ℚ) (ps : List Piece) → int (pos 0) ≤ℚ start → ListStarts start ps → StartsAtZero (lead_of start ++ ps)
lead_starts start ps low s = elim (le_or_lt start (int (pos 0))) [
  | inl h ↦ subst StartsAtZero (sym (lead_none start ps h ∙ s.is)) (s.at ∙ antisym (h, low), s.rises)
  | inr h ↦ subst StartsAtZero (sym (lead_some start ps h ∙ ap (λ z. nothing_at (int (pos 0)) ∷ z) s.is)) (refl, (subst (λ z. int (pos 0) <ℚ z) (sym s.at) h, s.rises))
]

pub lead_reads : (start : ℚ) (ps : List Piece) (t : ℚ) (v : Ext) → int (pos 0) ≤ℚ t → ListStarts start ps → (t <ℚ start → v ≡ Inf) → (start ≤ℚ t → read ps t ≡ v)
    → read (lead_of start ++ ps) t ≡ v
lead_reads start ps t v some s early late = elim (le_or_lt start (int (pos 0))) [
  | inl h ↦ ap (λ z. read z t) (lead_none start ps h) ∙ late (le_trans h some)
  | inr h ↦
      let none = nothing_at (int (pos 0)) in
      ap (λ z. read z t) (lead_some start ps h ∙ ap (λ z. none ∷ z) s.is) ∙ elim (le_or_lt start t) [
        | inl l ↦ read_go none s.head s.rest t (subst (λ z. z ≤ℚ t) (sym s.at) l) ∙ ap (λ z. read z t) (sym s.is) ∙ late l
        | inr l ↦ read_stop none s.head s.rest t (subst (λ z. t <ℚ z) (sym s.at) l) ∙ nothing_read (int (pos 0)) t ∙ sym (early l)
      ]
]

pub window_is : (j : Joined) (ps : List Piece) → int (pos 0) ≤ℚ start_of j.first → AreAdjoined j.first j.join j.second → ps ≡ window_of j → IsWindowOf j ps
window_is j ps low h is =
    let s = list_starts j.first j.join j.second h in
    record {
      pieces = is;
      starts = subst StartsAtZero (sym is) (lead_starts (start_of j.first) (joined_list j.first j.join j.second) low s);
      reads = λ t some.
          ap (λ z. read z t) is
          ∙ lead_reads (start_of j.first) (joined_list j.first j.join j.second) t (joined_value j t) some s (early_reads j.first j.join j.second t h) (list_reads j.first j.join j.second t h);
    }
