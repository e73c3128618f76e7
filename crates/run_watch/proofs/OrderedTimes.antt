-- Times that are put in order, each once.
use Rattle.std.specs.Prelude.{◌≡◌, ℕ, zero, suc, ◌+◌, ◌<◌, ◌≤◌, List, [], ◌∷◌, ◌++◌, length, drop}
use Rattle.std.specs.List.{slice_index_or, dedup, dedup_from}
use Rattle.std.specs.List.Sorted.{IsSorted, IsPermutation}
use Rattle.std.proofs.Common.{arith, add-one, append_assoc, inl, inr, sym, subst, ap, ◌∙◌}
use Rattle.std.proofs.lemmas.Bool.{cases_Bool}
use Rattle.std.proofs.lemmas.List.{append-nil, drop_all}
use Rattle.rational.specs.Rational.{ℚ}
use Rattle.rational.specs.Ratio.{cmp_q}
use Rattle.rational.specs.Compared.{same_q}
use Rattle.rational.proofs.OrderLaws.{same_out}
use Rattle.upp_curve.specs.declared.affine_segment.line.Piece.{Piece}
use Rattle.flow_watch.specs.watch_laws.Affine.{Among}
use Rattle.run_watch.specs.declared.watched.Stretch.{Stretch}
use Rattle.run_watch.specs.Watching.{RiseFrom}
use Rattle.run_watch.specs.declared.classes.Side.{Side}
use Rattle.run_watch.specs.Classes.{moves_of, all_moves}
use Rattle.run_watch.specs.WatchTimes.{HaveSameTimes}
use Rattle.run_watch.proofs.FoundTurns.{among_left, among_right, among_parts}
use Rattle.run_watch.proofs.SortedPoints.{among_sorted, sorted_among, sorted_rise}

-- ---- the same times
pub same_times : (xs : List ℚ) → HaveSameTimes xs xs
same_times xs = record { into = λ t h. h; back = λ t h. h }

pub same_then : (xs ys zs : List ℚ) → HaveSameTimes xs ys → HaveSameTimes ys zs → HaveSameTimes xs zs
same_then xs ys zs h k = record { into = λ t a. k.into t (h.into t a); back = λ t a. h.back t (k.back t a) }

pub same_before : (xs ys zs : List ℚ) → HaveSameTimes xs ys → HaveSameTimes (xs ++ zs) (ys ++ zs)
same_before xs ys zs h = record {
  into = λ t a. elim (among_parts t xs zs a) [ inl l ↦ among_left t ys zs (h.into t l) | inr r ↦ among_right t ys zs r ];
  back = λ t a. elim (among_parts t ys zs a) [ inl l ↦ among_left t xs zs (h.back t l) | inr r ↦ among_right t xs zs r ];
}

-- ---- each once
kept_into : (k : ℚ) (xs : List ℚ) (t : ℚ) → Among t (k ∷ xs) → Among t (dedup_from same_q k xs)
kept_into k [] t h = h
kept_into k (x ∷ xs) t h = elim (cases_Bool (same_q x k)) [
  | inl e ↦ rw e (kept_into k xs t (elim h [
    | inl is ↦ inl is
    | inr m ↦ elim m [ inl is ↦ inl (is ∙ same_out x k e) | inr n ↦ inr n ]
  ]))
  | inr e ↦ rw e (elim h [ inl is ↦ inl is | inr m ↦ inr (kept_into x xs t m) ])
]

kept_back : (k : ℚ) (xs : List ℚ) (t : ℚ) → Among t (dedup_from same_q k xs) → Among t (k ∷ xs)
kept_back k [] t h = h
kept_back k (x ∷ xs) t h = elim (cases_Bool (same_q x k)) [
  | inl e ↦
      let m : Among t (dedup_from same_q k xs) = rw e at h in
      elim (kept_back k xs t m) [ inl is ↦ inl is | inr n ↦ inr (inr n) ]
  | inr e ↦
      let m : Among t (k ∷ dedup_from same_q x xs) = rw e at h in
      elim m [ inl is ↦ inl is | inr n ↦ inr (kept_back x xs t n) ]
]

same_kept : (xs : List ℚ) → HaveSameTimes xs (dedup same_q xs)
same_kept [] = record { into = λ t h. h; back = λ t h. h }
same_kept (k ∷ xs) = record { into = kept_into k xs; back = kept_back k xs }

kept_rise : (from k : ℚ) (xs : List ℚ) → RiseFrom from (k ∷ xs) → RiseFrom from (dedup_from same_q k xs)
kept_rise from k [] h = h
kept_rise from k (x ∷ xs) h = elim (cases_Bool (same_q x k)) [
  | inl e ↦ rw e (kept_rise from k xs (h.0, subst (λ y. RiseFrom y xs) (same_out x k e) h.1.1))
  | inr e ↦ rw e (h.0, kept_rise k x xs h.1)
]

rise_kept : (from : ℚ) (xs : List ℚ) → RiseFrom from xs → RiseFrom from (dedup same_q xs)
rise_kept from [] h = tt
rise_kept from (k ∷ xs) h = kept_rise from k xs h

-- sorted, and each once
pub record AreInOrder (xs ts : List ℚ) : Type 0 where
  pub same : HaveSameTimes xs ts
  pub rise : (from : ℚ) × RiseFrom from ts

pub same_permuted : (xs ys : List ℚ) → IsPermutation xs ys → HaveSameTimes xs ys
same_permuted xs ys p = record { into = λ t h. among_sorted xs ys t p h; back = λ t h. sorted_among xs ys t p h }

pub in_order : (xs ys zs : List ℚ) → IsPermutation xs ys → IsSorted cmp_q ys → zs ≡ dedup same_q ys → AreInOrder xs zs
in_order xs ys zs p s e =
    let sorted = same_permuted xs ys p in
    let (from, rise) = sorted_rise ys s in
    record {
      same = subst (HaveSameTimes xs) (sym e) (same_then xs ys (dedup same_q ys) sorted (same_kept ys));
      rise = (from, subst (RiseFrom from) (sym e) (rise_kept from ys rise));
    }

-- ---- one turn more
next_turn : (side : Side) (s : Stretch) (qs : List Piece) (ps : List ℚ) (k : ℕ) (p : ℚ) → k < length ps → p ≡ slice_index_or ps k p
    → all_moves side s qs (drop k ps) ≡ moves_of side s p qs ++ all_moves side s qs (drop (k + 1) ps)
next_turn side s qs ps k p l e = rw add-one (go ps k l e)
  where
    go : (ps : List ℚ) (k : ℕ) → k < length ps → p ≡ slice_index_or ps k p → all_moves side s qs (drop k ps) ≡ moves_of side s p qs ++ all_moves side s qs (drop (suc k) ps)
    go [] k l e = absurd (omega arith)
    go (q ∷ ps) zero l e = ap (λ x. moves_of side s x qs ++ all_moves side s qs ps) (sym e)
    go (q ∷ ps) (suc k) l e = go ps k (omega arith) e

pub turn_more : (side : Side) (s : Stretch) (qs : List Piece) (ps whole had more now : List ℚ) (k : ℕ) (p : ℚ) → k < length ps → p ≡ slice_index_or ps k p → more ≡ had ++ moves_of side s p qs → HaveSameTimes more now
    → HaveSameTimes whole (had ++ all_moves side s qs (drop k ps)) → HaveSameTimes whole (now ++ all_moves side s qs (drop (k + 1) ps))
turn_more side s qs ps whole had more now k p l e grown kept h =
    let rest = all_moves side s qs (drop (k + 1) ps) in
    let joined : had ++ all_moves side s qs (drop k ps) ≡ more ++ rest =
    ap (λ (ys : List ℚ). had ++ ys) (next_turn side s qs ps k p l e) ∙ sym (append_assoc had (moves_of side s p qs) rest) ∙ ap (λ (ys : List ℚ). ys ++ rest) (sym grown) in
    same_then whole (more ++ rest) (now ++ rest) (subst (HaveSameTimes whole) joined h) (same_before more now rest kept)

-- after the last turn
pub no_turns : (side : Side) (s : Stretch) (qs : List Piece) (ps whole had : List ℚ) (k : ℕ) → length ps ≤ k → HaveSameTimes whole (had ++ all_moves side s qs (drop k ps)) → HaveSameTimes whole had
no_turns side s qs ps whole had k l h = subst (HaveSameTimes whole) (ap (λ (xs : List ℚ). had ++ all_moves side s qs xs) (drop_all k ps l) ∙ append-nil had) h
