-- The turns that are in one stretch, as a part of all of them in order.
use Rattle.std.specs.Prelude.{◌≡◌, ℕ, zero, suc, ◌<◌, ◌≤◌, true, false, List, [], ◌∷◌, length, take, drop, get_or}
use Rattle.std.proofs.Common.{arith, sym, subst, inl, inr, true≢false, ◌∙◌}
use Rattle.rational.specs.Rational.{ℚ, ◌≤ℚ◌, ◌<ℚ◌, le_q}
use Rattle.run_laws.specs.Counts.{before}
use Rattle.rational.proofs.Laws.{le_lt_trans, lt_le_trans, lt_irrefl, le_of_not_lt}
use Rattle.rational.proofs.Over.{lt_q_in, lt_q_out, le_q_in, le_q_out}
use Rattle.flow_watch.specs.watch_laws.Affine.{Among}
use Rattle.run_watch.specs.declared.watched.Stretch.{Stretch}
use Rattle.run_watch.specs.Watching.{RiseFrom, HoldsTimes}
use Rattle.run_watch.specs.WatchTimes.{HaveSameTimes}
use Rattle.run_watch.proofs.WatchedLists.{times_rise}

-- ---- a part of times in order
pub parted_before_at : (from : ℚ) (ts : List ℚ) (u : ℚ) → RiseFrom from ts → (i j : ℕ) (d : ℚ) → i ≤ j → j < length ts → before u (get_or ts j d) ≡ true → before u (get_or ts i d) ≡ true
parted_before_at from ts u h i j d k l e = lt_q_out (get_or ts i d) u (le_lt_trans (times_rise from ts i j d h k l) (lt_q_in (get_or ts j d) u e))

pub rise_drop : (k : ℕ) (from : ℚ) (ts : List ℚ) → RiseFrom from ts → (f : ℚ) × RiseFrom f (drop k ts)
rise_drop zero from ts h = (from, h)
rise_drop (suc k) from [] h = (from, tt)
rise_drop (suc k) from (t ∷ ts) h = rise_drop k t ts h.1

pub rise_take : (k : ℕ) (from : ℚ) (ts : List ℚ) → RiseFrom from ts → RiseFrom from (take k ts)
rise_take zero from ts h = tt
rise_take (suc k) from [] h = tt
rise_take (suc k) from (t ∷ ts) h = (h.0, rise_take k t ts h.1)

among_drop : (k : ℕ) (ts : List ℚ) (t : ℚ) → ((i : ℕ) (d : ℚ) → i < k → get_or ts i d ≡ t → ⊥) → k ≤ length ts → Among t ts → Among t (drop k ts)
among_drop zero ts t none l h = h
among_drop (suc k) [] t none l h = absurd h
among_drop (suc k) (x ∷ ts) t none l h = elim h [
  | inl e ↦ absurd (none 0 x (omega arith) (sym e))
  | inr m ↦ among_drop k ts t (λ i d a b. none (suc i) d (omega arith) b) (omega arith) m
]

among_take : (k : ℕ) (ts : List ℚ) (t : ℚ) → ((i : ℕ) (d : ℚ) → k ≤ i → i < length ts → get_or ts i d ≡ t → ⊥) → Among t ts → Among t (take k ts)
among_take k [] t none h = absurd h
among_take zero (x ∷ ts) t none h = absurd (late (x ∷ ts) h (λ i d l. none i d (omega arith) l))
  where
    late : (us : List ℚ) → Among t us → ((i : ℕ) (d : ℚ) → i < length us → get_or us i d ≡ t → ⊥) → ⊥
    late [] m f = m
    late (u ∷ us) m f = elim m [ inl e ↦ f 0 u (omega arith) (sym e) | inr n ↦ late us n (λ i d l e. f (suc i) d (omega arith) e) ]
among_take (suc k) (x ∷ ts) t none h = elim h [
  | inl e ↦ inl e
  | inr m ↦ inr (among_take k ts t (λ i d a l e. none (suc i) d (omega arith) (omega arith) e) m)
]

drop_among : (k : ℕ) (ts : List ℚ) (t : ℚ) → Among t (drop k ts) → Among t ts
drop_among zero ts t h = h
drop_among (suc k) [] t h = h
drop_among (suc k) (x ∷ ts) t h = inr (drop_among k ts t h)

take_among : (k : ℕ) (ts : List ℚ) (t : ℚ) → Among t (take k ts) → Among t ts
take_among zero ts t h = absurd h
take_among (suc k) [] t h = absurd h
take_among (suc k) (x ∷ ts) t h = elim h [ inl e ↦ inl e | inr m ↦ inr (take_among k ts t m) ]

past : (t end x : ℚ) → x ≡ t → le_q x end ≡ false → t ≤ℚ end → ⊥
past t end x e h l = true≢false (sym (le_q_out x end (subst (λ y. y ≤ℚ end) (sym e) l)) ∙ h)

each_kept : (P : ℚ → Type 0) (k : ℕ) (ts : List ℚ) (t : ℚ) → ((i : ℕ) (d : ℚ) → i < k → i < length ts → P (get_or ts i d)) → Among t (take k ts) → P t
each_kept P zero ts t f h = absurd h
each_kept P (suc k) [] t f h = absurd h
each_kept P (suc k) (x ∷ ts) t f h = elim h [
  | inl e ↦ subst P (sym e) (f 0 x (omega arith) (omega arith))
  | inr m ↦ each_kept P k ts t (λ i d a b. f (suc i) d (omega arith) (omega arith)) m
]

each_left : (P : ℚ → Type 0) (k : ℕ) (ts : List ℚ) (t : ℚ) → ((i : ℕ) (d : ℚ) → k ≤ i → i < length ts → P (get_or ts i d)) → Among t (drop k ts) → P t
each_left P (suc k) [] t f h = absurd h
each_left P (suc k) (x ∷ ts) t f h = each_left P k ts t (λ i d a b. f (suc i) d (omega arith) (omega arith)) h
each_left P zero [] t f h = absurd h
each_left P zero (x ∷ ts) t f h = elim h [
  | inl e ↦ subst P (sym e) (f 0 x (omega arith) (omega arith))
  | inr m ↦ each_left P zero ts t (λ i d a b. f (suc i) d (omega arith) (omega arith)) m
]

no_earlier : (u x : ℚ) → before u x ≡ false → u ≤ℚ x
no_earlier u x e = le_of_not_lt (λ l. true≢false (sym (lt_q_out x u l) ∙ e))

pub holds : (s : Stretch) (ts rest own : List ℚ) (from count : ℕ) → from ≤ length ts → rest ≡ drop from ts → own ≡ take count rest
    → ((i : ℕ) (d : ℚ) → 0 ≤ i → i < from → before s.start (get_or ts i d) ≡ true)
    → ((i : ℕ) (d : ℚ) → from ≤ i → i < length ts → before s.start (get_or ts i d) ≡ false)
    → ((i : ℕ) (d : ℚ) → 0 ≤ i → i < count → le_q (get_or rest i d) s.end ≡ true)
    → ((i : ℕ) (d : ℚ) → count ≤ i → i < length rest → le_q (get_or rest i d) s.end ≡ false)
    → HoldsTimes s ts own
holds s ts rest own from count l e f early begun kept late = record {
  inside = λ t m a b.
      let here = among_drop from ts t (λ i d k is. lt_irrefl t (lt_le_trans (subst (λ x. x <ℚ s.start) is (lt_q_in (get_or ts i d) s.start (early i d (omega arith) k))) a)) l m in
      let there = subst (Among t) (sym e) here in
      subst (Among t) (sym f) (among_take count rest t (λ i d k n is. past t s.end (get_or rest i d) is (late i d k n) b) there);
  are = λ t m. drop_among from ts t (subst (Among t) e (take_among count rest t (subst (Among t) f m)));
  from = λ t m. each_left (λ x. s.start ≤ℚ x) from ts t (λ i d a b. no_earlier s.start (get_or ts i d) (begun i d a b)) (subst (Among t) e (take_among count rest t (subst (Among t) f m)));
  upto = λ t m. each_kept (λ x. x ≤ℚ s.end) count rest t (λ i d a b. le_q_in (get_or rest i d) s.end (kept i d (omega arith) a)) (subst (Among t) f m);
}

pub holds_same : (s : Stretch) (ps ts own : List ℚ) → HaveSameTimes ps ts → HoldsTimes s ts own → HoldsTimes s ps own
holds_same s ps ts own h k = record {
  inside = λ t m a b. k.inside t (h.into t m) a b;
  are = λ t m. h.back t (k.are t m);
  from = k.from;
  upto = k.upto;
}
