-- The turns that are found are those of the view.
use Rattle.std.specs.Prelude.{◌≡◌, ◌≢◌, ◌⊎◌, pos, true, List, [], ◌∷◌, ◌++◌}
use Rattle.std.proofs.Common.{refl, sym, subst, ap, ap₂, ◌∙◌, inl, inr, true≢false}
use Rattle.std.proofs.lemmas.Bool.{cases_Bool}
use Rattle.std.specs.Ordering.{is_eq}
use Rattle.rational.specs.Rational.{ℚ, int, ◌+ℚ◌}
use Rattle.rational.proofs.Comparison.{cmp_self}
use Rattle.rational.specs.Compared.{same_q}
pub use Rattle.rational.proofs.OrderLaws.{same_out as same_in}
use Rattle.run_laws.specs.Cards.{ServerStep}
use Rattle.run_laws.specs.Servers as servers
use Rattle.flow_watch.specs.watch_laws.Affine.{Among}
use Rattle.flow_watch.specs.watch_laws.Paces.{pace_before, pace_after}
use Rattle.flow_watch.specs.watch_laws.Stretches.{IsTurn}
use Rattle.flow_watch.proofs.watch_laws.Times.{work_same}
use Rattle.run_watch.specs.declared.span.Span.{Span}
use Rattle.run_watch.specs.declared.span.Ramp.{Ramp}
use Rattle.run_watch.specs.declared.watched.Watched.{Watched}
use Rattle.run_watch.specs.declared.watched.Stretch.{Stretch}
use Rattle.run_watch.specs.Ramps.{rate_before, rate_after, spans_of}
use Rattle.run_watch.specs.Seen.{work_spans}
use Rattle.run_watch.specs.Watching.{stretches, change_at, changes_in, ends_of, turns}
use Rattle.run_watch.proofs.RampLists.{spans_are}
use Rattle.run_watch.proofs.SeenLists.{pace_before_is, pace_after_is}
use Rattle.run_watch.specs.Held.{IsSightOf}
use Rattle.run_watch.proofs.FoundStretches.{HasStretch, stretch_found, found_stretch}

-- ---- the test
pub same_out : (x y : ℚ) → x ≡ y → same_q x y ≡ true
same_out x y e = subst (λ z. same_q x z ≡ true) e (ap is_eq (cmp_self x))

-- ---- lists
pub among_left : (t : ℚ) (xs ys : List ℚ) → Among t xs → Among t (xs ++ ys)
among_left t [] ys h = absurd h
among_left t (x ∷ xs) ys h = elim h [ inl e ↦ inl e | inr k ↦ inr (among_left t xs ys k) ]

pub among_right : (t : ℚ) (xs ys : List ℚ) → Among t ys → Among t (xs ++ ys)
among_right t [] ys h = h
among_right t (x ∷ xs) ys h = inr (among_right t xs ys h)

pub among_parts : (t : ℚ) (xs ys : List ℚ) → Among t (xs ++ ys) → Among t xs ⊎ Among t ys
among_parts t [] ys h = inr h
among_parts t (x ∷ xs) ys h = elim h [
  | inl e ↦ inl (inl e)
  | inr k ↦ elim (among_parts t xs ys k) [ inl l ↦ inl (inr l) | inr l ↦ inr l ]
]

-- ---- changes of the pace are at the starts and the ends of works
abbrev AtEnd : ℚ → List Span → Type 0
AtEnd t [] = ⊥
AtEnd t (s ∷ ss) = (t ≡ s.start) ⊎ (t ≡ s.end) ⊎ AtEnd t ss

at_end_or_same : (ss : List Span) (t : ℚ) → AtEnd t ss ⊎ (rate_before ss t ≡ rate_after ss t)
at_end_or_same [] t = inr refl
at_end_or_same (s ∷ ss) t = elim (work_same s.start s.end s.bits t) [
  | inl e ↦ inl (inl e)
  | inr d ↦ elim d [
    | inl e ↦ inl (inr (inl e))
    | inr f ↦ elim (at_end_or_same ss t) [ inl h ↦ inl (inr (inr h)) | inr e ↦ inr (ap₂ (λ (x y : ℚ). x +ℚ y) f e) ]
  ]
]

changed : (w : Watched) (t : ℚ) → rate_before (spans_of w.works.items) t ≢ rate_after (spans_of w.works.items) t → Among t (change_at w t)
changed w t n = elim (cases_Bool (same_q (rate_before (spans_of w.works.items) t) (rate_after (spans_of w.works.items) t))) [
  | inl e ↦ absurd (n (same_in (rate_before (spans_of w.works.items) t) (rate_after (spans_of w.works.items) t) e))
  | inr e ↦ rw e (inl refl)
]

pub change_is : (w : Watched) (u t : ℚ) → Among t (change_at w u) → (t ≡ u) × (rate_before (spans_of w.works.items) u ≢ rate_after (spans_of w.works.items) u)
change_is w u t h = elim (cases_Bool (same_q (rate_before (spans_of w.works.items) u) (rate_after (spans_of w.works.items) u))) [
  | inl e ↦ absurd (none (rw e at h))
  | inr e ↦ (
    one (rw e at h),
    λ same. true≢false (sym (same_out (rate_before (spans_of w.works.items) u) (rate_after (spans_of w.works.items) u) same) ∙ e),
  )
]
  where
    none : Among t [] → ⊥
    none k = k

    one : Among t (u ∷ []) → t ≡ u
    one k = elim k [ inl e ↦ e | inr l ↦ absurd l ]

changes_found : (w : Watched) (t : ℚ) (rs : List Ramp) → rate_before (spans_of w.works.items) t ≢ rate_after (spans_of w.works.items) t → AtEnd t (spans_of rs) → Among t (changes_in w rs)
changes_found w t [] n h = absurd h
changes_found w t (r ∷ rs) n h = elim h [
  | inl e ↦ among_left t (change_at w r.span.start ++ change_at w r.span.end) (changes_in w rs) (among_left t (change_at w r.span.start) (change_at w r.span.end) (subst (λ x. Among t (change_at w x)) e (changed w t n)))
  | inr d ↦ elim d [
    | inl e ↦ among_left t (change_at w r.span.start ++ change_at w r.span.end) (changes_in w rs) (among_right t (change_at w r.span.start) (change_at w r.span.end) (subst (λ x. Among t (change_at w x)) e (changed w t n)))
    | inr k ↦ among_right t (change_at w r.span.start ++ change_at w r.span.end) (changes_in w rs) (changes_found w t rs n k)
  ]
]

changes_are : (w : Watched) (t : ℚ) (rs : List Ramp) → Among t (changes_in w rs) → rate_before (spans_of w.works.items) t ≢ rate_after (spans_of w.works.items) t
changes_are w t [] h = absurd h
changes_are w t (r ∷ rs) h = elim (among_parts t (change_at w r.span.start ++ change_at w r.span.end) (changes_in w rs) h) [
  | inr k ↦ changes_are w t rs k
  | inl k ↦ elim (among_parts t (change_at w r.span.start) (change_at w r.span.end) k) [
    | inl l ↦ moved r.span.start (change_is w r.span.start t l)
    | inr l ↦ moved r.span.end (change_is w r.span.end t l)
  ]
]
  where
    moved : (u : ℚ) → (t ≡ u) × (rate_before (spans_of w.works.items) u ≢ rate_after (spans_of w.works.items) u) → rate_before (spans_of w.works.items) t ≢ rate_after (spans_of w.works.items) t
    moved u k = subst (λ x. rate_before (spans_of w.works.items) x ≢ rate_after (spans_of w.works.items) x) (sym k.0) k.1

-- ---- the ends of stretches
ends_with_start : (u e : ℚ) (ss : List Stretch) → HasStretch u e ss → Among u (ends_of ss)
ends_with_start u e [] h = absurd h
ends_with_start u e (s ∷ ss) h = elim h [ inl is ↦ inl (sym is.0) | inr k ↦ inr (inr (ends_with_start u e ss k)) ]

ends_with_end : (u e : ℚ) (ss : List Stretch) → HasStretch u e ss → Among e (ends_of ss)
ends_with_end u e [] h = absurd h
ends_with_end u e (s ∷ ss) h = elim h [ inl is ↦ inr (inl (sym is.1)) | inr k ↦ inr (inr (ends_with_end u e ss k)) ]

end_is : (t : ℚ) (ss : List Stretch) → Among t (ends_of ss) → ((e : ℚ) × HasStretch t e ss) ⊎ ((u : ℚ) × HasStretch u t ss)
end_is t [] h = absurd h
end_is t (s ∷ ss) h = elim h [
  | inl is ↦ inl (s.end, inl (sym is, refl))
  | inr d ↦ elim d [
    | inl is ↦ inr (s.start, inl (refl, sym is))
    | inr k ↦ elim (end_is t ss k) [
      | inl f ↦ inl (f.0, inr f.1)
      | inr f ↦ inr (f.0, inr f.1)
    ]
  ]
]

-- ---- turns
record Works (V : List ServerStep) (w : Watched) (t : ℚ) : Type 0 where
  before : pace_before V t ≡ rate_before (spans_of w.works.items) t
  after : pace_after V t ≡ rate_after (spans_of w.works.items) t

works_at : (server : servers.Server) (end : ℚ) (V : List ServerStep) (w : Watched) (t : ℚ) → IsSightOf server end V w → Works V w t
works_at server end V w t S =
    let same : work_spans V ≡ spans_of w.works.items = sym (ap spans_of S.works ∙ spans_are (int (pos 0)) (work_spans V)) in record {
      before = pace_before_is V t ∙ ap (λ (ss : List Span). rate_before ss t) same;
      after = pace_after_is V t ∙ ap (λ (ss : List Span). rate_after ss t) same;
    }

pub turn_found : (server : servers.Server) (end : ℚ) (V : List ServerStep) (w : Watched) (t : ℚ) → IsSightOf server end V w → IsTurn end V t → Among t (turns w (stretches w))
turn_found server end V w t S turn = elim turn [
  | inl b ↦ let (e, s) = b in among_left t (ends_of (stretches w)) (changes_in w w.works.items) (ends_with_start t e (stretches w) (stretch_found server end V w t e S s))
  | inr d ↦ elim d [
    | inl b ↦ let (u, s) = b in among_left t (ends_of (stretches w)) (changes_in w w.works.items) (ends_with_end u t (stretches w) (stretch_found server end V w u t S s))
    | inr c ↦
        let at_t = works_at server end V w t S in
        let moves : rate_before (spans_of w.works.items) t ≢ rate_after (spans_of w.works.items) t = λ e. c (at_t.before ∙ e ∙ sym at_t.after) in
        among_right t (ends_of (stretches w)) (changes_in w w.works.items) (elim (at_end_or_same (spans_of w.works.items) t) [
          | inl h ↦ changes_found w t w.works.items moves h
          | inr e ↦ absurd (moves e)
        ])
  ]
]

pub found_turn : (server : servers.Server) (end : ℚ) (V : List ServerStep) (w : Watched) (t : ℚ) → IsSightOf server end V w → Among t (turns w (stretches w)) → IsTurn end V t
found_turn server end V w t S h = elim (among_parts t (ends_of (stretches w)) (changes_in w w.works.items) h) [
  | inl k ↦ elim (end_is t (stretches w) k) [
    | inl f ↦ inl (f.0, found_stretch server end V w t f.0 S f.1)
    | inr f ↦ inr (inl (f.0, found_stretch server end V w f.0 t S f.1))
  ]
  | inr k ↦
      let at_t = works_at server end V w t S in
      inr (inr (λ e. changes_are w t w.works.items k (sym at_t.before ∙ e ∙ at_t.after)))
]
