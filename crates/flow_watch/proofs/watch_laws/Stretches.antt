-- The stretch that a busy window is in.
use Rattle.std.specs.Prelude.{◌≡◌, ◌⊎◌, Bool, pos, List, [], ◌∷◌}
use Rattle.std.proofs.Common.{arith, refl, sym, subst, ap, ◌∙◌, inl, inr}
use Rattle.rational.specs.Rational.{ℚ, int, ◌+ℚ◌, ◌≤ℚ◌, ◌<ℚ◌}
use Rattle.rational.proofs.Laws.{le_refl, le_trans, le_or_lt, le_of_lt, lt_le_trans, le_lt_trans, lt_irrefl, between, antisym}
use Rattle.rational.proofs.Linear.{with4}
use Rattle.rational.proofs.Over.{le_q_out}
use Rattle.rational.proofs.MinMax.{le_q_not}
use Rattle.run_laws.specs.Cards.{all, ServerStep, Arrives, Works, Leaves, Visits}
use Rattle.run_laws.specs.Servers.{Server}
use Rattle.run_laws.specs.Allows.{IsLawfulView}
use Rattle.run_laws.specs.Counts.{total, leaves, upto, arrived, worked}
use Rattle.run_laws.specs.Premises.{IsBusy}
use Rattle.run_laws.proofs.Counts.{arrived_rises, departed_upto}
use Rattle.run_laws.proofs.Orders.{left_worked, left_upto_worked}
use Rattle.run_laws.proofs.Gone.{gone_by}
use Rattle.run_laws.proofs.Backlogged.{backlogged_since}
use Rattle.flow_watch.specs.watch_laws.Affine.{EachTime, Among}
use Rattle.flow_watch.specs.watch_laws.Stretches.{IsAround}
use Rattle.flow_watch.specs.watch_laws.Times.{leave_times}
pub use Rattle.run_laws.proofs.Times.{each_time_map, each_time_at}

-- two tests that agree on these times count the same
leaves_same : (p q : ℚ → Bool) (V : List ServerStep) → EachTime (λ u. p u ≡ q u) (leave_times V) → total (leaves all p) V ≡ total (leaves all q) V
leaves_same p q [] h = refl
leaves_same p q (Arrives c t ∷ V) h = ap (λ x. int (pos 0) +ℚ x) (leaves_same p q V h)
leaves_same p q (Works c a b w ∷ V) h = ap (λ x. int (pos 0) +ℚ x) (leaves_same p q V h)
leaves_same p q (Leaves c t ∷ V) h = rw (h.0, leaves_same p q V h.1) refl
leaves_same p q (Visits k t ∷ V) h = ap (λ x. int (pos 0) +ℚ x) (leaves_same p q V h)

-- ---- the last of some times after x, up to t
pub record IsLast (x t l : ℚ) (us : List ℚ) : Type 0 where
  pub among : Among l us
  pub after : x <ℚ l
  pub upto_t : l ≤ℚ t
  pub others : EachTime (λ u. u ≤ℚ l ⊎ t <ℚ u) us

pub last_after : (x t : ℚ) (us : List ℚ) → (EachTime (λ u. u ≤ℚ x ⊎ t <ℚ u) us) ⊎ ((l : ℚ) × IsLast x t l us)
last_after x t [] = inl tt
last_after x t (u ∷ us) =
    elim (le_or_lt u x) [
      | inl h ↦ elim (last_after x t us) [
        | inl n ↦ inl (inl h, n)
        | inr s ↦ let (l, is) = s in inr (l, record { among = inr is.among; after = is.after; upto_t = is.upto_t; others = (inl (le_trans h (le_of_lt is.after)), is.others) })
      ]
      | inr h ↦ elim (le_or_lt u t) [
        | inr g ↦ elim (last_after x t us) [
          | inl n ↦ inl (inr g, n)
          | inr s ↦ let (l, is) = s in inr (l, record { among = inr is.among; after = is.after; upto_t = is.upto_t; others = (inr g, is.others) })
        ]
        | inl g ↦ elim (last_after x t us) [
          | inl n ↦ inr (u, record { among = inl refl; after = h; upto_t = g; others = (inl (le_refl u), each_time_map (λ v. v ≤ℚ x ⊎ t <ℚ v) (λ v. v ≤ℚ u ⊎ t <ℚ v) (λ v. later x u v (le_of_lt h)) us n) })
          | inr s ↦
              let (l, is) = s in
              elim (le_or_lt u l) [
                | inl k ↦ inr (l, record { among = inr is.among; after = is.after; upto_t = is.upto_t; others = (inl k, is.others) })
                | inr k ↦ inr (u, record { among = inl refl; after = h; upto_t = g; others = (inl (le_refl u), each_time_map (λ v. v ≤ℚ l ⊎ t <ℚ v) (λ v. v ≤ℚ u ⊎ t <ℚ v) (λ v. later l u v (le_of_lt k)) us is.others) })
              ]
        ]
      ]
    ]
  where
    later : (l u v : ℚ) → l ≤ℚ u → v ≤ℚ l ⊎ t <ℚ v → v ≤ℚ u ⊎ t <ℚ v
    later l u v k d = elim d [ inl e ↦ inl (le_trans e k) | inr e ↦ inr e ]

one_test : (l t u : ℚ) → l ≤ℚ t → u ≤ℚ l ⊎ t <ℚ u → upto t u ≡ upto l u
one_test l t u h d = elim d [
  | inl k ↦ le_q_out u t (le_trans k h) ∙ sym (le_q_out u l k)
  | inr k ↦ le_q_not u t k ∙ sym (le_q_not u l (le_lt_trans h k))
]

-- since the last leaving up to t none has left
pub none_since : (V : List ServerStep) (l t : ℚ) → l ≤ℚ t → EachTime (λ u. u ≤ℚ l ⊎ t <ℚ u) (leave_times V) → departed_upto all V t ≡ departed_upto all V l
none_since V l t h others =
    leaves_same (upto t) (upto l) V (each_time_map (λ u. u ≤ℚ l ⊎ t <ℚ u) (λ u. upto t u ≡ upto l u) (λ u. one_test l t u h) (leave_times V) others)

-- ---- the first time after x at which all that arrived is worked, of these and the end
record First (A W : ℚ → ℚ) (x end : ℚ) (us : List ℚ) : Type 0 where
  e : ℚ
  later : x <ℚ e
  in_run : e ≤ℚ end
  stops : (e ≡ end) ⊎ (A e ≤ℚ W e)
  behind : EachTime (λ u. x <ℚ u → u <ℚ e → W u <ℚ A u) us

first_of : (A W : ℚ → ℚ) (x end : ℚ) (us : List ℚ) → x <ℚ end → First A W x end us
first_of A W x end [] h = record { e = end; later = h; in_run = le_refl end; stops = inl refl; behind = tt }
first_of A W x end (u ∷ us) h =
    let r = first_of A W x end us h in
    elim (le_or_lt (A u) (W u)) [
      | inr l ↦ record { e = r.e; later = r.later; in_run = r.in_run; stops = r.stops; behind = ((λ _ _. l), r.behind) }
      | inl l ↦ elim (le_or_lt u x) [
        | inl m ↦ record { e = r.e; later = r.later; in_run = r.in_run; stops = r.stops; behind = ((λ n _. absurd (lt_irrefl x (lt_le_trans n m))), r.behind) }
        | inr m ↦ elim (le_or_lt r.e u) [
          | inl n ↦ record { e = r.e; later = r.later; in_run = r.in_run; stops = r.stops; behind = ((λ _ o. absurd (lt_irrefl u (lt_le_trans o n))), r.behind) }
          | inr n ↦ record {
            e = u;
            later = m;
            in_run = le_trans (le_of_lt n) r.in_run;
            stops = inr l;
            behind = ((λ _ o. absurd (lt_irrefl u o)), each_time_map (λ v. x <ℚ v → v <ℚ r.e → W v <ℚ A v) (λ v. x <ℚ v → v <ℚ u → W v <ℚ A v) (λ v k a b. k a (lt_le_trans b (le_of_lt n))) us r.behind);
          }
        ]
      ]
    ]

-- ---- the stretch
pub record IsStop (end : ℚ) (V : List ServerStep) (x e : ℚ) : Type 0 where
  pub later : x <ℚ e
  pub in_run : e ≤ℚ end
  pub stops : (e ≡ end) ⊎ (arrived all V e ≤ℚ worked all V e)
  pub busy : (t : ℚ) → x <ℚ t → t <ℚ e → worked all V t <ℚ arrived all V t

pub stop : (server : Server) (end : ℚ) (V : List ServerStep) (x : ℚ) → IsLawfulView server end V → x <ℚ end
    → ((t : ℚ) → x <ℚ t → worked all V x <ℚ arrived all V t) → (e : ℚ) × IsStop end V x e
stop server end V x h k ahead =
    let r = first_of (arrived all V) (worked all V) x end (leave_times V) k in (
      r.e,
      record {
        later = r.later;
        in_run = r.in_run;
        stops = r.stops;
        busy = λ t a b. elim (le_or_lt (arrived all V t) (worked all V t)) [
          | inr n ↦ n
          | inl n ↦
              let gone : arrived all V t ≤ℚ departed_upto all V t = gone_by server end V all (upto t) t h n (λ u l. le_q_out u t l) in
              absurd (elim (last_after x t (leave_times V)) [
                | inl none ↦
                    let same = none_since V x t (le_of_lt a) none in
                    let few = left_upto_worked server end V all x h in
                    never (arrived all V t) (arrived all V t) (worked all V x) (departed_upto all V x) (departed_upto all V t) (le_refl (arrived all V t)) gone same few (ahead t a)
                | inr s ↦
                    let (l, is) = s in
                    let same = none_since V l t is.upto_t is.others in
                    let few = left_upto_worked server end V all l h in
                    let risen = arrived_rises all V l t is.upto_t in
                    let behind = each_time_at (λ u. x <ℚ u → u <ℚ r.e → worked all V u <ℚ arrived all V u) l (leave_times V) r.behind is.among is.after (le_lt_trans is.upto_t b) in
                    never (arrived all V l) (arrived all V t) (worked all V l) (departed_upto all V l) (departed_upto all V t) risen gone same few behind
              ])
        ];
      },
    )
  where
    never : (a b w d e : ℚ) → a ≤ℚ b → b ≤ℚ e → e ≡ d → d ≤ℚ w → w <ℚ a → ⊥
    never a b w d e i j s k l = with4 a b w d (λ c. omega (arith, c.le, c.lt, c.same))

-- a window through which the server is busy is in a stretch
pub around : (server : Server) (end : ℚ) (V : List ServerStep) (a b : ℚ) → IsLawfulView server end V → a <ℚ b → b ≤ℚ end → IsBusy V a b
    → (u e : ℚ) × IsAround end V a b u e
around server end V a b h l m busy =
    let (x, past, before) = between a b l in
    let less = busy x past before in
    let few = left_worked server end V all x h in
    let (u, s) = backlogged_since server end V all x h (le_lt_trans few less) in
    let (e, t) = stop server end V x h (lt_le_trans before m) (λ t i. lt_le_trans less (arrived_rises all V x t (le_of_lt i))) in (
      u,
      e,
      record {
        stretch = record {
          forward = lt_le_trans s.begins (le_of_lt t.later);
          in_run = t.in_run;
          busy = λ y i j. elim (le_or_lt y x) [
            | inr k ↦ t.busy y k j
            | inl k ↦ elim (le_or_lt x y) [
              | inl n ↦ subst (λ z. worked all V z <ℚ arrived all V z) (antisym (n, k)) less
              | inr n ↦ s.busy y i n
            ]
          ];
          caught_up = s.caught_up;
          stops = t.stops;
        };
        first = elim (le_or_lt u a) [
          | inl k ↦ k
          | inr k ↦ absurd (both (arrived all V u) (worked all V u) s.caught_up (busy u k (lt_le_trans s.begins (le_of_lt before))))
        ];
        last = elim (le_or_lt b e) [
          | inl k ↦ k
          | inr k ↦ absurd (elim t.stops [
            | inl g ↦ lt_irrefl e (lt_le_trans k (subst (λ z. b ≤ℚ z) (sym g) m))
            | inr g ↦ both (arrived all V e) (worked all V e) g (busy e (lt_le_trans past (le_of_lt t.later)) k)
          ])
        ];
      },
    )
  where
    both : (x y : ℚ) → x ≤ℚ y → y <ℚ x → ⊥
    both x y i j = lt_irrefl x (le_lt_trans i j)
