-- What can be decided of the state of a run.
use Rattle.std.proofs.Common.{◌≡◌, List, [], ◌∷◌, sym, ap, ◌∙◌, subst, inl, inr, Some, None}
use Rattle.std.specs.Prelude.{Option}
use Rattle.std.proofs.lemmas.Bool.{cases_eq}
use Rattle.rational.specs.Rational.{ℚ, ◌<ℚ◌}
use Rattle.rational.proofs.Laws.{le_or_lt, antisym, lt_irrefl}
use Rattle.run_laws.specs.Cards.{Card, size}
use Rattle.run_laws.specs.Servers.{Under, done}
use Rattle.run_laws.specs.Allows.{MayLeave}
use Rattle.run_laws.specs.Lawful.{Due}
use Rattle.run_laws.proofs.Deciding.{Decided}
use Rattle.net_model.proofs.stated_runs.Lists.{In}

-- what cannot fail holds
pub holds : {A : Type 0} → Decided A → ¬ (¬ A) → A
holds d n = elim d [ inl a ↦ a | inr f ↦ absurd (n f) ]

pub q_same : (x y : ℚ) → Decided (x ≡ y)
q_same x y = elim (le_or_lt x y) [
  | inr l ↦ inr (λ e. lt_irrefl y (subst (λ z. y <ℚ z) e l))
  | inl h ↦ elim (le_or_lt y x) [
    | inr l ↦ inr (λ e. lt_irrefl x (subst (λ z. x <ℚ z) (sym e) l))
    | inl k ↦ inl (antisym (h, k))
  ]
]

card_same : (c d : Card) → Decided (c ≡ d)
card_same c d = elim (cases_eq c.packet d.packet) [
  | inr n ↦ inr (λ e. n (ap (λ (x : Card). x.packet) e))
  | inl p ↦ elim (cases_eq c.flow d.flow) [
    | inr n ↦ inr (λ e. n (ap (λ (x : Card). x.flow) e))
    | inl f ↦ elim (cases_eq c.queue d.queue) [
      | inr n ↦ inr (λ e. n (ap (λ (x : Card). x.queue) e))
      | inl q ↦ elim (cases_eq c.bits d.bits) [
        | inr n ↦ inr (λ e. n (ap (λ (x : Card). x.bits) e))
        | inl b ↦ inl (joined p f q b)
      ]
    ]
  ]
]
  where
    joined : c.packet ≡ d.packet → c.flow ≡ d.flow → c.queue ≡ d.queue → c.bits ≡ d.bits → c ≡ d
    joined p f q b =
        ap (λ x. let y : Card = record { packet = x; flow = c.flow; queue = c.queue; bits = c.bits } in y) p
        ∙ (ap (λ x. let y : Card = record { packet = d.packet; flow = x; queue = c.queue; bits = c.bits } in y) f
        ∙ (ap (λ x. let y : Card = record { packet = d.packet; flow = d.flow; queue = x; bits = c.bits } in y) q
        ∙ ap (λ x. let y : Card = record { packet = d.packet; flow = d.flow; queue = d.queue; bits = x } in y) b))

pub picked_same : (o : Option Card) (c : Card) → Decided (o ≡ Some c)
picked_same None c = inr (λ e. cc)
picked_same (Some d) c = elim (card_same d c) [
  | inl e ↦ inl (ap Some e)
  | inr n ↦ inr (λ e. n (cc))
]

due_same : (c d : Due) → Decided (c ≡ d)
due_same c d = elim (cases_eq c.packet d.packet) [
  | inr n ↦ inr (λ e. n (ap (λ (x : Due). x.packet) e))
  | inl p ↦ elim (cases_eq c.server d.server) [
    | inr n ↦ inr (λ e. n (ap (λ (x : Due). x.server) e))
    | inl s ↦ elim (q_same c.time d.time) [
      | inr n ↦ inr (λ e. n (ap (λ (x : Due). x.time) e))
      | inl t ↦ inl (joined p s t)
    ]
  ]
]
  where
    joined : c.packet ≡ d.packet → c.server ≡ d.server → c.time ≡ d.time → c ≡ d
    joined p s t =
        ap (λ x. let y : Due = record { packet = x; server = c.server; time = c.time } in y) p
        ∙ (ap (λ x. let y : Due = record { packet = d.packet; server = x; time = c.time } in y) s
        ∙ ap (λ x. let y : Due = record { packet = d.packet; server = d.server; time = x } in y) t)

pub due_in : (ds : List Due) (d : Due) → Decided (In ds d)
due_in [] d = inr (λ h. h)
due_in (c ∷ cs) d = elim (due_same c d) [
  | inl e ↦ inl (inl e)
  | inr n ↦ elim (due_in cs d) [
    | inl h ↦ inl (inr h)
    | inr m ↦ inr (λ h. elim h [ inl e ↦ n e | inr k ↦ m k ])
  ]
]

-- ---- what may come
pub may_leave : (o : Option Under) (c : Card) (t : ℚ) → Decided (MayLeave o c t)
may_leave None c t = inr (λ h. h)
may_leave (Some u) c t = elim (card_same u.card c) [
  | inr n ↦ inr (λ h. n h.is_card)
  | inl k ↦ elim (q_same (done u) (size c)) [
    | inr n ↦ inr (λ h. n h.worked_off)
    | inl w ↦ elim (q_same t u.last.end) [
      | inr n ↦ inr (λ h. n h.at_end)
      | inl e ↦ inl record { is_card = k; worked_off = w; at_end = e }
    ]
  ]
]
