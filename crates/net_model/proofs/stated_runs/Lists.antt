-- Members of lists.
use Rattle.std.proofs.Common.{◌≡◌, ℕ, List, [], ◌∷◌, ◌++◌, refl, sym, ap, ◌∙◌, subst, inl, inr, ◌⊎◌, Some}
use Rattle.std.specs.Prelude.{◌≢◌, true, ◌==◌, ◌&&◌}
use Rattle.std.proofs.lemmas.Bool.{cases_eq, cases_Bool, eqb-true, eq-eqb, ne_eqb, and_parts}
use Rattle.rational.specs.Rational.{le_q}
use Rattle.run_laws.specs.Cards.{Card}
use Rattle.run_laws.specs.Servers.{head_of, without_head}
use Rattle.run_laws.specs.Lawful.{Due, same_due, without}
pub use Rattle.run_laws.specs.Members.{Has as In}
pub use Rattle.run_laws.proofs.Members.{has_left as in_left, at_has as at_in, contains_has as contains_in, has_contains as in_contains}

pub in_either : {X : Type 0} (xs : List X) (y x : X) → In (xs ++ y ∷ []) x → In xs x ⊎ (y ≡ x)
in_either [] y x (inl e) = inr e
in_either [] y x (inr h) = absurd h
in_either (z ∷ zs) y x (inl e) = inl (inl e)
in_either (z ∷ zs) y x (inr h) = elim (in_either zs y x h) [ inl l ↦ inl (inr l) | inr r ↦ inr r ]

-- ---- cards
pub in_rest : (q : ℕ) (cs : List Card) (c : Card) → In (without_head q cs) c → In cs c
in_rest q [] c h = absurd h
in_rest q (x ∷ xs) c h = elim (cases_eq x.queue q) [
  | inl e ↦
      let a : without_head q (x ∷ xs) ≡ xs = rw (eq-eqb x.queue q e) refl in
      inr (subst (λ t. In t c) a h)
  | inr n ↦
      let a : without_head q (x ∷ xs) ≡ x ∷ without_head q xs = rw (ne_eqb x.queue q n) refl in
      let g : In (x ∷ without_head q xs) c = subst (λ t. In t c) a h in
      elim g [ inl e ↦ inl e | inr i ↦ inr (in_rest q xs c i) ]
]

pub head_in : (q : ℕ) (cs : List Card) (c : Card) → head_of q cs ≡ Some c → In cs c
head_in q [] c e = absurd (cc)
head_in q (x ∷ xs) c e = elim (cases_eq x.queue q) [
  | inl i ↦
      let f : Some x ≡ Some c = rw (eq-eqb x.queue q i) at e in
      inl (let g : x ≡ c = cc in g)
  | inr n ↦
      let f : head_of q xs ≡ Some c = rw (ne_eqb x.queue q n) at e in
      inr (head_in q xs c f)
]

-- a card is the first of its queue, or stays where that is taken out
pub in_kept : (q : ℕ) (cs : List Card) (d c : Card) → head_of q cs ≡ Some d → In cs c → (c ≡ d) ⊎ In (without_head q cs) c
in_kept q [] d c e h = absurd h
in_kept q (x ∷ xs) d c e h = elim (cases_eq x.queue q) [
  | inl i ↦
      let a : without_head q (x ∷ xs) ≡ xs = rw (eq-eqb x.queue q i) refl in
      let f : Some x ≡ Some d = rw (eq-eqb x.queue q i) at e in
      let g : x ≡ d = cc in
      elim h [ inl k ↦ inl (sym k ∙ g) | inr k ↦ inr (subst (λ t. In t c) (sym a) k) ]
  | inr n ↦
      let a : without_head q (x ∷ xs) ≡ x ∷ without_head q xs = rw (ne_eqb x.queue q n) refl in
      let f : head_of q xs ≡ Some d = rw (ne_eqb x.queue q n) at e in
      elim h [
        | inl k ↦ inr (subst (λ t. In t c) (sym a) (inl k))
        | inr k ↦ elim (in_kept q xs d c f k) [ inl z ↦ inl z | inr z ↦ inr (subst (λ t. In t c) (sym a) (inr z)) ]
      ]
]

-- ---- dues
pub in_without : (d : Due) (xs : List Due) (e : Due) → In (without d xs) e → In xs e
in_without d [] e h = absurd h
in_without d (x ∷ xs) e h = elim (cases_Bool (same_due d x)) [
  | inl t ↦
      let a : without d (x ∷ xs) ≡ xs = rw t refl in
      inr (subst (λ u. In u e) a h)
  | inr f ↦
      let a : without d (x ∷ xs) ≡ x ∷ without d xs = rw f refl in
      let g : In (x ∷ without d xs) e = subst (λ u. In u e) a h in
      elim g [ inl i ↦ inl i | inr i ↦ inr (in_without d xs e i) ]
]

-- one of another packet is still there where one is taken out
same_packet : (d x : Due) → same_due d x ≡ true → d.packet ≡ x.packet
same_packet d x t = eqb-true d.packet x.packet (and_parts (d.packet == x.packet) ((d.server == x.server) && (le_q d.time x.time && le_q x.time d.time)) t).0

pub in_without_other : (d : Due) (ds : List Due) (e : Due) → In ds e → e.packet ≢ d.packet → In (without d ds) e
in_without_other d [] e h n = absurd h
in_without_other d (x ∷ xs) e h n = elim (cases_Bool (same_due d x)) [
  | inl t ↦
      let a : without d (x ∷ xs) ≡ xs = rw t refl in
      let g : d.packet ≡ x.packet = same_packet d x t in
      elim h [
        | inl i ↦ absurd (n (ap (λ (z : Due). z.packet) (sym i) ∙ sym g))
        | inr i ↦ subst (λ ys. In ys e) (sym a) i
      ]
  | inr f ↦
      let a : without d (x ∷ xs) ≡ x ∷ without d xs = rw f refl in
      subst (λ ys. In ys e) (sym a) (elim h [ inl i ↦ inl i | inr i ↦ inr (in_without_other d xs e i n) ])
]
