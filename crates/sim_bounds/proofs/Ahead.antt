-- How many bits of a packet a server still has to see or to work off, by where the packet is.
use Rattle.std.proofs.Common.{◌≡◌, ℕ, ◌<◌, List, [], ◌∷◌, refl, sym, ap, ◌∙◌, subst, arith, inl, inr, Some, None}
use Rattle.std.specs.Prelude.{Option, ◌≢◌, ◌==◌, if◌then◌else◌}
use Rattle.std.proofs.lemmas.Bool.{cases_eq, eq-eqb, ne_eqb}
use Rattle.run_laws.specs.Routes.{Hop, PassesServer, first_of, first_server, server_after}
use Rattle.sim_bounds.specs.Horizons.{path_bits, IsRising}
use Rattle.run_laws.proofs.Entries.{passes_first}
pub use Rattle.run_laws.proofs.Entries.{passes_next as after_passes}

-- from server j on
abbrev pub bits_from : ℕ → ℕ → List Hop → ℕ → ℕ
bits_from s j [] bits = 0
bits_from s j (h ∷ hs) bits = if h.server == j then path_bits s (h ∷ hs) bits else bits_from s j hs bits

-- ---- one hop
path_here : (s : ℕ) (h : Hop) (hs : List Hop) (b : ℕ) → h.server ≡ s → path_bits s (h ∷ hs) b ≡ b
path_here s h hs b e = rw (eq-eqb h.server s e) refl

path_there : (s : ℕ) (h : Hop) (hs : List Hop) (b : ℕ) → h.server ≢ s → path_bits s (h ∷ hs) b ≡ path_bits s hs b
path_there s h hs b n = rw (ne_eqb h.server s n) refl

from_here : (s j : ℕ) (h : Hop) (hs : List Hop) (b : ℕ) → h.server ≡ j → bits_from s j (h ∷ hs) b ≡ path_bits s (h ∷ hs) b
from_here s j h hs b e = rw (eq-eqb h.server j e) refl

from_there : (s j : ℕ) (h : Hop) (hs : List Hop) (b : ℕ) → h.server ≢ j → bits_from s j (h ∷ hs) b ≡ bits_from s j hs b
from_there s j h hs b n = rw (ne_eqb h.server j n) refl

after_here : (j : ℕ) (h : Hop) (hs : List Hop) → h.server ≡ j → server_after j (h ∷ hs) ≡ first_of hs
after_here j h hs e = rw (eq-eqb h.server j e) refl

after_there : (j : ℕ) (h : Hop) (hs : List Hop) → h.server ≢ j → server_after j (h ∷ hs) ≡ server_after j hs
after_there j h hs n = rw (ne_eqb h.server j n) refl

-- ---- at the first server
pub from_first : (s : ℕ) (hs : List Hop) (b : ℕ) → bits_from s (first_server hs) hs b ≡ path_bits s hs b
from_first s [] b = refl
from_first s (h ∷ hs) b = from_here s h.server h hs b refl

-- at s itself
pub from_own : (s : ℕ) (hs : List Hop) (b : ℕ) → PassesServer s hs → bits_from s s hs b ≡ b
from_own s [] b p = absurd p
from_own s (h ∷ hs) b p = elim (cases_eq h.server s) [
  | inl e ↦ from_here s s h hs b e ∙ path_here s h hs b e
  | inr n ↦ from_there s s h hs b n ∙ from_own s hs b (elim p [ inl e ↦ absurd (n e) | inr q ↦ q ])
]

-- ---- along a path that rises
pub rest_rises : (place : ℕ → ℕ) (h : Hop) (hs : List Hop) → IsRising place (h ∷ hs) → IsRising place hs
rest_rises place h [] r = tt
rest_rises place h (g ∷ hs) r = r.1

pub later_place : (place : ℕ → ℕ) (h : Hop) (hs : List Hop) (g : ℕ) → IsRising place (h ∷ hs) → PassesServer g hs → place h.server < place g
later_place place h [] g r p = absurd p
later_place place h (x ∷ xs) g r (inl e) = subst (λ i. place h.server < place i) e r.0
later_place place h (x ∷ xs) g r (inr p) =
    let a = later_place place x xs g r.1 p in
    let b = r.0 in
    omega (arith, a, b)

-- the next server has a later place
pub after_later : (place : ℕ → ℕ) (j g : ℕ) (hs : List Hop) → IsRising place hs → server_after j hs ≡ Some g → place j < place g
after_later place j g [] r e = absurd (cc)
after_later place j g (h ∷ hs) r e = elim (cases_eq h.server j) [
  | inl i ↦ subst (λ k. place k < place g) i (later_place place h hs g r (passes_first g hs (sym (after_here j h hs i) ∙ e)))
  | inr n ↦ after_later place j g hs (rest_rises place h hs r) (sym (after_there j h hs n) ∙ e)
]

no_bits : (place : ℕ → ℕ) (s : ℕ) (hs : List Hop) (b : ℕ) → ((g : ℕ) → PassesServer g hs → place s < place g) → path_bits s hs b ≡ 0
no_bits place s [] b later = refl
no_bits place s (h ∷ hs) b later = elim (cases_eq h.server s) [
  | inl e ↦ absurd (let l = later h.server (inl refl) in let f : place h.server ≡ place s = ap place e in omega (arith, l, f))
  | inr n ↦ path_there s h hs b n ∙ no_bits place s hs b (λ g p. later g (inr p))
]

-- ---- a packet leaves server j
-- what is ahead of it from the next server on, if there is one
abbrev pub bits_after : ℕ → Option ℕ → List Hop → ℕ → ℕ
bits_after s None hs bits = 0
bits_after s (Some g) hs bits = bits_from s g hs bits

-- the next server is not the first of the path
after_rest : (place : ℕ → ℕ) (s : ℕ) (h : Hop) (hs : List Hop) (b : ℕ) (o : Option ℕ) → ((g : ℕ) → o ≡ Some g → PassesServer g hs)
    → IsRising place (h ∷ hs) → bits_after s o (h ∷ hs) b ≡ bits_after s o hs b
after_rest place s h hs b None p r = refl
after_rest place s h hs b (Some g) p r =
    let l = later_place place h hs g r (p g refl) in
    from_there s g h hs b (λ e. let f : place h.server ≡ place g = ap place e in absurd (omega (arith, l, f)))

after_first : (s : ℕ) (hs : List Hop) (b : ℕ) → bits_after s (first_of hs) hs b ≡ path_bits s hs b
after_first s [] b = refl
after_first s (h ∷ hs) b = from_here s h.server h hs b refl

-- another server than s: nothing is lost
pub leave_other : (place : ℕ → ℕ) (s j : ℕ) (hs : List Hop) (b : ℕ) → IsRising place hs → j ≢ s
    → bits_after s (server_after j hs) hs b ≡ bits_from s j hs b
leave_other place s j [] b r n = refl
leave_other place s j (h ∷ hs) b r n = elim (cases_eq h.server j) [
  | inl e ↦
      ap (λ o. bits_after s o (h ∷ hs) b) (after_here j h hs e) ∙ after_rest place s h hs b (first_of hs) (λ g. passes_first g hs) r ∙ after_first s hs b
      ∙ sym (path_there s h hs b (λ f. n (sym e ∙ f))) ∙ sym (from_here s j h hs b e)
  | inr d ↦
      ap (λ o. bits_after s o (h ∷ hs) b) (after_there j h hs d) ∙ after_rest place s h hs b (server_after j hs) (λ g. after_passes j g hs) r
      ∙ leave_other place s j hs b (rest_rises place h hs r) n ∙ sym (from_there s j h hs b d)
]

-- s itself: its bits are behind
pub leave_own : (place : ℕ → ℕ) (s : ℕ) (hs : List Hop) (b : ℕ) → IsRising place hs → bits_after s (server_after s hs) hs b ≡ 0
leave_own place s [] b r = refl
leave_own place s (h ∷ hs) b r = elim (cases_eq h.server s) [
  | inl e ↦
      ap (λ o. bits_after s o (h ∷ hs) b) (after_here s h hs e) ∙ after_rest place s h hs b (first_of hs) (λ g. passes_first g hs) r ∙ after_first s hs b
      ∙ no_bits place s hs b (λ g p. subst (λ i. place i < place g) e (later_place place h hs g r p))
  | inr d ↦
      ap (λ o. bits_after s o (h ∷ hs) b) (after_there s h hs d) ∙ after_rest place s h hs b (server_after s hs) (λ g. after_passes s g hs) r
      ∙ leave_own place s hs b (rest_rises place h hs r)
]
