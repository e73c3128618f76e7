-- What one row does to the sites of all servers: that of its server changes.
use Rattle.std.specs.Prelude.{Option, Some, None, ◌≡◌, ℕ, Bool, List, set, slice_get}
use Rattle.rational.specs.Rational.{ℚ}
use Rattle.run_laws.specs.Cards.{Card, Arrives}
use Rattle.run_laws.specs.Servers.{Discipline, ServerState}
use Rattle.run_laws.specs.Next.{next}
use Rattle.queue_sched.specs.Turns.{IsCard}
use Rattle.run_check.specs.declared.broken_laws.law.Law.{Law}
use Rattle.run_check.specs.declared.site.Piece.{Piece}
use Rattle.run_check.specs.declared.site.Site.{Site}
use Rattle.run_check.specs.Sites.{IsSite, VisitAnswer, LeaveAnswer, WorkAnswer, IsFresh, IsOnGrid, IsFine}

-- the site of server s changes so
pub record ChangesAt (P : Site → Site → Type 0) (before after : List Site) (s : ℕ) : Type 0 where
  pub old : Site
  pub new : Site
  pub was : slice_get before s ≡ Some old
  pub is : after ≡ set before s new
  pub changed : P old new

abbrev pub Visited : (end : ℚ) (q : ℕ) (t : ℚ) → Option Law → Site → Site → Type 0
Visited end q t answer old new =
    ((d : Discipline) (room : ℕ) (σ : ServerState) → IsSite d room σ old → VisitAnswer d room σ end q t new answer)
    × (new.under ≡ old.under)

abbrev pub Left : (end : ℚ) (known : Bool) (p : ℕ) (t : ℚ) → Option Law → Site → Site → Type 0
Left end known p t answer old new =
    ((d : Discipline) (room : ℕ) (σ : ServerState) → IsSite d room σ old
    → LeaveAnswer d room σ end known p t new answer)
    × (answer ≡ None → new.under ≡ None)

pub record Worked (end : ℚ) (known : Bool) (fresh : ℚ) (pace : Option ℚ) (w : Piece) (answer : Option Law)
    (old new : Site) : Type 0
  where
    pub told : (d : Discipline) (room : ℕ) (σ : ServerState) → IsSite d room σ old → IsFresh d σ w.packet fresh
        → WorkAnswer d room σ end known fresh pace w new answer
    pub fine : (grid : ℕ) (most : ℚ) → IsOnGrid grid most old fresh w → answer ≡ None → IsFine grid most new

abbrev pub Arrived : (p q bits : ℕ) (t : ℚ) → Site → Site → Type 0
Arrived p q bits t old new =
    ((d : Discipline) (room : ℕ) (σ : ServerState) (c : Card) → IsSite d room σ old → IsCard c p q bits
    → IsSite d room (next d σ (Arrives c t)) new)
    × (new.under ≡ old.under)
