-- The laws by which a closure is made of the closures of parts. (Bouillard, Boyer and Le Corronc: the closure,
-- with the sum of no value too, of a minimum is the convolution of theirs.)
use Rattle.std.specs.Prelude.{◌≡◌, ℕ, pos}
use Rattle.rational.specs.Rational.{ℚ, ◌+ℚ◌, ◌*ℚ◌, ◌≤ℚ◌, ◌<ℚ◌, int}
use Rattle.rational.specs.Extended.{Ext, ◌≤ₑ◌, ◌+ₑ◌, min_ext}
use Rattle.rational.specs.declared.Extended.TheVariants.{Fin}
use Rattle.min_plus.specs.Functions.{zero_q, IsFinite, IsRising, IsNonnegative}
use Rattle.min_plus.specs.Convolution.{IsConvolution, IsSubadditiveClosure}
use Rattle.min_plus.specs.closure_laws.Star.{IsStar, AreStars, origin, lesser}

-- ---- the star
-- the star of the lesser of two functions is the convolution of their stars
abbrev pub StarOfLesser : Type 0
StarOfLesser = (f g F G : ℚ → Ext) (t : ℚ) (v : Ext) → AreStars f F → AreStars g G → IsConvolution F G t v
    → IsStar (lesser f g) t v

-- the star of a function is its closure, lowered by the point 0 at 0
abbrev pub StarOfClosure : Type 0
StarOfClosure = (f : ℚ → Ext) (t : ℚ) (v : Ext) → zero_q ≤ℚ t → IsSubadditiveClosure f t v
    → IsStar f t (min_ext v (origin t))

-- past 0 the closure of a function is its star; at 0, where the function is at least 0 there, it is the function
pub record ClosureOfStar : Type 0 where
  pub past : (f : ℚ → Ext) (t : ℚ) (v : Ext) → zero_q <ℚ t → IsStar f t v → IsSubadditiveClosure f t v
  pub zero : (f : ℚ → Ext) → Fin zero_q ≤ₑ f zero_q → IsSubadditiveClosure f zero_q (f zero_q)

-- both are of the values at times from 0 on alone
abbrev pub StarsAreOfValues : Type 0
StarsAreOfValues = (f g : ℚ → Ext) (t : ℚ) (v : Ext) → ((s : ℚ) → zero_q ≤ℚ s → f s ≡ g s) → IsStar f t v → IsStar g t v

-- ---- copies
-- l is n c at n d for each natural n, and infinite elsewhere
pub record IsLattice (d c : ℚ) (l : ℚ → Ext) : Type 0 where
  pub at : (n : ℕ) → l (int (pos n) *ℚ d) ≡ Fin (int (pos n) *ℚ c)
  pub only : (t q : ℚ) → zero_q ≤ℚ t → l t ≡ Fin q → (n : ℕ) × (t ≡ int (pos n) *ℚ d)

-- t is n periods after y, and the value v is n rises above that of e at y
pub record IsCopy (e : ℚ → Ext) (d c t v : ℚ) : Type 0 where
  pub number : ℕ
  pub time : ℚ
  pub nonneg : zero_q ≤ℚ time
  pub moved : t ≡ time +ℚ int (pos number) *ℚ d
  pub value : e time +ₑ Fin (int (pos number) *ℚ c) ≤ₑ Fin v

-- h is e with each of its copies, n periods d later and n rises c higher
pub record HasCopies (e : ℚ → Ext) (d c : ℚ) (h : ℚ → Ext) : Type 0 where
  pub at : (n : ℕ) (t : ℚ) → zero_q ≤ℚ t → h (t +ℚ int (pos n) *ℚ d) ≤ₑ e t +ₑ Fin (int (pos n) *ℚ c)
  pub only : (t v : ℚ) → zero_q ≤ℚ t → h t ≡ Fin v → IsCopy e d c t v

-- the closure of a function with its copies is the convolution of its closure with the lattice
abbrev pub ClosureOfCopies : Type 0
ClosureOfCopies = (e h l E : ℚ → Ext) (d c : ℚ) (t : ℚ) (v : Ext) → zero_q <ℚ d → HasCopies e d c h → IsLattice d c l
    → ((s : ℚ) → zero_q ≤ℚ s → IsSubadditiveClosure e s (E s)) → IsConvolution E l t v → IsSubadditiveClosure h t v

-- ---- what a closure keeps
-- the closure is finite where the function is, and nowhere below 0 where the function is, and it rises where the
-- function does
pub record ClosureKeeps (f F : ℚ → Ext) : Type 0 where
  pub finite : IsFinite f → IsFinite F
  pub nonneg : IsNonnegative f → IsNonnegative F
  pub rising : IsRising f → IsRising F

abbrev pub ClosuresKeep : Type 0
ClosuresKeep = (f F : ℚ → Ext) → ((t : ℚ) → zero_q ≤ℚ t → IsSubadditiveClosure f t (F t)) → ClosureKeeps f F
