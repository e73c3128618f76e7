-- Families of extended rationals, given by their members: made from others, and compared. The two comparisons are the
-- order theorist's.
use Rattle.std.specs.Prelude.{◌⊎◌}
use Rattle.std.proofs.Common.{inl, inr}
use Rattle.rational.specs.Rational.{ℚ}
use Rattle.rational.specs.Extended.{Ext, ◌≤ₑ◌, ◌+ₑ◌}
use Rattle.rational.specs.declared.Extended.TheVariants.{Fin}

-- the members of both
abbrev pub either : {I J : Type 0} → (I → Ext) → (J → Ext) → I ⊎ J → Ext
either F G (inl i) = F i
either F G (inr j) = G j

-- each member with c more
abbrev pub raised : {I : Type 0} → (I → Ext) → ℚ → I → Ext
raised F c i = F i +ₑ Fin c

-- the sums of a member of each
abbrev pub sums : {I J : Type 0} → (I → Ext) → (J → Ext) → I × J → Ext
sums F G p = F p.0 +ₑ G p.1

-- below each member of F, or at it, lies a member of G
abbrev pub Coinitial : {I J : Type 0} → (I → Ext) → (J → Ext) → Type 0
Coinitial {I} {J} F G = (i : I) → (j : J) × (G j ≤ₑ F i)

-- above each member of F, or at it, lies a member of G
abbrev pub Cofinal : {I J : Type 0} → (I → Ext) → (J → Ext) → Type 0
Cofinal {I} {J} F G = (i : I) → (j : J) × (F i ≤ₑ G j)
