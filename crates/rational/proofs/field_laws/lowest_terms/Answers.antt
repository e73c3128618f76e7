-- A number is the quotient of its parts.
use Rattle.std.proofs.Common.{◌∙◌}
use Rattle.rational.specs.Fractions.{frac_self}
use Rattle.rational.proofs.Quotients.{frac_is_div}
use Rattle.rational.proofs.field_laws.lowest_terms.Goals as goal

pub returns : goal.returns
returns c = λ x. record { value = frac_self x ∙ frac_is_div x.num x.pre; lowest = x.lowest }
