-- A sum of numbers has an answer.
use Rattle.std.specs.Prelude.{◌≡◌, ◌≢◌, ◌^◌, Result, Ok, Err}
use Rattle.std.proofs.Common.{refl, inl, inr}
use Rattle.std.proofs.lemmas.Bool.{cases_lt}
use Rattle.rational.specs.Extended.{Ext}
use Rattle.upp_limits.specs.declared.op_kind.OpFault.{OpFault}
use Rattle.upp_limits.specs.declared.op_kind.OpFault.TheVariants.{TooMany, TooWide, NoMemory}
use Rattle.net_cells.specs.NumberSums.{sum_gauge, sum_tally, sum_of_numbers}
use Rattle.existence.specs.tables.Found.{NumberSumsExist}

many_found : (r : Result Ext OpFault) → r ≡ Err TooMany → r ≢ Err NoMemory
many_found r e h = cc

wide_found : (r : Result Ext OpFault) → r ≡ Err TooWide → r ≢ Err NoMemory
wide_found r e h = cc

ok_found : (r : Result Ext OpFault) (x : Ext) → r ≡ Ok x → r ≢ Err NoMemory
ok_found r x e h = cc

pub number_sum : NumberSumsExist
number_sum xs = elim (cases_lt (sum_gauge xs) (2 ^ 120)) [
  | inr wide ↦ record { answer = Err TooWide; is = wide; found = wide_found (Err TooWide) refl }
  | inl narrow ↦ elim (cases_lt (2 ^ 20) (sum_tally xs)) [
    | inl many ↦ record { answer = Err TooMany; is = (narrow, many); found = many_found (Err TooMany) refl }
    | inr few ↦ record { answer = Ok (sum_of_numbers xs); is = (record { narrow = narrow; few = few }, refl); found = ok_found (Ok (sum_of_numbers xs)) (sum_of_numbers xs) refl }
  ]
]
