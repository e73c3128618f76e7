-- Steps of reading, one after the other: a table is read key by key, to its end or to its first fault.
use Rattle.std.specs.Result.{IsErrAnd}
use Rattle.std.proofs.Common.{◌≡◌, Result, Ok, Err, IfOk, sym, ap, subst, ◌∙◌}
use Rattle.net_draft.specs.declared.fault.DraftFault.{DraftFault}
use Rattle.net_draft.specs.declared.fault.DraftFault.TheVariants as answers
use Rattle.net_draft.specs.Faults.{◌>>=◌, Read, Fails, Gives}

-- what a `?` hands on
pub handed_on : {X Y : Type 0} (view : X → Y) (answer : Result X DraftFault) (e : DraftFault) (read : Read Y) → IsErrAnd answer (λ y. y ≡ e) → Fails e read → Gives view answer read
handed_on view (Ok x) e read h f = absurd h
handed_on view (Err y) e read h f = subst (λ d. Fails d read) (sym h) f

-- a step that fails is the last
pub fails_here : {A B : Type 0} (step : Read A) (rest : A → Read B) (e : DraftFault) → Fails e step → Fails e (step >>= rest)
fails_here step rest answers.NoMemory h = tt
fails_here step rest (answers.Fault f) h = ap (λ r. r >>= rest) h

-- the rest fails after a step that gives a value
pub fails_after : {A B : Type 0} {step : Read A} (rest : A → Read B) {x : A} (e : DraftFault) → step ≡ Ok x → Fails e (rest x) → Fails e (step >>= rest)
fails_after rest answers.NoMemory h k = tt
fails_after rest (answers.Fault f) h k = ap (λ r. r >>= rest) h ∙ k

-- the rest gives the value
pub read_on : {A B : Type 0} {step : Read A} (rest : A → Read B) {x : A} {whole : Read B} → step ≡ Ok x → rest x ≡ whole → (step >>= rest) ≡ whole
read_on rest h k = ap (λ r. r >>= rest) h ∙ k

-- the rest is what a call answers
pub gives_after : {X Y A : Type 0} (view : X → Y) (answer : Result X DraftFault) {step : Read A} (rest : A → Read Y) {x : A} → step ≡ Ok x → Gives view answer (rest x) → Gives view answer (step >>= rest)
gives_after view answer rest h k = subst (λ r. Gives view answer (r >>= rest)) (sym h) k

-- of an answer with no value anything is said
pub no_value : {X E : Type 0} (answer : Result X E) (P : X → Type 0) (Q : E → Type 0) → IsErrAnd answer Q → IfOk answer P
no_value (Ok x) P Q h = absurd h
no_value (Err e) P Q h = tt
