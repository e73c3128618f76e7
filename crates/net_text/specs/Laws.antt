-- What a file says is one thing: one network, or one first fault, and not both; and no fault is want of memory. Own choice.
use Rattle.std.specs.Prelude.{◌≡◌, ◌≢◌, ℕ, List}
use Rattle.net_model.specs.Networks.{Net}
use Rattle.net_model.specs.declared.fault.NetKind.TheVariants.{NoMemory}
use Rattle.net_draft.specs.Faults.{Fault}
use Rattle.net_text.specs.Reading.{IsNetworkOf, FirstFault}

pub record SaysOneThing (bytes : List ℕ) : Type 0 where
  pub one_network : (m n : Net) → IsNetworkOf bytes m → IsNetworkOf bytes n → m ≡ n
  pub one_fault : (f g : Fault) → FirstFault bytes f → FirstFault bytes g → f ≡ g
  pub not_both : (n : Net) (f : Fault) → IsNetworkOf bytes n → FirstFault bytes f → ⊥

abbrev pub EachFileSaysOneThing : Type 0
EachFileSaysOneThing = (bytes : List ℕ) → SaysOneThing bytes

abbrev pub NoFaultIsWantOfMemory : Type 0
NoFaultIsWantOfMemory = (bytes : List ℕ) (f : Fault) → FirstFault bytes f → f.kind ≢ NoMemory
