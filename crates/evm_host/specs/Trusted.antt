-- The system that a program runs on: what std did as it opened or created a file. Nothing is known of it but that the call was made: what it
-- answered, and the reason that it gave, are std's words.
use Rattle.std.specs.Prelude.{ℕ, List, Result}
use Rattle.evm_host.specs.declared.system.OpenFault.{OpenFault}

-- opaque, so that a proof has it of a call alone
pub StdOpens : {S O : Type 0} → S → List ℕ → Result O OpenFault → S → Type 0
StdOpens files path answer files' = Unit {0}

pub StdCreates : {S C : Type 0} → S → List ℕ → Result C OpenFault → S → Type 0
StdCreates files path answer files' = Unit {0}

-- what is trusted of a call: the adapter alone cites these two
pub trusted_open : {S O : Type 0} (files : S) (path : List ℕ) (answer : Result O OpenFault) (files' : S) → StdOpens files path answer files'
unfolding StdOpens
trusted_open files path answer files' = tt

pub trusted_create : {S C : Type 0} (files : S) (path : List ℕ) (answer : Result C OpenFault) (files' : S) → StdCreates files path answer files'
unfolding StdCreates
trusted_create files path answer files' = tt
