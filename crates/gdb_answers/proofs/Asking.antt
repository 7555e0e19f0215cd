-- What a command with digits asks for is what it asks for with their bytes.
use Rattle.std.proofs.Common.{◌≡◌, ℕ, ◌⊎◌, inl, inr, List, refl, sym, ap, subst}
use Rattle.std.specs.Prelude.{Option, Some, None, Result, Ok, Err, IfSome, OnOk}
use Rattle.evm_text.specs.Reading.{◌>>=◌}
use Rattle.evm_model.specs.Event.{Event}
use Rattle.evm_model.specs.State.{State}
use Rattle.evm_model.specs.declared.refusal.Refusal.{Refusal}
use Rattle.gdb_packets.specs.declared.command.Command.{Command}
use Rattle.gdb_packets.specs.declared.command.Command.TheVariants as commands
use Rattle.gdb_packets.specs.Hexadecimal.{bytes_of_digits}
use Rattle.gdb_tape.specs.gdb_driving.declared.points.Points.{Points}
use Rattle.gdb_answers.specs.Asking.{asked, asked_by, points_asked}

-- the commands that have digits
abbrev pub HasDigits : Command → Type 0
HasDigits command =
    (command ≡ commands.Monitor) ⊎ ((command ≡ commands.SetRegisters)
    ⊎ (((r : ℕ) × (command ≡ commands.SetRegister r)) ⊎ ((address : ℕ) × (count : ℕ) × (command ≡ commands.WriteDigits address count))))

-- what holds of what they ask for with their bytes
abbrev HoldsRead : (Result (List Event) Refusal → Type 0) → ℕ → List ℕ → State → Command → Type 0
HoldsRead Q looked digits s command = (bytes : List ℕ) → bytes_of_digits digits ≡ Some bytes → IfSome (asked_by looked bytes s command) Q

read : (Q : Result (List Event) Refusal → Type 0) (o : Option (List ℕ)) (f : List ℕ → Option (Result (List Event) Refusal))
    → ((bytes : List ℕ) → o ≡ Some bytes → IfSome (f bytes) Q) → IfSome (o >>= f) Q
read Q None f h = tt
read Q (Some bytes) f h = h bytes refl

pub holds_asked : (Q : Result (List Event) Refusal → Type 0) (looked : ℕ) (digits : List ℕ) (s : State) (command : Command) → HasDigits command
    → HoldsRead Q looked digits s command → IfSome (asked looked digits s command) Q
holds_asked Q looked digits s command (inl e) h = subst (λ (x : Command). IfSome (asked looked digits s x) Q) (sym e) tt
holds_asked Q looked digits s command (inr (inl e)) h =
    subst (λ (x : Command). HoldsRead Q looked digits s x → IfSome (asked looked digits s x) Q) (sym e)
    (read Q (bytes_of_digits digits) (λ bytes. asked_by looked bytes s commands.SetRegisters)) h
holds_asked Q looked digits s command (inr (inr (inl e))) h =
    subst (λ (x : Command). HoldsRead Q looked digits s x → IfSome (asked looked digits s x) Q) (sym e.1)
    (read Q (bytes_of_digits digits) (λ bytes. asked_by looked bytes s (commands.SetRegister e.0))) h
holds_asked Q looked digits s command (inr (inr (inr e))) h =
    subst (λ (x : Command). HoldsRead Q looked digits s x → IfSome (asked looked digits s x) Q) (sym e.2)
    (read Q (bytes_of_digits digits) (λ bytes. asked_by looked bytes s (commands.WriteDigits e.0 e.1))) h

-- .. where memory was not refused
pub holds_on_ok : {T E : Type 0} (r : Result T E) (Q : Result (List Event) Refusal → Type 0) (looked : ℕ) (digits : List ℕ) (s : State) (command : Command) → HasDigits command
    → ((bytes : List ℕ) → bytes_of_digits digits ≡ Some bytes → OnOk r (IfSome (asked_by looked bytes s command) Q)) → OnOk r (IfSome (asked looked digits s command) Q)
holds_on_ok (Ok x) Q looked digits s command has h = holds_asked Q looked digits s command has h
holds_on_ok (Err x) Q looked digits s command has h = tt

-- ---- they set no breakpoint and no watchpoint
points_none : (s : State) (points : Points) (command : Command) → HasDigits command → points_asked s points command ≡ None
points_none s points command (inl e) = ap (points_asked s points) e
points_none s points command (inr (inl e)) = ap (points_asked s points) e
points_none s points command (inr (inr (inl e))) = ap (points_asked s points) e.1
points_none s points command (inr (inr (inr e))) = ap (points_asked s points) e.2

pub no_points : (Q : Result Points Refusal → Type 0) (s : State) (points : Points) (command : Command) → HasDigits command → IfSome (points_asked s points command) Q
no_points Q s points command has = subst (λ (o : Option (Result Points Refusal)). IfSome o Q) (sym (points_none s points command has)) tt

pub no_points_ok : {T E : Type 0} (r : Result T E) (Q : Result Points Refusal → Type 0) (s : State) (points : Points) (command : Command) → HasDigits command → OnOk r (IfSome (points_asked s points command) Q)
no_points_ok (Ok x) Q s points command has = no_points Q s points command has
no_points_ok (Err x) Q s points command has = tt
