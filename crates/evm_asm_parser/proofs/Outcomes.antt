-- What holds of a reading, from what holds of its parts.
use Rattle.std.proofs.Common.{◌≡◌, ℕ, Bool, true, false, cond, ◌==◌, Result, Ok, Err, IfOk, refl}
use Rattle.evm_asm_lexer.specs.declared.source_fault.SourceFaultKind.{SourceFaultKind}
use Rattle.evm_asm_lexer.specs.declared.source_fault.SourceFaultKind.TheVariants.{BadOperand}
use Rattle.evm_asm_lexer.specs.Faults.{both, least, ◌>>=◌}
use Rattle.evm_asm_parser.specs.Operands.{counted}
use Rattle.evm_asm_parser.specs.Statements.{also}

pub any_ok : {A E : Type 0} (r : Result A E) → IfOk r (λ _. Unit {0})
any_ok (Ok x) = tt
any_ok (Err e) = tt

pub either_ok : {A E : Type 0} (t : Bool) (r s : Result A E) (P : A → Type 0) → IfOk r P → IfOk s P → IfOk (cond t r s) P
either_ok true r s P h k = h
either_ok false r s P h k = k

pub tested_ok : {A E : Type 0} (t : Bool) (x : A) (e : E) (P : A → Type 0) → (t ≡ true → P x) → IfOk (cond t (Ok x) (Err e)) P
tested_ok true x e P h = h refl
tested_ok false x e P h = tt

pub both_ok : {A B : Type 0} (a : Result A SourceFaultKind) (b : Result B SourceFaultKind) (P : A → Type 0) (Q : B → Type 0)
    → IfOk a P → IfOk b Q → IfOk (both a b) (λ x. P x.0 × Q x.1)
unfolding both
both_ok (Ok a) (Ok b) P Q h k = (h, k)
both_ok (Ok a) (Err f) P Q h k = tt
both_ok (Err e) (Ok b) P Q h k = tt
both_ok (Err e) (Err f) P Q h k = tt

pub counted_ok : {A : Type 0} (n count : ℕ) (r : Result A SourceFaultKind) (P : A → Type 0) → IfOk r P → IfOk (counted n count r) P
unfolding counted
counted_ok n count (Ok a) P h = either_ok (count == n) (Ok a) (Err BadOperand) P h tt
counted_ok n count (Err e) P h = either_ok (count == n) (Err e) (Err (least e BadOperand)) P tt tt

pub also_ok : {A B : Type 0} (a : Result A SourceFaultKind) (b : Result B SourceFaultKind) (P : A → Type 0) → IfOk a P → IfOk (also a b) P
unfolding also
also_ok (Ok a) (Ok b) P h = h
also_ok (Ok a) (Err f) P h = tt
also_ok (Err e) (Ok b) P h = tt
also_ok (Err e) (Err f) P h = tt

pub read_ok : {A B : Type 0} (r : Result A SourceFaultKind) (f : A → Result B SourceFaultKind) (P : A → Type 0) (Q : B → Type 0)
    → IfOk r P → ((x : A) → P x → IfOk (f x) Q) → IfOk (r >>= f) Q
read_ok (Ok x) f P Q h k = k x h
read_ok (Err e) f P Q h k = tt
