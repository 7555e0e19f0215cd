-- What follows of a result that is Ok.
use Rattle.std.proofs.Common.{Ok, Err, IfOk, ◌≡◌, ℕ, List, Option, Some, None, Result, refl}
use Rattle.evm_asm_parser.specs.evm_asm_lexer.declared.source_fault.SourceFault.{SourceFault}
use Rattle.evm_asm_parser.specs.evm_asm_lexer.declared.source_fault.SourceFaultKind.{SourceFaultKind}
use Rattle.evm_asm_parser.specs.evm_asm_lexer.Faults.{◌>>=◌}
use Rattle.evm_asm_parser.specs.Statements.{also}
use Rattle.evm_asm.specs.Items.{and_then, stop_at, unless_stopped, meaning_or_fault}
use Rattle.evm_asm.specs.declared.item.Expansion.{Expansion}
use Rattle.evm_asm.specs.declared.item.Placed.{Placed}
use Rattle.evm_asm.specs.declared.place.SectionPlace.{SectionPlace}
use Rattle.evm_asm.specs.Programs.{Spelled}
use Rattle.evm_asm.specs.Assembled.{Assembled}

pub and_then_if_ok : {A B : Type 0} (r : Result A SourceFault) (f : A → Result B SourceFault) (P : A → Type 0) (Q : B → Type 0)
    → IfOk r P → ((x : A) → P x → IfOk (f x) Q) → IfOk (and_then r f) Q
and_then_if_ok (Ok x) f P Q h k = k x h
and_then_if_ok (Err e) f P Q h k = tt

pub bind_ok : {A B : Type 0} (r : Result A SourceFaultKind) (f : A → Result B SourceFaultKind) (y : B) → (r >>= f) ≡ Ok y → (x : A) × (r ≡ Ok x) × (f x ≡ Ok y)
bind_ok (Ok x) f y h = (x, refl, h)
bind_ok (Err e) f y h = cc

pub also_ok : {A B : Type 0} (r : Result A SourceFaultKind) (s : Result B SourceFaultKind) (a : A) → also r s ≡ Ok a → (b : B) × (r ≡ Ok a) × (s ≡ Ok b)
unfolding also
also_ok (Ok x) (Ok y) a h = (y, h, refl)
also_ok (Ok x) (Err f) a h = cc
also_ok (Err e) (Ok y) a h = cc
also_ok (Err e) (Err f) a h = cc

pub same_items : (a b : List Placed) → ◌≡◌ {A = Result (List Placed) SourceFaultKind} (Ok a) (Ok b) → a ≡ b
same_items a b h = cc

pub same_place : (a b : SectionPlace) → ◌≡◌ {A = Result SectionPlace SourceFaultKind} (Ok a) (Ok b) → a ≡ b
same_place a b h = cc

pub same_expansion : (a b : Expansion) → ◌≡◌ {A = Result Expansion SourceFaultKind} (Ok a) (Ok b) → a ≡ b
same_expansion a b h = cc

pub and_then_ok : {A B : Type 0} (r : Result A SourceFault) (f : A → Result B SourceFault) (y : B) → and_then r f ≡ Ok y → (x : A) × (r ≡ Ok x) × (f x ≡ Ok y)
and_then_ok (Ok x) f y h = (x, refl, h)
and_then_ok (Err e) f y h = cc

pub same_ok : (s t : Spelled) → ◌≡◌ {A = Result Spelled SourceFault} (Ok s) (Ok t) → s ≡ t
same_ok s t h = cc

pub same_program : (s t : Assembled) → ◌≡◌ {A = Result Assembled SourceFault} (Ok s) (Ok t) → s ≡ t
same_program s t h = cc

unless_stopped_ok : {A : Type 0} (o : Option SourceFault) (a : A) (P : A → Type 0) → P a → IfOk (unless_stopped o a) P
unless_stopped_ok None a P h = h
unless_stopped_ok (Some fault) a P h = tt

pub told_ok : {A : Type 0} (first : Option SourceFault) (line : ℕ) (r : Result A SourceFaultKind) (P : A → Type 0) → IfOk r P → IfOk (meaning_or_fault first line r) P
told_ok first line (Ok a) P h = unless_stopped_ok (stop_at first line) a P h
told_ok first line (Err kind) P h = tt
