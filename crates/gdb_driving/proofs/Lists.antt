-- Registers and threads, one behind another.
use Rattle.std.proofs.Common.{◌≡◌, ℕ, zero, suc, ◌+◌, List, [], ◌++◌, refl, sym, ap, ◌∙◌, append_assoc, add-one, arith}
use Rattle.std.proofs.lemmas.List.{append-nil}
use Rattle.evm_exec.specs.declared.hart.Hart.{Hart}
use Rattle.gdb_driving.specs.Shown.{word_text, hart_register, register_texts, thread_texts, listed_text}

pub registers_none : (old : List ℕ) (hart : Hart) → old ≡ old ++ register_texts 0 hart
unfolding register_texts
registers_none old hart = sym (append-nil old)

registers-next : (r : ℕ) (hart : Hart) → register_texts (r + 1) hart ≡ register_texts r hart ++ word_text (hart_register hart r)
unfolding register_texts
registers-next r hart = rw add-one refl

pub registers_more : (old : List ℕ) (r : ℕ) (hart : Hart) → (old ++ register_texts r hart) ++ word_text (hart_register hart r) ≡ old ++ register_texts (r + 1) hart
registers_more old r hart = append_assoc old (register_texts r hart) (word_text (hart_register hart r)) ∙ ap (λ (t : List ℕ). old ++ t) (sym (registers-next r hart))

pub threads_none : (old : List ℕ) → old ≡ old ++ thread_texts 0
unfolding thread_texts
threads_none old = sym (append-nil old)

threads-suc : (t : ℕ) → thread_texts (suc t) ≡ thread_texts t ++ listed_text t
unfolding thread_texts
threads-suc t = refl

threads-next : (t : ℕ) → thread_texts (t + 1) ≡ thread_texts t ++ listed_text t
threads-next t = let on : t + 1 ≡ suc t = omega arith in ap thread_texts on ∙ threads-suc t

pub threads_more : (old : List ℕ) (t : ℕ) → (old ++ thread_texts t) ++ listed_text t ≡ old ++ thread_texts (t + 1)
threads_more old t = append_assoc old (thread_texts t) (listed_text t) ∙ ap (λ (text : List ℕ). old ++ text) (sym (threads-next t))
