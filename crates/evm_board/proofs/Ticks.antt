-- Raising the timer's line of one processor after another is raising it of each.
use Rattle.std.proofs.Common.{◌≡◌, ℕ, ◌+◌, ◌≤◌, List, Bool, length, refl, sym, ap, ◌∙◌}
use Rattle.std.specs.Prelude.{slice_get, nat_le, map}
use Rattle.std.proofs.lemmas.Option.{slice_get-map}
use Rattle.evm_model.specs.Pipes.{Pipe, raise}
use Rattle.evm_model.specs.State.{Parts, on_pipe}
use Rattle.evm_model.proofs.Lists.{same_elements}
use Rattle.evm_settle.proofs.Nudges.{changed_below, changed_below-none, changed_below-more, all-at}

abbrev pub raise_timer : ℕ → Pipe → Pipe
raise_timer c pipe = raise 0 pipe

timers-map : (n i : ℕ) (xs : List Pipe) (b : Bool) → nat_le n i ≡ b → length xs ≤ n → slice_get (changed_below raise_timer n xs) i ≡ slice_get (map (raise 0) xs) i
timers-map n i xs b e h = all-at raise_timer n i xs b e h ∙ sym (slice_get-map (raise 0) xs i)

pub timers-all : (n : ℕ) (xs : List Pipe) → length xs ≤ n → changed_below raise_timer n xs ≡ map (raise 0) xs
timers-all n xs h = same_elements (changed_below raise_timer n xs) (map (raise 0) xs) (λ i. timers-map n i xs (nat_le n i) refl h)

pub timers-more : (c : ℕ) (k : Parts) → on_pipe c (raise 0) (record k { pipes = changed_below raise_timer c k.pipes }) ≡ record k { pipes = changed_below raise_timer (c + 1) k.pipes }
timers-more c k = ap (λ (ps : List Pipe). record k { pipes = ps }) (sym (changed_below-more raise_timer c k.pipes))

pub timers-none : (k : Parts) → record k { pipes = changed_below raise_timer 0 k.pipes } ≡ k
timers-none k = ap (λ (ps : List Pipe). record k { pipes = ps }) (changed_below-none raise_timer k.pipes)
