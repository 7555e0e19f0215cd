-- What ticks and the debugger's commands do.
use Rattle.std.specs.Prelude.{ℕ, ◌+◌, List, [], ◌∷◌, ◌++◌, Option, Some, None, Bool, not, ◌==◌, if◌then◌else◌, filter, map}
use Rattle.std.specs.List.{list_any}
use Rattle.evm_exec.specs.declared.hart.Hart.{Hart}
use Rattle.evm_model.specs.Pipes.{raise}
use Rattle.evm_model.specs.Settle.{current}
use Rattle.evm_model.specs.State.{Board, Parts, on_hart, on_processor}

-- one more tick, and line 0 is raised on each processor
unfoldable pub tick : Parts → Parts
tick p = record p { ticks = p.ticks + 1; pipes = map (raise 0) p.pipes }

-- processor c has these stop and skip bits
unfoldable pub set_bits : Bool → Bool → ℕ → Parts → Parts
set_bits stopped skip c p = on_processor c (λ cpu. record cpu { stopped = stopped; skip = skip }) p

abbrev pub on_number : Option ℕ → (Hart → Hart) → Parts → Parts
on_number None f p = p
on_number (Some t) f p = on_hart t f p

-- the registers or the pc of c's current task are changed
abbrev pub on_current : ℕ → (Hart → Hart) → Parts → Parts
on_current c f p = on_number (current c p) f p

-- whether a breakpoint is set at an address
abbrev pub is_set : List ℕ → ℕ → Bool
is_set breakpoints address = list_any (λ a. a == address) breakpoints

abbrev pub with_breakpoint : List ℕ → ℕ → List ℕ
with_breakpoint breakpoints address = if is_set breakpoints address then breakpoints else breakpoints ++ address ∷ []

abbrev pub without_breakpoint : List ℕ → ℕ → List ℕ
without_breakpoint breakpoints address = filter (λ a. not (a == address)) breakpoints

unfoldable pub set_breakpoint : ℕ → Board → Board
set_breakpoint address b = record b { breakpoints = with_breakpoint b.breakpoints address }

unfoldable pub unset_breakpoint : ℕ → Board → Board
unset_breakpoint address b = record b { breakpoints = without_breakpoint b.breakpoints address }
