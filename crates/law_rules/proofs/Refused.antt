-- An event that is not refused passes each of the tests.
use Rattle.std.proofs.Common.{◌≡◌, ℕ, ◌<◌, ◌≤◌, Bool, true, false, Option, Some, None, refl, leb-false, arith}
use Rattle.std.specs.Prelude.{nat_lt, if◌then◌else◌}
use Rattle.evm_lines.specs.declared.TheConstants.{LINES}
use Rattle.evm_model.specs.Profiles.{line_count}
use Rattle.evm_model.specs.declared.limits.TheConstants.{FIRST_LINES, WIDE_PROFILE}
use Rattle.evm_model.specs.declared.profile.Profile.{Profile}
use Rattle.evm_model.specs.declared.refusal.Refusal.{Refusal}
use Rattle.evm_model.specs.declared.refusal.Refusal.TheVariants.{NoSuchCpu, NoSuchLine, NotStopped, NoTask, BadAddress, BadRegister, NoSlot, NoBreakpoint}
use Rattle.evm_model.specs.Refusals.{applies, board_refusal, no_such_line}
use Rattle.evm_model.specs.State.{Board}
use Rattle.evm_model.specs.Event.{Event}

neither : (b : Bool) (refusal : Refusal) (rest : Option Refusal) → (if b then Some refusal else rest) ≡ None → (b ≡ false) × (rest ≡ None)
neither true refusal rest e = cc
neither false refusal rest e = (refl, e)

pub passes : (event : Event) (b : Board) (refusal : Refusal) → board_refusal event b ≡ None → applies event b refusal ≡ false
unfolding board_refusal
passes event b refusal e =
    let test : Refusal → Bool = applies event b in
    let h1 = neither (test NoSuchCpu) NoSuchCpu _ e in
    let h2 = neither (test NoSuchLine) NoSuchLine _ h1.1 in
    let h3 = neither (test NotStopped) NotStopped _ h2.1 in
    let h4 = neither (test NoTask) NoTask _ h3.1 in
    let h5 = neither (test BadAddress) BadAddress _ h4.1 in
    let h6 = neither (test BadRegister) BadRegister _ h5.1 in
    let h7 = neither (test NoSlot) NoSlot _ h6.1 in
    let h8 = neither (test NoBreakpoint) NoBreakpoint _ h7.1 in
    elim refusal as (λ r. applies event b r ≡ false) [
      | NoSuchCpu ↦ h1.0
      | NoSuchLine ↦ h2.0
      | NotStopped ↦ h3.0
      | NoTask ↦ h4.0
      | BadAddress ↦ h5.0
      | BadRegister ↦ h6.0
      | NoSlot ↦ h7.0
      | NoBreakpoint ↦ h8.0
      | _ ↦ refl
    ]

lines_if : (b : Bool) → (if b then FIRST_LINES else LINES) ≤ LINES
lines_if true = omega arith
lines_if false = omega arith

-- no profile has more lines than are kept
pub lines_few : (profile : Profile) → line_count profile ≤ LINES
lines_few profile = lines_if (nat_lt profile.version WIDE_PROFILE)

pub is_line : (l : ℕ) (b : Board) → no_such_line l b ≡ false → l < LINES
is_line l b e = let few : line_count b.parts.profile ≤ LINES = lines_few b.parts.profile in let less : l < line_count b.parts.profile = leb-false (line_count b.parts.profile) l e in omega (arith, few, less)
