use Rattle.std.proofs.Common.{◌≡◌, ℕ, List, [], ◌∷◌, Option, Some, None, slice_get, refl, ap}
use Rattle.evm_lines.specs.Lines.{all_lines, with_line, without_line}
use Rattle.evm_model.specs.Actions.{receive_line}
use Rattle.evm_model.specs.Waits.{wake_below}
use Rattle.evm_model.specs.Pipes.{Pipe, raise, arrive, leave_wire, receive, play}
use Rattle.evm_model.specs.Ranks.{best, first, next_in_band}
use Rattle.evm_model.specs.Refusals.{board_refusal}
use Rattle.evm_model.specs.Replay.{apply, replay, start}
use Rattle.evm_model.specs.Rows.{row, step}
use Rattle.evm_model.specs.Settle as settle
use Rattle.evm_model.specs.State.{booted, booted_parts, newest}
use Rattle.evm_model.specs.Watch.{rest_watch}
use Rattle.evm_model.specs.declared.counts.Counts.{Counts}
use Rattle.evm_model.specs.declared.event.Event.TheVariants.{Raise, Step}
use Rattle.law_runs.specs.Balance.{Balance}
use Rattle.claims_machine.proofs.Reached.{ran}
use Rattle.claims_machine.proofs.no_interrupt_lost.no_line_is_lost_on_its_wire.Goals as goal

pub returns-clause-ran : goal.returns-clause-ran
returns-clause-ran c boot s p l pipe n r here there =
    ((ran Balance boot s r (c.balance_holds.ensures.booted r.devices boot) (λ byte entry. c.balance_holds.ensures.loaded r.devices byte entry boot)).each p l pipe n here there).wire

pub returns-clause-fresh : goal.returns-clause-fresh
returns-clause-fresh c s events p l pipe n idle here there =
    ((c.balance_holds.ensures.fresh s (record { journal = idle.journal; pipes = idle.pipes }) events).each p l pipe n here there).wire

-- the counts of line 5, and the wire, of a pipe that may be there
abbrev counts_of : Option Pipe → Option Counts
counts_of None = None
counts_of (Some p) = slice_get p.counts 5

abbrev wire_of : Option Pipe → List ℕ
wire_of None = []
wire_of (Some p) = p.wire

abbrev counted : ℕ → ℕ → ℕ → ℕ → ℕ → Counts
counted raised merged received arrivals played = record {
  raised = raised;
  merged = merged;
  received = received;
  oob = record { arrivals = 0; merged = 0; played = 0 };
  in_band = record { arrivals = arrivals; merged = 0; played = played };
}

read_off : (all : Counts) (wire : List ℕ) (o : Option Pipe) (pipe : Pipe) (n : Counts) → counts_of o ≡ Some all → wire_of o ≡ wire
    → o ≡ Some pipe → slice_get pipe.counts 5 ≡ Some n → (n.raised ≡ all.raised) × (n.merged ≡ all.merged) × (n.received ≡ all.received) × (pipe.wire ≡ wire)
read_off all wire o pipe n counts lines here there =
    let at = rw here at counts in
    let same : n ≡ all = cc in (
      ap (λ (m : Counts). m.raised) same,
      ap (λ (m : Counts). m.merged) same,
      ap (λ (m : Counts). m.received) same,
      rw here at lines,
    )

twice : (ram : ℕ) → counts_of (slice_get (replay (start [] (newest 1 ram 8)) (Raise 0 5 ∷ Raise 0 5 ∷ [])).board.parts.pipes 0) ≡ Some (counted 2 1 0 0 0)
unfolding replay apply row board_refusal booted booted_parts raise with_line all_lines
twice ram = refl

waits : (ram : ℕ) → wire_of (slice_get (replay (start [] (newest 1 ram 8)) (Raise 0 5 ∷ Raise 0 5 ∷ [])).board.parts.pipes 0) ≡ 5 ∷ []
unfolding replay apply row board_refusal booted booted_parts raise with_line all_lines
waits ram = refl

pub returns-clause-on_the_wire : goal.returns-clause-on_the_wire
returns-clause-on_the_wire c ram pipe n here there = read_off (counted 2 1 0 0 0) (5 ∷ []) _ pipe n (twice ram) (waits ram) here there

then_received : (ram : ℕ) → counts_of (slice_get (replay (start [] (newest 1 ram 8)) (Raise 0 5 ∷ Raise 0 5 ∷ Step 0 ∷ [])).board.parts.pipes 0) ≡ Some (counted 2 1 1 1 1)
unfolding replay apply row step receive_line board_refusal booted booted_parts raise arrive leave_wire receive play with_line without_line all_lines best first next_in_band settle.play_oob settle.play_in_band settle.play_oob_lines settle.play_in_band_lines settle.settle_oob settle.turn_in_band settle.settle_in_band settle.settle settle.nudge settle.settle_and_nudge rest_watch wake_below
then_received ram = refl

then_off : (ram : ℕ) → wire_of (slice_get (replay (start [] (newest 1 ram 8)) (Raise 0 5 ∷ Raise 0 5 ∷ Step 0 ∷ [])).board.parts.pipes 0) ≡ []
unfolding replay apply row step receive_line board_refusal booted booted_parts raise arrive leave_wire receive play with_line without_line all_lines best first next_in_band settle.play_oob settle.play_in_band settle.play_oob_lines settle.play_in_band_lines settle.settle_oob settle.turn_in_band settle.settle_in_band settle.settle settle.nudge settle.settle_and_nudge rest_watch wake_below
then_off ram = refl

pub returns-clause-received : goal.returns-clause-received
returns-clause-received c ram pipe n here there = read_off (counted 2 1 1 1 1) [] _ pipe n (then_received ram) (then_off ram) here there
