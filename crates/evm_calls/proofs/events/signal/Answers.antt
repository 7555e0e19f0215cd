use Rattle.std.proofs.Common.{◌≡◌, ◌<◌, length, ap, sym, ◌∙◌, arith}
use Rattle.evm_model.proofs.Lists.{slice_get-within}
use Rattle.evm_model.specs.Events.{signal}
use Rattle.evm_model.specs.State.{Parts}
use Rattle.evm_model.specs.declared.call.Outcome.TheVariants.{Returns}
use Rattle.evm_calls.proofs.Objects.{signal-once}
use Rattle.evm_calls.proofs.events.signal.Goals as goal

pub returns : goal.returns
unfolding signal
returns c =
    let same : c.parts.inside.events ≡ c.args.parts.now.events = ap (λ (k : Parts). k.events) c.parts.view_is in
    let there : c.args.event < length c.args.parts.now.events = omega (arith, ap length same, c.if-event-from.false, c.from.ensures, c.count.ensures.count) in
    let event = slice_get-within c.args.parts.now.events c.args.event there in
    rw event.1 (ap (λ (k : Parts). (k, Returns 0)) (c.signal_first-found.ensures.row ∙ sym (signal-once c.args.event c.args.parts.now)))
