-- What an accepted call leaves of its port.
use Rattle.std.proofs.Common.{◌≡◌, ℕ, List, [], ◌∷◌, ◌++◌, length, ap, ◌∙◌}
use Rattle.evm_model.specs.State.{State}
use Rattle.evm_shared.specs.EventCounts.{plus}
use Rattle.evm_shared.specs.Ports.{PortValue, Records, recorded, with_log}
use Rattle.evm_shared.specs.declared.event_counts.EventCounts.{EventCounts}
use Rattle.evm_shared.specs.declared.receipt.Made.{Made}

-- it has seen the history, its share has grown, the call stands in the history, and there is a receipt
pub records : (log : List Made) (before : State) (made own : Made) (position : ℕ) (more counts : EventCounts) (old seen counted after new : PortValue)
    → position ≡ length before.journal → own ≡ made → more ≡ counts → seen ≡ with_log log old → counted ≡ (record seen { share = plus seen.share more })
    → after ≡ with_log (log ++ own ∷ []) counted → new ≡ recorded position own after → Records log before made counts old new
records log before made own position more counts old seen counted after new at same kinds sees share appends is =
    let shared : counted ≡ (record old { share = plus old.share counts; log = log }) =
    share ∙ ap (λ (p : PortValue). (record p { share = plus p.share more })) sees ∙ ap (λ m. (record old { share = plus old.share m; log = log })) kinds in
    let whole : after ≡ (record old { share = plus old.share counts; log = log ++ made ∷ [] }) =
    appends ∙ ap (with_log (log ++ own ∷ [])) shared ∙ ap (λ m. (record old { share = plus old.share counts; log = log ++ m ∷ [] })) same in
    is ∙ (λ i. recorded (at i) (same i) (whole i))
