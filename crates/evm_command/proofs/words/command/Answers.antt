use Rattle.std.proofs.Common.{ap, ap₂, ◌≡◌, ◌∙◌}
use Rattle.std.proofs.lemmas.Result.{IfOk-weaker}
use Rattle.clap.specs.Words.{App, app_of, with_subcommand}
use Rattle.evm_command.specs.Words.{asm_app, run_app, replay_app, bare_app}
use Rattle.evm_command.proofs.words.command.Goals as goal

pub returns : goal.returns
returns c =
    let first : app_of c.in_ok-subcommand.field-0 ≡ with_subcommand bare_app asm_app.top = c.in_ok-subcommand.ensures.shape c.in_ok-asm_command.ensures.local
    ∙ ap₂ with_subcommand c.bare_command.ensures (ap (λ (a : App). a.top) c.in_ok-asm_command.ensures.app) in
    let second : app_of c.in_ok-subcommand-2.field-0 ≡ with_subcommand (with_subcommand bare_app asm_app.top) run_app.top = c.in_ok-subcommand-2.ensures.shape c.in_ok-run_command.ensures.local
    ∙ ap₂ with_subcommand first (ap (λ (a : App). a.top) c.in_ok-run_command.ensures.app) in
    let third : app_of c.in_ok-subcommand-3.field-0 ≡ with_subcommand (with_subcommand (with_subcommand bare_app asm_app.top) run_app.top) replay_app.top = c.in_ok-subcommand-3.ensures.shape c.in_ok-replay_command.ensures.local
    ∙ ap₂ with_subcommand second (ap (λ (a : App). a.top) c.in_ok-replay_command.ensures.app) in
    IfOk-weaker c.subcommand-4.result _ _ (λ r h. h.shape c.in_ok-threads_command.ensures.local
    ∙ ap₂ with_subcommand third (ap (λ (a : App). a.top) c.in_ok-threads_command.ensures.app)) c.subcommand-4.ensures
