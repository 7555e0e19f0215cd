use Rattle.claims_texts.proofs.Lines.{is_run_again}
use Rattle.claims_texts.proofs.sessions.a_session_is_a_run.Goals as goal

pub returns : goal.returns
returns c = is_run_again
