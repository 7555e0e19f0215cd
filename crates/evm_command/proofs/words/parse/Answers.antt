use Rattle.std.proofs.Common.{◌≡◌, ◌∙◌, true, ap, refl, subst, map}
use Rattle.std.specs.String.{string_bytes}
use Rattle.clap.specs.Words.{App, FailsBy, fault_of, is_simple_and_free}
use Rattle.evm_command.specs.Words.{evltool}
use Rattle.evm_command.proofs.words.parse.Goals as goal

pub returns-clause-fails : goal.returns-clause-fails
returns-clause-fails c =
    let simple : is_simple_and_free evltool ≡ true = refl in
    subst (λ (a : App). FailsBy (fault_of a (map string_bytes c.args.words.now)) c.try_get_matches_from.result) c.in_ok-command.ensures
    (c.try_get_matches_from.ensures.kinds (ap is_simple_and_free c.in_ok-command.ensures ∙ simple))
