use Rattle.std.proofs.Common.{◌++◌, List, Ok, ap, codes, refl, ℕ}
use Rattle.evm_journal.specs.evm_text.Appending.{Appends}
use Rattle.evm_journal.proofs.evm_text.Appending.{appends_more}
use Rattle.evm_debug.proofs.Pairs.{pairs-append}
use Rattle.evm_debug.proofs.render.push_console.Goals as goal

pub returns : goal.returns
returns c =
    let both = appends_more _ _ _ _ _ _ c.in_ok-push_pairs.ensures.appends c.in_ok-push_pairs-2.ensures.appends refl in
    let last : Appends (codes "\n") _ _ (Ok tt) = record { ok = c.in_ok-push_text.ensures.ok; len = c.in_ok-push_text.ensures.len; full = tt; refused = tt; capacity = c.in_ok-push_text.ensures.capacity } in
    appends_more _ _ _ _ _ _ both last (ap (λ (text : List ℕ). text ++ codes "\n") (pairs-append c.args.older.now c.args.newer.now))
