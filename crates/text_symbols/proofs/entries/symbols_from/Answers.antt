use Rattle.std.proofs.Common.{◌++◌, ap, ◌∙◌}
use Rattle.std.specs.Option.{option_to_list}
use Rattle.text_symbols.specs.Entries.{symbols_from}
use Rattle.text_symbols.proofs.OneEntry.{one_more}
use Rattle.text_symbols.proofs.entries.symbols_from.Goals as goal

pub loop-i-preserved : goal.loop-i-preserved
loop-i-preserved c =
    one_more (symbols_from c.args.file.now c.args.names.now c.args.offset c.args.count) c.loop-i.symbols.items c.push.new.symbols.items c.args.file.now c.args.names.now c.args.offset c.loop-i.i c.args.count c.loop-i-test.true c.loop-i.invariant
    (c.in_ok-push.ensures.ok ∙ ap (λ o. c.loop-i.symbols.items ++ option_to_list o) c.in_ok-symbol.ensures.ok)
