use Rattle.std.proofs.Common.{arith}
use Rattle.claims_threads.proofs.Made.{paired_made}
use Rattle.claims_threads.proofs.Taken.{paired_bells, paired_lines}
use Rattle.claims_threads.proofs.taking.each_ring_is_left_or_becomes_a_bell_of_a_pair.Goals as goal

pub returns-in_default-clause-told : goal.returns-in_default-clause-told
returns-in_default-clause-told g c pairs = (paired_bells c.args.ports.items c.args.takers.items pairs, λ p l low. paired_lines p l c.args.ports.items c.args.takers.items low pairs)

pub returns-clause-told : goal.returns-clause-told
returns-clause-told g c pairs = (paired_bells c.args.ports.items c.args.takers.items pairs, λ p l low. paired_lines p l c.args.ports.items c.args.takers.items low pairs)

pub returns-clause-lines : goal.returns-clause-lines
returns-clause-lines g c p l low none pairs holds =
    c.in-Some.ensures.lines p l none (paired_bells c.args.ports.items c.args.takers.items pairs) holds (paired_lines p l c.args.ports.items c.args.takers.items low pairs)

pub returns-clause-since : goal.returns-clause-since
returns-clause-since g c p l low late pairs holds =
    c.in-Some.ensures.since p l late (paired_bells c.args.ports.items c.args.takers.items pairs) holds (paired_lines p l c.args.ports.items c.args.takers.items low pairs)

pub returns-clause-made : goal.returns-clause-made
returns-clause-made g c pairs = omega (arith, c.in-Some.ensures.totals, paired_made c.args.ports.items c.args.takers.items pairs)
