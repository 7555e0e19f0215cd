use Rattle.std.proofs.Common.{ℕ, ◌∙◌, ap, take, drop}
use Rattle.std.proofs.lemmas.List.{take_min, drop_min, take_rest}
use Rattle.evm_model.specs.declared.limits.TheConstants.{POKE_LIMIT}
use Rattle.gdb_driving.proofs.memory.cut_block.Goals as goal

pub returns-clause-first : goal.returns-clause-first
returns-clause-first c = ap (λ (n : ℕ). take n c.args.bytes.now) c.part_len-end.ensures.least ∙ take_min POKE_LIMIT c.args.bytes.now

pub returns-clause-others : goal.returns-clause-others
returns-clause-others c =
    take_rest c.args.bytes.now c.part_len-end.result ∙ ap (λ (n : ℕ). drop n c.args.bytes.now) c.part_len-end.ensures.least ∙ drop_min POKE_LIMIT c.args.bytes.now
