-- the sort keeps whether two segments share an address, and in the order of addresses the neighbours decide
use Rattle.std.proofs.Common.{rules, not, ◌∙◌, ap}
use Rattle.std.proofs.lemmas.List.Sorted.{IsNonDecreasingBy-from_sort_by_key}
use Rattle.evm_elf.specs.declared.header.Header.{Header}
use Rattle.evm_elf.specs.Fields.{headers_from}
use Rattle.evm_elf.specs.Rising.{rise_from}
use Rattle.evm_elf.proofs.Sharing.{sorted_decides}
use Rattle.evm_elf.proofs.overlap.any_shared.Goals as goal

pub returns : goal.returns
returns c =
    ap not (c.rise.ensures ∙ ap (rise_from 0) c.deref.ensures.value)
    ∙ sorted_decides (headers_from c.args.file.now 0 c.args.count) c.in-Ok.headers.items c.sort_unstable_by_key.new.self.items c.in-Ok.ensures c.sort_unstable_by_key.ensures.permutation
    (IsNonDecreasingBy-from_sort_by_key (λ (h : Header). h.address) _ c.sort_unstable_by_key.ensures.sorted (λ a r q k. search rules))
