-- eight fields, one behind the other
use Rattle.std.proofs.Common.{◌≡◌, ℕ, List, ◌++◌, ◌∙◌, ap, append_assoc}
use Rattle.byteorder.specs.Endian.{little_bytes}
use Rattle.evm_ram.specs.Images.{range_start}
use Rattle.evm_elf.proofs.writing.push_load_header.Goals as goal

two_words : (f0 f1 f2 a b : List ℕ) → f1 ≡ f0 ++ a → f2 ≡ f1 ++ b → f2 ≡ f0 ++ (a ++ b)
two_words f0 f1 f2 a b p q = q ∙ (ap (λ t. t ++ b) p ∙ append_assoc f0 a b)

pub returns-clause-items : goal.returns-clause-items
returns-clause-items c =
    let f0 = c.args.file.now.items in
    let f8 = c.push_long-6.new.file.items in
    let one = two_words f0 c.push_word.new.file.items c.push_word-2.new.file.items (little_bytes 4 1) (little_bytes 4 7) c.push_word.ensures.items c.push_word-2.ensures.items in
    let offset = two_words f0 c.push_word-2.new.file.items c.push_long.new.file.items _ (little_bytes 8 120) one c.push_long.ensures.items in
    let virtual = two_words f0 c.push_long.new.file.items c.push_long-2.new.file.items _ (little_bytes 8 range_start) offset c.push_long-2.ensures.items in
    let physical = two_words f0 c.push_long-2.new.file.items c.push_long-3.new.file.items _ (little_bytes 8 range_start) virtual c.push_long-3.ensures.items in
    let filesz = two_words f0 c.push_long-3.new.file.items c.push_long-4.new.file.items _ (little_bytes 8 c.args.len) physical c.push_long-4.ensures.items in
    let memsz = two_words f0 c.push_long-4.new.file.items c.push_long-5.new.file.items _ (little_bytes 8 c.args.len) filesz c.push_long-5.ensures.items in
    two_words f0 c.push_long-5.new.file.items f8 _ (little_bytes 8 4) memsz c.push_long-6.ensures.items
