-- Words of RAM.
use Rattle.std.proofs.Common.{◌≡◌, ℕ, ◌-◌, ◌≤◌, List, Some, drop, length, sym, ap, ◌∙◌, arith}
use Rattle.std.proofs.lemmas.List.{length-drop, length-take-le}
use Rattle.evm_core.proofs.Blocks.{block-found}
use Rattle.evm_ram.specs.Ram.{bytes_at}
use Rattle.evm_ram.specs.declared.ram.TheConstants.{BASE}

-- as many bytes are found as were asked for
pub four-bytes : (ram bytes : List ℕ) (address : ℕ) → bytes_at ram address 4 ≡ Some bytes → length bytes ≡ 4
four-bytes ram bytes address found =
    let stands = block-found ram address 4 bytes (omega arith) found in
    let long : 4 ≤ length (drop (address - BASE) ram) = omega (arith, stands.0, stands.1, length-drop (address - BASE) ram) in
    ap length (sym stands.2) ∙ length-take-le 4 (drop (address - BASE) ram) long
