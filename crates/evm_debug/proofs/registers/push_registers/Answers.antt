use Rattle.std.proofs.Common.{◌≡◌, ◌++◌, ◌+◌, ◌-◌, ◌*◌, ◌<◌, List, [], ℕ, Ok, length, refl, ap, sym, ◌∙◌, append_assoc, arith}
use Rattle.std.proofs.lemmas.Result.{err_from_is_err_and}
use Rattle.std.proofs.lemmas.List.{append-nil}
use Rattle.std.specs.String.{string_bytes}
use Rattle.evm_debug.specs.Views.{four_registers, register_lines}
use Rattle.evm_debug.proofs.RegisterLines.{register_lines-none, register_lines-more}
use Rattle.evm_debug.proofs.RegisterText.{rows_length}
use Rattle.evm_debug.proofs.registers.push_registers.Goals as goal

pub loop-line-init : goal.loop-line-init
loop-line-init c =
    let grown = c.in_ok-grow_text.ensures in
    record { told = ([], grown.bytes ∙ sym (append-nil (string_bytes c.args.out.now)), refl); len = omega (arith, grown.len); room = omega (arith, grown.ok); capacity = grown.capacity }

pub loop-line-preserved : goal.loop-line-preserved
loop-line-preserved c =
    let i : ℕ = c.loop-line.line in
    let regs : List ℕ = c.args.hart.now.regs in
    let tail : List ℕ = register_lines ((i + 1) * 4) (8 - (i + 1)) regs in
    let below : i < 8 = omega arith in
    let inv = c.loop-line.invariant in
    let put = c.put_register_line.ensures in
    record {
      told = (
        inv.told.0 ++ four_registers (i * 4) regs,
        put.bytes ∙ ap (λ (text : List ℕ). text ++ four_registers (i * 4) regs) inv.told.1 ∙ append_assoc (string_bytes c.args.out.now) inv.told.0 (four_registers (i * 4) regs),
        append_assoc inv.told.0 (four_registers (i * 4) regs) tail ∙ ap (λ (text : List ℕ). inv.told.0 ++ text) (sym (register_lines-more i 8 regs below)) ∙ inv.told.2,
      );
      len = omega (arith, put.len, inv.len);
      room = omega (arith, put.len, put.capacity, inv.room, below);
      capacity = omega (arith, put.capacity, inv.capacity);
    }

pub returns-in_err-grow_text : goal.returns-in_err-grow_text
returns-in_err-grow_text c =
    let refused = c.in_err-grow_text.ensures in
    let size = rows_length c.args.hart.now.regs in
    let p = err_from_is_err_and c.from_residual.result c.from_residual.ensures.1 in
    rw (p.1, p.2) (record { ok = tt; len = tt; full = omega (arith, refused.full, size); refused = omega (arith, refused.refused, size); capacity = refused.capacity })

pub returns : goal.returns
returns c =
    let i : ℕ = c.loop-line.line in
    let regs : List ℕ = c.args.hart.now.regs in
    let none : 8 - i ≡ 0 = omega arith in
    let last : i ≡ 8 = omega arith in
    let inv = c.loop-line.invariant in
    let size = rows_length regs in
    let all = sym (append-nil inv.told.0) ∙ ap (λ (text : List ℕ). inv.told.0 ++ text) (sym (register_lines-none (i * 4) (8 - i) regs none)) ∙ inv.told.2 in
    record {
      ok = inv.told.1 ∙ ap (λ (text : List ℕ). string_bytes c.args.out.now ++ text) all;
      len = omega (arith, inv.len, size, last);
      full = tt;
      refused = tt;
      capacity = inv.capacity;
    }
