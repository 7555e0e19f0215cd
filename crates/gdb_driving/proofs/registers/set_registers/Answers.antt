use Rattle.std.proofs.Common.{rules, refl, ◌≡◌, ◌+◌, ◌*◌, ◌-◌, ◌∙◌, ap, drop, arith, subst, ℕ, drop-drop}
use Rattle.std.specs.Prelude.{Ok, Err}
use Rattle.evm_exec.specs.declared.hart.TheConstants.{REGISTERS}
use Rattle.gdb_driving.specs.Setting.{MakesEach, register_change, register_changes, leading_word, register_word}
use Rattle.gdb_driving.proofs.Kept.{keeps_same, keeps_more}
use Rattle.gdb_driving.proofs.Making.{changes_none, changes_more, changes_ended}
use Rattle.gdb_driving.proofs.registers.set_registers.Goals as goal

pub loop-r-init : goal.loop-r-init
loop-r-init g c = record {
  kept = keeps_same c.args.machine.now;
  behind = refl;
  made = changes_none c.in-Ok.c c.in-Some.hart c.args.bytes.now c.args.machine.now;
}

pub loop-r-preserved : goal.loop-r-preserved
loop-r-preserved g c =
    let on : 8 * c.loop-r.r + 8 ≡ 8 * (c.loop-r.r + 1) = omega arith in
    let read : c.in-Some-word_at.value ≡ register_word c.args.bytes.now c.loop-r.r = c.in-Some-word_at.ensures.some.0 ∙ ap leading_word c.loop-r.invariant.behind in
    record {
      kept = keeps_more c.args.machine.now c.loop-r.machine c.change_register.new.machine c.loop-r.invariant.kept c.change_register.ensures.kept;
      behind = c.in-Some-word_at.ensures.some.1 ∙ ap (drop 8) c.loop-r.invariant.behind ∙ drop-drop 8 (8 * c.loop-r.r) c.args.bytes.now ∙ ap (λ (n : ℕ). drop n c.args.bytes.now) on;
      made =
          changes_more c.loop-r.r c.in-Ok.c c.in-Some.hart c.args.bytes.now (Ok tt) c.args.machine.now c.loop-r.machine c.change_register.new.machine
          c.loop-r.invariant.made
          (subst (λ (value : ℕ). MakesEach (register_change c.in-Ok.c c.in-Some.hart c.loop-r.r value) (Ok tt) c.loop-r.machine c.change_register.new.machine) read
          c.in-Ok-change_register.ensures.made);
    }

pub returns-in-Err-change_register-clause-made : goal.returns-in-Err-change_register-clause-made
returns-in-Err-change_register-clause-made g c =
    let read : c.in-Some-word_at.value ≡ register_word c.args.bytes.now c.loop-r.r = c.in-Some-word_at.ensures.some.0 ∙ ap leading_word c.loop-r.invariant.behind in
    let next : MakesEach (register_changes (c.loop-r.r + 1) c.in-Ok.c c.in-Some.hart c.args.bytes.now) (Err c.in-Err-change_register.refusal) c.args.machine.now c.change_register.new.machine =
    changes_more c.loop-r.r c.in-Ok.c c.in-Some.hart c.args.bytes.now (Err c.in-Err-change_register.refusal) c.args.machine.now c.loop-r.machine c.change_register.new.machine
    c.loop-r.invariant.made
    (subst (λ (value : ℕ). MakesEach (register_change c.in-Ok.c c.in-Some.hart c.loop-r.r value) (Err c.in-Err-change_register.refusal) c.loop-r.machine c.change_register.new.machine) read
    c.in-Err-change_register.ensures.made) in
    let on : (32 - c.loop-r.r) + (c.loop-r.r + 1) ≡ REGISTERS + 1 = omega arith in
    let all : MakesEach (register_changes (REGISTERS + 1) c.in-Ok.c c.in-Some.hart c.args.bytes.now) (Err c.in-Err-change_register.refusal) c.args.machine.now c.change_register.new.machine =
    subst (λ (k : ℕ). MakesEach (register_changes k c.in-Ok.c c.in-Some.hart c.args.bytes.now) (Err c.in-Err-change_register.refusal) c.args.machine.now c.change_register.new.machine) on
    (changes_ended (32 - c.loop-r.r) (c.loop-r.r + 1) c.in-Ok.c c.in-Some.hart c.args.bytes.now c.in-Err-change_register.refusal c.args.machine.now c.change_register.new.machine next) in
    search rules
