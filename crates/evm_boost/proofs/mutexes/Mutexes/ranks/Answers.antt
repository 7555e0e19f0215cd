use Rattle.std.proofs.Common.{◌≡◌, ◌+◌, ◌-◌, ap, sym, ◌∙◌, arith, length}
use Rattle.evm_boost.proofs.Raising.{all-made, ranks_after-are, ranks_after-none, length-next, length-own, next-none, no-mutex, not-more, round-made, round-still, was-same}
use Rattle.evm_boost.proofs.mutexes.Mutexes.ranks.Goals as goal

pub loop-moves-init : goal.loop-moves-init
loop-moves-init c = record {
  after = sym (ranks_after-none _ _ _);
  few = omega (arith);
  ended = λ e. next-none _ _ _ _ (no-mutex _ (omega (arith, c.count-moves.ensures.count, not-more _ e)));
  long = ap length c.own_ranks.ensures.ranks ∙ length-own _ _ _;
}

pub loop-moves-preserved : goal.loop-moves-preserved
loop-moves-preserved c = record {
  after = round-made _ _ _ _ _ _ c.loop-moves.invariant.after c.next_ranks.ensures;
  few = omega (arith, c.if-rounds-lt-TASK_LIMIT.true);
  ended = λ e. round-still _ _ _ _ _ c.next_ranks.ensures (c.is_same-moves.ensures (was-same _ e));
  long = ap length c.next_ranks.ensures ∙ length-next _ _ _ _ ∙ ap length c.own_ranks.ensures.ranks ∙ length-own _ _ _;
}

pub returns-after-loop-moves : goal.returns-after-loop-moves
returns-after-loop-moves c t less =
    let left : 64 ≡ c.loop-moves.rounds + (64 - c.loop-moves.rounds) = omega (arith, c.loop-moves.invariant.few) in
    let made = all-made _ _ _ _ _ _ 64 left c.loop-moves.invariant.after (c.loop-moves.invariant.ended c.loop-moves-test.false) in
    rw (made, c.own_ranks.ensures.ranks) (ranks_after-are _ _ _ c.own_ranks.ensures.limit t less)

pub returns-else-rounds-lt-TASK_LIMIT : goal.returns-else-rounds-lt-TASK_LIMIT
returns-else-rounds-lt-TASK_LIMIT c t less =
    let made : c.loop-moves.rounds ≡ 64 = omega (arith, c.loop-moves.invariant.few, c.if-rounds-lt-TASK_LIMIT.false) in
    rw (c.loop-moves.invariant.after, made, c.own_ranks.ensures.ranks) (ranks_after-are _ _ _ c.own_ranks.ensures.limit t less)
