-- Events that are made one behind another.
use Rattle.std.proofs.Common.{◌≡◌, ℕ, zero, suc, ◌+◌, List, [], ◌∷◌, ◌++◌, refl, sym, subst, add-one, arith}
use Rattle.std.specs.Prelude.{Result, Ok, Err, MatchResult}
use Rattle.evm_exec.specs.declared.hart.Hart.{Hart}
use Rattle.evm_model.specs.Event.{Event}
use Rattle.evm_model.specs.Replay.{apply}
use Rattle.evm_model.specs.State.{State}
use Rattle.evm_model.specs.declared.event.Answer.{Answer}
use Rattle.evm_model.specs.declared.refusal.Refusal.{Refusal}
use Rattle.gdb_driving.specs.Setting.{MakesEach, register_change, register_changes, register_word}

then-more : (o : Result (State × Answer) Refusal) (result : Result (Unit {0}) Refusal) (xs ys : List Event) (old mid new : State)
    → ((from : State) → MakesEach xs (Ok tt) from mid → MakesEach ys result from new)
    → MatchResult o (λ after. MakesEach xs (Ok tt) after.0 mid) (λ refusal. (Ok (tt {0}) ≡ Err refusal) × (mid ≡ old))
    → MatchResult o (λ after. MakesEach ys result after.0 new) (λ refusal. (result ≡ Err refusal) × (new ≡ old))
then-more (Ok after) result xs ys old mid new step m = step after.0 m
then-more (Err refusal) result xs ys old mid new step m = absurd (cc m.0)

-- events behind events that were all accepted
pub makes_more : (xs ys : List Event) (result : Result (Unit {0}) Refusal) (old mid new : State)
    → MakesEach xs (Ok tt) old mid → MakesEach ys result mid new → MakesEach (xs ++ ys) result old new
makes_more [] ys result old mid new m n = subst (λ (from : State). MakesEach ys result from new) m.1 n
makes_more (x ∷ xs) ys result old mid new m n =
    then-more (apply old x) result xs (xs ++ ys) old mid new (λ from k. makes_more xs ys result from mid new k n) m

then-ended : (o : Result (State × Answer) Refusal) (result : Result (Unit {0}) Refusal) (xs ys : List Event) (old new : State)
    → ((from : State) → MakesEach xs result from new → MakesEach ys result from new)
    → MatchResult o (λ after. MakesEach xs result after.0 new) (λ refusal. (result ≡ Err refusal) × (new ≡ old))
    → MatchResult o (λ after. MakesEach ys result after.0 new) (λ refusal. (result ≡ Err refusal) × (new ≡ old))
then-ended (Ok after) result xs ys old new step m = step after.0 m
then-ended (Err refusal) result xs ys old new step m = m

-- events of which one was refused, whatever events are behind them
pub makes_ended : (xs ys : List Event) (refusal : Refusal) (old new : State) → MakesEach xs (Err refusal) old new → MakesEach (xs ++ ys) (Err refusal) old new
makes_ended [] ys refusal old new m = absurd (cc m.0)
makes_ended (x ∷ xs) ys refusal old new m = then-ended (apply old x) (Err refusal) xs (xs ++ ys) old new (λ from k. makes_ended xs ys refusal from new k) m

pub changes_none : (c : ℕ) (hart : Hart) (bytes : List ℕ) (s : State) → MakesEach (register_changes 0 c hart bytes) (Ok tt) s s
unfolding register_changes
changes_none c hart bytes s = (refl, refl)

register_changes-next : (r c : ℕ) (hart : Hart) (bytes : List ℕ) → register_changes (r + 1) c hart bytes ≡ register_changes r c hart bytes ++ register_change c hart r (register_word bytes r)
unfolding register_changes
register_changes-next r c hart bytes = rw add-one refl

-- one register more
pub changes_more : (r c : ℕ) (hart : Hart) (bytes : List ℕ) (result : Result (Unit {0}) Refusal) (old mid new : State)
    → MakesEach (register_changes r c hart bytes) (Ok tt) old mid → MakesEach (register_change c hart r (register_word bytes r)) result mid new → MakesEach (register_changes (r + 1) c hart bytes) result old new
changes_more r c hart bytes result old mid new m n =
    subst (λ (events : List Event). MakesEach events result old new) (sym (register_changes-next r c hart bytes))
    (makes_more (register_changes r c hart bytes) (register_change c hart r (register_word bytes r)) result old mid new m n)

register_changes-suc : (r c : ℕ) (hart : Hart) (bytes : List ℕ) → register_changes (suc r) c hart bytes ≡ register_changes r c hart bytes ++ register_change c hart r (register_word bytes r)
unfolding register_changes
register_changes-suc r c hart bytes = refl

-- an event of the first registers was refused, whatever registers are behind them
pub changes_ended : (more r c : ℕ) (hart : Hart) (bytes : List ℕ) (refusal : Refusal) (old new : State)
    → MakesEach (register_changes r c hart bytes) (Err refusal) old new → MakesEach (register_changes (more + r) c hart bytes) (Err refusal) old new
changes_ended zero r c hart bytes refusal old new m =
    let e : r ≡ zero + r = omega arith in subst (λ (k : ℕ). MakesEach (register_changes k c hart bytes) (Err refusal) old new) e m
changes_ended (suc more) r c hart bytes refusal old new m =
    let e : suc (more + r) ≡ suc more + r = omega arith in
    subst (λ (k : ℕ). MakesEach (register_changes k c hart bytes) (Err refusal) old new) e
    (subst (λ (events : List Event). MakesEach events (Err refusal) old new) (sym (register_changes-suc (more + r) c hart bytes))
    (makes_ended (register_changes (more + r) c hart bytes) (register_change c hart (more + r) (register_word bytes (more + r))) refusal old new
    (changes_ended more r c hart bytes refusal old new m)))
