-- Each move keeps the balance of each line.
use Rattle.std.proofs.Common.{◌≡◌, ℕ, ◌+◌, ◌<◌, ◌≤◌, Bool, true, false, Some, inl, inr, refl, ap, ◌∙◌, arith}
use Rattle.std.specs.Prelude.{slice_get, nat_lt, if◌then◌else◌}
use Rattle.std.proofs.lemmas.Bool.Decides.{nat_tests}
use Rattle.evm_lines.specs.Lines.{has_line}
use Rattle.evm_lines.specs.Laws.{has_line-with_same, has_line-with_other, has_line-without_same, has_line-without_other, line_below}
use Rattle.evm_lines.specs.declared.TheConstants.{LINES}
use Rattle.evm_model.specs.Good.{IsPipe}
use Rattle.evm_model.specs.Lists.{change}
use Rattle.evm_model.specs.Pipes.{Pipe, raise, arrive, leave_wire, receive, play, set_stall, log_of, more_if, on_passage, count_raise, count_receipt, count_arrival, count_play}
use Rattle.evm_model.specs.declared.counts.Counts.{Counts}
use Rattle.evm_model.specs.declared.stage.Stage.{Stage}
use Rattle.evm_model.specs.declared.stage.Stage.TheVariants.{OutOfBand, InBand}
use Rattle.evm_model.proofs.Lists.{change-cases, slice_get-below}
use Rattle.law_rules.proofs.Counted.{Counted, raise-counted, receive-counted, timer-counted, play-counted}
use Rattle.law_rules.proofs.Sets.{IsPipe-raise, move_kept}
use Rattle.law_rules.proofs.Walk.{PipeMove, raises, receives, plays_timer, plays_oob, plays_in_band, stalls}
use Rattle.law_runs.specs.Balance.{one_if, Balances}

-- ---- numbers
put_in : (a m p : ℕ) (on : Bool) → a ≡ m + one_if on + p → a + 1 ≡ more_if on m + 1 + p
put_in a m p true e = omega arith
put_in a m p false e = omega arith

taken_out : (a m p : ℕ) → a ≡ m + 1 + p → a ≡ m + 0 + (p + 1)
taken_out a m p e = omega arith

-- ---- which stage
lesser : (b : Bool) (l : ℕ) → nat_lt l 2 ≡ b → (if b then OutOfBand else InBand) ≡ OutOfBand → l < 2
lesser true l e h = grind (arith, nat_tests)
lesser false l e h = cc

greater : (b : Bool) (l : ℕ) → nat_lt l 2 ≡ b → (if b then OutOfBand else InBand) ≡ InBand → 2 ≤ l
greater true l e h = cc
greater false l e h = grind (arith, nat_tests)

-- ---- what a move does to the lines
-- a pipe's other lines are where they were
record Apart (l : ℕ) (p q : Pipe) : Type 0 where
  wire : (m : ℕ) → (m ≡ l → ⊥) → m < LINES → has_line q.wire m ≡ has_line p.wire m
  oob : (m : ℕ) → (m ≡ l → ⊥) → m < LINES → has_line q.oob.lines m ≡ has_line p.oob.lines m
  in_band : (m : ℕ) → (m ≡ l → ⊥) → m < LINES → has_line q.in_band.lines m ≡ has_line p.in_band.lines m

apart-then : (l : ℕ) (x y z : Pipe) → Apart l x y → Apart l y z → Apart l x z
apart-then l x y z p q = record {
  wire = λ m o h. q.wire m o h ∙ p.wire m o h;
  oob = λ m o h. q.oob m o h ∙ p.oob m o h;
  in_band = λ m o h. q.in_band m o h ∙ p.in_band m o h;
}

raise-apart : (l : ℕ) (p : Pipe) → Apart l p (raise l p)
unfolding raise
raise-apart l p = record { wire = λ m o h. has_line-with_other p.wire l m o h; oob = λ m o h. refl; in_band = λ m o h. refl }

leave-apart : (l : ℕ) (p : Pipe) → Apart l p (leave_wire l p)
unfolding leave_wire
leave-apart l p = record { wire = λ m o h. has_line-without_other p.wire l m o h; oob = λ m o h. refl; in_band = λ m o h. refl }

arrive-apart : (stage : Stage) (l : ℕ) (p : Pipe) → Apart l p (arrive stage l p)
unfolding arrive
arrive-apart OutOfBand l p = record { wire = λ m o h. refl; oob = λ m o h. has_line-with_other p.oob.lines l m o h; in_band = λ m o h. refl }
arrive-apart InBand l p = record { wire = λ m o h. refl; oob = λ m o h. refl; in_band = λ m o h. has_line-with_other p.in_band.lines l m o h }

play-apart : (stage : Stage) (l : ℕ) (p : Pipe) → Apart l p (play stage l p)
unfolding play
play-apart OutOfBand l p = record { wire = λ m o h. refl; oob = λ m o h. has_line-without_other p.oob.lines l m o h; in_band = λ m o h. refl }
play-apart InBand l p = record { wire = λ m o h. refl; oob = λ m o h. refl; in_band = λ m o h. has_line-without_other p.in_band.lines l m o h }

-- ---- what a move does to its line
raise-here : (l : ℕ) (p : Pipe) (n : Counts) → l < LINES → Balances l p n → Balances l (raise l p) (count_raise (has_line p.wire l) n)
unfolding raise
raise-here l p n h s = record {
  wire = rw (has_line-with_same p.wire l h) (put_in n.raised n.merged n.received (has_line p.wire l) s.wire);
  oob = s.oob;
  in_band = s.in_band;
  routes = record { oob_lines = s.routes.oob_lines; timer = s.routes.timer; request = s.routes.request; others = s.routes.others };
}

received-here : (stage : Stage) (l : ℕ) (p : Pipe) (n : Counts) → (l < 2 → stage ≡ OutOfBand) → has_line p.wire l ≡ true → l < LINES → Balances l p n
    → Balances l (arrive stage l (leave_wire l p)) (on_passage stage (count_arrival (has_line (log_of stage p).lines l)) (count_receipt n))
unfolding arrive leave_wire
received-here OutOfBand l p n fixed on h s = record {
  wire = rw (has_line-without_same p.wire l h) (taken_out n.raised n.merged n.received (rw on at s.wire));
  oob = rw (has_line-with_same p.oob.lines l h) (put_in n.oob.arrivals n.oob.merged n.oob.played (has_line p.oob.lines l) s.oob);
  in_band = s.in_band;
  routes = record {
    oob_lines = λ g. ap (λ x. x + 1) (s.routes.oob_lines g);
    timer = s.routes.timer;
    request = s.routes.request;
    others = λ g. let old = s.routes.others g in omega arith;
  };
}
received-here InBand l p n fixed on h s = let high : l < 2 → ⊥ = λ low. let no : InBand ≡ OutOfBand = fixed low in cc in record {
  wire = rw (has_line-without_same p.wire l h) (taken_out n.raised n.merged n.received (rw on at s.wire));
  oob = s.oob;
  in_band = rw (has_line-with_same p.in_band.lines l h) (put_in n.in_band.arrivals n.in_band.merged n.in_band.played (has_line p.in_band.lines l) s.in_band);
  routes = record {
    oob_lines = λ g. absurd (high g);
    timer = λ g. absurd (high (omega arith));
    request = λ g. absurd (high (omega arith));
    others = λ g. let old = s.routes.others g in omega arith;
  };
}

timer-here : (p : Pipe) (n : Counts) → has_line p.oob.lines 0 ≡ true → Balances 0 p n
    → Balances 0 (arrive InBand 0 (play OutOfBand 0 p)) (on_passage InBand (count_arrival (has_line p.in_band.lines 0)) (on_passage OutOfBand count_play n))
unfolding arrive play
timer-here p n on s = let h : 0 < LINES = omega arith in record {
  wire = s.wire;
  oob = rw (has_line-without_same p.oob.lines 0 h) (taken_out n.oob.arrivals n.oob.merged n.oob.played (rw on at s.oob));
  in_band = rw (has_line-with_same p.in_band.lines 0 h) (put_in n.in_band.arrivals n.in_band.merged n.in_band.played (has_line p.in_band.lines 0) s.in_band);
  routes = record {
    oob_lines = s.routes.oob_lines;
    timer = λ g. ap (λ x. x + 1) (s.routes.timer g);
    request = λ g. absurd (omega arith);
    others = λ g. absurd (omega arith);
  };
}

oob-here : (l : ℕ) (p : Pipe) (n : Counts) → (l ≡ 0 → ⊥) → has_line p.oob.lines l ≡ true → l < LINES → Balances l p n → Balances l (play OutOfBand l p) (on_passage OutOfBand count_play n)
unfolding play
oob-here l p n other on h s = record {
  wire = s.wire;
  oob = rw (has_line-without_same p.oob.lines l h) (taken_out n.oob.arrivals n.oob.merged n.oob.played (rw on at s.oob));
  in_band = s.in_band;
  routes = record { oob_lines = s.routes.oob_lines; timer = λ g. absurd (other g); request = s.routes.request; others = s.routes.others };
}

in_band-here : (l : ℕ) (p : Pipe) (n : Counts) → has_line p.in_band.lines l ≡ true → l < LINES → Balances l p n → Balances l (play InBand l p) (on_passage InBand count_play n)
unfolding play
in_band-here l p n on h s = record {
  wire = s.wire;
  oob = s.oob;
  in_band = rw (has_line-without_same p.in_band.lines l h) (taken_out n.in_band.arrivals n.in_band.merged n.in_band.played (rw on at s.in_band));
  routes = record { oob_lines = s.routes.oob_lines; timer = s.routes.timer; request = s.routes.request; others = s.routes.others };
}

-- ---- all lines of a pipe
pub record PipeBalances (p : Pipe) : Type 0 where
  pub pipe : IsPipe p
  pub lines : (l : ℕ) (n : Counts) → slice_get p.counts l ≡ Some n → Balances l p n

stays : (l m : ℕ) (p q : Pipe) (n : Counts) → Apart l p q → (m ≡ l → ⊥) → m < LINES → Balances m p n → Balances m q n
stays l m p q n a o h s = record { wire = rw (a.wire m o h) s.wire; oob = rw (a.oob m o h) s.oob; in_band = rw (a.in_band m o h) s.in_band; routes = s.routes }

moved-balances : (l : ℕ) (f : Counts → Counts) (p q : Pipe) → Counted l f p q → Apart l p q → ((n : Counts) → Balances l p n → Balances l q (f n)) → PipeBalances p
    → (m : ℕ) (n : Counts) → slice_get q.counts m ≡ Some n → Balances m q n
moved-balances l f p q c a here s m n e =
    let there : slice_get (change f p.counts l) m ≡ Some n = rw c.counts at e in
    elim (change-cases f p.counts l m n there) [
      | inl g ↦ rw (g.0, g.3) (here g.1 (s.lines l g.1 g.2))
      | inr g ↦ stays l m p q n a g.0 (rw (← s.pipe.counts) (slice_get-below p.counts m n g.1)) (s.lines m n g.1)
    ]

stall-balances : (stage : Stage) (b : Bool) (p : Pipe) → PipeBalances p → (m : ℕ) (n : Counts) → slice_get (set_stall stage b p).counts m ≡ Some n → Balances m (set_stall stage b p) n
unfolding set_stall
stall-balances OutOfBand b p s m n e = let old = s.lines m n e in record { wire = old.wire; oob = old.oob; in_band = old.in_band; routes = old.routes }
stall-balances InBand b p s m n e = let old = s.lines m n e in record { wire = old.wire; oob = old.oob; in_band = old.in_band; routes = old.routes }

lines-balance : (may : ℕ → Bool) (n : ℕ) (p q : Pipe) → PipeMove may n p q → PipeBalances p → (m : ℕ) (n : Counts) → slice_get q.counts m ≡ Some n → Balances m q n
unfolding receive
lines-balance may _ _ _ (raises l p h on) s = moved-balances l _ p _ (raise-counted l p) (raise-apart l p) (λ n. raise-here l p n h) s
lines-balance may _ _ _ (receives stage l p fixed on) s = let h : l < LINES = line_below p.wire l s.pipe.wire on in
    moved-balances l _ p _ (receive-counted stage l p) (apart-then l p (leave_wire l p) _ (leave-apart l p) (arrive-apart stage l (leave_wire l p)))
    (λ n. received-here stage l p n fixed on h) s
lines-balance may _ _ _ (plays_timer p on) s =
    moved-balances 0 _ p _ (timer-counted p) (apart-then 0 p (play OutOfBand 0 p) _ (play-apart OutOfBand 0 p) (arrive-apart InBand 0 (play OutOfBand 0 p)))
    (λ n. timer-here p n on) s
lines-balance may _ _ _ (plays_oob l p other on) s =
    moved-balances l _ p _ (play-counted OutOfBand l p) (play-apart OutOfBand l p) (λ n. oob-here l p n other on (line_below p.oob.lines l s.pipe.oob on)) s
lines-balance may _ _ _ (plays_in_band l p on) s =
    moved-balances l _ p _ (play-counted InBand l p) (play-apart InBand l p) (λ n. in_band-here l p n on (line_below p.in_band.lines l s.pipe.in_band on)) s
lines-balance may _ _ _ (stalls stage b p) s = stall-balances stage b p s

pub move-balances : (may : ℕ → Bool) (n : ℕ) (p q : Pipe) → PipeMove may n p q → PipeBalances p → PipeBalances q
move-balances may n p q m s = record { pipe = move_kept may n p q m s.pipe; lines = lines-balance may n p q m s }

-- a line that is raised, whichever it is
pub raise_balances : (l : ℕ) (p : Pipe) → PipeBalances p → PipeBalances (raise l p)
raise_balances l p s = record {
  pipe = IsPipe-raise l p s.pipe;
  lines = λ m n e.
      let c = raise-counted l p in
      let f : Counts → Counts = count_raise (has_line p.wire l) in
      let there : slice_get (change f p.counts l) m ≡ Some n = rw c.counts at e in
      elim (change-cases f p.counts l m n there) [
        | inl g ↦ rw (g.0, g.3) (raise-here l p g.1 (rw (← s.pipe.counts) (slice_get-below p.counts l g.1 g.2)) (s.lines l g.1 g.2))
        | inr g ↦ stays l m p (raise l p) n (raise-apart l p) g.0 (rw (← s.pipe.counts) (slice_get-below p.counts m n g.1)) (s.lines m n g.1)
      ];
}
