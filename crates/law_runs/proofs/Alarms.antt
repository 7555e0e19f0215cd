-- At most one notice comes of a step: of what its task does, or of the watchdog.
use Rattle.std.proofs.Common.{◌≡◌, ℕ, ◌+◌, ◌<◌, ◌≤◌, Option, Some, None, ◌⊎◌, inl, inr, refl, ap, sym, ◌∙◌, arith}
use Rattle.evm_model.specs.Devices.{raise_line}
use Rattle.evm_model.specs.Notices.{keep}
use Rattle.evm_model.specs.Rows.{step}
use Rattle.evm_model.specs.Settle.{current, nudge}
use Rattle.evm_model.specs.State.{Board, Notices, Parts}
use Rattle.evm_model.specs.declared.event.Answer.{Answer}
use Rattle.evm_model.specs.declared.notice.Notice.{Notice}
use Rattle.evm_model.specs.declared.notice.NoticeKind.TheVariants.{Overran}
use Rattle.evm_model.specs.Commands.{tick}
use Rattle.evm_model.specs.OobCalls.{move_task}
use Rattle.evm_model.specs.Tasks.{restamp, set_state, set_policy, set_slice}
use Rattle.evm_model.specs.Waits.{wake, begin_wait}
use Rattle.law_rules.proofs.NoticeWalks.{IsAlarm}
use Rattle.law_rules.proofs.RowWalks.{SETTLING_STAMPS}
use Rattle.law_rules.proofs.Sizes.{of_spend, walk_profile, walk_ticks}
use Rattle.law_rules.proofs.Walk.{Actor, Does, spends, notes, alarms, Walk, start, next}
use Rattle.law_runs.specs.Balance.{line_of_step}
use Rattle.law_runs.specs.Noticing.{GetsNotice, GetsAlarm, NoticesChange, same_notices, by_task, by_watchdog}
use Rattle.law_runs.proofs.Executing.{SETTLING_MOVES, StepParts, doer, settler, step_parts, walk_current, line_current, line_ticks}
use Rattle.law_runs.proofs.Noticing.{line_notices}

-- settling makes none, or the watchdog makes the last one
data Alarmed (c : ℕ) (old : Parts) (o : Notices) : Type 0 where
  quiet : o ≡ old.notices → Alarmed c old o
  loud : (notice : Notice) (before : Notices) → IsAlarm (settler c) old notice → o ≡ keep notice before → (before ≡ old.notices) ⊎ (old.notices.total < before.total) → Alarmed c old o

kept-more : (notice : Notice) (o : Notices) → (keep notice o).total ≡ o.total + 1
unfolding keep
kept-more notice o = refl

loud-more : (old : Parts) (o : Notices) (notice : Notice) (before : Notices) → o ≡ keep notice before → (before ≡ old.notices) ⊎ (old.notices.total < before.total) → old.notices.total < o.total
loud-more old o notice before is (inl same) = omega (arith, ap (λ (x : Notices). x.total) is ∙ kept-more notice before, ap (λ (x : Notices). x.total) same)
loud-more old o notice before is (inr more) = omega (arith, more, ap (λ (x : Notices). x.total) is ∙ kept-more notice before)

alarmed-more : (c : ℕ) (old : Parts) (o : Notices) → Alarmed c old o → (o ≡ old.notices) ⊎ (old.notices.total < o.total)
alarmed-more c old o (quiet same) = inl same
alarmed-more c old o (loud notice before n is first) = inr (loud-more old o notice before is first)

module _ (c : ℕ) (old : Parts) where
  does_alarm : (i j n s : ℕ) (k x : Parts) → Does (settler c) old i j k x → Walk (settler c) old n s k → Alarmed c old k.notices → Alarmed c old x.notices
  unfolding restamp set_state set_policy set_slice move_task wake begin_wait tick
  does_alarm _ _ n s _ _ (spends t x k runs there on) w q = of_spend (λ (y : Parts). Alarmed c old y.notices) t x.slice k q q
  does_alarm _ _ n s _ _ (notes t kind k own why asked fresh) w q = cc
  does_alarm _ _ n s _ _ (alarms t k its fresh) w q =
      loud (record { tick = k.ticks; task = t; kind = Overran }) k.notices (record {
        runs = its.runs;
        chooses = refl;
        guarded = λ off. its.guarded (ap (λ profile. profile.watchdog) (walk_profile (settler c) old n s k w) ∙ off);
        why = refl;
        moment = λ d quiet. walk_ticks (settler c) old n s k refl w;
      }) refl (alarmed-more c old k.notices q)
  does_alarm _ _ n s _ _ _ w q = q

  walk_alarm : (n s : ℕ) (k : Parts) → Walk (settler c) old n s k → Alarmed c old k.notices
  walk_alarm _ _ _ start = quiet refl
  walk_alarm _ _ _ (next m n s u i j k x few g d w) = does_alarm i j m s k x d w (walk_alarm m s k w)

line_profile : (o : Option ℕ) (k : Parts) → (raise_line o k).profile ≡ k.profile
line_profile None k = refl
line_profile (Some l) k = refl

module _ (c : ℕ) (b : Board) where
  abbrev p : StepParts c b (step c b)
  p = step_parts c b

  abbrev raised : Parts
  raised = raise_line (line_of_step (step c b).1 b) p.before

  told : (x : Parts) → (x ≡ p.settled) ⊎ (x ≡ nudge c p.settled) → x.notices ≡ p.settled.notices
  unfolding nudge
  told x (inl same) = ap (λ (y : Parts). y.notices) same
  told x (inr nudges) = ap (λ (y : Parts). y.notices) nudges

  lined : raised.notices ≡ p.before.notices
  lined = line_notices (line_of_step (step c b).1 b) p.before

  -- the watchdog's
  by_alarm : (new : Notices) (notice : Notice) → IsAlarm (settler c) raised notice → new ≡ keep notice p.before.notices → p.before.notices ≡ b.parts.notices → GetsAlarm c b new
  by_alarm new notice n is same =
      let line : Option ℕ = line_of_step (step c b).1 b in
      let now : current c raised ≡ current c b.parts = line_current line c p.before ∙ walk_current (doer c p.task) b.parts c refl 1 65 p.before p.acts in
      let clock : raised.ticks ≡ b.parts.ticks = line_ticks line p.before ∙ walk_ticks (doer c p.task) b.parts 1 65 p.before refl p.acts in
      let profile : raised.profile ≡ b.parts.profile = line_profile line p.before ∙ walk_profile (doer c p.task) b.parts 1 65 p.before p.acts in
      let noted : notice ≡ record { tick = b.parts.ticks; task = notice.task; kind = Overran } =
      ap (λ tick. record { tick = tick; task = notice.task; kind = notice.kind }) (n.moment 0 refl ∙ clock) ∙ ap (λ kind. record { tick = b.parts.ticks; task = notice.task; kind = kind }) n.why in
      record {
        task = notice.task;
        runs = sym now ∙ n.runs;
        guarded = λ off. n.guarded (ap (λ profile. profile.watchdog) profile ∙ off);
        noted = is ∙ ap (λ (x : Notice). keep x p.before.notices) noted ∙ ap (λ (o : Notices). keep (record { tick = b.parts.ticks; task = notice.task; kind = Overran }) o) same;
      }

  both : (new : Notices) → (p.before.notices ≡ b.parts.notices) ⊎ GetsNotice c b (step c b).1 p.before.notices → Alarmed c raised new → new.total ≤ b.parts.notices.total + 1 → NoticesChange c b (step c b).1 new
  both new (inl same) (quiet is) few = same_notices (is ∙ lined ∙ same)
  both new (inl same) (loud notice before n is (inl first)) few = by_watchdog (by_alarm new notice n (is ∙ ap (keep notice) (first ∙ lined)) same)
  both new (inr g) (quiet is) few =
      by_task (record {
        task = g.task;
        kind = g.kind;
        runs = g.runs;
        ran = g.ran;
        oob = g.oob;
        asked = g.asked;
        why = g.why;
        noted = is ∙ lined ∙ g.noted;
      })
  both new (inl same) (loud notice before n is (inr more)) few =
      let new_total : new.total ≡ before.total + 1 = ap (λ (o : Notices). o.total) is ∙ kept-more notice before in
      let old_total : raised.notices.total ≡ b.parts.notices.total = ap (λ (o : Notices). o.total) (lined ∙ same) in
      absurd (omega (arith, new_total, old_total, more, few))
  both new (inr g) (loud notice before n is first) few =
      let old_total : raised.notices.total ≡ b.parts.notices.total + 1 = ap (λ (o : Notices). o.total) (lined ∙ g.noted) ∙ kept-more _ b.parts.notices in
      let more : raised.notices.total < new.total = loud-more raised new notice before is first in
      absurd (omega (arith, old_total, more, few))

  pub step_notices : (step c b).0.parts.notices.total ≤ b.parts.notices.total + 1 → NoticesChange c b (step c b).1 (step c b).0.parts.notices
  step_notices few =
      let same : (step c b).0.parts.notices ≡ p.settled.notices = told (step c b).0.parts p.told in
      rw same (both p.settled.notices p.notices (walk_alarm c raised SETTLING_MOVES SETTLING_STAMPS p.settled p.settles) (rw same at few))
