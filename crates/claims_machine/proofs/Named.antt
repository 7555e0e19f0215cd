-- What a Step changes of semaphores, flag groups, events, timers and actions, in the words of the claims.
use Rattle.std.proofs.Common.{ℕ, Option, slice_get, inl, inr}
use Rattle.evm_exec.specs.declared.hart.Hart.{Hart}
use Rattle.evm_model.specs.State.{Board, Parts}
use Rattle.law_runs.specs.Changes.{NamedBy, ObjectsChange}
use Rattle.claims_machine.specs.Steps.{IsNamed, ObjectsChangeOnly}
use Rattle.claims_machine.proofs.Stepped.{IsAboutCall, is_due, puts_as, posts_as}

pub objects_of : (runs : Option ℕ) (c : ℕ) (old : Board) (new : Parts) (makes : ℕ → Hart → Type 0) → ((n : ℕ) (h : Hart) → makes n h → IsAboutCall runs old n h) → ObjectsChange makes c old.parts new
    → ObjectsChangeOnly runs c old.memory old.parts new
objects_of runs c old new makes tells o = record {
  semaphores = λ s count there. elim (o.semaphores.each s count there) [
    | inl same ↦ inl same
    | inr (inl w) ↦ inr (inl (named 39 41 s w))
    | inr (inr w) ↦ inr (inr (w.0, puts_as (slice_get new.actions w.0) s w.1))
  ];
  flags = λ g word there. elim (o.flags.each g word there) [
    | inl same ↦ inl same
    | inr (inl w) ↦ inr (inl (named 45 46 g w))
    | inr (inr w) ↦ inr (inr (w.0, posts_as (slice_get new.actions w.0) g w.1))
  ];
  events = λ e mutex there. elim (o.events.each e mutex there) [
    | inl same ↦ inl same
    | inr w ↦ inr (named 42 42 e w)
  ];
  timers = λ n timer there. elim (o.timers.each n timer there) [
    | inl same ↦ inl same
    | inr (inl w) ↦ inr (inl (named 48 49 n w))
    | inr (inr due) ↦ let d = is_due c old.parts.ticks timer due in inr (inr (d.0, d.1.0, d.1.1))
  ];
  actions = λ l action there. elim (o.actions.each l action there) [
    | inl same ↦ inl same
    | inr w ↦ inr (w.0, named 14 14 l w.1)
  ];
  new_semaphore = o.semaphores.count;
  new_flags = o.flags.count;
  new_event = o.events.count;
  new_timer = o.timers.count;
  new_action = o.actions.count;
}
  where
    named : (least most n : ℕ) → NamedBy makes least most n → IsNamed runs least most n old.memory old.parts.harts
    named least most n w = let a = tells w.number w.hart w.makes_it in record { caller = a.0; hart = w.hart; number = w.number; calls = a.1.0; asks = a.1.1; from = w.from; to = w.to; names = w.names }
