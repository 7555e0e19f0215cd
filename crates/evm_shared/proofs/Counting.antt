-- Counts of events.
use Rattle.std.proofs.Common.{◌≡◌, ℕ, zero, suc, ◌+◌, ◌^◌, ◌<◌, ◌≤◌, List, [], ◌∷◌, ◌++◌, cond, length, take, refl, sym, ap, ◌∙◌, arith}
use Rattle.std.proofs.Math.Seq.{take-length}
use Rattle.std.proofs.lemmas.List.{take-append-le}
use Rattle.std.proofs.lemmas.List.Sums.{count_by-le-length, sum_by-cons}
use Rattle.std.specs.Prelude.{replicate}
use Rattle.evm_model.proofs.Counting.{kinds_add_up}
use Rattle.evm_model.specs.Event.{Event}
use Rattle.evm_model.specs.Kinds.{Kind, AStep, ABell, Another, kind_of, is_same_kind}
use Rattle.evm_model.specs.declared.event.Event.TheVariants as event
use Rattle.evm_shared.specs.EventCounts.{BeginsWith, counts, event_total, plus, kind_counts, FitWords}
use Rattle.evm_shared.specs.declared.event_counts.EventCounts.{EventCounts}

-- equal in each kind
pub same_counts : (a b : EventCounts) → a.steps ≡ b.steps → a.bells ≡ b.bells → a.others ≡ b.others → a ≡ b
same_counts a b s l o = λ i. counts (s i) (l i) (o i)

pub counts_append : (xs ys : List Event) → kind_counts (xs ++ ys) ≡ plus (kind_counts xs) (kind_counts ys)
counts_append xs ys = same_counts _ _ (kinds_add_up AStep xs ys) (kinds_add_up ABell xs ys) (kinds_add_up Another xs ys)

one_step : (c : ℕ) → kind_counts (event.Step c ∷ []) ≡ counts 1 0 0
one_step c = refl

pub counts_steps : (n c : ℕ) → kind_counts (replicate n (event.Step c)) ≡ counts n 0 0
counts_steps zero c = refl
counts_steps (suc n) c =
    let all = counts_append (event.Step c ∷ []) (replicate n (event.Step c)) in
    let rest = counts_steps n c in
    let one = one_step c in
    same_counts _ _
    (omega (arith, ap (λ (x : EventCounts). x.steps) all, ap (λ (x : EventCounts). x.steps) rest, ap (λ (x : EventCounts). x.steps) one))
    (omega (arith, ap (λ (x : EventCounts). x.bells) all, ap (λ (x : EventCounts). x.bells) rest, ap (λ (x : EventCounts). x.bells) one))
    (omega (arith, ap (λ (x : EventCounts). x.others) all, ap (λ (x : EventCounts). x.others) rest, ap (λ (x : EventCounts). x.others) one))

-- no kind has more events than there are
pub counts_below : (events : List Event) → ((kind_counts events).steps ≤ length events) × ((kind_counts events).bells ≤ length events) × ((kind_counts events).others ≤ length events)
counts_below events = (
  count_by-le-length (λ e. is_same_kind (kind_of e) AStep) events,
  count_by-le-length (λ e. is_same_kind (kind_of e) ABell) events,
  count_by-le-length (λ e. is_same_kind (kind_of e) Another) events,
)

-- the counts after some events more
pub counted_more : (base book more : EventCounts) (old new added : List Event) → kind_counts old ≡ plus base book → new ≡ old ++ added → kind_counts added ≡ more → kind_counts new ≡ plus base (plus book more)
counted_more base book more old new added counted journal kinds =
    let all = ap kind_counts journal ∙ counts_append old added in
    same_counts _ _
    (omega (arith, ap (λ (n : EventCounts). n.steps) all, ap (λ (n : EventCounts). n.steps) counted, ap (λ (n : EventCounts). n.steps) kinds))
    (omega (arith, ap (λ (n : EventCounts). n.bells) all, ap (λ (n : EventCounts). n.bells) counted, ap (λ (n : EventCounts). n.bells) kinds))
    (omega (arith, ap (λ (n : EventCounts). n.others) all, ap (λ (n : EventCounts). n.others) counted, ap (λ (n : EventCounts). n.others) kinds))

-- a book of a journal whose length is below 2 ^ 64
pub book_fits : (base book : EventCounts) (journal : List Event) → kind_counts journal ≡ plus base book → length journal < 2 ^ 64 → FitWords book
book_fits base book journal counted short =
    let low = counts_below journal in (
      omega (arith, low.0, ap (λ (n : EventCounts). n.steps) counted),
      omega (arith, low.1, ap (λ (n : EventCounts). n.bells) counted),
      omega (arith, low.2, ap (λ (n : EventCounts). n.others) counted),
    )

-- ---- what a journal begins with

one_kind : (kind : Kind) → cond (is_same_kind kind AStep) 1 0 + cond (is_same_kind kind ABell) 1 0 + cond (is_same_kind kind Another) 1 0 ≡ 1
one_kind AStep = refl
one_kind ABell = refl
one_kind Another = refl

-- each event is of one kind
pub each_counted : (events : List Event) → event_total (kind_counts events) ≡ length events
each_counted [] = refl
each_counted (e ∷ events) =
    let steps = sum_by-cons (λ x. cond (is_same_kind (kind_of x) AStep) 1 0) e events in
    let bells = sum_by-cons (λ x. cond (is_same_kind (kind_of x) ABell) 1 0) e events in
    let others = sum_by-cons (λ x. cond (is_same_kind (kind_of x) Another) 1 0) e events in
    omega (arith, one_kind (kind_of e), each_counted events, steps, bells, others)

-- a whole journal
pub begins_whole : (base : EventCounts) (journal : List Event) → kind_counts journal ≡ base → BeginsWith base journal
begins_whole base journal counted =
    let whole : event_total base ≡ length journal = sym (ap event_total counted) ∙ each_counted journal in
    ap (λ n. kind_counts (take n journal)) whole ∙ ap kind_counts (take-length journal) ∙ counted

-- a journal to which events are added
pub begins_more : (base book : EventCounts) (old new added : List Event) → kind_counts old ≡ plus base book → BeginsWith base old → new ≡ old ++ added → BeginsWith base new
begins_more base book old new added counted begins journal =
    let all : event_total (kind_counts old) ≡ event_total (plus base book) = ap event_total counted in
    let few : event_total base ≤ length old = omega (arith, all, each_counted old) in
    ap (λ events. kind_counts (take (event_total base) events)) journal ∙ ap kind_counts (take-append-le (event_total base) old added few) ∙ begins
