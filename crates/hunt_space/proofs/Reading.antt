-- What is read of two boards that are alike, or alike without their clocks.
use Rattle.std.proofs.Common.{◌≡◌, ℕ, ◌-◌, List, Option, Some, None, length, refl, ap, sym, ◌∙◌}
use Rattle.std.specs.Prelude.{map, option_map, slice_get}
use Rattle.std.proofs.lemmas.List.{length-map}
use Rattle.std.proofs.lemmas.Option.{slice_get-map}
use Rattle.evm_model.specs.Pipes.{Pipe}
use Rattle.evm_model.specs.State.{Board, Parts}
use Rattle.evm_model.specs.declared.task.Task.{Task}
use Rattle.evm_model.specs.declared.notice.Notice.{Notice}
use Rattle.evm_model.specs.declared.notice.NoticeKind.{NoticeKind}
use Rattle.hunt_failures.specs.Failures.{is_notice_of}
use Rattle.law_runs.specs.Alike.{AlikeBoards, unstamped, uncounted}
use Rattle.law_runs.specs.Timeless.{AlikeTimeless, undated}

-- the same is read of both
pub record ReadsSame (a b : Board) : Type 0 where
  pub memory : a.memory ≡ b.memory
  pub harts : a.parts.harts ≡ b.parts.harts
  pub processors : a.parts.processors ≡ b.parts.processors
  pub mutexes : a.parts.mutexes ≡ b.parts.mutexes
  pub timers : a.parts.timers ≡ b.parts.timers
  pub total : a.parts.notices.total ≡ b.parts.notices.total
  pub notices : map undated a.parts.notices.kept ≡ map undated b.parts.notices.kept
  pub tasks : map unstamped a.parts.tasks ≡ map unstamped b.parts.tasks
  pub pipes : map uncounted a.parts.pipes ≡ map uncounted b.parts.pipes

pub reads-same : (a b : Board) → AlikeBoards a b → ReadsSame a b
reads-same a b s = record {
  memory = s.memory;
  harts = ap (λ (p : Parts). p.harts) s.parts.same;
  processors = ap (λ (p : Parts). p.processors) s.parts.same;
  mutexes = ap (λ (p : Parts). p.mutexes) s.parts.same;
  timers = ap (λ (p : Parts). p.timers) s.parts.same;
  total = ap (λ (p : Parts). p.notices.total) s.parts.same;
  notices = ap (λ (p : Parts). map undated p.notices.kept) s.parts.same;
  tasks = ap (λ (p : Parts). p.tasks) s.parts.same;
  pipes = ap (λ (p : Parts). p.pipes) s.parts.same;
}

pub reads-timeless : (a b : Board) → AlikeTimeless a b → ReadsSame a b
reads-timeless a b s = record {
  memory = s.memory;
  harts = ap (λ (p : Parts). p.harts) s.parts.same;
  processors = ap (λ (p : Parts). p.processors) s.parts.same;
  mutexes = ap (λ (p : Parts). p.mutexes) s.parts.same;
  timers = ap (λ (p : Parts). p.timers) s.parts.same;
  total = ap (λ (p : Parts). p.notices.total) s.parts.same;
  notices = ap (λ (p : Parts). p.notices.kept) s.parts.same;
  tasks = ap (λ (p : Parts). p.tasks) s.parts.same;
  pipes = ap (λ (p : Parts). p.pipes) s.parts.same;
}

pub reads-back : (a b : Board) → ReadsSame a b → ReadsSame b a
reads-back a b r = record {
  memory = sym r.memory;
  harts = sym r.harts;
  processors = sym r.processors;
  mutexes = sym r.mutexes;
  timers = sym r.timers;
  total = sym r.total;
  notices = sym r.notices;
  tasks = sym r.tasks;
  pipes = sym r.pipes;
}

-- what doesn't tell an element from its image reads the same of both
read-option : {X Y : Type 0} (f : X → X) (g : Option X → Y) (o : Option X) → ((x : X) → g (Some (f x)) ≡ g (Some x)) → g (option_map f o) ≡ g o
read-option f g None blind = refl
read-option f g (Some x) blind = blind x

read-at : {X Y : Type 0} (f : X → X) (g : Option X → Y) (xs ys : List X) (i : ℕ) → ((x : X) → g (Some (f x)) ≡ g (Some x)) → map f xs ≡ map f ys → g (slice_get xs i) ≡ g (slice_get ys i)
read-at {X = X} f g xs ys i blind same =
    let there = ap (λ (zs : List X). slice_get zs i) same in
    sym (read-option f g (slice_get xs i) blind) ∙ ap g (sym (slice_get-map f xs i) ∙ there ∙ slice_get-map f ys i) ∙ read-option f g (slice_get ys i) blind

-- ---- the last notice
last-undated : (xs : List Notice) → slice_get (map undated xs) (length (map undated xs) - 1) ≡ option_map undated (slice_get xs (length xs - 1))
last-undated xs = rw (length-map xs undated) (slice_get-map undated xs (length xs - 1))

notice-undated : (t : ℕ) (kind : NoticeKind) (o : Option Notice) → is_notice_of t kind o → is_notice_of t kind (option_map undated o)
notice-undated t kind None h = h
notice-undated t kind (Some notice) h = h

notice-dated : (t : ℕ) (kind : NoticeKind) (o : Option Notice) → is_notice_of t kind (option_map undated o) → is_notice_of t kind o
notice-dated t kind None h = h
notice-dated t kind (Some notice) h = h

pub read-notice : (t : ℕ) (kind : NoticeKind) (xs ys : List Notice) → map undated xs ≡ map undated ys → is_notice_of t kind (slice_get xs (length xs - 1)) → is_notice_of t kind (slice_get ys (length ys - 1))
read-notice t kind xs ys same h =
    let last : option_map undated (slice_get xs (length xs - 1)) ≡ option_map undated (slice_get ys (length ys - 1)) =
    sym (last-undated xs) ∙ ap (λ (zs : List Notice). slice_get zs (length zs - 1)) same ∙ last-undated ys in
    notice-dated t kind (slice_get ys (length ys - 1)) (rw (← last) (notice-undated t kind (slice_get xs (length xs - 1)) h))

module _ (a b : Board) (r : ReadsSame a b) where
  pub read-task : {X : Type 0} (f : Option Task → X) (t : ℕ) → ((x : Task) → f (Some (unstamped x)) ≡ f (Some x)) → f (slice_get a.parts.tasks t) ≡ f (slice_get b.parts.tasks t)
  read-task f t blind = read-at unstamped f a.parts.tasks b.parts.tasks t blind r.tasks

  pub read-pipe : {X : Type 0} (f : Option Pipe → X) (c : ℕ) → ((x : Pipe) → f (Some (uncounted x)) ≡ f (Some x)) → f (slice_get a.parts.pipes c) ≡ f (slice_get b.parts.pipes c)
  read-pipe f c blind = read-at uncounted f a.parts.pipes b.parts.pipes c blind r.pipes

  pub count-tasks : length a.parts.tasks ≡ length b.parts.tasks
  count-tasks = sym (length-map a.parts.tasks unstamped) ∙ ap length r.tasks ∙ length-map b.parts.tasks unstamped
