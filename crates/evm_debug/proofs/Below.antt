-- One more line of a view that goes by numbers.
use Rattle.std.proofs.Common.{◌≡◌, ℕ, zero, suc, ◌+◌, ◌<◌, ◌≤◌, ◌-◌, List, [], ◌++◌, length, refl, ap, sym, ◌∙◌, append_assoc, add-one, arith}
use Rattle.std.proofs.lemmas.List.{append-nil, length-append}
use Rattle.std.specs.Prelude.{slice_get}
use Rattle.evm_journal.specs.evm_core.Views.{stages_at}
use Rattle.evm_model.specs.State.{Parts}
use Rattle.evm_model.specs.declared.mutex.Mutex.{Mutex}
use Rattle.evm_model.specs.declared.notice.Notice.{Notice}
use Rattle.evm_debug.proofs.Pairs.{pairs-append}
use Rattle.evm_debug.specs.Summary.{stages_below, stages_or_none}
use Rattle.evm_debug.specs.Views.{tasks_below, task_text, owners_below, owner_text, notices_below, notice_text, words_below, blank_word}

pub tasks_below-none : (k : Parts) → tasks_below 0 k ≡ []
unfolding tasks_below
tasks_below-none k = refl

pub tasks_below-more : (t : ℕ) (k : Parts) → tasks_below (t + 1) k ≡ tasks_below t k ++ task_text t (slice_get k.tasks t) (slice_get k.harts t)
unfolding tasks_below
tasks_below-more t k = rw add-one refl

pub owners_below-none : (mutexes : List Mutex) → owners_below 0 mutexes ≡ []
unfolding owners_below
owners_below-none mutexes = refl

pub owners_below-more : (m : ℕ) (mutexes : List Mutex) → owners_below (m + 1) mutexes ≡ owners_below m mutexes ++ owner_text m (slice_get mutexes m)
unfolding owners_below
owners_below-more m mutexes = rw add-one refl

pub stages_below-none : (k : Parts) → stages_below 0 k ≡ []
unfolding stages_below
stages_below-none k = refl

pub stages_below-more : (c : ℕ) (k : Parts) → stages_below (c + 1) k ≡ stages_below c k ++ stages_or_none c (slice_get k.processors c) (stages_at c k)
unfolding stages_below
stages_below-more c k = rw add-one refl

pub notices_below-none : (notices : List Notice) → notices_below 0 notices ≡ []
unfolding notices_below
notices_below-none notices = refl

pub notices_below-more : (i : ℕ) (notices : List Notice) → notices_below (i + 1) notices ≡ notices_below i notices ++ notice_text (slice_get notices i)
unfolding notices_below
notices_below-more i notices = rw add-one refl

pub words_below-none : (words : List ℕ) → words_below 0 words ≡ []
unfolding words_below
words_below-none words = refl

pub words_below-more : (k : ℕ) (words : List ℕ) → words_below (k + 1) words ≡ words_below k words ++ blank_word (slice_get words k)
unfolding words_below
words_below-more k words = rw add-one refl

-- ---- the line behind those so far is no longer than what is left

no_shorter : (f : ℕ → List ℕ) → ((n : ℕ) → length (f n) ≤ length (f (n + 1))) → (i more : ℕ) → length (f i) ≤ length (f (i + more))
no_shorter f step i zero = let same : i + 0 ≡ i = omega arith in rw same (omega arith)
no_shorter f step i (suc more) =
    let so_far = no_shorter f step i more in
    let last = step (i + more) in
    let next : i + suc more ≡ i + more + 1 = omega arith in
    rw next (omega (arith, so_far, last))

longer : (f : ℕ → List ℕ) (line : ℕ → List ℕ) → ((n : ℕ) → f (n + 1) ≡ f n ++ line n) → (i end : ℕ) → i < end → length (f i) + length (line i) ≤ length (f end)
longer f line more i end below =
    let step : (n : ℕ) → length (f n) ≤ length (f (n + 1)) = λ n. (let size = ap length (more n) ∙ length-append (f n) (line n) in omega (arith, size)) in
    let rest = no_shorter f step (i + 1) (end - (i + 1)) in
    let all : i + 1 + (end - (i + 1)) ≡ end = omega (arith, below) in
    let size = ap length (more i) ∙ length-append (f i) (line i) in
    let whole : length (f (i + 1)) ≤ length (f end) = rw all at rest in
    omega (arith, size, whole)

pub tasks_below-longer : (t end : ℕ) (k : Parts) → t < end → length (tasks_below t k) + length (task_text t (slice_get k.tasks t) (slice_get k.harts t)) ≤ length (tasks_below end k)
tasks_below-longer t end k below = longer (λ n. tasks_below n k) (λ n. task_text n (slice_get k.tasks n) (slice_get k.harts n)) (λ n. tasks_below-more n k) t end below

pub owners_below-longer : (m end : ℕ) (mutexes : List Mutex) → m < end → length (owners_below m mutexes) + length (owner_text m (slice_get mutexes m)) ≤ length (owners_below end mutexes)
owners_below-longer m end mutexes below = longer (λ n. owners_below n mutexes) (λ n. owner_text n (slice_get mutexes n)) (λ n. owners_below-more n mutexes) m end below

pub stages_below-longer : (c end : ℕ) (k : Parts) → c < end → length (stages_below c k) + length (stages_or_none c (slice_get k.processors c) (stages_at c k)) ≤ length (stages_below end k)
stages_below-longer c end k below = longer (λ n. stages_below n k) (λ n. stages_or_none n (slice_get k.processors n) (stages_at n k)) (λ n. stages_below-more n k) c end below

pub notices_below-longer : (i end : ℕ) (notices : List Notice) → i < end → length (notices_below i notices) + length (notice_text (slice_get notices i)) ≤ length (notices_below end notices)
notices_below-longer i end notices below = longer (λ n. notices_below n notices) (λ n. notice_text (slice_get notices n)) (λ n. notices_below-more n notices) i end below

pub words_below-longer : (k end : ℕ) (words : List ℕ) → k < end → length (words_below k words) + length (blank_word (slice_get words k)) ≤ length (words_below end words)
words_below-longer k end words below = longer (λ n. words_below n words) (λ n. blank_word (slice_get words n)) (λ n. words_below-more n words) k end below

-- nor is it alone
pub tasks_below-line : (t end : ℕ) (k : Parts) → t < end → length (task_text t (slice_get k.tasks t) (slice_get k.harts t)) ≤ length (tasks_below end k)
tasks_below-line t end k below = let h = tasks_below-longer t end k below in omega (arith, h)

pub owners_below-line : (m end : ℕ) (mutexes : List Mutex) → m < end → length (owner_text m (slice_get mutexes m)) ≤ length (owners_below end mutexes)
owners_below-line m end mutexes below = let h = owners_below-longer m end mutexes below in omega (arith, h)

pub stages_below-line : (c end : ℕ) (k : Parts) → c < end → length (stages_or_none c (slice_get k.processors c) (stages_at c k)) ≤ length (stages_below end k)
stages_below-line c end k below = let h = stages_below-longer c end k below in omega (arith, h)

pub notices_below-line : (i end : ℕ) (notices : List Notice) → i < end → length (notice_text (slice_get notices i)) ≤ length (notices_below end notices)
notices_below-line i end notices below = let h = notices_below-longer i end notices below in omega (arith, h)

pub ruleset tasks = (tasks_below-none, tasks_below-more, tasks_below-line)

pub ruleset owners = (owners_below-none, owners_below-more, owners_below-line)

pub ruleset stages = (stages_below-none, stages_below-more, stages_below-line)

pub ruleset notices = (notices_below-none, notices_below-more, notices_below-line)

pub ruleset lengths = (length-append, append_assoc)

pub ruleset consoles = (length-append, pairs-append)
