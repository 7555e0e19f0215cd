-- A notice leaves all that the rules speak of but the notices, of which there is one more at most.
use Rattle.std.proofs.Common.{ℕ, ◌+◌, Bool, true, false, arith}
use Rattle.std.specs.Prelude.{slice_get, if◌then◌else◌}
use Rattle.std.proofs.lemmas.List.{length-drop}
use Rattle.evm_model.specs.Good.{IsOwn, AreNotices}
use Rattle.evm_model.specs.Notices.{asks_for, keep, notify, is_refused, notify_refused}
use Rattle.evm_model.specs.State.{Parts, Notices}
use Rattle.evm_model.specs.declared.call.Outcome.{Outcome}
use Rattle.evm_model.specs.declared.errno.Errno.{Errno}
use Rattle.evm_model.specs.declared.notice.NoticeKind.{NoticeKind}
use Rattle.law_rules.proofs.NoticeWalks.{NotesOne, none, one, alarm}
use Rattle.law_rules.proofs.Walk.{Actor}
use Rattle.law_rules.proofs.Done.{IsDone}
use Rattle.law_rules.proofs.Settling.{GoodBut}
use Rattle.law_rules.proofs.Shapes.{shaped-notices}

notices-but : (c : ℕ) (k : Parts) (notices : Notices) → GoodBut c k → GoodBut c (record k { notices = notices })
notices-but c k notices g = record { pipes = g.pipes; others = g.others; own = g.own; away = g.away; shape = shaped-notices k notices g.shape }

noted-but : (c : ℕ) (b : Bool) (k : Parts) (notices : Notices) → GoodBut c k → GoodBut c (if b then record k { notices = notices } else k)
noted-but c true k notices g = notices-but c k notices g
noted-but c false k notices g = g

pub notify-but : (c t : ℕ) (kind : NoticeKind) (k : Parts) → GoodBut c k → GoodBut c (notify kind t k)
unfolding notify
notify-but c t kind k g = noted-but c (asks_for kind (slice_get k.tasks t)) k _ g

noted-own : (c t : ℕ) (b : Bool) (k : Parts) (notices : Notices) → IsOwn c t k.tasks → IsOwn c t (if b then record k { notices = notices } else k).tasks
noted-own c t true k notices o = o
noted-own c t false k notices o = o

notify-own : (c t : ℕ) (kind : NoticeKind) (k : Parts) → IsOwn c t k.tasks → IsOwn c t (notify kind t k).tasks
unfolding notify
notify-own c t kind k o = noted-own c t (asks_for kind (slice_get k.tasks t)) k _ o

refused-done : (c t : ℕ) (b : Bool) (kind : NoticeKind) (done : Parts × Outcome) → IsDone c t done → IsDone c t (if b then (notify kind t done.0, done.1) else done)
refused-done c t true kind done d = record { but = notify-but c t kind done.0 d.but; own = λ v n. notify-own c t kind done.0 (d.own v n) }
refused-done c t false kind done d = d

pub noted-done : (c t : ℕ) (e : Errno) (kind : NoticeKind) (done : Parts × Outcome) → IsDone c t done → IsDone c t (notify_refused e kind t done)
noted-done c t e kind done d = refused-done c t (is_refused e done.1) kind done d

-- ---- how many there are
pub notices-more : (a : Actor) (old : Parts) (events : ℕ) (notices : Notices) → NotesOne a old notices → AreNotices events old.notices → AreNotices (events + 1) notices
unfolding keep
notices-more a old events _ none q = record { kept = q.kept; total = omega (arith, q.total) }
notices-more a old events _ (one notice is) q = record { kept = rw length-drop (omega arith); total = omega (arith, q.total) }
notices-more a old events _ (alarm notice is) q = record { kept = rw length-drop (omega arith); total = omega (arith, q.total) }
