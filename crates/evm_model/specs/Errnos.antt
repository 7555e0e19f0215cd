-- Why a call is refused, and what a0 is then.
use Rattle.std.specs.Prelude.{ℕ, ◌-◌, ◌^◌}
use Rattle.evm_model.specs.declared.errno.Errno.{Errno}
use Rattle.evm_model.specs.declared.errno.Errno.TheVariants.{NotPermitted, NoSuchTask, TryAgain, NoNumber, Busy, Invalid, Deadlock, NoSuchCall, TimedOut}

-- Linux's number of an error
abbrev pub errno_number : Errno → ℕ
errno_number NotPermitted = 1
errno_number NoSuchTask = 3
errno_number TryAgain = 11
errno_number NoNumber = 12
errno_number Busy = 16
errno_number Invalid = 22
errno_number Deadlock = 35
errno_number NoSuchCall = 38
errno_number TimedOut = 110

-- negated, in 64 bits
abbrev pub refusal_answer : Errno → ℕ
refusal_answer e = 2 ^ 64 - errno_number e
