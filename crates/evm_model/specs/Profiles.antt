-- What a machine's profile says.
use Rattle.std.specs.Prelude.{ℕ, Option, Some, None, nat_lt, if◌then◌else◌}
use Rattle.evm_lines.specs.declared.TheConstants.{LINES}
use Rattle.evm_model.specs.declared.call.Call.{Call}
use Rattle.evm_model.specs.declared.call.Call.TheVariants.{Migrate}
use Rattle.evm_model.specs.declared.limits.TheConstants.{FIRST_LINES, MIGRATION_PROFILE, WIDE_PROFILE}
use Rattle.evm_model.specs.declared.profile.Profile.{Profile}

-- how many interrupt lines a processor has
abbrev pub line_count : Profile → ℕ
line_count profile = if nat_lt profile.version WIDE_PROFILE then FIRST_LINES else LINES

-- a call, unless the profile lacks it
abbrev pub offered : Profile → Option Call → Option Call
offered profile (Some Migrate) = if nat_lt profile.version MIGRATION_PROFILE then None else Some Migrate
offered profile call = call
