-- The numbers that a caller gives, and which of them a service accepts.
use Rattle.std.specs.Prelude.{ℕ, zero, suc, ◌%◌, Option, Some, None, Bool, true, false, ℤ, pos, negsuc, ◌&&◌, nat_eq, nat_lt, nat_le}
use Rattle.apex_types.specs.declared.discipline.Discipline.{Discipline}
use Rattle.apex_types.specs.declared.discipline.Discipline.TheVariants as discipline
use Rattle.apex_types.specs.declared.limits.TheConstants.{GREATEST_MAXIMUM, GREATEST_PRIORITY, LONGEST_MESSAGE, LONGEST_REPORT, MOST_MESSAGES}
use Rattle.apex_machine.specs.declared.state.Direction.{Direction}
use Rattle.apex_machine.specs.declared.state.Direction.TheVariants as direction
use Rattle.apex_machine.specs.declared.state.Mode.{Mode}
use Rattle.apex_machine.specs.declared.state.Mode.TheVariants as mode
use Rattle.apex_machine.specs.declared.state.StartCondition.{StartCondition}
use Rattle.apex_machine.specs.declared.state.StartCondition.TheVariants as start

-- whether a caller's number is this one
abbrev pub is_number : ℤ → ℕ → Bool
is_number (pos n) number = nat_eq n number
is_number (negsuc n) number = false

-- a caller's number that is not below 0; wherever this is used, the error conditions exclude any other
abbrev pub natural_of : ℤ → ℕ
natural_of (pos n) = n
natural_of (negsuc n) = 0

-- whether a number is below 0
abbrev pub is_negative : ℤ → Bool
is_negative (pos n) = false
is_negative (negsuc n) = true

-- whether a caller's number is at least this one
abbrev pub is_at_least : ℕ → ℤ → Bool
is_at_least least (pos n) = nat_le least n
is_at_least least (negsuc n) = false

-- whether a caller's number is at least the first of these and at most the second
abbrev pub is_between : ℕ → ℕ → ℤ → Bool
is_between least most (pos n) = nat_le least n && nat_le n most
is_between least most (negsuc n) = false

-- a priority is 1 to 239   (section 3, process management)
abbrev pub is_priority : ℤ → Bool
is_priority priority = is_between 1 GREATEST_PRIORITY priority

-- a period is above 0, or -1 for an aperiodic process
abbrev pub is_period : ℤ → Bool
is_period (pos n) = nat_lt 0 n
is_period (negsuc n) = nat_eq n 0

-- the period of a process, if it has one
abbrev pub period_given : ℤ → Option ℕ
period_given (pos n) = Some n
period_given (negsuc n) = None

-- a period above 0 is a multiple of the partition's
abbrev pub suits_period : ℕ → ℤ → Bool
suits_period partition_period (pos n) = nat_eq (n % partition_period) 0
suits_period partition_period (negsuc n) = true

-- a time capacity is above 0, or -1 for a process without deadlines
abbrev pub is_time_capacity : ℤ → Bool
is_time_capacity capacity = is_period capacity

-- the time capacity of a process, if it has one
abbrev pub capacity_given : ℤ → Option ℕ
capacity_given capacity = period_given capacity

-- whether a period and a time capacity are given, and the capacity is the greater
abbrev pub is_above_period : ℤ → ℤ → Bool
is_above_period (pos period) (pos capacity) = nat_lt 0 period && nat_lt period capacity
is_above_period _ _ = false

-- a mode is 0 to 3
abbrev pub is_mode : ℤ → Bool
is_mode (pos n) = nat_le n 3
is_mode (negsuc n) = false

-- the mode NORMAL is 3
abbrev pub is_normal_mode : ℤ → Bool
is_normal_mode (pos n) = nat_eq n 3
is_normal_mode (negsuc n) = false

-- the mode WARM_START is 2
abbrev pub is_warm_start_mode : ℤ → Bool
is_warm_start_mode (pos n) = nat_eq n 2
is_warm_start_mode (negsuc n) = false

-- the mode in which a partition is restarted, by its number: IDLE is 0, COLD_START is 1, WARM_START is 2
abbrev pub restart_given : ℤ → Option Mode
restart_given (pos zero) = Some mode.Idle
restart_given (pos (suc zero)) = Some mode.ColdStart
restart_given (pos (suc (suc zero))) = Some mode.WarmStart
restart_given _ = None

-- the number of a mode
abbrev pub mode_number : Mode → ℕ
mode_number mode.Idle = 0
mode_number mode.ColdStart = 1
mode_number mode.WarmStart = 2
mode_number mode.Normal = 3

-- the number of a start condition
abbrev pub start_number : StartCondition → ℕ
start_number start.NormalStart = 0
start_number start.PartitionRestart = 1
start_number start.ErrorRestart = 3

-- a time-out is -1, which never falls due, or not below 0
abbrev pub is_time_out : ℤ → Bool
is_time_out (pos n) = true
is_time_out (negsuc n) = nat_eq n 0

-- a delay or a time-out of 0 is over at once
abbrev pub is_over : ℤ → Bool
is_over (pos n) = nat_eq n 0
is_over (negsuc n) = false

-- whether a length is above this size
abbrev pub is_longer : ℕ → ℤ → Bool
is_longer size (pos n) = nat_lt size n
is_longer size (negsuc n) = false

-- a message has at least 1 byte
abbrev pub is_length : ℤ → Bool
is_length (pos n) = nat_lt 0 n
is_length (negsuc n) = false

-- the length of a message to the maintenance is 0 to 128 bytes
abbrev pub is_report_length : ℤ → Bool
is_report_length length = is_between 0 LONGEST_REPORT length

-- a message size is 1 to 8,192
abbrev pub is_size : ℤ → Bool
is_size size = is_between 1 LONGEST_MESSAGE size

-- a capacity is 1 to 1,024 messages
abbrev pub is_capacity : ℤ → Bool
is_capacity capacity = is_between 1 MOST_MESSAGES capacity

-- the greatest value of a semaphore is 1 to 32,767
abbrev pub is_maximum : ℤ → Bool
is_maximum maximum = is_between 1 GREATEST_MAXIMUM maximum

-- the value of a semaphore is not below 0, and at most its maximum
abbrev pub suits_maximum : ℤ → ℤ → Bool
suits_maximum (pos maximum) (pos value) = nat_le value maximum
suits_maximum (pos maximum) (negsuc value) = false
suits_maximum (negsuc maximum) value = false

-- a discipline is 0 or 1
abbrev pub is_discipline : ℤ → Bool
is_discipline given = is_between 0 1 given

-- FIFO is 0, PRIORITY is 1
abbrev pub discipline_given : ℤ → Discipline
discipline_given (pos zero) = discipline.Fifo
discipline_given _ = discipline.Priority

-- the number of a discipline
abbrev pub discipline_number : Discipline → ℕ
discipline_number discipline.Fifo = 0
discipline_number discipline.Priority = 1

-- SOURCE is 0, DESTINATION is 1
abbrev pub direction_number : Direction → ℕ
direction_number direction.Source = 0
direction_number direction.Destination = 1
