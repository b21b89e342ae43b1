-- The number of each denial, as a host reads it. Assumes nothing.
use Rattle.std.specs.Prelude.{ℕ}
use Rattle.denial.specs.declared.Denial.{Denial}
use Rattle.denial.specs.declared.Denial.TheVariants.{NotStarted, AlreadyStarted, ShelfTooSmall, ArrayLost, BadRange, BadLength, NoSuchDisk, WrongDiskState, StripeLocked, NoFreeSlot, WrongRequestState, PlanRefused, Faulted, BadLayout, BadFaultLine, TooManyFaultLines}

abbrev pub number : Denial → ℕ
number NotStarted = 1
number AlreadyStarted = 2
number ShelfTooSmall = 3
number ArrayLost = 4
number BadRange = 5
number BadLength = 6
number NoSuchDisk = 7
number WrongDiskState = 8
number StripeLocked = 9
number NoFreeSlot = 10
number WrongRequestState = 11
number (PlanRefused rule) = 12
number (Faulted fault) = 13
number BadLayout = 14
number BadFaultLine = 15
number TooManyFaultLines = 16
