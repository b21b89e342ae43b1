-- A script of faults: its lines, and which access of a disk is to fault. Assumes nothing.
use Rattle.std.specs.Prelude.{◌≡◌, ℕ, ◌+◌, ◌≤◌, min, Bool, true, false, if◌then◌else◌, ◌&&◌, ◌||◌, List, [], ◌∷◌, ◌++◌, length, find, replicate, Some, None, Ok, Err, Option, ok_or, option_map, unwrap_or, Result, MatchResult, ◌==◌, nat_le, nat_lt, slice_get, slice_set}
use Rattle.denial.specs.declared.Denial.{Denial}
use Rattle.denial.specs.declared.Denial.TheVariants.{BadFaultLine, TooManyFaultLines}
use Rattle.shelf.specs.declared.script.Cause.{Cause}
use Rattle.shelf.specs.declared.script.Cause.TheVariants.{Medium, Gone, Late}
use Rattle.shelf.specs.declared.script.FaultLine.{FaultLine}
use Rattle.shelf.specs.declared.script.FaultScript.{FaultScript}
use Rattle.units.specs.Sets.{has, Removes}

-- ---- lines

-- the number of a cause, which is also the code of its faults
abbrev pub code : Cause → ℕ
code Medium = 2
code Gone = 3
code Late = 4

-- the cause that has this number
abbrev pub cause_of : ℕ → Option Cause
cause_of n = if n == 2 then Some Medium else (if n == 3 then Some Gone else (if n == 4 then Some Late else None))

-- a line names a disk from 0 to 31 and an access from 1 to 2,147,483,647
abbrev pub line_range : ℕ → ℕ → Bool
line_range d n = nat_le d 31 && (nat_le 1 n && nat_le n 2147483647)

-- the line of these numbers, or the denial of a line out of range
abbrev pub line_of : ℕ → ℕ → ℕ → Result FaultLine Denial
line_of d n c =
    if line_range d n then ok_or (option_map (λ k. record { disk = d; at = n; cause = k }) (cause_of c)) BadFaultLine
    else Err BadFaultLine

-- the lines with one more, or the denial of a bad line or of a 33rd
abbrev pub one_more : List FaultLine → Result FaultLine Denial → Result (List FaultLine) Denial
one_more ls (Err e) = Err e
one_more ls (Ok l) = if nat_lt (length ls) 32 then Ok (ls ++ l ∷ []) else Err TooManyFaultLines

-- the line is for this access of this disk
abbrev pub matches : FaultLine → ℕ → ℕ → Bool
matches l d n = l.disk == d && l.at == n

-- the cause of the first line for this access of this disk
abbrev pub first_cause : List FaultLine → ℕ → ℕ → Option Cause
first_cause ls d n = option_map (λ l. l.cause) (find (λ l. matches l d n) ls)

-- ---- a script

-- the lines of a script, in the order in which they were added
abbrev pub lines : FaultScript → List FaultLine
lines s = s.lines.items

-- nothing was counted yet, and no disk is gone
pub record Unused (s : FaultScript) : Type 0 where
  pub counts : s.counts ≡ replicate 32 0
  pub gone : s.gone ≡ 0

-- a new script: it has no line
pub record Fresh (s : FaultScript) : Type 0 where
  pub lines : lines s ≡ []
  pub unused : Unused s

-- a line is added by its numbers; on a denial nothing changes
pub record Adds (s : FaultScript) (d n c : ℕ) (answer : Result (Unit {0}) Denial) (t : FaultScript) : Type 0 where
  pub lines : MatchResult answer
      (λ _. one_more (lines s) (line_of d n c) ≡ Ok (lines t))
      (λ e. (one_more (lines s) (line_of d n c) ≡ Err e) × (lines t ≡ lines s))
  pub counts : t.counts ≡ s.counts
  pub gone : t.gone ≡ s.gone

-- how many reads and writes of a disk were counted; disks over 31 are not counted
abbrev pub count : FaultScript → ℕ → ℕ
count s d = unwrap_or (slice_get s.counts d) 0

-- the count with one access more; it stops at 4,294,967,295
abbrev pub next_count : FaultScript → ℕ → ℕ
next_count s d = min (count s d + 1) 4294967295

-- the fault that is due at the next access of a disk: gone while it is gone, else what the first line for that access says
abbrev pub due : FaultScript → ℕ → Option Cause
due s d = if nat_lt d 32 then (if has s.gone d then Some Gone else first_cause (lines s) d (next_count s d)) else None

-- the fault takes its disk away
abbrev pub takes_away : Option Cause → Bool
takes_away None = false
takes_away (Some Medium) = false
takes_away (Some Gone) = true
takes_away (Some Late) = false

-- an access of a disk is counted, and the disk is gone after a fault with the cause `Gone`
pub record Counts (s : FaultScript) (d : ℕ) (t : FaultScript) : Type 0 where
  pub lines : lines t ≡ lines s
  pub counts : t.counts ≡ slice_set s.counts d (next_count s d)
  pub gone : (e : ℕ) → has t.gone e ≡ (has s.gone e || (e == d && takes_away (due s d)))

-- a renewed disk is there again; its count goes on; over 31 nothing changes
pub record BringsBack (s : FaultScript) (d : ℕ) (t : FaultScript) : Type 0 where
  pub gone : Removes s.gone t.gone d
  pub others : t ≡ record s { gone = t.gone }
  pub over : 32 ≤ d → t ≡ s
