-- The three layouts: which numbers each takes, and where it puts the members of stripe s. Assumes nothing.
use Rattle.std.specs.Prelude.{ℕ, ◌+◌, ◌-◌, ◌*◌, ◌/◌, ◌%◌, Bool, ◌&&◌, if◌then◌else◌, Some, None, Option, ◌==◌, nat_le, nat_lt}
use Rattle.units.specs.declared.place.Place.{Place}
use Rattle.layout.specs.declared.Member.{Member}
use Rattle.layout.specs.Shape.{Shape, place_at, member_at}

-- x is from low to high
abbrev pub in_range : ℕ → ℕ → ℕ → Bool
in_range low high x = nat_le low x && nat_le x high

-- the place is on one of n disks, in one of R rows
abbrev pub within : ℕ → ℕ → Place → Bool
within n R q = nat_lt q.disk n && nat_lt q.row R

-- ---- mirrored pairs over n disks and R rows

abbrev pub pair_numbers : ℕ → ℕ → Bool
pair_numbers n R = in_range 2 16 n && (n % 2 == 0 && in_range 1 4096 R)

-- stripe s lies on pair p = s mod (n/2), in row s div (n/2): member 0 on disk 2p, the check on disk 2p + 1
abbrev pub pair_place : ℕ → Member → Place
pair_place n m = place_at (2 * (m.stripe % (n / 2)) + m.index) (m.stripe / (n / 2))

abbrev pub pair_owner : ℕ → ℕ → Place → Option Member
pair_owner n R q = if within n R q then Some (member_at (q.row * (n / 2) + q.disk / 2) (q.disk % 2)) else None

abbrev pub pair : ℕ → ℕ → Shape
pair n R = record { disks = n; rows = R; stripes = (n / 2) * R; width = 2; place = pair_place n; owner = pair_owner n R }

-- ---- left-symmetric RAID-5 over n disks and R rows

abbrev pub raid5_numbers : ℕ → ℕ → Bool
raid5_numbers n R = in_range 3 8 n && in_range 1 4096 R

-- the disk of stripe s's check: the last disk for stripe 0, one disk to the left with each stripe
abbrev pub check_disk : ℕ → ℕ → ℕ
check_disk n s = n - 1 - s % n

-- stripe s lies in row s: the check on its disk c, data member j on disk (c + 1 + j) mod n
abbrev pub raid5_disk : ℕ → ℕ → ℕ → ℕ
raid5_disk n s j = if j == n - 1 then check_disk n s else (check_disk n s + 1 + j) % n

-- the member of row r that stands on disk d: the check on disk c, else data member (d - c - 1) mod n
abbrev pub raid5_member : ℕ → ℕ → ℕ → ℕ
raid5_member n r d = if d == check_disk n r then n - 1 else (d + n - (check_disk n r + 1)) % n

abbrev pub raid5_place : ℕ → Member → Place
raid5_place n m = place_at (raid5_disk n m.stripe m.index) m.stripe

abbrev pub raid5_owner : ℕ → ℕ → Place → Option Member
raid5_owner n R q = if within n R q then Some (member_at q.row (raid5_member n q.row q.disk)) else None

abbrev pub raid5 : ℕ → ℕ → Shape
raid5 n R = record { disks = n; rows = R; stripes = R; width = n; place = raid5_place n; owner = raid5_owner n R }

-- ---- chained declustering over n disks and R rows: originals in the first h = R div 2 rows, copies in the next h

abbrev pub chain_numbers : ℕ → ℕ → Bool
chain_numbers n R = in_range 2 16 n && in_range 2 4096 R

-- member 0 of stripe s on disk s mod n, in row s div n; the check on the next disk, h rows further
abbrev pub chain_place : ℕ → ℕ → Member → Place
chain_place n R m =
    if m.index == 0 then place_at (m.stripe % n) (m.stripe / n) else place_at ((m.stripe + 1) % n) (R / 2 + m.stripe / n)

-- the member in row r of disk d: an original in the first h rows, a copy from the disk before in the next h
abbrev pub chain_member : ℕ → ℕ → Place → Member
chain_member n R q =
    if nat_lt q.row (R / 2) then member_at (q.row * n + q.disk) 0
    else member_at ((q.row - R / 2) * n + (q.disk + n - 1) % n) 1

-- the odd last row, if there is one, has no owner
abbrev pub chain_owner : ℕ → ℕ → Place → Option Member
chain_owner n R q = if within n (R / 2 + R / 2) q then Some (chain_member n R q) else None

abbrev pub chain : ℕ → ℕ → Shape
chain n R = record { disks = n; rows = R; stripes = n * (R / 2); width = 2; place = chain_place n R; owner = chain_owner n R }
