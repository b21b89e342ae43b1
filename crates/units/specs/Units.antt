-- Units of bytes and their sum, and the units of a pool. Assumes nothing.
use Rattle.std.specs.Prelude.{◌≡◌, ℕ, ◌+◌, ◌*◌, ◌/◌, Bool, ◌&&◌, List, [], ◌∷◌, ◌++◌, length, take, drop, replicate, bit_xor, Ok, Err, Result, nat_lt, if◌then◌else◌}
use Rattle.units.specs.declared.unit.NoSuchUnit.{NoSuchUnit}

-- a unit has 512 bytes
abbrev pub IsUnit : List ℕ → Type 0
IsUnit u = length u ≡ 512

-- the unit of zeros
abbrev pub zeros : List ℕ
zeros = replicate 512 0

-- the sum of two units: their bytewise exclusive or
abbrev pub plus : List ℕ → List ℕ → List ℕ
plus [] ys = []
plus (a ∷ xs) [] = []
plus (a ∷ xs) (b ∷ ys) = bit_xor a b ∷ plus xs ys

-- the 512 bytes of a pool from byte `at` on
abbrev pub part_at : List ℕ → ℕ → List ℕ
part_at pool at = take 512 (drop at pool)

-- the pool with other bytes from byte `at` on; every byte elsewhere stays
abbrev pub with_part : List ℕ → ℕ → List ℕ → List ℕ
with_part pool at unit = take at pool ++ (unit ++ drop (at + 512) pool)

-- unit i of a pool: the 512 bytes from byte i × 512 on
abbrev pub unit_at : List ℕ → ℕ → List ℕ
unit_at pool i = part_at pool (i * 512)

-- the pool with another unit i; every byte elsewhere stays
abbrev pub with_unit : List ℕ → ℕ → List ℕ → List ℕ
with_unit pool i unit = with_part pool (i * 512) unit

-- the pool has a whole unit i
abbrev pub holds_unit : List ℕ → ℕ → Bool
holds_unit pool i = nat_lt i (length pool / 512)

-- the pool with its unit `from` added to its unit `to`, where it has both; else the pool as it is
abbrev pub with_sum : List ℕ → ℕ → ℕ → List ℕ
with_sum pool to from =
    if holds_unit pool to && holds_unit pool from then with_unit pool to (plus (unit_at pool to) (unit_at pool from)) else pool

-- the byte at which unit i of a pool begins, or that the pool has no such unit
abbrev pub start_of : List ℕ → ℕ → Result ℕ NoSuchUnit
start_of pool i = if holds_unit pool i then Ok (i * 512) else Err (record { unit = i })

-- what such a sum answers: served where the pool has both units, else the first that it has not
abbrev pub sum_answer : List ℕ → ℕ → ℕ → Result (Unit {0}) NoSuchUnit
sum_answer pool to from =
    if holds_unit pool to then (if holds_unit pool from then Ok tt else Err (record { unit = from })) else Err (record { unit = to })
