-- Sets of small numbers (members, disks, buffers, nodes), each held in one number. Assumes nothing.
use Rattle.std.specs.Prelude.{◌≡◌, ℕ, ◌<◌, Bool, true, false, not, ◌&&◌, ◌||◌, List, ◌==◌, filter, nat_lt}
use Rattle.std.specs.List.{range_with_len}
use Rattle.std.specs.Int.{bit_at}

-- i is in the set s: bit i of s is set
abbrev pub has : ℕ → ℕ → Bool
has s i = bit_at s i == 1

-- the numbers below n that are in the set, rising; shut, since at a numeral n it would unfold into n tests
unfoldable pub elements : ℕ → ℕ → List ℕ
elements n s = filter (has s) (range_with_len 0 n)

-- the set t is the set s with i put in; a number over 31 is left out
abbrev pub Inserts : ℕ → ℕ → ℕ → Type 0
Inserts s t i = (j : ℕ) → has t j ≡ (has s j || (j == i && nat_lt i 32))

-- the set t is the set s with i taken out
abbrev pub Removes : ℕ → ℕ → ℕ → Type 0
Removes s t i = (j : ℕ) → has t j ≡ (has s j && not (j == i))

-- every number in a is in b
abbrev pub Subset : ℕ → ℕ → Type 0
Subset a b = (i : ℕ) → has a i ≡ true → has b i ≡ true

-- i is the lowest number in the set
pub record Lowest (s i : ℕ) : Type 0 where
  pub there : has s i ≡ true
  pub none_below : (j : ℕ) → j < i → has s j ≡ false
