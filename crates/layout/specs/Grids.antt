-- The disks and rows of a layout. Assumes nothing.
use Rattle.std.specs.Prelude.{◌≡◌, ℕ}
use Rattle.layout.specs.declared.grid.Grid.{Grid}

-- the grid has these numbers of disks and rows
abbrev pub HasSizes : {a b c : ℕ} → ℕ → ℕ → Grid a b c → Type 0
HasSizes n R g = (g.disks ≡ n) × (g.rows ≡ R)
