-- Every place of a memory shelf holds a unit: what proves the law of a shelf for it. No contract cites these.
use Rattle.std.specs.Prelude.{◌≡◌, ℕ, ◌+◌, ◌*◌, ◌<◌, ◌≤◌, List, length, nat_lt}
use Rattle.std.proofs.Common.{ap, ◌∙◌, arith}
use Rattle.std.proofs.lemmas.Nat.{row_fits}
use Rattle.std.proofs.lemmas.Bool.{lt-ltb, and_from, cond-true}
use Rattle.units.specs.declared.place.Place.{Place}
use Rattle.units.specs.Units.{IsUnit, unit_at}
use Rattle.units.proofs.Pools.{length-unit_at}
use Rattle.shelf.specs.Memory.{bytes_at}

-- a place in range holds its unit of the bytes
pub in_range : (n R : ℕ) (bs : List ℕ) (p : Place) → p.disk < n → p.row < R → bytes_at n R bs p ≡ unit_at bs (p.disk * R + p.row)
in_range n R bs p h k =
    cond-true _ _ _ (and_from (nat_lt p.disk n) (nat_lt p.row R) (lt-ltb p.disk n h) (lt-ltb p.row R k))

module _ (n R : ℕ) (bs : List ℕ) (whole : n * R * 512 ≤ length bs) where
  -- the bytes of a place lie within the shelf's
  pub place_fits : (d r : ℕ) → d < n → r < R → (d * R + r) * 512 + 512 ≤ length bs
  place_fits d r h k = omega (arith, row_fits d R n R h (omega arith))

  pub place_unit : (p : Place) → p.disk < n → p.row < R → IsUnit (bytes_at n R bs p)
  place_unit p h k =
      ap length (in_range n R bs p h k) ∙ length-unit_at bs (p.disk * R + p.row) (place_fits p.disk p.row h k)
