-- What a layout says: its sizes, where each member of each stripe stands, and who owns each place. Assumes nothing.
use Rattle.std.specs.Prelude.{◌≡◌, ℕ, ◌-◌, ◌*◌, ◌/◌, ◌%◌, ◌<◌, ◌≤◌, Bool, true, false, ◌&&◌, if◌then◌else◌, Some, None, Ok, Err, Option, Result, nat_lt}
use Rattle.denial.specs.declared.Denial.{Denial}
use Rattle.denial.specs.declared.Denial.TheVariants.{BadLayout}
use Rattle.units.specs.declared.place.Place.{Place}
use Rattle.layout.specs.declared.Member.{Member}

-- sizes; the place of a stripe's member; the owner of a disk's row, if it has one
pub record Shape : Type 0 where
  pub disks : ℕ
  pub rows : ℕ
  pub stripes : ℕ
  pub width : ℕ
  pub place : Member → Place
  pub owner : Place → Option Member

abbrev pub place_at : ℕ → ℕ → Place
place_at d r = record { disk = d; row = r }

abbrev pub member_at : ℕ → ℕ → Member
member_at s j = record { stripe = s; index = j }

-- the member is one of the layout's
abbrev pub IsMember : Shape → Member → Type 0
IsMember p m = (m.stripe < p.stripes) × (m.index < p.width)

-- the placing law
pub record PlacingLaw (p : Shape) : Type 0 where
  pub few_disks : p.disks ≤ 16
  pub some_rows : 1 ≤ p.rows
  pub few_rows : p.rows ≤ 4096
  pub wide : 2 ≤ p.width
  pub narrow : p.width ≤ 8
  -- members stand on the layout's disks and rows
  pub disk_below : (m : Member) → IsMember p m → (p.place m).disk < p.disks
  pub row_below : (m : Member) → IsMember p m → (p.place m).row < p.rows
  -- a stripe's members stand on different disks
  pub apart : (m w : Member) → IsMember p m → IsMember p w → m.stripe ≡ w.stripe → (p.place m).disk ≡ (p.place w).disk → m ≡ w
  -- a member's place is owned by it, and an owner stands at the place that it owns
  pub owned : (m : Member) → IsMember p m → p.owner (p.place m) ≡ Some m
  pub placed : (q : Place) (m : Member) → p.owner q ≡ Some m → IsMember p m × (p.place m ≡ q)

-- where the member stands, or none out of range
abbrev pub found : Shape → Member → Option Place
found p m = if nat_lt m.stripe p.stripes && nat_lt m.index p.width then Some (p.place m) else None

-- how many data members a stripe has: all but the check
abbrev pub data_width : Shape → ℕ
data_width p = p.width - 1

-- how many data units the layout has
abbrev pub data_units : Shape → ℕ
data_units p = p.stripes * data_width p

-- data unit u is member u mod k of stripe u div k, for k data members in a stripe
abbrev pub unit_member : Shape → ℕ → Option Member
unit_member p u = if nat_lt u (data_units p) then Some (member_at (u / data_width p) (u % data_width p)) else None

-- the member is one of the layout's data members
abbrev pub IsDataMember : Shape → Member → Type 0
IsDataMember p m = (m.stripe < p.stripes) × (m.index < data_width p)

-- the member is one of the layout's, and stands on disk d
abbrev pub OnDisk : Shape → Member → ℕ → Type 0
OnDisk p m d = IsMember p m × ((p.place m).disk ≡ d)

-- what a constructor answers: a layout where the table has these numbers, else the denial of a bad layout
abbrev pub Made : {L : Type 0} → Bool → (L → Type 0) → Result L Denial → Type 0
Made tabled Is (Ok l) = (tabled ≡ true) × Is l
Made tabled Is (Err d) = (tabled ≡ false) × (d ≡ BadLayout)
