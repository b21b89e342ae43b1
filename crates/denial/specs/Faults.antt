-- How a shelf fault is carried in a node fault, and that in a request fault. Assumes nothing.
use Rattle.std.specs.Prelude.{ℕ}
use Rattle.denial.specs.declared.fault.NodeFault.{NodeFault}
use Rattle.denial.specs.declared.fault.Phase.{Phase}
use Rattle.denial.specs.declared.fault.Phase.TheVariants.{Unset, Prepare, Settle, Renewal, Start}
use Rattle.denial.specs.declared.fault.RequestFault.{RequestFault}
use Rattle.denial.specs.declared.fault.ShelfFault.{ShelfFault}

-- the number of a phase; 0 before one is given
abbrev pub phase_number : Phase → ℕ
phase_number Unset = 0
phase_number Prepare = 1
phase_number Settle = 2
phase_number Renewal = 3
phase_number Start = 4

-- a shelf fault met at a node of a plan, in a phase
abbrev pub at_node : ℕ → Phase → ShelfFault → NodeFault
at_node n p f = record { node = n; phase = p; fault = f }

-- a node fault met on a stripe
abbrev pub on_stripe : ℕ → NodeFault → RequestFault
on_stripe s f = record { stripe = s; fault = f }
