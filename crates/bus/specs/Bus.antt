-- The address register, and the count of data answers. Document 01, "Frames".
-- Assumes nothing.
use Rattle.std.specs.Prelude.{ℕ, ◌+◌, Bool, cond, ltb}
use Rattle.action.specs.declared.Action.{Action}
use Rattle.action.specs.declared.Action.TheVariants.{Refused, Silent, SetAddress, Dropped, Reset, Command, Customer, Control, Read}
use Rattle.bus.specs.declared.Bus.{Bus}

abbrev pub bus : ℕ → ℕ → Bus
bus a n = record { address = a; counter = n }

abbrev pub no_bus : Bus
no_bus = bus 0 0

-- one more, but not past FFFF, which is 65,535
abbrev pub one_more : ℕ → ℕ
one_more n = cond (ltb n 0xffff) (n + 1) n

abbrev pub next_address : ℕ → Bool → ℕ
next_address address increment = cond increment (one_more address) address

-- a data answer counts; operation 10 increments the address
abbrev pub bus_read : Bus → Bool → Bus
bus_read b increment = bus (next_address b.address increment) (one_more b.counter)

-- after a frame
abbrev pub bus_after : Bus → Action → Bus
bus_after b Refused = b
bus_after b Silent = b
bus_after b (SetAddress address) = bus address b.counter
bus_after b Dropped = b
bus_after b Reset = no_bus
bus_after b (Command word) = b
bus_after b (Customer offset byte) = b
bus_after b (Control i word) = b
bus_after b (Read r increment) = bus_read b increment
