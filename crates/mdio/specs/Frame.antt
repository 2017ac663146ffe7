-- The Clause 45 frame, and what it asks of the module at a port. Document 01, "Frames".
-- Assumes nothing.
use Rattle.std.specs.Prelude.{ℕ, ◌/◌, ◌%◌, ◌^◌, Bool, cond, ◌&&◌, eqb}
use Rattle.mdio.specs.declared.Frame.{Frame}
use Rattle.mdio.specs.declared.Request.{Request}
use Rattle.mdio.specs.declared.Request.TheVariants.{Silent, SetAddress, Write, Read, ReadIncrement}

-- start 31:30, operation 29:28, port 27:23, device 22:18, turnaround 17:16, data 15:0
abbrev pub frame_of : ℕ → Frame
frame_of w =
    record {
      start = w / 2 ^ 30;
      operation = w / 2 ^ 28 % 4;
      port = w / 2 ^ 23 % 32;
      device = w / 2 ^ 18 % 32;
      turnaround = w / 2 ^ 16 % 4;
      payload = w % 2 ^ 16;
    }

-- the frame is for the module at this port: start 00, its port, device 1
abbrev pub reaches : ℕ → Frame → Bool
reaches port f = eqb f.start 0 && eqb f.port port && eqb f.device 1

-- an address or write frame whose turnaround is not 10 is silent
abbrev pub turned : ℕ → Request → Request
turned turnaround request = cond (eqb turnaround 2) request Silent

-- operation 00 sets the address, 01 writes, 10 reads and then increments the address, 11 reads;
-- a read ignores turnaround and data
unfoldable pub asked : ℕ → ℕ → ℕ → Request
asked operation turnaround payload =
    cond (eqb operation 0) (turned turnaround (SetAddress payload))
    (cond (eqb operation 1) (turned turnaround (Write payload))
    (cond (eqb operation 2) ReadIncrement Read))

-- what a frame asks of the module at a port
unfoldable pub request_of : ℕ → ℕ → Request
request_of w port =
    cond (reaches port (frame_of w)) (asked (frame_of w).operation (frame_of w).turnaround (frame_of w).payload) Silent
