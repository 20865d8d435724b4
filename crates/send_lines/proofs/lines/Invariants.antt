-- `send_lines::lines` is safe and ends: what was read, the line and what is held stay within their rooms.
-- Assumes nothing.
use Rattle.std.proofs.Common.{◌≤◌, length}
use Rattle.send_lines.proofs.lines.Given as goal

abbrev pub invariant-loop : goal.invariant-loop
invariant-loop g l = (l.stand.to ≤ length l.chunk) × (l.at ≤ length l.out)
