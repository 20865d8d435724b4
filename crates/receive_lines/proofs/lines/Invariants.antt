-- `receive_lines::lines` is safe and ends: what was read, the line, the data and the answers that are held stay within their rooms. The part of the output that is lent for an answer comes back with its length.
-- Assumes nothing.
use Rattle.std.proofs.Common.{◌≤◌, length}
use Rattle.receive_lines.proofs.lines.Given as goal

abbrev pub invariant-loop : goal.invariant-loop
invariant-loop g l = (l.stand.to ≤ length l.chunk) × (l.at ≤ length l.out)
