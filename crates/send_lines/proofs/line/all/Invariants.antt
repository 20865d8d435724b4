-- `send_lines::line::all` meets its contract: with the frames that are left, the text is whole.
-- Assumes nothing.
use Rattle.std.proofs.Common.{List, ℕ, ◌-◌, ◌*◌, ◌≤◌}
use Rattle.laws.specs.Wrote.{Wrote}
use Rattle.send_lines.specs.Line.{frames_of}
use Rattle.send_lines.proofs.line.all.Given as goal

abbrev pub invariant-loop-k : goal.invariant-loop-k
invariant-loop-k l =
    (l.at ≤ l.k * 1031)
    × ((g : List ℕ) (q : ℕ) → Wrote l.out l.at (frames_of l.message l.job.field l.job.mask (l.count - l.k) l.k) g q
    → Wrote l.initial.out 0 (frames_of l.message l.job.field l.job.mask l.count 0) g q)
