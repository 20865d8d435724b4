-- The lines of accepted messages by the definitions of fragment and frame, for the proofs: `Frames` of specs/Demand has the same lines.
-- Assumes nothing.
use mathlib.Core.Path.{◌≡◌}
use mathlib.Core.Bool.{true}
use mathlib.Core.List.{List, [], ◌∷◌, ◌++◌}
use Rattle.std.proofs.Common.{Some}
use Prim.Native.Nat.{ℕ, zero, suc, ◌<◌}
use lib.ListN.{length}
use Rattle.refusals.specs.Outcome.{accepted}
use Rattle.sender.specs.Send.{count_of, fragment_of, send_of}
use Rattle.frame.specs.Frame.{frame_of, build_of}
use Rattle.gateway.specs.Run.{push}
use Rattle.gateway.specs.Script.{Sending, Line, line}
use Rattle.gateway.specs.Demand.{answer_before}

-- how many fragments it has
abbrev pub count_in : Sending → ℕ
count_in x = count_of (length x.message) x.field

-- accepted by the sender, and each of its fragments by the frame
pub record Accepted (mask : ℕ) (x : Sending) : Type 0 where
  pub sent : accepted (send_of x.message x.field mask 0) ≡ true
  pub framed : (k : ℕ) → k < count_in x → accepted (build_of x.field (fragment_of x.message x.field mask k) (x.control k) (x.marker k)) ≡ true

abbrev pub AllAccepted : ℕ → List Sending → Type 0
AllAccepted mask [] = Unit {0}
AllAccepted mask (x ∷ xs) = Accepted mask x × AllAccepted mask xs

-- n frames from fragment k on, each with its answer
unfoldable pub lines_from : ℕ → Sending → ℕ → ℕ → List Line
lines_from mask x k zero = []
lines_from mask x k (suc n) =
    line (push (frame_of x.field (fragment_of x.message x.field mask k) (x.control k) (x.marker k)) x.field)
    (Some (answer_before n x.message))
    ∷ lines_from mask x (suc k) n

unfoldable pub lines_of : ℕ → Sending → List Line
lines_of mask x = lines_from mask x 0 (count_in x)

unfoldable pub all_lines : ℕ → List Sending → List Line
all_lines mask [] = []
all_lines mask (x ∷ xs) = lines_of mask x ++ all_lines mask xs
