-- Messages that are coded from generic bytes and plain frames, and what is handed out.
-- Assumes nothing.
use Rattle.std.specs.Prelude.{◌≡◌, Bool, List, [], ◌∷◌, ℕ}
use Rattle.std.specs.Prelude.{Option, None, Some}
use Rattle.refusals.specs.Outcome.{answer}
use Rattle.receiver.specs.Join.{Heard, refused, dropped, more, done}
use Rattle.kiss.specs.Codec.{code_of}
use Rattle.kiss.specs.Back.{Codable}
use Rattle.gateway.specs.Script.{Sending}

-- "Each is coded from generic bytes or a plain AX.25 frame as in 01": the command, the original bytes, and that the coder answers them with
-- this message and a type. By the reading that it is to be decoded with: "Under the mended reading the four WIDE calls count as clean and the
-- end-to-end statement includes them" (02, E5).
pub record CodedFrom (mended : Bool) (message : List ℕ) : Type 0 where
  pub command : ℕ
  pub original : List ℕ
  pub codable : Codable mended command original
  pub typ : ℕ
  pub coded : code_of command original ≡ answer (record { bytes = message; typ = typ })

-- "What is handed out": the bytes of each Done among the answers, in order.
abbrev pub handed : List (Option Heard) → List (List ℕ)
handed [] = []
handed (Some (done n b) ∷ rest) = b ∷ handed rest
handed (Some (refused k) ∷ rest) = handed rest
handed (Some (dropped c) ∷ rest) = handed rest
handed (Some more ∷ rest) = handed rest
handed (None ∷ rest) = handed rest

-- The messages that are sent, in order.
abbrev pub messages_of : List Sending → List (List ℕ)
messages_of [] = []
messages_of (x ∷ xs) = x.message ∷ messages_of xs
