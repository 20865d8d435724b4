-- Demand 3: one claim about one list of calls on a new receiver and its store. Sentences in quotes are demand 3's, and document 01's in "The
-- list of demand 3". The decoder's reading is a parameter: false is the original one, true the mended one of document 02, E5. "Demand 3 compares
-- answers and not tallies, for lists of fewer than 2^64 pushes and joins in all, those before the ending included" (02, E12).
-- Assumes nothing.
use Rattle.std.specs.Prelude.{◌≡◌, Bool, true, List, [], ◌∷◌, ◌++◌, ℕ, suc, ◌≤◌, ◌<◌, length, drop, eqb}
use Rattle.std.specs.Prelude.{Some}
use Rattle.laws.specs.Pick.{pick}
use Rattle.refusals.specs.Outcome.{accepted, refused, answer, into, left}
use Rattle.sender.specs.Send.{count_for, send_of}
use Rattle.frame.specs.Frame.{build_of}
use Rattle.receiver.specs.Join.{Heard, more, done}
use Rattle.receiver.specs.New.{new_of}
use Rattle.receiver.specs.declared.Reassembler.{Reassembler}
use Rattle.kiss.specs.Codec.{decode_of}
use Rattle.kiss.specs.Told.{decode_into}
use Rattle.gateway.specs.Run.{Call, push, state, run_of, Few, freshly}
use Rattle.gateway.specs.Script.{Sending, Line, line, calls, answers, Mixed, settled}
use Rattle.gateway.specs.Source.{CodedFrom, handed, messages_of}

-- ---- the messages that follow

-- The answer to a frame that has n frames of its message after it: "all but its last answer More and the last answers Done", and "Done has
-- the message's length, and the store's first bytes are the message".
abbrev pub answer_before : ℕ → List ℕ → Heard
answer_before n message = pick (eqb n 0) (done (length message) message) more

-- The frames of a message from fragment k on. The sender is asked for fragment k, then for k + 1, and so on until it answers 13. Each
-- fragment that it answers "is framed once, with the message's field and any other arguments that are accepted, and that frame is pushed
-- with the same field".
pub data Frames (mask : ℕ) (x : Sending) : ℕ → List Line → Type 0 where
  no_fragment : {k : ℕ} → send_of x.message x.field mask k ≡ refused 13 → Frames mask x k []
  fragment_then : {k : ℕ} {rest : List Line} (fragment frame : List ℕ)
      → send_of x.message x.field mask k ≡ answer fragment
      → build_of x.field fragment (x.control k) (x.marker k) ≡ answer frame
      → Frames mask x (suc k) rest
      → Frames mask x k (line (push frame x.field) (Some (answer_before (length rest) x.message)) ∷ rest)

-- One message of the list: it "is coded from generic bytes or a plain AX.25 frame as in 01, accepted by the sender under this receiver's mask
-- and a field size of its own, framed and pushed with that size in order".
pub record Message (mended : Bool) (mask : ℕ) (x : Sending) (ls : List Line) : Type 0 where
  pub source : CodedFrom mended x.message
  pub sent : accepted (send_of x.message x.field mask 0) ≡ true
  pub frames : Frames mask x 0 ls

-- "any list of messages", the frames of each after those of the one before it.
pub data Messages (mended : Bool) (mask : ℕ) : List Sending → List Line → Type 0 where
  no_message : Messages mended mask [] []
  message_then : {x : Sending} {xs : List Sending} {ls rest : List Line}
      → Message mended mask x ls → Messages mended mask xs rest → Messages mended mask (x ∷ xs) (ls ++ rest)

-- ---- what the sender and the decoder answer for each of them

-- Fragment k as the sender hands it out, whatever the length of the lent output.
pub record Fragment (mask : ℕ) (x : Sending) (k : ℕ) : Type 0 where
  pub bytes : List ℕ
  pub is : send_of x.message x.field mask k ≡ answer bytes
  -- Where the output has room, the fragment stands at its front and the number of bytes is answered; what lies past them is unchanged.
  pub fits : (out : List ℕ) → length bytes ≤ length out
      → into (send_of x.message x.field mask k) out ≡ left (answer (length bytes)) (bytes ++ drop (length bytes) out)
  -- "or answers 6 where the output for one is too short", and the output is unchanged.
  pub short : (out : List ℕ) → length out < length bytes → into (send_of x.message x.field mask k) out ≡ left (refused 6) out

-- What holds of a message with the lines ls.
pub record Whole (mended : Bool) (mask : ℕ) (x : Sending) (ls : List Line) (c : CodedFrom mended x.message) : Type 0 where
  -- "Each message has exactly its counted fragments": `count_for_field` answers the number of its frames.
  pub counted : count_for (length x.message) x.field ≡ answer (length ls)
  -- "Of each message the sender hands out fragments 0 to count − 1, or answers 6 where the output for one is too short".
  pub each : (k : ℕ) → k < length ls → Fragment mask x k
  -- "and from the count on it answers 13", whatever the length of the output, which is unchanged.
  pub from_count : (k : ℕ) → length ls ≤ k → (out : List ℕ) → into (send_of x.message x.field mask k) out ≡ left (refused 13) out
  -- "the decoder answers them with the original bytes": where its lent output has room, they stand at its front, and their number and their
  -- command are answered; what lies past them is unchanged.
  pub decoded : (out : List ℕ) → length c.original ≤ length out
      → decode_into (decode_of mended x.message) out ≡ (answer (length c.original, c.command), c.original ++ drop (length c.original) out)
  -- "or with 6 where its lent output is shorter", and the output is unchanged.
  pub decoded_short : (out : List ℕ) → length out < length c.original → decode_into (decode_of mended x.message) out ≡ (refused 6, out)

-- Each message of a list is whole.
abbrev pub AllWhole : {mended : Bool} {mask : ℕ} {xs : List Sending} {ps : List Line} → Messages mended mask xs ps → Type 0
AllWhole no_message = Unit {0}
AllWhole {mended} {mask} (message_then {x = x} {ls = ls} m ms) = Whole mended mask x ls m.source × AllWhole ms

-- ---- the claim

-- What holds of the calls of ls after the calls `before`, in one list from the start.
pub record Delivered {mended : Bool} {mask : ℕ} {xs : List Sending} {ps : List Line} (ms : Messages mended mask xs ps)
    (r : Reassembler) (store : List ℕ) (before : List Call) (ls : List Line) : Type 0 where
  -- Each call of ls has its answer.
  pub answered : run_of (state r store) (before ++ calls ls) ≡ run_of (state r store) before ++ answers ls
  -- "What is handed out is the message", for each message in order and nothing else.
  pub handed_out : handed (answers ls) ≡ messages_of xs
  -- The fragments are what the sender answers, and each message "decodes to the original bytes".
  pub whole : AllWhole ms

-- The claim about every list of calls on the receiver r and the store.
pub record Claim (mended : Bool) (mask : ℕ) (r : Reassembler) (store : List ℕ) : Type 0 where
  -- "For every list of pushes, joins and resets on them, refused ones included, each answer is the one that a fresh receiver gives to the
  -- same call after only the calls since the last ending before it, or since the start." The fresh receiver "has the same mask and 5,000
  -- store bytes of its own, whatever they hold": for each call another store, chosen by the calls before it.
  pub forgets : (stores : List Call → List ℕ) → ((past : List Call) → length (stores past) ≡ 5000)
      → (cs : List Call) → Few cs → run_of (state r store) cs ≡ freshly r stores [] cs
  -- "Now let the list be empty or stop with an ending, and let any list of messages follow", with idle calls anywhere between.
  pub delivers : (before : List Call) → settled before ≡ true
      → (xs : List Sending) (ps : List Line) (ms : Messages mended mask xs ps) (ls : List Line) → Mixed ps ls
      → Few (before ++ calls ls)
      → Delivered ms r store before ls

-- Demand 3, by the decoder's reading. "The list starts with a new receiver of an accepted mask and one store of 5,000 bytes, whatever they hold."
abbrev pub Demand3 : Bool → Type 0
Demand3 mended = (mask : ℕ) (r : Reassembler) → new_of mask ≡ answer r → (store : List ℕ) → length store ≡ 5000 → Claim mended mask r store
