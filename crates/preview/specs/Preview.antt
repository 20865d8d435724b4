-- Price a message before keying up: document 02, E3.
-- Assumes nothing.
use Rattle.std.specs.Prelude.{Bool, not, ◌||◌, List, ℕ, length, take, ltb, eqb}
use Rattle.laws.specs.Pick.{pick}
use Rattle.refusals.specs.Limits.{field_ok, mask_ok}
use Rattle.refusals.specs.Outcome.{Outcome, refused, answer, into}
use Rattle.sender.specs.Send.{count_of, most_of, send_of}
use Rattle.ax25.specs.Encode.{Coded}
use Rattle.kiss.specs.Codec.{code_of}
use Rattle.room.specs.Room.{is_coders}
use Rattle.preview.specs.declared.Price.{Price}

-- ---- the preview

-- "coded length, fragment count": what the sender's answer for fragment 0 says of a message of n bytes
abbrev pub sent_price : {A : Type 0} → Outcome A → ℕ → ℕ → Outcome Price
sent_price (refused k) n field = refused k
sent_price (answer f) n field = answer (record { length = n; count = count_of n field })

-- "so a refusal by the coder comes first"
abbrev pub coded_price : Outcome Coded → ℕ → ℕ → Outcome Price
coded_price (refused k) field mask = refused k
coded_price (answer c) field mask = sent_price (send_of c.bytes field mask 0) (length c.bytes) field

-- 1, 2, then 3, 4 or 5; then the sender's 8, 9, 12
unfoldable pub preview_of : ℕ → List ℕ → ℕ → ℕ → Outcome Price
preview_of command d field mask = coded_price (code_of command d) field mask

-- the same for a coded message of n bytes, by its length alone. It is neither empty nor too long, its first byte is below 80, and fragment 0 is
-- always there: the sender's 10, 2, 11 and 13 are not met
unfoldable pub fitting_price : ℕ → ℕ → ℕ → Outcome Price
fitting_price n field mask =
    pick (not (field_ok field)) (refused 8)
    (pick (not (mask_ok mask)) (refused 9)
    (pick (ltb (most_of mask) (count_of n field)) (refused 12)
    (answer (record { length = n; count = count_of n field }))))

-- the refusals of a preview
abbrev pub is_previews : ℕ → Bool
is_previews n = is_coders n || (eqb n 8 || (eqb n 9 || eqb n 12))

-- ---- "coding, then sending, a copy into buffers"

-- what `encode` left in one output, sent from there into another
abbrev pub priced_in : Outcome (ℕ × ℕ) × List ℕ → ℕ → ℕ → List ℕ → Outcome Price
priced_in (refused k, t) field mask out = refused k
priced_in (answer (n, typ), t) field mask out = sent_price (into (send_of (take n t) field mask 0) out).outcome n field
