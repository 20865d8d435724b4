-- A call in 16 bytes, and what an answer of `token_decode` stands for.
-- Assumes nothing.
use Rattle.std.specs.Prelude.{Bool, List, [], ◌∷◌, ℕ, Option, None, Some, IfSome, ◌+◌, ◌≤◌, take, drop, set, replicate}
use Rattle.bits.specs.Read.{taken}
use Rattle.ax25_token.specs.Token.{wide_number, Form, spelled, paired, named, counted, begun, no_token}

-- a call as the contracts see it: 16 bytes, and how many of them are its text
pub record Call : Type 0 where
  pub bytes : List ℕ
  pub len : ℕ

-- the text of a call
unfoldable pub text_of : Call → List ℕ
text_of c = take c.len c.bytes

-- the call of no letters; a call with a byte more; with a text more
abbrev pub empty : Call
empty = record { bytes = replicate 16 32; len = 0 }

abbrev pub pushed : Call → ℕ → Call
pushed c b = record { bytes = set c.bytes c.len b; len = c.len + 1 }

unfoldable pub appended : Call → List ℕ → Call
appended c [] = c
appended c (b ∷ bs) = appended (pushed c b) bs

-- an answer: the call, and the bits from the next position on
unfoldable pub call_of : List Bool → Option (Call × ℕ) → Option (Call × List Bool)
call_of b None = None
call_of b (Some (c, p)) = Some (c, drop p b)

-- the call has at most n letters, if there is one
abbrev pub UpTo : ℕ → Option (Call × ℕ) → Type 0
UpTo n r = IfSome r (λ d. d.0.len ≤ n)

-- its text instead of the call
unfoldable pub texts : Option (Call × List Bool) → Option (List ℕ × List Bool)
texts None = None
texts (Some p) = Some (text_of p.0, p.1)

-- a reading, its text after what a call holds
unfoldable pub behind_call : Call → Option (List ℕ × List Bool) → Option (Call × List Bool)
behind_call c None = None
behind_call c (Some p) = Some (appended c p.0, p.1)

-- the name of a form that has one
unfoldable pub form_name : Form → List ℕ
form_name (spelled x) = []
form_name (paired n w) = n
form_name (named n) = n
form_name (counted n lo w) = n
form_name begun = []
form_name no_token = []

-- the answer to a reading of the number after a digit, at a position of all bits
abbrev pub took_wide : Bool → ℕ → List Bool → ℕ → Option (ℕ × ℕ)
took_wide mended w b at = taken (at + w) (wide_number mended w (drop at b))
