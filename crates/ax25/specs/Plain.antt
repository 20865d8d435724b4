-- Document 01's term *plain frame*, by the decoder's reading.
-- Assumes nothing.
use Rattle.std.specs.Prelude.{◌≡◌, Bool, false, List, [], ◌∷◌, ◌++◌, map, ℕ, ◌+◌, ◌*◌, ◌≤◌, length}
use Rattle.laws.specs.Bits.{Bytes}
use Rattle.laws.specs.Pick.{pick}
use Rattle.laws.specs.Text.{ascii, starts, filled}
use Rattle.ax25_token.specs.Clean.{CleanCall}
use Rattle.ax25_address.specs.Classify.{classify_of}
use Rattle.ax25_address.specs.Types.{Text, Binary}
use Rattle.ax25_aprs.specs.Plain.{PlainBody}
use Rattle.ax25.specs.Decode.{is_empty}

-- a call, and bit 80 of its SSID byte
pub record Address : Type 0 where
  pub letters : List ℕ
  pub ssid : ℕ
  pub heard : Bool

-- "clean addresses"
abbrev pub AllClean : Bool → List Address → Type 0
AllClean mended [] = Unit {0}
AllClean mended (a ∷ rest) = CleanCall mended a.letters a.ssid × AllClean mended rest

abbrev pub twice : ℕ → ℕ
twice x = x * 2

-- "blank-padded; low bit of each byte 0 but the last SSID byte's; SSID bytes with 60 set"
unfoldable pub address_bytes : Address → Bool → List ℕ
address_bytes a last =
    map twice (filled 6 a.letters)
    ++ ((0x60 + a.ssid * 2 + (pick a.heard 0x80 0 + pick last 0x01 0)) ∷ [])

unfoldable pub address_field : List Address → List ℕ
address_field [] = []
address_field (a ∷ rest) = address_bytes a (is_empty rest) ++ address_field rest

-- "by `classify`, is Text or Binary; or Position ..; or TimestampedPosition ..; or Message .."
pub data PlainInfo (mended : Bool) (typ : ℕ) (info : List ℕ) : Type 0 where
  text : typ ≡ Text → PlainInfo mended typ info
  binary : typ ≡ Binary → PlainInfo mended typ info
  body : PlainBody mended typ info → PlainInfo mended typ info

-- "A *plain frame* (command `Ax25`) has 2 to 10 clean addresses; bit 80 clear in destination and source; control 03, PID F0"
pub record Plain (mended : Bool) (frame : List ℕ) : Type 0 where
  pub dest : Address
  pub src : Address
  pub digis : List Address
  pub info : List ℕ
  pub dest_unheard : dest.heard ≡ false
  pub src_unheard : src.heard ≡ false
  pub clean : AllClean mended (dest ∷ src ∷ digis)
  pub few : length digis ≤ 8
  pub octets : Bytes info
  pub is : frame ≡ address_field (dest ∷ src ∷ digis) ++ (0x03 ∷ 0xF0 ∷ info)
  pub kind : PlainInfo mended (classify_of (starts (ascii "AP") dest.letters) info) info
