-- What the readers of a frame's parts answer and leave.
-- Assumes nothing.
use Rattle.std.specs.Prelude.{◌≡◌, Bool, false, List, ◌∷◌, ◌++◌, ℕ, ◌≤◌, length, take, drop}
use Rattle.std.specs.Prelude.{Option, None, Some}
use Rattle.laws.specs.Pick.{pick, ◌>>=◌}
use Rattle.laws.specs.Text.{ascii, starts}
use Rattle.laws.specs.Wrote.{Wrote}
use Rattle.bits.specs.Read.{take_bits}
use Rattle.ax25_token.specs.Token.{read_token}
use Rattle.ax25_address.specs.Address.{call_bytes}
use Rattle.ax25_address.specs.Kind.{type_number}
use Rattle.ax25_address.specs.declared.classify.AprsType.{AprsType}
use Rattle.ax25.specs.Decode as decode
use Rattle.ax25.specs.Decode.{known, marked, addresses}
use Rattle.ax25.specs.Encode.{type_width}

-- what is read of the bits b, o, is a value and the bits from p on; its bytes, by f, are written at a place of out, which leaves e, and the next place
pub record Took {X : Type 0} (f : X → List ℕ) (b : List Bool) (o : Option (X × List Bool)) (out : List ℕ) (to : ℕ) (e : List ℕ) (p q : ℕ) : Type 0 where
  pub value : X
  pub is : o ≡ Some (value, drop p b)
  pub wrote : Wrote out to (f value) e q

-- the answer of a reader; where there is nothing to read, nothing is said of e
abbrev pub ReadsTo : {X : Type 0} → (X → List ℕ) → List Bool → Option (X × List Bool) → List ℕ → ℕ → List ℕ → Option (ℕ × ℕ) → Type 0
ReadsTo f b o out to e (Some (p, q)) = Took f b o out to e p q
ReadsTo f b o out to e None = o ≡ None

-- a call as its address field
unfoldable pub field_of : ℕ → Bool → Bool → List ℕ → List ℕ
field_of l h last c = marked l h last (call_bytes l c)

-- a call that is read starts with AP
unfoldable pub ap_in : Option (List ℕ × List Bool) → Bool
ap_in None = false
ap_in (Some p) = starts (ascii "AP") p.0

-- destination and source
unfoldable pub read_ends : Bool → ℕ → List Bool → Option ((List ℕ × List ℕ) × List Bool)
read_ends mended l b = do
  (d, r) ← read_token mended l b
  (s, e) ← read_token mended l r
  Some ((d, s), e)

unfoldable pub ends_bytes : ℕ → Bool → (List ℕ × List ℕ) → List ℕ
ends_bytes l last p = field_of l false false p.0 ++ field_of l false last p.1

-- digipeaters whose H bits are n of the bits b, from the k-th on
unfoldable pub digi_bytes : ℕ → List Bool → ℕ → ℕ → List (List ℕ) → List ℕ
digi_bytes l b n k cs = addresses l cs (take n (drop k b))

-- a type that there is
unfoldable pub read_type : Bool → List Bool → Option (ℕ × List Bool)
read_type ap b = do
  (t, r) ← take_bits (type_width ap) b
  pick (known t) (Some (t, r)) None

-- the number of a type, and the position
unfoldable pub type_is : Option (AprsType × ℕ) → Option (ℕ × ℕ)
type_is (Some (t, p)) = Some (type_number t, p)
type_is None = None

-- the answer of the type's reader: the type, and a position that the bits reach
abbrev pub Types : List Bool → Option (ℕ × List Bool) → Option (AprsType × ℕ) → Type 0
Types b o (Some (t, p)) = (o ≡ Some (type_number t, drop p b)) × (p ≤ length b)
Types b o None = o ≡ None

-- the answer of the head's reader
pub record HeadRead (l : ℕ) (b : List Bool) (o : Option (decode.Head × List Bool)) (out e : List ℕ) (p q : ℕ) (typ : AprsType) : Type 0 where
  pub head : decode.Head
  pub is : o ≡ Some (head, drop p b)
  pub reaches : p ≤ length b
  pub few : length (head).digis ≤ 8
  pub kind : (head).typ ≡ type_number typ
  pub wrote : Wrote out 0 (addresses l ((head).dest ∷ (head).src ∷ (head).digis) (false ∷ false ∷ (head).heard)) e q

abbrev pub Heads : ℕ → List Bool → Option (decode.Head × List Bool) → List ℕ → List ℕ → Option (ℕ × ℕ × AprsType) → Type 0
Heads l b o out e (Some (p, q, typ)) = HeadRead l b o out e p q typ
Heads l b o out e None = o ≡ None
