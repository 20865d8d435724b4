-- How many bytes a body of so many bits is read as.
-- Assumes nothing.
use mathlib.Core.Path.{◌≡◌, sym, ◌∙◌}
use mathlib.Core.Bool.{Bool, true, false}
use mathlib.Core.List.{List, [], ◌∷◌, ◌++◌}
use Rattle.std.proofs.Common.{Some}
use Rattle.std.proofs.lemmas.Option.{none-some, same_Some}
use Prim.Native.Nat.{ℕ, ◌+◌, ◌-◌, ◌*◌, ◌/◌, ◌≤◌}
use native.Mathlib.Omega.{arith}
use lib.ListN.{length, drop, length-append, length-drop, length-replicate}
use lib.Dec.{eqb}
use Rattle.laws.specs.Pick.{pick}
use Rattle.laws.specs.Text.{ascii, filled}
use Rattle.laws.proofs.Cases.{by_test, by_le, from_some}
use Rattle.bits.specs.Read.{take_bits}
use Rattle.ax25_token.specs.Token.{read_token}
use Rattle.ax25_address.specs.Types.{Text, Position, TimestampedPosition}
use Rattle.ax25_aprs.specs.Text.{padded, read_text}
use Rattle.ax25_aprs.specs.LatLon.{field_of, table_end, lat_text, lon_text, read_latlon}
use Rattle.ax25_aprs.specs.Body.{read_timestamped, read_message, read_body}
use Rattle.ax25_aprs.specs.Third.{inner_type, read_third}
use Rattle.ax25_aprs.proofs.TextLaws.{length_padded}
use Rattle.ax25_aprs.proofs.PlaceLaws.{end_around, lat_text_size, lon_text_size, latlon_none, latlon_some, timestamped_none, timestamped_some}
use Rattle.room.proofs.TokenRoom.{take_left, token_room}
use Rattle.room.proofs.TextRoom.{extra, text_room}

plain_room : (b : List Bool) → length (read_text false b) ≤ 8 * (length b / 7)
unfolding extra pick
plain_room b = omega (arith, text_room false b)

high_room : (b : List Bool) → length (read_text true b) ≤ 8 * (length b / 7) + 2
unfolding extra pick
high_room b = text_room true b

-- ---- positions

place_room : (b : List Bool) (i : List ℕ) → read_latlon b ≡ Some i → (54 ≤ length b) × (length i ≤ 23 + 8 * ((length b - 54) / 7))
place_room b i e =
    let n = table_end b + 29 in
    by_le n (length b)
    (λ h.
    let t = read_text true (drop n b) in
    let s = same_Some (lat_text b ++ (lon_text b ++ t)) i (sym (latlon_some b h) ∙ e) in
    rw (← s)
    (omega (arith, end_around b), omega (arith, end_around b, length-append (lat_text b) (lon_text b ++ t), length-append (lon_text b) t, lat_text_size b, lon_text_size b, high_room (drop n b), length-drop n b)))
    (λ h. absurd (none-some i (sym (latlon_none b h) ∙ e)))

-- ---- bodies

-- eleven bytes for six bits, and eight for seven: a message for the shortest of tokens has so many
abbrev pub Short : List Bool → List ℕ → Type 0
Short b i = length i ≤ 11 + 8 * ((length b - 6) / 7)

timestamped_room : (b : List Bool) (i : List ℕ) → read_timestamped b ≡ Some i → Short b i
timestamped_room b i e =
    by_le 20 (length b)
    (λ h.
    from_some (read_latlon (drop 20 b)) _ i (sym (timestamped_some b h) ∙ e)
    (λ t et f.
    let d = padded 6 (field_of 0 20 b) in
    rw (← same_Some ((0x40 ∷ d ++ 0x68 ∷ []) ++ t) i f)
    (let p = place_room (drop 20 b) t et in
    omega (arith, length-append (0x40 ∷ d ++ 0x68 ∷ []) t, length-append d (0x68 ∷ []), length_padded 6 (field_of 0 20 b), length-drop 20 b))))
    (λ h. absurd (none-some i (sym (timestamped_none b h) ∙ e)))

filled_size : (n : ℕ) (s : List ℕ) → length (filled n s) ≡ length s + (n - length s)
unfolding filled
filled_size n s = rw (length-append, length-replicate)

message_room : (mended : Bool) (l : ℕ) (b : List Bool) (i : List ℕ) → read_message mended l b ≡ Some i → Short b i
unfolding read_message
message_room mended l b i e =
    from_some (read_token mended l b) _ i e
    (λ c ec f.
    let t = read_text false c.1 in
    let k = token_room mended l b c ec in
    rw (← same_Some (0x3A ∷ filled 9 c.0 ++ 0x3A ∷ t) i f)
    (omega (arith, length-append (filled 9 c.0) (0x3A ∷ t), filled_size 9 c.0, plain_room c.1)))

pub body_room : (mended : Bool) (typ l : ℕ) (b : List Bool) (i : List ℕ) → read_body mended typ l b ≡ Some i → Short b i
unfolding read_body pick
body_room mended typ l b i e =
    by_test (eqb typ Text)
    (λ t. rw (← same_Some (read_text false b) i (rw t at e)) (omega (arith, plain_room b)))
    (λ t. by_test (eqb typ Position)
    (λ u. from_some (read_latlon b) _ i (rw (t, u) at e)
    (λ p ep f. rw (← same_Some (0x21 ∷ p) i f) (let h = place_room b p ep in omega arith)))
    (λ u. by_test (eqb typ TimestampedPosition)
    (λ v. timestamped_room b i (rw (t, u, v) at e))
    (λ v. message_room mended l b i (rw (t, u, v) at e))))

-- ---- the third party

-- three calls of so many letters in so many bits, and eleven bytes and two bits beside them and the inner body
pub record Passed (b : List Bool) (i : List ℕ) : Type 0 where
  pub bits : ℕ
  pub letters : ℕ
  pub three : 18 ≤ bits
  pub each : 3 * letters ≤ 2 * bits + 18
  pub within : bits + 2 ≤ length b
  pub size : length i ≤ 22 + letters + 8 * ((length b - (bits + 8)) / 7)

abbrev pub party_of : List ℕ → List ℕ → List ℕ → List ℕ → List ℕ
party_of a c d t = ascii "}" ++ (a ++ (ascii ">" ++ (c ++ (ascii ",TCPIP," ++ (d ++ (ascii "*:" ++ t))))))

pub party_size : (a c d t : List ℕ) → length (party_of a c d t) ≡ 11 + (length a + length c + length d) + length t
party_size a c d t = simp length-append (omega arith)

pub third_room : (mended : Bool) (l : ℕ) (b : List Bool) (i : List ℕ) → read_third mended l b ≡ Some i → Passed b i
unfolding read_third
third_room mended l b i e =
    from_some (read_token mended l b) _ i e
    (λ c ec f. from_some (read_token mended l c.1) _ i f
    (λ d ed g. from_some (read_token mended l d.1) _ i g
    (λ p ep h. from_some (take_bits 2 p.1) _ i h
    (λ k ek m. from_some (read_body mended (inner_type k.0) l k.1) _ i m
    (λ t et n.
    let x = token_room mended l b c ec in
    let y = token_room mended l c.1 d ed in
    let z = token_room mended l d.1 p ep in
    let u = (take_left 2 p.1 k ek).0 in
    rw (← same_Some (party_of c.0 d.0 p.0 t) i n)
    (record {
      bits = length b - length p.1;
      letters = length c.0 + length d.0 + length p.0;
      three = omega arith;
      each = omega arith;
      within = omega arith;
      size = omega (arith, party_size c.0 d.0 p.0 t, body_room mended (inner_type k.0) l k.1 t et);
    }))))))
