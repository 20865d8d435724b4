-- The two readings of tokens take the same bits, so that they refuse the same messages with the same numbers.
-- Assumes nothing.
use mathlib.Core.Path.{◌≡◌, refl, subst}
use mathlib.Core.Bool.{Bool, true, false}
use mathlib.Core.List.{List, [], ◌∷◌, map}
use Rattle.std.proofs.Common.{Option, None, Some}
use Prim.Native.Nat.{ℕ, zero, suc, ◌/◌, ◌%◌, ◌≤◌}
use native.Mathlib.Omega.{arith}
use lib.ListN.{length, take, drop}
use lib.Dec.{eqb, leb, ltb}
use borrow.Author.Tests.{leb-true}
use Rattle.laws.specs.Bits.{value_of, unpack}
use Rattle.laws.specs.Pick.{pick, ◌>>=◌}
use Rattle.laws.specs.Text.{ascii, starts}
use Rattle.laws.proofs.Cases.{by_le}
use Rattle.laws.proofs.TextLaws.{below, at_each}
use Rattle.bits.specs.Read.{letter, take_bits, take_text}
use Rattle.bits.specs.Val.{val_of}
use Rattle.refusals.specs.Outcome.{Outcome, refused}
use Rattle.refusals.proofs.OutcomeLaws.{answer_not}
use Rattle.ax25_token.specs.Tables.{long, wide_row, pair_rows, fixed_rows, numbered_rows}
use Rattle.ax25_token.specs.Token.{after, Form, spelled, paired, named, counted, begun, no_token, pair_form, fixed_form, numbered_form, symbol_form, form_of, wide_number, read_pair, read_form, read_token}
use Rattle.ax25_token.proofs.Cases.{form_none}
use Rattle.ax25_address.specs.Types.{call_len}
use Rattle.ax25_address.specs.Parse.{split_off}
use Rattle.ax25_aprs.specs.Body.{read_message, read_body}
use Rattle.ax25_aprs.specs.Third.{inner_type, read_third}
use Rattle.ax25.specs.Encode.{type_width}
use Rattle.ax25.specs.Decode.{digi_count, known, Head, read_tokens, read_alias, read_aliased, read_digis, read_head, read_info, read_frame}
use Rattle.kiss.specs.Codec.{Decoded, or_seven, decode_message, decode_some, decode_of}

-- ---- two readings of the same bits

-- nothing in both, or something in both
data Both {A : Type 0} (R : A → A → Type 0) : Option A → Option A → Type 0 where
  neither : Both R None None
  each : {x y : A} → R x y → Both R (Some x) (Some y)

-- the same bits are left
abbrev Rest : {X : Type 0} → X × List Bool → X × List Bool → Type 0
Rest p q = p.1 ≡ q.1

-- and both calls start with AP, or none
abbrev Calls : List ℕ × List Bool → List ℕ × List Bool → Type 0
Calls p q = (starts (ascii "AP") p.0 ≡ starts (ascii "AP") q.0) × (p.1 ≡ q.1)

-- and both heads have the same type
abbrev Heads : Head × List Bool → Head × List Bool → Type 0
Heads p q = (p.0.typ ≡ q.0.typ) × (p.1 ≡ q.1)

abbrev Any : {A : Type 0} → A → A → Type 0
Any x y = Unit {0}

same : {A : Type 0} {R : A → A → Type 0} (o : Option A) → ((x : A) → R x x) → Both R o o
same None k = neither
same (Some x) k = each (k x)

from_same : {A B : Type 0} {S : B → B → Type 0} (o : Option A) (f g : A → Option B) → ((x : A) → Both S (f x) (g x)) → Both S (o >>= f) (o >>= g)
from_same None f g k = neither
from_same (Some x) f g k = k x

from_both : {A B : Type 0} {R : A → A → Type 0} {S : B → B → Type 0} {o p : Option A} (f g : A → Option B) → Both R o p
    → ((x y : A) → R x y → Both S (f x) (g y)) → Both S (o >>= f) (p >>= g)
from_both f g neither k = neither
from_both f g (each {x = x} {y = y} r) k = k x y r

from_rest : {X B : Type 0} {S : B → B → Type 0} {o p : Option (X × List Bool)} (f g : X × List Bool → Option B) → Both Rest o p
    → ((x y : X) (r : List Bool) → Both S (f (x, r)) (g (y, r))) → Both S (o >>= f) (p >>= g)
from_rest {S = S} f g h k = from_both f g h (λ x y e. subst (λ (z : List Bool). Both S (f x) (g (y.0, z))) e (k x.0 y.0 x.1))

from_calls : {B : Type 0} {S : B → B → Type 0} {o p : Option (List ℕ × List Bool)} (f g : List ℕ × List Bool → Option B) → Both Calls o p
    → ((x y : List ℕ) → starts (ascii "AP") x ≡ starts (ascii "AP") y → (r : List Bool) → Both S (f (x, r)) (g (y, r))) → Both S (o >>= f) (p >>= g)
from_calls {S = S} f g h k =
    from_both f g h (λ x y e. subst (λ (z : List Bool). Both S (f x) (g (y.0, z))) e.1 (k x.0 y.0 e.0 x.1))

both_pick : {A : Type 0} {R : A → A → Type 0} (t : Bool) {o p u v : Option A} → Both R o p → Both R u v → Both R (pick t o u) (pick t p v)
unfolding pick
both_pick true h k = h
both_pick false h k = k

both_any : {A : Type 0} {o p : Option A} → Both Any o p → Both Any p o
both_any neither = neither
both_any (each r) = each tt

-- ---- a token

number_alike : (w : ℕ) (b : List Bool) → Both Rest (wide_number true w b) (wide_number false w b)
unfolding wide_number take_bits take_text pick
number_alike w b =
    both_pick (leb w (length b)) {o = Some (value_of (take w b), drop w b)} {p = Some (val_of (map letter (take w b)), drop w b)} (each refl) neither

pair_alike : (w : ℕ) (b : List Bool) → Both Rest (read_pair true w b) (read_pair false w b)
unfolding read_pair
pair_alike w b = from_same (take_bits 1 b) _ _ (λ d. from_rest _ _ (number_alike w d.1) (λ x y r. each refl))

after_alike : (n : List ℕ) {o p : Option (List ℕ × List Bool)} → 2 ≤ length n → Both Rest o p → Both Calls (after n o) (after n p)
unfolding after starts
after_alike [] h r = absurd (omega arith)
after_alike (a ∷ []) h r = absurd (omega arith)
after_alike (a ∷ c ∷ n) h neither = neither
after_alike (a ∷ c ∷ n) h (each e) = each (refl, e)

-- a name before a digit has two letters or more
named_long : Form → Bool
named_long (spelled x) = true
named_long (paired n w) = leb 2 (length n)
named_long (named n) = true
named_long (counted n lo w) = true
named_long begun = true
named_long no_token = true

all_long : below (λ i. named_long (form_of i)) 53 ≡ true
unfolding below named_long form_of symbol_form pair_form fixed_form numbered_form wide_row pair_rows fixed_rows numbered_rows long pick
all_long = refl

form_long : (i : ℕ) → named_long (form_of i) ≡ true
unfolding named_long
form_long i = by_le 53 i (λ h. rw (form_none i h)) (λ h. at_each (λ k. named_long (form_of k)) 53 all_long i h)

form_alike : (l : ℕ) (f : Form) (b : List Bool) → named_long f ≡ true → Both Calls (read_form true l f b) (read_form false l f b)
unfolding read_form named_long
form_alike l (spelled x) b t = same _ (λ p. (refl, refl))
form_alike l (paired n w) b t = after_alike n (leb-true 2 (length n) t) (pair_alike w b)
form_alike l (named n) b t = same _ (λ p. (refl, refl))
form_alike l (counted n lo w) b t = same _ (λ p. (refl, refl))
form_alike l begun b t = same _ (λ p. (refl, refl))
form_alike l no_token b t = neither

token_alike : (l : ℕ) (b : List Bool) → Both Calls (read_token true l b) (read_token false l b)
unfolding read_token
token_alike l b = from_same (take_bits 6 b) _ _ (λ i. form_alike l (form_of i.0) i.1 (form_long i.0))

-- ---- the head

tokens_alike : (l n : ℕ) (b : List Bool) → Both Rest (read_tokens true l n b) (read_tokens false l n b)
unfolding read_tokens
tokens_alike l zero b = each refl
tokens_alike l (suc n) b = from_calls _ _ (token_alike l b) (λ x y e r. from_rest _ _ (tokens_alike l n r) (λ v w q. each refl))

digis_alike : (l : ℕ) (ap : Bool) (n : ℕ) (b : List Bool) → Both Rest (read_digis true l ap n b) (read_digis false l ap n b)
unfolding read_digis read_aliased pick
digis_alike l ap zero b = each refl
digis_alike l true (suc n) [] = neither
digis_alike l true (suc n) (true ∷ b) = same (read_alias (suc n) b) (λ p. refl)
digis_alike l true (suc n) (false ∷ b) = tokens_alike l (suc n) b
digis_alike l false (suc n) b = tokens_alike l (suc n) b

-- from the digipeaters on
abbrev digis_on : Bool → ℕ → ℕ → List Bool → List ℕ → List ℕ → Bool → List Bool → Option (Head × List Bool)
digis_on mended l n h d s ap r = do
  (v, r₄) ← read_digis mended l ap n r
  (t, r₅) ← take_bits (type_width ap) r₄
  pick (known t) (Some (record { dest = d; src = s; digis = v; heard = h; typ = t }, r₅)) None

on_alike : (l n : ℕ) (h : List Bool) (d e s u : List ℕ) (ap : Bool) (r : List Bool) → Both Heads (digis_on true l n h d s ap r) (digis_on false l n h e u ap r)
on_alike l n h d e s u ap r =
    from_rest _ _ (digis_alike l ap n r)
    (λ v w q. from_same (take_bits (type_width ap) q) _ _ (λ t. both_pick (known t.0) (each (refl, refl)) neither))

head_alike : (l n : ℕ) (b : List Bool) → Both Heads (read_head true l n b) (read_head false l n b)
unfolding read_head
head_alike l n b =
    from_same (split_off n b) _ _
    (λ h. from_calls _ _ (token_alike l h.1)
    (λ d e q r. from_calls _ _ (token_alike l r)
    (λ s u _ z.
    subst (λ (x : Bool). Both Heads (digis_on true l n h.0 d s (starts (ascii "AP") d) z) (digis_on false l n h.0 e u x z)) q
    (on_alike l n h.0 d e s u (starts (ascii "AP") d) z))))

-- ---- the body, and the frame

message_alike : (l : ℕ) (b : List Bool) → Both Any (read_message true l b) (read_message false l b)
unfolding read_message
message_alike l b = from_calls _ _ (token_alike l b) (λ x y e r. each tt)

body_alike : (typ l : ℕ) (b : List Bool) → Both Any (read_body true typ l b) (read_body false typ l b)
unfolding read_body
body_alike typ l b = both_pick _ (each tt) (both_pick _ (same _ (λ x. tt)) (both_pick _ (same _ (λ x. tt)) (message_alike l b)))

third_alike : (l : ℕ) (b : List Bool) → Both Any (read_third true l b) (read_third false l b)
unfolding read_third
third_alike l b =
    from_calls _ _ (token_alike l b)
    (λ x y e r. from_calls _ _ (token_alike l r)
    (λ u v f s. from_calls _ _ (token_alike l s)
    (λ p q g t. from_same (take_bits 2 t) _ _ (λ k. from_both _ _ (body_alike (inner_type k.0) l k.1) (λ d i z. each tt)))))

info_alike : (l typ : ℕ) (all b : List Bool) → Both Any (read_info true l typ all b) (read_info false l typ all b)
unfolding read_info
info_alike l typ all b = both_pick _ (same _ (λ x. tt)) (both_pick _ (each tt) (both_pick _ (third_alike l b) (body_alike typ l b)))

info_at : (l t u : ℕ) (all r s : List Bool) → t ≡ u → r ≡ s → Both Any (read_info true l t all r) (read_info false l u all s)
info_at l t u all r s e f =
    subst (λ (x : ℕ). Both Any (read_info true l t all r) (read_info false l x all s)) e
    (subst (λ (x : List Bool). Both Any (read_info true l t all r) (read_info false l t all x)) f (info_alike l t all r))

frame_alike : (l header : ℕ) (b : List Bool) → Both Any (read_frame true l header b) (read_frame false l header b)
unfolding read_frame
frame_alike l header b =
    from_both _ _ (head_alike l (digi_count header) b)
    (λ x y e. from_both _ _ (info_at l x.0.typ y.0.typ b x.1 y.1 e.0 e.1) (λ i j z. each tt))

frames : (a c : Bool) (l header : ℕ) (b : List Bool) → Both Any (read_frame a l header b) (read_frame c l header b)
frames true true l header b = same _ (λ x. tt)
frames true false l header b = frame_alike l header b
frames false true l header b = both_any (frame_alike l header b)
frames false false l header b = same _ (λ x. tt)

-- ---- refusals

seven_alike : (command n : ℕ) {o p : Option (List ℕ)} → Both Any o p → or_seven command o ≡ refused n → or_seven command p ≡ refused n
seven_alike command n neither e = e
seven_alike command n (each r) e = absurd (answer_not e)

pick_refused : (t : Bool) (n : ℕ) (x o p : Outcome Decoded) → (o ≡ refused n → p ≡ refused n) → pick t x o ≡ refused n → pick t x p ≡ refused n
unfolding pick
pick_refused true n x o p h e = e
pick_refused false n x o p h e = h e

message_refused : (a c : Bool) (header : ℕ) (rest : List ℕ) (n : ℕ) → decode_message a header rest ≡ refused n → decode_message c header rest ≡ refused n
unfolding decode_message
message_refused a c header rest n =
    let k = header / 16 % 4 in
    pick_refused (eqb k 3) n _ _ _ (pick_refused (eqb k 2) n _ _ _ (seven_alike k n (frames a c (call_len k) header (unpack rest))))

some_refused : (a c : Bool) (m : List ℕ) (n : ℕ) → decode_some a m ≡ refused n → decode_some c m ≡ refused n
unfolding decode_some
some_refused a c [] n e = e
some_refused a c (header ∷ rest) n e = message_refused a c header rest n e

-- a message that one reading refuses is refused by the other, with the same number
pub refused_alike : (a c : Bool) (m : List ℕ) (n : ℕ) → decode_of a m ≡ refused n → decode_of c m ≡ refused n
unfolding decode_of
refused_alike a c m n = pick_refused (ltb 5000 (length m)) n _ _ _ (some_refused a c m n)
