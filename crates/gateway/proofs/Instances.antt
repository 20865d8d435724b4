-- The premises of demand 3 are met. Every message that sender and frame accept has its frames; all generic bytes and all plain frames of at most
-- 4,999 bytes are messages of the list, under F0 at field 512 and under 80 at field 40; and demand 3 is applied, under both readings: under both masks to a
-- list of six messages of all kinds, under every mask to a message in three fragments, and under 80 to one in 129. Under the mended reading it is applied
-- to the six after two with WIDE2-2, a digipeater's call and an addressee's.
-- Assumes nothing.
use mathlib.Core.Path.{◌≡◌, refl, subst}
use mathlib.Core.Bool.{Bool, true, false}
use mathlib.Core.List.{List, [], ◌∷◌, ◌++◌}
use Rattle.std.proofs.Common.{Some}
use Prim.Native.Nat.{ℕ, zero, suc, ◌+◌, ◌*◌, ◌^◌, ◌≤◌, ◌<◌}
use native.Mathlib.Omega.{arith}
use lib.ListN.{length, replicate, length-append, length-replicate, get_or-replicate}
use borrow.Author.Tests.{le-ltb}
use Rattle.laws.specs.Bits.{Bytes}
use Rattle.laws.specs.Pick.{pick}
use Rattle.refusals.specs.Limits.{field_ok, top_of, mask_ok}
use Rattle.refusals.specs.Outcome.{answer}
use Rattle.refusals.proofs.LimitLaws.{field_low, mask_top}
use Rattle.refusals.proofs.OutcomeLaws.{accepted_is}
use Rattle.sender.specs.Send.{ceiling, count_of, fragment_of, most_of}
use Rattle.sender.proofs.CountLaws.{count_pos, count_within}
use Rattle.sender.proofs.MaskLaws.{most_three, most_few}
use Rattle.sender.proofs.SendLaws.{Sendable, send_past, send_answer, send_accepted}
use Rattle.sender.proofs.SplitLaws.{fragment_some, fragment_fits}
use Rattle.frame.specs.Frame.{frame_of}
use Rattle.frame.proofs.FrameLaws.{build_accepted, build_answer}
use Rattle.receiver.specs.Join.{more, done}
use Rattle.receiver.specs.New.{fresh_of, new_of}
use Rattle.receiver.specs.Push.{last_from, fragment_length}
use Rattle.ax25_address.specs.Types.{Ax25}
use Rattle.ax25_address.specs.Classify.{any_high}
use Rattle.kiss.specs.Codec.{code_of}
use Rattle.kiss.specs.Generic.{generic_of}
use Rattle.kiss.specs.Back.{Codable, generic, plain}
use Rattle.kiss.proofs.CodecBack.{codec_back}
use Rattle.ax25.specs.Plain.{Plain}
use Rattle.ax25.proofs.PlainLaws.{plain_both}
use Rattle.ax25.proofs.Examples.{plain_text, plain_binary, plain_position, plain_timestamped, plain_message, plain_wide, plain_wide_message}
use Rattle.gateway.specs.Run.{Call, push, join, reset, state, run_of, offers, Few, freshly}
use Rattle.gateway.specs.Script.{Sending, Line, line, calls, answers, Mixed, finished, still, next, idle_answer}
use Rattle.gateway.specs.Source.{CodedFrom}
use Rattle.gateway.specs.Demand.{answer_before, Frames, no_fragment, fragment_then, Message, Messages, no_message, message_then, Delivered, Claim}
use Rattle.gateway.proofs.Demand.{all_accepted, demand_3}
use Rattle.gateway.proofs.Handed.{lines_from_lem, lines_length}
use Rattle.gateway.proofs.Lines.{count_in, Accepted, AllAccepted, lines_from, lines_of, all_lines}

-- ---- every message that sender and frame accept has its frames

module _ (m : ℕ) (x : Sending) (a : Accepted m x) where
  able : Sendable x.message x.field m
  able = send_accepted x.message x.field m a.sent

  frames_from : (n k : ℕ) → k + n ≡ count_in x → Frames m x k (lines_from m x k n)
  unfolding lines_from
  frames_from zero k e = no_fragment (send_past x.message x.field m k able (omega arith))
  frames_from (suc n) k e =
      let below : k < count_in x = omega arith in
      let frame = frame_of x.field (fragment_of x.message x.field m k) (x.control k) (x.marker k) in
      subst (λ (j : ℕ). Frames m x k (line (push frame x.field) (Some (answer_before j x.message)) ∷ lines_from m x (suc k) n))
      (lines_from_lem m x n (suc k))
      (fragment_then (fragment_of x.message x.field m k) frame
      (send_answer x.message x.field m k able below)
      (build_accepted x.field (fragment_of x.message x.field m k) (x.control k) (x.marker k) (a.framed k below)).is
      (frames_from n (suc k) (omega arith)))

  pub frames_exist : Frames m x 0 (lines_of m x)
  unfolding lines_of
  frames_exist = frames_from (count_in x) 0 (omega arith)

  pub message_exists : {mended : Bool} → CodedFrom mended x.message → Message mended m x (lines_of m x)
  message_exists c = record { source = c; sent = a.sent; frames = frames_exist }

-- ---- what sender and frame ask of a message

-- with its controls and markers
module _ (m : ℕ) (x : Sending) (able : Sendable x.message x.field m) where
  pub accepted_by : ((k : ℕ) → k < count_in x → (x.marker k ≡ 0x14 → ⊥) × ((x.control k).reply ≤ 3) × ((x.control k).hint ≤ 7)) → Accepted m x
  accepted_by marked =
      let low = field_low x.field able.field_ok_holds in
      record {
        sent = accepted_is (send_answer x.message x.field m 0 able (count_pos (length x.message) x.field));
        framed = λ k h. accepted_is (build_answer x.field (fragment_of x.message x.field m k) (x.control k) (x.marker k) able.field_ok_holds
            (fragment_some x.message x.field m able.some k)
            (fragment_fits x.message x.field m low k)
            (marked k h).0 (marked k h).1 (marked k h).2);
      }

-- ---- what can be coded can be sent, where mask and field have room for 5,000 bytes

-- field and mask for any message
pub record Ample (m field : ℕ) : Type 0 where
  pub field_ok_holds : field_ok field ≡ true
  pub mask_ok_holds : mask_ok m ≡ true
  pub room : (n : ℕ) → n ≤ 5000 → count_of n field ≤ most_of m

pub ample_f0 : Ample 0xF0 512
unfolding top_of most_of
ample_f0 = record { field_ok_holds = refl; mask_ok_holds = refl; room = λ n l. count_within n 512 16 (omega arith) (omega arith) }

-- with one check bit, 129 fragments of 40 bytes
pub ample_80 : Ample 0x80 40
unfolding top_of most_of
ample_80 = record { field_ok_holds = refl; mask_ok_holds = refl; room = λ n l. count_within n 40 128 (omega arith) (omega arith) }

module _ {mended : Bool} {m field : ℕ} (a : Ample m field) {command : ℕ} {d : List ℕ} (c : Codable mended command d) (l : length d ≤ 4999) where
  abbrev pub report : Sending
  report = record { message = (codec_back mended c l).message; field = field; control = λ k. record { reply = 3; compressed = true; hint = 7 }; marker = λ k. 1 }

  report_able : Sendable report.message field m
  report_able =
      let b = codec_back mended c l in
      record { field_ok_holds = a.field_ok_holds; mask_ok_holds = a.mask_ok_holds; some = b.not_empty; short = b.fits; first_low = b.first_low; room = a.room (length b.message) b.fits }

  pub report_message : Message mended m report (lines_of m report)
  report_message =
      message_exists m report (accepted_by m report report_able (λ k h. (λ e. omega arith, omega arith, omega arith)))
      (record { command = command; original = d; codable = c; typ = (codec_back mended c l).typ; coded = (codec_back mended c l).coded })

-- ---- generic bytes with a high one

module _ {mended : Bool} {d : List ℕ} (bytes : Bytes d) (high : any_high d ≡ true) (l : length d ≤ 4999) where
  high_coded : CodedFrom mended (0x20 ∷ d)
  unfolding code_of generic_of pick
  high_coded = record { command = 2; original = d; codable = generic bytes; typ = 0; coded = rw (le-ltb 4999 (length d) l, high) }

-- ---- in three fragments, at field 3 under every mask

abbrev raw : List ℕ
raw = 0x80 ∷ 0x81 ∷ 0x14 ∷ 0xFF ∷ []

abbrev pub three : Sending
three = record { message = 0x20 ∷ raw; field = 3; control = λ k. record { reply = 0; compressed = false; hint = k }; marker = λ k. k }

pub three_count : count_in three ≡ 3
unfolding count_of ceiling pick
three_count = refl

raw_bytes : Bytes raw
raw_bytes zero h = omega arith
raw_bytes (suc zero) h = omega arith
raw_bytes (suc (suc zero)) h = omega arith
raw_bytes (suc (suc (suc zero))) h = omega arith
raw_bytes (suc (suc (suc (suc k)))) h = absurd (omega arith)

raw_high : any_high raw ≡ true
unfolding any_high
raw_high = refl

module _ (m : ℕ) (ok : mask_ok m ≡ true) where
  three_able : Sendable (0x20 ∷ raw) 3 m
  three_able =
      record { field_ok_holds = refl; mask_ok_holds = ok; some = omega arith; short = omega arith; first_low = omega arith; room = omega (arith, three_count, most_three m (mask_top m ok)) }

  pub three_message : {mended : Bool} → Message mended m three (lines_of m three)
  three_message =
      message_exists m three
      (accepted_by m three three_able (λ k h. (λ e. omega (arith, three_count), omega arith, omega (arith, three_count))))
      (high_coded raw_bytes raw_high (omega arith))

  pub three_answers : answers (lines_of m three) ≡ Some more ∷ Some more ∷ Some (done 5 (0x20 ∷ raw)) ∷ []
  unfolding lines_of lines_from count_of ceiling pick
  three_answers = refl

-- ---- in 129 fragments, at field 40 under 80

pub highs : List ℕ
highs = replicate 4999 0x80

highs_size : length highs ≡ 4999
unfolding highs
highs_size = length-replicate {A = ℕ} 4999 0x80

highs_bytes : Bytes highs
unfolding highs
highs_bytes i h = omega (arith, get_or-replicate {A = ℕ} 4999 i 0x80 0 (omega (arith, highs_size)))

highs_high : any_high highs ≡ true
unfolding highs any_high
highs_high = refl

abbrev pub many : Sending
many = record { message = 0x20 ∷ highs; field = 40; control = λ k. record { reply = 0; compressed = false; hint = 0 }; marker = λ k. 0xFF }

pub many_count : count_in many ≡ 129
unfolding count_of ceiling pick
many_count = rw highs_size

many_able : Sendable (0x20 ∷ highs) 40 0x80
many_able =
    record {
      field_ok_holds = ample_80.field_ok_holds;
      mask_ok_holds = ample_80.mask_ok_holds;
      some = omega arith;
      short = omega (arith, highs_size);
      first_low = omega arith;
      room = ample_80.room (length (0x20 ∷ highs)) (omega (arith, highs_size));
    }

pub many_message : {mended : Bool} → Message mended 0x80 many (lines_of 0x80 many)
many_message =
    message_exists 0x80 many
    (accepted_by 0x80 many many_able (λ k h. (λ e. omega arith, omega arith, omega arith)))
    (high_coded highs_bytes highs_high (omega (arith, highs_size)))

-- ---- idle calls before, between and after

-- refused for its field
abbrev i1 : Call
i1 = push [] 0

-- a frame of another length
abbrev i2 : Call
i2 = push [] 3

-- a frame without a fragment
abbrev i3 : Call
i3 = push (replicate 6 0) 3

-- n is 0
abbrev i4 : Call
i4 = join [] 0

-- n is beyond f
abbrev i5 : Call
i5 = join (0x00 ∷ []) 2

-- all five before a list
abbrev idles : List Line → List Line
idles ls = line i1 (idle_answer i1) ∷ line i2 (idle_answer i2) ∷ line i3 (idle_answer i3) ∷ line i4 (idle_answer i4) ∷ line i5 (idle_answer i5) ∷ ls

-- all five before, between and after the lines of a list
pub with_idle : List Line → List Line
with_idle [] = idles []
with_idle (p ∷ ps) = idles (p ∷ with_idle ps)

idles_mixed : {ps ls : List Line} → Mixed ps ls → Mixed ps (idles ls)
unfolding fragment_length last_from pick
idles_mixed x = still i1 refl (still i2 refl (still i3 refl (still i4 refl (still i5 refl x))))

idle_mixed : (ps : List Line) → Mixed ps (with_idle ps)
unfolding with_idle
idle_mixed [] = idles_mixed finished
idle_mixed (p ∷ ps) = idles_mixed (next p (idle_mixed ps))

-- ---- fewer than 2^64 pushes and joins

offers_first : (c : Call) (cs : List Call) → offers (c ∷ cs) ≤ suc (offers cs)
unfolding offers
offers_first (push f k) cs = omega arith
offers_first (join f n) cs = omega arith
offers_first reset cs = omega arith

offers_calls : (ls : List Line) → offers (calls ls) ≤ length ls
offers_calls [] = unfold offers in omega arith
offers_calls (l ∷ ls) = omega (arith, offers_first l.call (calls ls), offers_calls ls)

idle_length : (ps : List Line) → length (with_idle ps) ≡ 5 + 6 * length ps
unfolding with_idle
idle_length [] = refl
idle_length (p ∷ ps) = omega (arith, idle_length ps)

-- no mask has room for more than 129 fragments of a message
lines_few : (m : ℕ) (xs : List Sending) → AllAccepted m xs → length (all_lines m xs) ≤ 129 * length xs
unfolding all_lines
lines_few m [] a = omega arith
lines_few m (x ∷ xs) (a, r) =
    let able = send_accepted x.message x.field m a.sent in
    omega (arith, length-append (lines_of m x) (all_lines m xs), lines_length m x, able.room, most_few m (mask_top m able.mask_ok_holds), lines_few m xs r)

-- two calls, then the frames of 2^50 messages with idle calls before, between and after
few_after : {mended : Bool} {m : ℕ} {xs : List Sending} → Messages mended m xs (all_lines m xs) → length xs ≤ 2 ^ 50
    → (c d : Call) → Few (c ∷ d ∷ calls (with_idle (all_lines m xs)))
few_after {m = m} {xs = xs} ms n c d =
    let ls = with_idle (all_lines m xs) in
    omega (
      arith,
      offers_first c (d ∷ calls ls),
      offers_first d (calls ls),
      offers_calls ls,
      idle_length (all_lines m xs),
      lines_few m xs (all_accepted m ms),
    )

-- ---- demand 3 applied

-- a message that is cut off, then a reset; and one that ends with a fragment below 80
abbrev cut_off : List Call
cut_off = join (0x80 ∷ 0x00 ∷ []) 2 ∷ reset ∷ []

abbrev low_end : List Call
low_end = join (0x80 ∷ 0x00 ∷ []) 2 ∷ join (0x7F ∷ []) 1 ∷ []

pub zeros : List ℕ
zeros = replicate 5000 0

zeros_size : length zeros ≡ 5000
unfolding zeros
zeros_size = length-replicate {A = ℕ} 5000 0

new_for : (m : ℕ) → mask_ok m ≡ true → new_of m ≡ answer (fresh_of m)
unfolding new_of pick
new_for m ok = rw ok

claimed : (mended : Bool) (m : ℕ) → mask_ok m ≡ true → Claim mended m (fresh_of m) zeros
claimed mended m ok = demand_3 mended m (fresh_of m) (new_for m ok) zeros zeros_size

-- one of each kind, under both readings, as under F0 at field 512 and under 80 at field 40
module _ (mended : Bool) {m field : ℕ} (a : Ample m field) where
  -- a frame that is plain under the original reading
  abbrev either : {d : List ℕ} → Plain false d → Codable mended Ax25 d
  either p = plain (plain_both mended p)

  abbrev pub six : List Sending
  six =
      three
      ∷ report a (either plain_text) (omega arith)
      ∷ report a (either plain_binary) (omega arith)
      ∷ report a (either plain_position) (omega arith)
      ∷ report a (either plain_timestamped) (omega arith)
      ∷ report a (either plain_message) (omega arith)
      ∷ []

  pub all_kinds : Messages mended m six (all_lines m six)
  unfolding all_lines
  all_kinds =
      message_then (three_message m a.mask_ok_holds)
      (message_then (report_message a (either plain_text) (omega arith))
      (message_then (report_message a (either plain_binary) (omega arith))
      (message_then (report_message a (either plain_position) (omega arith))
      (message_then (report_message a (either plain_timestamped) (omega arith))
      (message_then (report_message a (either plain_message) (omega arith)) no_message)))))

-- any list of messages, after a message that was cut off and a reset, with idle calls before, between and after all frames
module _ {mended : Bool} {m field : ℕ} (a : Ample m field) {xs : List Sending} (ms : Messages mended m xs (all_lines m xs)) (n : length xs ≤ 2 ^ 50) where
  abbrev pub Heard-after : Type 0
  Heard-after = Delivered ms (fresh_of m) zeros cut_off (with_idle (all_lines m xs))

  pub heard_after : Heard-after
  heard_after = (claimed mended m a.mask_ok_holds).delivers cut_off refl xs (all_lines m xs) ms (with_idle (all_lines m xs)) (idle_mixed (all_lines m xs)) (few_after ms n _ _)

  -- the first part of the claim, on the same list, with stores of zeros
  pub forgotten : run_of (state (fresh_of m) zeros) (cut_off ++ calls (with_idle (all_lines m xs)))
      ≡ freshly (fresh_of m) (λ past. zeros) [] (cut_off ++ calls (with_idle (all_lines m xs)))
  forgotten = (claimed mended m a.mask_ok_holds).forgets (λ past. zeros) (λ past. zeros_size) (cut_off ++ calls (with_idle (all_lines m xs))) (few_after ms n _ _)

pub heard_f0 : (mended : Bool) → Heard-after ample_f0 (all_kinds mended ample_f0) (omega arith)
heard_f0 mended = heard_after ample_f0 (all_kinds mended ample_f0) (omega arith)

pub heard_80 : (mended : Bool) → Heard-after ample_80 (all_kinds mended ample_80) (omega arith)
heard_80 mended = heard_after ample_80 (all_kinds mended ample_80) (omega arith)

-- under the mended reading, with WIDE2-2 as a digipeater and as an addressee before those six
module _ {m field : ℕ} (a : Ample m field) where
  abbrev pub eight_mended : List Sending
  eight_mended = report a (plain plain_wide) (omega arith) ∷ report a (plain plain_wide_message) (omega arith) ∷ six true a

  pub all_mended : Messages true m eight_mended (all_lines m eight_mended)
  unfolding all_lines
  all_mended =
      message_then (report_message a (plain plain_wide) (omega arith))
      (message_then (report_message a (plain plain_wide_message) (omega arith)) (all_kinds true a))

pub heard_mended : Heard-after ample_f0 (all_mended ample_f0) (omega arith)
heard_mended = heard_after ample_f0 (all_mended ample_f0) (omega arith)

-- one message alone
pub alone : {mended : Bool} {m : ℕ} (x : Sending) → Message mended m x (lines_of m x) → Messages mended m (x ∷ []) (all_lines m (x ∷ []))
unfolding all_lines
alone x message = message_then message no_message

-- under every mask, 7 check bits among them, after a fragment below 80
pub heard_three : (mended : Bool) (m : ℕ) (ok : mask_ok m ≡ true) → Delivered (alone {mended = mended} three (three_message m ok)) (fresh_of m) zeros low_end (with_idle (all_lines m (three ∷ [])))
heard_three mended m ok =
    (claimed mended m ok).delivers low_end refl (three ∷ []) (all_lines m (three ∷ [])) (alone three (three_message m ok)) (with_idle (all_lines m (three ∷ []))) (idle_mixed (all_lines m (three ∷ [])))
    (few_after (alone {mended = mended} three (three_message m ok)) (omega arith) _ _)

-- with one check bit, in 129 fragments
pub heard_many : (mended : Bool) → Delivered (alone {mended = mended} many many_message) (fresh_of 0x80) zeros low_end (with_idle (all_lines 0x80 (many ∷ [])))
heard_many mended =
    (claimed mended 0x80 ample_80.mask_ok_holds).delivers low_end refl (many ∷ []) (all_lines 0x80 (many ∷ [])) (alone many many_message) (with_idle (all_lines 0x80 (many ∷ []))) (idle_mixed (all_lines 0x80 (many ∷ [])))
    (few_after (alone {mended = mended} many many_message) (omega arith) _ _)
