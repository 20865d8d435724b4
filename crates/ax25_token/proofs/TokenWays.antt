-- The ways through `named` and `token_decode`, one law for each.
-- Assumes nothing.
use Rattle.std.proofs.Common.{None, Some}
use mathlib.Core.Path.{◌≡◌, sym, ap, ◌∙◌}
use mathlib.Core.Bool.{Bool, true}
use mathlib.Core.List.{List, [], ◌∷◌}
use Rattle.std.proofs.Common.{Option}
use Prim.Native.Nat.{ℕ, ◌+◌, ◌-◌, ◌≤◌, ◌<◌}
use native.Mathlib.Omega.{arith}
use lib.ListN.{drop, get_or}
use Rattle.laws.specs.Text.{ascii}
use Rattle.laws.proofs.Cases.{by_le}
use Rattle.bits.proofs.TakenLaws.{told_bits, told_short}
use Rattle.ax25_token.specs.declared.Call.{Call}
use Rattle.ax25_token.specs.Call.{empty, pushed, appended, call_of, texts, behind_call, form_name, UpTo}
use Rattle.ax25_token.specs.Tables.{call_alphabet}
use Rattle.ax25_token.specs.Token.{Form, paired, named, counted, form_of, after, read_letters, read_spelled, read_pair, read_number, read_form, read_token}
use Rattle.ax25_token.proofs.Cases.{name_at, form_spelled, form_name_lem, form_ap_name, form_ap, form_none, token_short, token_form, read_spelled_lem, read_pair_lem, read_name, read_number_lem, read_ap, read_none}
use Rattle.ax25_token.proofs.CallLaws.{taken_at, Onto, behind_after, onto_nothing, onto_next, onto_text, longer}

-- a reading after a name
onto_after : (b : List Bool) (m k : ℕ) (n : List ℕ) (o u : Option (List ℕ × List Bool)) (d : Call) (r : Option (Call × ℕ)) → u ≡ after n o
    → d ≡ appended empty n → d.len + k ≤ m → Onto b d k o r → Onto b empty m u r
onto_after b m k n o u d r f e h i =
    (i.0 ∙ ap (λ (x : Call). behind_call x o) e ∙ sym (behind_after empty n o) ∙ ap (behind_call empty) (sym f), longer r i.1 (omega arith))

-- ---- indexes from 37 to 51

pub fixed_form_lem : (i : ℕ) → 42 ≤ i → i ≤ 51 → (i ≡ 44 → ⊥) → (i ≡ 45 → ⊥) → (i ≡ 46 → ⊥) → form_of i ≡ named (name_at i)
fixed_form_lem i h k x y z = by_le i 43 (λ m. form_name_lem i h m) (λ m. form_ap_name i (omega (arith, x, y, z)) k)

module _ (mended : Bool) (b : List Bool) (at i : ℕ) (d : Call) (name : d ≡ appended empty (form_name (form_of i))) (short : d.len ≤ 6) where
  abbrev Named : Option (Call × ℕ) → Type 0
  Named r = ((l : ℕ) → call_of b r ≡ behind_call empty (read_form mended l (form_of i) (drop at b))) × UpTo 10 r

  name_of : (f : Form) → form_of i ≡ f → d ≡ appended empty (form_name f)
  name_of f e = name ∙ ap (λ (g : Form). appended empty (form_name g)) e

  form_is : (l : ℕ) (f : Form) → form_of i ≡ f → read_form mended l (form_of i) (drop at b) ≡ read_form mended l f (drop at b)
  form_is l f e = ap (λ (g : Form). read_form mended l g (drop at b)) e

  pub named_pair : (n : List ℕ) (w : ℕ) → form_of i ≡ paired n w → (r : Option (Call × ℕ)) → Onto b d 4 (read_pair mended w (drop at b)) r → Named r
  unfolding form_name
  named_pair n w e r h =
      let on : (l : ℕ) → Onto b empty 10 (read_form mended l (form_of i) (drop at b)) r =
      λ l. onto_after b 10 4 n (read_pair mended w (drop at b)) _ d r (form_is l (paired n w) e ∙ read_pair_lem mended l (drop at b) n w) (name_of (paired n w) e) (omega arith) h in
      (λ l. (on l).0, (on 0).1)

  pub named_number : (n : List ℕ) (lo w : ℕ) → form_of i ≡ counted n lo w → (r : Option (Call × ℕ)) → Onto b d 2 (read_number lo w (drop at b)) r → Named r
  unfolding form_name
  named_number n lo w e r h =
      let on : (l : ℕ) → Onto b empty 10 (read_form mended l (form_of i) (drop at b)) r =
      λ l. onto_after b 10 2 n (read_number lo w (drop at b)) _ d r (form_is l (counted n lo w) e ∙ read_number_lem mended l (drop at b) n lo w) (name_of (counted n lo w) e) (omega arith) h in
      (λ l. (on l).0, (on 0).1)

  pub named_fixed : (n : List ℕ) → form_of i ≡ named n → Named (Some (d, at))
  unfolding form_name
  named_fixed n e =
      let on : (l : ℕ) → Onto b empty 10 (read_form mended l (form_of i) (drop at b)) (Some (d, at)) =
      λ l. onto_next b empty 10 _ n at d (form_is l (named n) e ∙ read_name mended l (drop at b) n) (name_of (named n) e) (omega arith) in
      (λ l. (on l).0, (on 0).1)

-- ---- a token

module _ (mended : Bool) (b : List Bool) (at l : ℕ) where
  abbrev Tells : Option (Call × ℕ) → Type 0
  Tells r = (texts (call_of b r) ≡ read_token mended l (drop at b)) × UpTo 10 r

  told : (r : Option (Call × ℕ)) → Onto b empty 10 (read_token mended l (drop at b)) r → Tells r
  told r i = onto_text b 10 (read_token mended l (drop at b)) r (omega arith) i

  pub no_index : taken_at b at 6 ≡ None → (r : Option (Call × ℕ)) → r ≡ None → Tells r
  no_index e r q = told r (onto_nothing b empty 10 _ r (token_short mended l (drop at b) (told_short b at 6 e)) q)

  module _ (i p : ℕ) (e : taken_at b at 6 ≡ Some (i, p)) where
    form : (f : Form) → form_of i ≡ f → read_token mended l (drop at b) ≡ read_form mended l f (drop p b)
    form f g = token_form mended l (drop at b) i (drop p b) (told_bits b at 6 i p e) ∙ ap (λ (x : Form). read_form mended l x (drop p b)) g

    pub by_name : (r : Option (Call × ℕ)) → ((k : ℕ) → call_of b r ≡ behind_call empty (read_form mended k (form_of i) (drop p b))) → UpTo 10 r → Tells r
    by_name r h m =
        told r (h l ∙ ap (behind_call empty) (sym (token_form mended l (drop at b) i (drop p b) (told_bits b at 6 i p e))), longer r m (omega arith))

    pub by_letters : i < 37 → 2 ≤ l → l ≤ 7 → (d : Call) → d ≡ pushed empty (get_or call_alphabet i 0) → d.len ≡ 1
        → (r : Option (Call × ℕ)) → Onto b d (l - 1 + 3) (read_spelled (l - 1) (drop p b)) r → Tells r
    unfolding appended
    by_letters k lo hi d q m r h =
        let x = get_or call_alphabet i 0 in
        told r (onto_after b 10 (l - 1 + 3) (x ∷ []) (read_spelled (l - 1) (drop p b)) _ d r
        (form _ (form_spelled i k) ∙ read_spelled_lem mended l (drop p b) x) q (omega arith) h)

    pub by_ap : i ≡ 52 → 2 ≤ l → l ≤ 7 → (d : Call) → d ≡ appended empty (ascii "AP") → d.len ≡ 2
        → (r : Option (Call × ℕ)) → Onto b d (l - 2) (read_letters true (l - 2) (drop p b)) r → Tells r
    by_ap k lo hi d q m r h =
        told r (onto_after b 10 (l - 2) (ascii "AP") (read_letters true (l - 2) (drop p b)) _ d r
        (form _ (form_ap i k) ∙ read_ap mended l (drop p b)) q (omega arith) h)

    pub by_none : 53 ≤ i → (r : Option (Call × ℕ)) → r ≡ None → Tells r
    by_none k r q = told r (onto_nothing b empty 10 _ r (form _ (form_none i k) ∙ read_none mended l (drop p b)) q)
