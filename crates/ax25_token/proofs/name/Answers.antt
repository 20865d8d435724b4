-- `ax25_token::name` meets its contract: each name of its table is that of the form.
-- Assumes nothing.
use mathlib.Core.Path.{◌≡◌, refl, ap, ◌∙◌}
use mathlib.Core.Bool.{true}
use mathlib.Core.List.{List, [], ◌∷◌, map}
use Prim.Native.Nat.{ℕ, zero, suc, ◌+◌, ◌-◌, ◌≤◌, ◌<◌}
use native.Mathlib.Omega.{arith}
use lib.ListN.{length, get_or}
use Rattle.laws.specs.Pick.{pick}
use Rattle.laws.specs.Text.{ascii, same, filled}
use Rattle.laws.proofs.TextLaws.{below}
use Rattle.ax25_token.specs.declared.Call.{Call}
use Rattle.ax25_token.specs.Call.{empty, appended, form_name}
use Rattle.ax25_token.specs.Tables.{long, wide_row, pair_rows, fixed_rows, numbered_rows}
use Rattle.ax25_token.specs.Token.{form_of, symbol_form, pair_form, fixed_form, numbered_form}
use Rattle.ax25_token.proofs.CallLaws.{is_row, row_is}
use Rattle.ax25_token.proofs.name.Goals as goal

-- the call of a name, counted from 0
unfoldable call_at : ℕ → Call
call_at k = appended empty (form_name (form_of (37 + k)))

name_is : (names : List (List ℕ)) (lens : List ℕ) → below (is_row call_at 6 names lens) 15 ≡ true → (i : ℕ) → 37 ≤ i → i ≤ 51
    → (◌≡◌ {A = Call} (record { bytes = get_or names (i - 37) []; len = get_or lens (i - 37) 0 }) (appended empty (form_name (form_of i)))) × (get_or lens (i - 37) 0 ≤ 6)
unfolding call_at
name_is names lens all i lo hi =
    let e : 37 + (i - 37) ≡ i = omega arith in
    let row = row_is call_at 6 15 names lens all (i - 37) (omega arith) in
    (row.0 ∙ ap (λ (j : ℕ). appended empty (form_name (form_of j))) e, row.1)

-- the names of the code's table
abbrev words : List (List ℕ)
words =
    ascii "WIDE" ∷ ascii "PNW" ∷ ascii "MW" ∷ ascii "OR" ∷ ascii "WA" ∷ ascii "ALL" ∷ ascii "CQ" ∷ ascii "APIN" ∷ ascii "APWW"
    ∷ ascii "APDR" ∷ ascii "APBPQ1" ∷ ascii "APJYC1" ∷ ascii "APOPYT" ∷ ascii "APU25N" ∷ ascii "APVARA" ∷ []

-- a row of a table, by its bytes and its length
row_parts : (rows : List (List ℕ × ℕ)) (k : ℕ) (d : List ℕ × ℕ) → k < length rows
    → get_or rows k d ≡ (get_or (map (λ (c : List ℕ × ℕ). c.0) rows) k [], get_or (map (λ (c : List ℕ × ℕ). c.1) rows) k 0)
row_parts [] k d h = absurd (omega arith)
row_parts (c ∷ rows) zero d h = refl
row_parts (c ∷ rows) (suc k) d h = row_parts rows k d (omega arith)

abbrev table : List (List ℕ × ℕ)
table = map (λ (n : List ℕ). (filled 16 n, length n)) words

pub returns : goal.returns
unfolding below is_row call_at same filled appended form_name form_of symbol_form pair_form fixed_form numbered_form wide_row pair_rows fixed_rows numbered_rows long pick
returns c =
    let i = c.args.i in
    let known = name_is (map (λ (c : List ℕ × ℕ). c.0) table) (map (λ (c : List ℕ × ℕ). c.1) table) refl i (omega arith) (omega arith) in
    let is = row_parts table (i - 37) ([], 0) (omega arith) in
    (ap {B = Call} (λ (r : List ℕ × ℕ). record { bytes = r.0; len = r.1 }) is ∙ known.0, omega (arith, ap (λ (r : List ℕ × ℕ). r.1) is, known.1))
