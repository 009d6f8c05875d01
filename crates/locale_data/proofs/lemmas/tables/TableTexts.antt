-- Rows by index, and ranges that are texts.
use Rattle.std.proofs.{Common.{◌≡◌, ℕ, zero, suc, ◌≤◌, ◌+◌, ◌-◌, ◌*◌, ◌/◌, ◌%◌, ◌&&◌, nat_le, Bool, true, false, List, [], ◌∷◌, length, take, drop, slice_get, Option, Some, None, refl, sym, ap, ap₂, ◌∙◌, arith}, lemmas.{Bool.{and_parts, false≢true, Decides.nat_tests}, List.{Elements.{All-take, All-drop, All-contains, All-contains_itself}, drop-drop}, Option.{none-some, same_Some}, Str.IsUtf8-from_is_utf8}}
use Rattle.std.specs.{List.{list_all, Contains}, Option.{option_map, option_map_or}, Str.{IsUtf8, is_utf8}}
use Rattle.locale_data.specs.{declared.tables.rows.TableRange.TableRange, Rows.part, Texts.{is_short_text, is_text}}
use Rattle.locale_data.proofs.lemmas.tables.EachRow.{passes, contains_at}

-- a test that passes for each row of a table passes for that at an index
pub passes_at : {X : Type 0} (q : X → Bool) (xs : List X) (i : ℕ) (x : X) → list_all q xs ≡ true
    → slice_get xs i ≡ Some x → q x ≡ true
passes_at q xs i x each at = passes q xs x each (contains_at xs i x at)

-- what a text in a table is
pub record TextFacts (bytes : List ℕ) (range : TableRange) : Type 0 where
  pub utf8 : IsUtf8 (part bytes range)
  pub short : length (part bytes range) ≤ 255

pub text-facts : (bytes : List ℕ) (range : TableRange) → is_text bytes range ≡ true → TextFacts bytes range
text-facts bytes range is =
    let shown = part bytes range in
    let p = and_parts (is_utf8 shown) (nat_le (length shown) 255) is in
    record { utf8 = IsUtf8-from_is_utf8 shown p.0; short = grind (arith, nat_tests, p.1) }

-- an element of a part of a table is one of the table
pub contains-part : {X : Type 0} (xs : List X) (range : TableRange) (x : X) → Contains (part xs range) x
    → Contains xs x
contains-part xs range x has =
    let all = All-drop (Contains xs) range.0 xs (All-contains_itself xs) in
    All-contains (Contains xs) (part xs range) x (All-take (Contains xs) _ _ all) has

-- ---- Texts by the rests of a table, so that none is found from the table's start.

-- a list from each multiple of 64 on, k times
unfoldable pub rests : {X : Type 0} → ℕ → List X → List (List X)
rests zero xs = []
rests (suc k) xs = xs ∷ rests k (drop 64 xs)

rest-at : {X : Type 0} (k : ℕ) (xs : List X) (q : ℕ) (ys : List X) → slice_get (rests k xs) q ≡ Some ys
    → ys ≡ drop (q * 64) xs
unfolding rests
rest-at zero xs q ys e = absurd (none-some ys e)
rest-at (suc k) xs zero ys e = sym (same_Some xs ys e)
rest-at (suc k) xs (suc q) ys e =
    rest-at k (drop 64 xs) q ys e ∙ drop-drop (q * 64) 64 xs ∙ ap (λ n. drop n xs) (omega arith)

-- the rests of a table of bytes, one for each text of it to begin in
abbrev pub table_rests : List ℕ → List (List ℕ)
table_rests bytes = rests (length bytes / 64 + 1) bytes

-- a range of a table, in the rest that it begins in
abbrev in_rest : TableRange → TableRange
in_rest range = record { 0 = range.0 % 64; 1 = range.0 % 64 + (range.1 - range.0) }

-- the part of a table in a range, by the rests of the table
abbrev pub part_by : List (List ℕ) → TableRange → Option (List ℕ)
part_by rests range = option_map (λ rest. part rest (in_rest range)) (slice_get rests (range.0 / 64))

pub part-by : (bytes : List ℕ) (range : TableRange) (found : List ℕ) → part_by (table_rests bytes) range ≡ Some found
    → found ≡ part bytes range
part-by bytes range found e = by (slice_get (table_rests bytes) (range.0 / 64)) refl e
  where
    by : (o : Option (List ℕ)) → slice_get (table_rests bytes) (range.0 / 64) ≡ o
        → option_map (λ rest. part rest (in_rest range)) o ≡ Some found → found ≡ part bytes range
    by None at e = absurd (none-some found e)
    by (Some rest) at e =
        let from : drop (range.0 % 64) rest ≡ drop range.0 bytes =
        ap (drop (range.0 % 64)) (rest-at (length bytes / 64 + 1) bytes (range.0 / 64) rest at)
        ∙ drop-drop (range.0 % 64) (range.0 / 64 * 64) bytes ∙ ap (λ n. drop n bytes) (omega arith) in
        sym (same_Some (part rest (in_rest range)) found e) ∙ ap₂ take (omega arith) from

abbrev pub is_text_by : List (List ℕ) → TableRange → Bool
is_text_by rests range = option_map_or is_short_text (part_by rests range) false

-- a text of a rest is one of the table
pub text-by : (bytes : List ℕ) (range : TableRange) → is_text_by (table_rests bytes) range ≡ true
    → is_text bytes range ≡ true
text-by bytes range is = by (part_by (table_rests bytes) range) refl is
  where
    by : (o : Option (List ℕ)) → part_by (table_rests bytes) range ≡ o → option_map_or is_short_text o false ≡ true
        → is_text bytes range ≡ true
    by None e is = absurd (false≢true is)
    by (Some found) e is = ap is_short_text (sym (part-by bytes range found e)) ∙ is

pub texts-by : (bytes : List ℕ) (first second : TableRange)
    → (is_text_by (table_rests bytes) first && is_text_by (table_rests bytes) second) ≡ true
    → (is_text bytes first && is_text bytes second) ≡ true
texts-by bytes first second are =
    let parts = and_parts (is_text_by (table_rests bytes) first) (is_text_by (table_rests bytes) second) are in
    let one = text-by bytes first parts.0 in
    let other = text-by bytes second parts.1 in
    cc
