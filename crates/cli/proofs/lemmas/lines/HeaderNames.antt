-- The fields of a header, and their names.
use Rattle.std.proofs.{Common.{◌≡◌, ℕ, suc, ◌+◌, ◌<◌, ◌≤◌, Bool, true, false, List, [], ◌∷◌, length, slice_get, get_or, Some, refl, sym, ap, subst, ◌∙◌, arith, add-one, drop, drop-cons, inl, inr, ◌&&◌, ⊎_elim}, Math.Nat.eq-or-lt_of_le, lemmas.{Bool.{and_parts, false≢true}, Grind.common_steps, List.drop_all, Option.slice_get_past}}
use Rattle.std.specs.{List.list_any, Prelude.insert}
use Rattle.cli.specs.{declared.{lines.{fields.Field.Field, edits.FieldConversion.FieldConversion, headers.Header.Header}, program.error.HeaderError.HeaderError, words.targets.NamedField.NamedField}, FieldConversion.is_trimmed, Fields.{within, is_quote, is_quoted, quoted}, Headers.{HasBounds, HoldsName, HasName, NoneHas, count_before, with_field, AddsField, FieldFails, AreFields, FieldsFail}, Trim.text_of}
use Rattle.cli.proofs.lemmas.lines.Separators.{le_or_lt}

-- ---- The name of a field.

module _ (trims : Bool) (field : Field) (bytes name : List ℕ) where
  trimmed_plain : is_quoted field bytes ≡ false → is_trimmed trims field bytes ≡ trims
  trimmed_plain none = grind (arith, common_steps, none)

  trimmed_quoted : is_quoted field bytes ≡ true → is_trimmed trims field bytes ≡ false
  trimmed_quoted some = grind (arith, common_steps, some)

  -- bytes without quotes hold their text
  pub holds_plain : is_quoted field bytes ≡ false → text_of trims bytes ≡ name → HoldsName trims field bytes name
  holds_plain none is = (
    bytes,
    inl (refl, λ csv. grind (arith, common_steps, none, csv)),
    ap (λ trimmed. text_of trimmed bytes) (trimmed_plain none) ∙ is,
  )

  -- bytes with quotes hold the text that they are in quotes
  pub holds_quoted : is_quoted field bytes ≡ true → bytes ≡ quoted name → HoldsName trims field bytes name
  holds_quoted some is =
      (name, inr ((and_parts _ _ some).0, is), ap (λ trimmed. text_of trimmed name) (trimmed_quoted some))

  pub plain_name : is_quoted field bytes ≡ false → HoldsName trims field bytes name → text_of trims bytes ≡ name
  plain_name none (text, inl (same, plain), is) =
      ap (λ trimmed. text_of trimmed bytes) (sym (trimmed_plain none))
      ∙ ap (text_of (is_trimmed trims field bytes)) same
      ∙ is
  plain_name none (text, inr (csv, same), is) =
      absurd (false≢true (sym none ∙ ap (is_quoted field) same ∙ ap (λ b. b && list_any is_quote (quoted text)) csv))

  pub quoted_name : is_quoted field bytes ≡ true → HoldsName trims field bytes name → bytes ≡ quoted name
  quoted_name some (text, inl (same, plain), is) =
      let (csv, quotes) = and_parts _ _ some in
      absurd (false≢true (sym (plain csv) ∙ ap (list_any is_quote) (sym same) ∙ quotes))
  quoted_name some (text, inr (csv, same), is) =
      same ∙ ap quoted (ap (λ trimmed. text_of trimmed text) (sym (trimmed_quoted some)) ∙ is)

-- ---- The field with an index.

module _ (header : Header) (has : HasBounds header) (name : List ℕ) (index : ℕ) where
  -- it is between these bounds
  module _ (found : ℕ × ℕ) (at : slice_get header.bounds.items index ≡ Some found) where
    pub named_at :
        HoldsName header.trims header.field (within header.bytes.now found) name
        → HasName header.trims header.field header.bytes.now name index
    named_at holds = (found, has index ∙ at, holds)

    pub other_at :
        ¬ HoldsName header.trims header.field (within header.bytes.now found) name
        → ¬ HasName header.trims header.field header.bytes.now name index
    other_at other (it, is, holds) =
        let same : it ≡ found = let all = sym is ∙ has index ∙ at in cc in
        other (subst (λ b. HoldsName header.trims header.field (within header.bytes.now b) name) same holds)

  -- there is none
  pub past : length header.bounds.items ≤ index → ¬ HasName header.trims header.field header.bytes.now name index
  past more (it, is, holds) =
      let none = sym is ∙ has index ∙ slice_get_past header.bounds.items index more in cc

-- ---- The only field with a name.

module _ (trims : Bool) (field : Field) (header name : List ℕ) where
  -- the first one, and none after it
  pub only_one :
      (index : ℕ) → HasName trims field header name index → NoneHas trims field header name 0 index
      → ((other : ℕ) → index + 1 ≤ other → ¬ HasName trims field header name other) → (other : ℕ)
      → HasName trims field header name other → other ≡ index
  only_one index has before after other named =
      ⊎_elim
      (λ inside. ⊎_elim (λ same. same) (λ less. absurd (before other (omega arith) less named))
      (eq-or-lt_of_le inside))
      (λ more. absurd (after other (omega (arith, more)) named)) (le_or_lt other index)

  -- one more field has another name
  pub none_more :
      (from to : ℕ) → NoneHas trims field header name from to → ¬ HasName trims field header name to
      → NoneHas trims field header name from (to + 1)
  none_more from to none other index above below named =
      let inside : index ≤ to = omega (arith, below) in
      ⊎_elim (λ same. other (subst (HasName trims field header name) same named))
      (λ less. none index above less named) (eq-or-lt_of_le inside)

-- ---- The fields that words name.

-- a field that is inserted
pub inserted :
    (before : List FieldConversion) (index count : ℕ) (it : FieldConversion) (after : List FieldConversion)
    → it.index ≡ index → count ≡ count_before before index → after ≡ insert before count it
    → after ≡ with_field before it
inserted before index count it after same counted is =
    is ∙ ap (λ n. insert before n it) (counted ∙ ap (count_before before) (sym same))

module _ (trims : Bool) (field : Field) (header : List ℕ) (named : List NamedField) where
  -- the first words name these fields: what holds of the others holds of all
  pub record Placed (i : ℕ) (fields : List FieldConversion) : Type 0 where
    pub more :
        (all : List FieldConversion) → AreFields trims field header fields (drop i named) all
        → AreFields trims field header [] named all
    pub fails :
        (error : HeaderError) → FieldsFail trims field header fields (drop i named) error
        → FieldsFail trims field header [] named error

  pub placed_none : Placed 0 []
  placed_none = record { more = λ all are. are; fails = λ error fails. fails }

  pub placed_all :
      (i : ℕ) (fields : List FieldConversion) → Placed i fields → length named ≤ i
      → AreFields trims field header [] named fields
  placed_all i fields placed end = placed.more fields (rw (drop_all i named end) refl)

  module _
      (i : ℕ) (fields : List FieldConversion) (placed : Placed i fields) (it : NamedField) (inside : i < length named)
      (is : it ≡ get_or named i it)
    where
      first : drop i named ≡ it ∷ drop (i + 1) named
      first = rw add-one (drop-cons named i it inside ∙ ap (λ x. x ∷ drop (suc i) named) (sym is))

      -- one more word names a field
      pub placed_more :
          (after : List FieldConversion) → AddsField trims field header it fields after → Placed (i + 1) after
      placed_more after adds = record {
        more = λ all are. placed.more all (rw first (after, adds, are));
        fails = λ error fails. placed.fails error (rw first (inr (after, adds, fails)));
      }

      -- or none
      pub placed_fails :
          (error : HeaderError) → FieldFails trims field header fields it error
          → FieldsFail trims field header [] named error
      placed_fails error fails = placed.fails error (rw first (inl fails))
