-- A tag has at most one row in a table, and names at most one value.
use Rattle.std.proofs.{Common.{◌≡◌, ℕ, ◌≤◌, true, false, List, length, get_or, take, Option, Some, None, refl, ap, subst, sym, ◌∙◌, inl, inr, arith}, lemmas.{Bool.cases_lt, List.{get_or_default, Elements.All-contains}, Slice.Eq.bytes_eq-Decides}}
use Rattle.std.specs.List.{Contains}
use Rattle.decimal_format.specs.Symbols.{Symbols}
use Rattle.locale_data.specs.{declared.tables.{rows.symbols.{LocaleSymbols.LocaleSymbols, DecimalSystem.DecimalSystem}, symbols.TheConstants.LOCALES}, Tag.compared, Rows.{unpadded, is_candidate, IsRowOf}, SortedRows.is_table, Locales.{own_rows, IsListed, IsLocale}}
use Rattle.locale_data.proofs.lemmas.{search.{SortedRows.{keys_increase, key_of_named}, LongestRow.prefix_is}, tables.EachRow.{locales_are_table, has_rows_if_listed}, locales.Unknown.system_is_listed}

module _ {R : Type 0} (name_of : R → List ℕ) (rows : List R) (table : is_table name_of rows ≡ true) where
  -- rows with one name are one row
  same_row : (a b : R) → Contains rows a → Contains rows b → unpadded (name_of a) ≡ unpadded (name_of b) → a ≡ b
  same_row a b x y e =
      let name = unpadded (name_of b) in
      let at_b : get_or rows y.0 a ≡ b = get_or_default rows y.0 a b y.1 ∙ y.2 in
      let named = λ (r : R). unpadded (name_of r) in
      let key_a =
      key_of_named name_of rows table name x.0 a x.1 ((bytes_eq-Decides _ name).1 (ap named x.2 ∙ e)) in
      let key_b = key_of_named name_of rows table name y.0 a y.1 ((bytes_eq-Decides _ name).1 (ap named at_b)) in
      elim (cases_lt x.0 y.0) [
        | inl h ↦ absurd (omega (arith, keys_increase name_of rows table x.0 y.0 a h y.1))
        | inr h ↦ elim (cases_lt y.0 x.0) [
          | inl g ↦ absurd (omega (arith, keys_increase name_of rows table y.0 x.0 a g x.1))
          | inr g ↦
              let same : x.0 ≡ y.0 = omega arith in
              sym x.2 ∙ (ap (λ i. get_or rows i a) same ∙ at_b)
        ]
      ]

  -- two rows of a tag have one name
  same_name : (tag : List ℕ) (a b : R) → IsRowOf name_of rows tag (Some a) → IsRowOf name_of rows tag (Some b)
      → unpadded (name_of a) ≡ unpadded (name_of b)
  same_name tag a b x y =
      let p = prefix_is (unpadded (name_of a)) tag x.1 in
      let q = prefix_is (unpadded (name_of b)) tag y.1 in
      let size = λ (r : R). length (unpadded (name_of r)) in
      let not_above = All-contains (λ r. is_candidate name_of tag r ≡ true → size r ≤ size b) rows a y.2 x.0 x.1 in
      let not_below = All-contains (λ r. is_candidate name_of tag r ≡ true → size r ≤ size a) rows b x.2 y.0 y.1 in
      let long : size a ≡ size b = omega (arith, not_above, not_below) in
      p.bytes ∙ (ap (λ n. compared (take n tag)) long ∙ sym q.bytes)

  pub row_is_unique : (tag : List ℕ) (a b : Option R) → IsRowOf name_of rows tag a → IsRowOf name_of rows tag b → a ≡ b
  row_is_unique tag None None x y = refl
  row_is_unique tag None (Some b) x y =
      absurd (cc (All-contains (λ r. is_candidate name_of tag r ≡ false) rows b x y.0, y.1))
  row_is_unique tag (Some a) None x y =
      absurd (cc (All-contains (λ r. is_candidate name_of tag r ≡ false) rows a y x.0, x.1))
  row_is_unique tag (Some a) (Some b) x y = ap Some (same_row a b x.0 y.0 (same_name tag a b x y))

pub locale_is_unique : (tag : List ℕ) (s t : Symbols) → IsLocale tag s → IsLocale tag t → s ≡ t
locale_is_unique tag s t a b =
    let tag_of = λ (l : LocaleSymbols). l.tag in
    let locale : Some a.locale ≡ Some b.locale =
    row_is_unique tag_of LOCALES locales_are_table tag _ _ a.listed b.listed in
    let system : a.system ≡ b.system = cc (locale, a.named, b.named) in
    let rows = has_rows_if_listed a.system (system_is_listed tag a.locale a.system a.named) in
    let in_system = subst (λ (n : DecimalSystem). IsListed (own_rows n) tag b.own) (sym system) b.in_system in
    let own = row_is_unique tag_of (own_rows a.system) rows tag a.own b.own a.in_system in_system in
    cc (a.value, b.value)
