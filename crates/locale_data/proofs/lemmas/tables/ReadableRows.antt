-- The symbols of each row are readable, by computation.
use Rattle.std.proofs.{Common.{◌≡◌, ℕ, ◌+◌, ◌-◌, ◌<◌, ◌≤◌, ◌==◌, ◌&&◌, nat_lt, Bool, true, false, cond, List, [], ◌∷◌, ◌++◌, map, get_or, slice_get, Option, Some, None, unwrap_or, inl, inr, refl, ap, lit≤, subst, ◌∙◌, sym, rules, add-sub_of_le, arith}, lemmas.{Bool.{cases_lt, and_parts}, List.Sums.AllPass-from_list_all, Option.{option_and_then_some, same_Some}}}
use Rattle.std.specs.{Prelude.{encode_utf8, slice_index, IfSome}, List.{list_all, position, Contains}, Option.{option_map, option_map_or}, Str.bytes_eq}
use Rattle.decimal_format.specs.{declared.grouping.GroupingSizes.GroupingSizes, Symbols.Symbols, Readable.{BeginsWith, code, IsOther, IsReadable}}
use Rattle.decimal_format.proofs.lemmas.symbols.Apart.{are_apart, each_below, passes_below, texts_are_apart, other, texts_apart}
use Rattle.locale_data.specs.{declared.{locales.LocaleId.LocaleId, tables.{rows.symbols.{LocaleSymbols.LocaleSymbols, DecimalSystem.DecimalSystem, Symbol.{Symbol, TheVariants.{Period, Comma, NoBreakSpace, NarrowNoBreakSpace, RightQuote, Apostrophe, ArabicComma, ReversedComma, ArabicDecimal, ArabicThousands, Hyphen, Minus, Plus, ArabicHyphen, ArabicMinus, ArabicPlus, LeftHyphen, LeftMinus, LeftPlus, RightHyphen, RightPlus, EnclosedHyphen, EnclosedMinus, EnclosedPlus, PlusLeft}}, SymbolSet.SymbolSet}, symbols.TheConstants.{LOCALES, NUMBERING_SYSTEMS}}}, Symbol.symbol_text, Locales.{own_rows, symbols_of, symbols_in, own_symbols_at, symbols_at}}
use Rattle.locale_data.proofs.lemmas.tables.EachRow.{passes, contains_at}

moved : {a b c d : List ℕ} → a ≡ c → b ≡ d → BeginsWith a b → BeginsWith c d
moved e f begins = (begins.0, sym e ∙ (begins.1 ∙ ap (λ t. t ++ begins.0) f))

-- ---- Digits.

abbrev digit_of : DecimalSystem → ℕ → List ℕ
digit_of system d = encode_utf8 (slice_index system.digits d)

-- the texts of all symbols
abbrev texts : List (List ℕ)
texts =
    map symbol_text (Period ∷ Comma ∷ NoBreakSpace ∷ NarrowNoBreakSpace ∷ RightQuote ∷ Apostrophe ∷ ArabicComma
    ∷ ReversedComma ∷ ArabicDecimal ∷ ArabicThousands ∷ Hyphen ∷ Minus ∷ Plus ∷ ArabicHyphen ∷ ArabicMinus
    ∷ ArabicPlus ∷ LeftHyphen ∷ LeftMinus ∷ LeftPlus ∷ RightHyphen ∷ RightPlus ∷ EnclosedHyphen ∷ EnclosedMinus
    ∷ EnclosedPlus ∷ PlusLeft ∷ [])

abbrev index_of : Symbol → ℕ
index_of x = unwrap_or (position (bytes_eq (symbol_text x)) texts) 0

text_at : (x : Symbol) → get_or texts (index_of x) [] ≡ symbol_text x
text_at Period = refl
text_at Comma = refl
text_at _ = refl

index_below : (x : Symbol) → index_of x < 25
index_below Period = lit≤ tt
index_below Comma = lit≤ tt
index_below _ = lit≤ tt

-- the digits of a system are apart from each other, and from each symbol
abbrev digits_are_apart : DecimalSystem → Bool
digits_are_apart system = texts_are_apart 10 (digit_of system) && each_below 10 (λ d. list_all (are_apart (digit_of
    system d)) texts)

systems_have_digits_apart : list_all digits_are_apart NUMBERING_SYSTEMS ≡ true
unfolding lib.Utf8.encode
systems_have_digits_apart = refl

-- ---- Separators and signs.

-- the symbol of a code after those of the digits
abbrev mark : SymbolSet → ℕ → Symbol
mark set k =
    cond (k == 10) set.decimal (cond (k == 11) set.grouping (cond (k == 12) set.minus set.plus))

abbrev mark_text : SymbolSet → ℕ → List ℕ
mark_text set k = symbol_text (mark set k)

-- the separators and signs are apart
abbrev marks_are_apart : SymbolSet → Bool
marks_are_apart set = texts_are_apart 4 (λ k. mark_text set (10 + k))

locales_have_marks_apart : list_all (λ l. marks_are_apart l.symbols) LOCALES ≡ true
locales_have_marks_apart = refl

abbrev own_marks_are_apart : DecimalSystem → Bool
own_marks_are_apart system = list_all (λ l. marks_are_apart l.symbols) (own_rows system)

systems_have_own_marks_apart : list_all own_marks_are_apart NUMBERING_SYSTEMS ≡ true
systems_have_own_marks_apart = refl

abbrev if_any_are_apart : DecimalSystem → Bool
if_any_are_apart system = option_map_or marks_are_apart system.symbols true

systems_have_marks_apart : list_all if_any_are_apart NUMBERING_SYSTEMS ≡ true
systems_have_marks_apart = refl

-- ---- The codes of a set of symbols.

module _ (system : DecimalSystem) (set : SymbolSet) (sizes : GroupingSizes)
    (digits : digits_are_apart system ≡ true) (marks : marks_are_apart set ≡ true) where
  digit_code : (k : ℕ) → (k < 10) → code (symbols_of system set sizes) k ≡ digit_of system k
  digit_code k h = let t : nat_lt k 10 ≡ true = search (rules, arith) in rw t refl

  mark_code : (k : ℕ) → 10 ≤ k → code (symbols_of system set sizes) k ≡ mark_text set k
  mark_code k h = let t : nat_lt k 10 ≡ false = search (rules, arith) in rw t (each (k == 10) (k == 11) (k == 12))
    where
      each : (a b c : Bool)
          → cond a (symbol_text set.decimal) (cond b (symbol_text set.grouping)
          (cond c (symbol_text set.minus) (symbol_text set.plus)))
          ≡ symbol_text (cond a set.decimal (cond b set.grouping (cond c set.minus set.plus)))
      each true b c = refl
      each false true c = refl
      each false false true = refl
      each false false false = refl

  digit_and_mark : (d k : ℕ) → d < 10 → are_apart (digit_of system d) (mark_text set k) ≡ true
  digit_and_mark d k h =
      let test = λ (d : ℕ). list_all (are_apart (digit_of system d)) texts in
      let all = passes_below 10 test ((and_parts _ _ digits).1) d h in
      let one = AllPass-from_list_all (are_apart (digit_of system d)) texts all (index_of (mark set k)) []
      (index_below (mark set k)) in
      subst (λ t. are_apart (digit_of system d) t ≡ true) (text_at (mark set k)) one

  marks_apart : (j k : ℕ) → 10 ≤ j → j < 14 → 10 ≤ k → k < 14 → BeginsWith (mark_text set k) (mark_text set j)
      → j ≡ k
  marks_apart j k p q r s begins =
      let same = texts_apart 4 (λ i. mark_text set (10 + i)) marks (j - 10) (k - 10) (omega arith) (omega arith)
      (rw (add-sub_of_le r, add-sub_of_le p) begins) in
      omega (arith, same)

  readable_codes : (j k : ℕ) → j < 14 → k < 14 → IsOther (symbols_of system set sizes) j k
  readable_codes j k p q begins = elim (cases_lt j 10) [
    | inl a ↦ elim (cases_lt k 10) [
      | inl b ↦
          texts_apart 10 (digit_of system) ((and_parts _ _ digits).0) j k a b
          (moved (digit_code k b) (digit_code j a) begins)
      | inr b ↦
          absurd (other (mark_text set k) (digit_of system j) ((and_parts _ _ (digit_and_mark j k a)).1)
          (moved (mark_code k b) (digit_code j a) begins))
    ]
    | inr a ↦ elim (cases_lt k 10) [
      | inl b ↦
          absurd (other (digit_of system k) (mark_text set j) ((and_parts _ _ (digit_and_mark k j b)).0)
          (moved (digit_code k b) (mark_code j a) begins))
      | inr b ↦ marks_apart j k a p b q (moved (mark_code k b) (mark_code j a) begins)
    ]
  ]

  readable_of : IsReadable (symbols_of system set sizes)
  readable_of = record { apart = λ j p k q begins. readable_codes j k p q begins }

-- ---- The symbols of a locale.

chosen_marks : (system : DecimalSystem) (locale : LocaleSymbols) → if_any_are_apart system ≡ true
    → marks_are_apart locale.symbols ≡ true → marks_are_apart (unwrap_or system.symbols locale.symbols) ≡ true
chosen_marks system locale if_any default = each system.symbols if_any
  where
    each : (o : Option SymbolSet) → option_map_or marks_are_apart o true ≡ true
        → marks_are_apart (unwrap_or o locale.symbols) ≡ true
    each None h = default
    each (Some set) h = h

in_system : (system : DecimalSystem) (locale : LocaleSymbols) (own : Option LocaleSymbols)
    → Contains NUMBERING_SYSTEMS system → Contains LOCALES locale
    → IfSome own (λ row. Contains (own_rows system) row) → IsReadable (symbols_in system locale own)
in_system system locale None known listed own =
    let default = passes (λ l. marks_are_apart l.symbols) LOCALES locale locales_have_marks_apart listed in
    readable_of system (unwrap_or system.symbols locale.symbols) locale.sizes
    (passes digits_are_apart NUMBERING_SYSTEMS system systems_have_digits_apart known)
    (chosen_marks system locale (passes if_any_are_apart NUMBERING_SYSTEMS system systems_have_marks_apart known)
    default)
in_system system locale (Some row) known listed own =
    readable_of system row.symbols row.sizes
    (passes digits_are_apart NUMBERING_SYSTEMS system systems_have_digits_apart known)
    (passes (λ l. marks_are_apart l.symbols) (own_rows system) row
    (passes own_marks_are_apart NUMBERING_SYSTEMS system systems_have_own_marks_apart known) own)

own_are_readable : (system : DecimalSystem) (locale : LocaleSymbols) (own : Option ℕ) (s : Symbols)
    → Contains NUMBERING_SYSTEMS system → Contains LOCALES locale → own_symbols_at system locale own ≡ Some s
    → IsReadable s
own_are_readable system locale None s known listed e =
    subst IsReadable (same_Some (symbols_in system locale None) s e) (in_system system locale None known listed tt)
own_are_readable system locale (Some own) s known listed e =
    by (slice_get (own_rows system) own) refl e
  where
    by : (o : Option LocaleSymbols) → slice_get (own_rows system) own ≡ o
        → option_map (λ row. symbols_in system locale (Some row)) o ≡ Some s → IsReadable s
    by None at e = absurd (cc)
    by (Some row) at e =
        subst IsReadable (same_Some (symbols_in system locale (Some row)) s e)
        (in_system system locale (Some row) known listed (contains_at (own_rows system) own row at))

-- the symbols that rows make are readable
pub rows_are_readable : (id : LocaleId) (s : Symbols) → symbols_at id ≡ Some s → IsReadable s
unfolding symbols_at
rows_are_readable id s e =
    option_and_then_some _ (slice_get LOCALES id.locale) s e (λ locale at_locale then.
    option_and_then_some _ (slice_get NUMBERING_SYSTEMS id.system) s then (λ system at_system made.
    own_are_readable system locale id.own s (contains_at NUMBERING_SYSTEMS id.system system at_system)
    (contains_at LOCALES id.locale locale at_locale) made))
