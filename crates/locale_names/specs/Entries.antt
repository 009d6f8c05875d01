-- Runs of entries, as the tables have them.
use Rattle.std.specs.{Prelude.{ℕ, ◌+◌, ◌/◌, ◌%◌, ◌==◌, List, find, slice_get, slice_range, Option, unwrap_or}, Option.option_or}
use Rattle.plural_rules.specs.declared.rules.PluralCategory.{PluralCategory, TheVariants.{Zero, One, Two, Few, Many, Other}}

-- the kind of an entry of a category
abbrev pub kind_of : PluralCategory → ℕ
kind_of Other = 0
kind_of Zero = 1
kind_of One = 2
kind_of Two = 3
kind_of Few = 4
kind_of Many = 5

-- the entries of a run, as far as the table goes
abbrev pub entries_in : {E : Type 0} → List E → ℕ → List E
entries_in table run = slice_range table (run / 8) (run / 8 + run % 8)

-- the entry of a kind; entries have the numbers that `number_of` gives
abbrev pub entry_of : {E : Type 0} → (E → ℕ) → ℕ → List E → Option E
entry_of number_of kind entries = find (λ entry. number_of entry % 8 == kind) entries

-- the entry of a category, or else that of `other`
abbrev pub entry_for : {E : Type 0} → (E → ℕ) → PluralCategory → List E → Option E
entry_for number_of category entries =
    option_or (entry_of number_of (kind_of category) entries) (entry_of number_of 0 entries)

-- the run with an index in a table, and one without entries where there is none
abbrev pub run_in : List ℕ → ℕ → ℕ
run_in runs index = unwrap_or (slice_get runs index) 0
