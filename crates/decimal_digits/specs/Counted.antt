-- A borrowed list of digits with a count of its digit accesses.
use Rattle.std.specs.Prelude.{◌≡◌, ℕ, ◌+◌, ◌≤◌}
use Rattle.std.specs.Borrow.{MutBor}
use Rattle.decimal_digits.specs.declared.digits.steps.Steps.{Steps}
use Rattle.decimal_digits.specs.declared.digits.counted.Counted.{Counted}

-- the current list
abbrev pub list_of : {D : Type 0} → Counted D → D
list_of counted = counted.list.now

-- the number of digit accesses so far
abbrev pub accesses_of : {D : Type 0} → Counted D → ℕ
accesses_of counted = counted.steps.now.count

-- it borrows this list and this count
abbrev pub Borrows : {D : Type 0} → MutBor D → MutBor Steps → Counted D → Type 0
Borrows list steps counted =
    (counted.list.ghost_name ≡ list.ghost_name) × (counted.steps.ghost_name ≡ steps.ghost_name)

-- the same list and the same count are borrowed, and the count has not decreased
abbrev pub Continues : {D : Type 0} → Counted D → Counted D → Type 0
Continues old new =
    (new.list.ghost_name ≡ old.list.ghost_name)
    × (new.steps.ghost_name ≡ old.steps.ghost_name)
    × (accesses_of old ≤ accesses_of new)

-- the list is unchanged, after at most `most` digit accesses
abbrev pub OnlyReads : {D : Type 0} → ℕ → Counted D → Counted D → Type 0
OnlyReads most old new =
    (list_of new ≡ list_of old) × (accesses_of new ≤ accesses_of old + most) × Continues old new
