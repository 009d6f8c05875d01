-- Exponents of compact patterns are ordered if their rows are.
use Rattle.std.proofs.{Common.{◌≡◌, ℕ, ◌+◌, ◌-◌, ◌<◌, ◌≤◌, inl, inr, ◌∙◌, ap, arith}, lemmas.{Bool.cases_lt, Int.{ints, clamps}}}
use Rattle.std.specs.{Prelude.{true, false, if◌then◌else◌, slice_index, pos, unsigned_abs, ◌-ℤ◌, int_lt}, Int.{int_max, int_min}}
use Rattle.number_format.specs.{declared.notation.{CompactExponents.CompactExponents, Notation.Notation}, Scaled.{compact_exponent, IsOrdered}}
use Rattle.number_format.proofs.lemmas.read.{CompactKeys.{clamped, same_exponent}, CompactTexts.from_0}

module _ (table : CompactExponents) where
  abbrev row : ℕ → ℕ
  row i = slice_index table.rows i

  -- a row is not above its magnitude, or above the next one
  abbrev pub IsRowOrdered : ℕ → Type 0
  IsRowOrdered i = (row i ≤ i + 3) × (row i ≤ row (i + 1))

  at_row : (i m : ℕ) → i ≤ 16 → m ≡ i + 3 → compact_exponent table (pos m) ≡ pos (row i)
  at_row i m h e =
      let above : int_lt (pos m) (pos 3) ≡ false = grind (arith, ints, e) in
      let index : unsigned_abs (int_min (int_max (pos m) (pos 3)) (pos 19) -ℤ pos 3) ≡ i =
      omega (arith, ints, clamps, h, e) in
      λ j. if above j then pos 0 else pos (slice_index table.rows (index j))

  at_low : (m : ℕ) → m < 3 → compact_exponent table (pos m) ≡ pos 0
  at_low m h =
      let below : int_lt (pos m) (pos 3) ≡ true = grind (arith, ints, h) in
      ap (λ b. if b then pos 0
      else pos (slice_index table.rows (unsigned_abs (int_min (int_max (pos m) (pos 3)) (pos 19) -ℤ pos 3)))) below

  late : (m : ℕ) → 19 ≤ m → compact_exponent table (pos m) ≡ pos (row 16)
  late m h =
      let top : clamped (pos m) ≡ pos 19 = omega (arith, ints, clamps, h) in
      same_exponent table (pos m) ∙ ap (compact_exponent table) top ∙ at_row 16 19 (omega arith) (omega arith)

  pub ordered_by : ((i : ℕ) → i < 16 → IsRowOrdered i) → row 16 ≤ 19 → IsOrdered (Notation.Compact table)
  ordered_by early last m = elim (cases_lt m 3) [
    | inl low ↦
        let here = at_low m low in
        let next = from_0 (int_lt (pos (m + 1)) (pos 3)) (slice_index table.rows
        (unsigned_abs (int_min (int_max (pos (m + 1)) (pos 3)) (pos 19) -ℤ pos 3))) in
        (omega (arith, ints, here), omega (arith, ints, here, next))
    | inr high ↦ elim (cases_lt m 19) [
      | inl h ↦
          let i = m - 3 in
          let here = at_row i m (omega (arith, h, high)) (omega (arith, high)) in
          let next = at_row (i + 1) (m + 1) (omega (arith, h, high)) (omega (arith, high)) in
          let own = early i (omega (arith, h, high)) in
          (omega (arith, ints, here, own.0, high), omega (arith, ints, here, next, own.1))
      | inr h ↦
          let here = late m (omega (arith, h)) in
          let next = late (m + 1) (omega (arith, h)) in
          (omega (arith, ints, here, last, h), omega (arith, ints, here, next))
    ]
  ]

  -- the rows of exponents that are ordered
  pub row_least : IsOrdered (Notation.Compact table) → (i : ℕ) → i ≤ 16 → row i ≤ i + 3
  row_least ordered i h =
      let here = at_row i (i + 3) h (omega arith) in omega (arith, ints, here, (ordered (i + 3)).0)

  pub row_next : IsOrdered (Notation.Compact table) → (i : ℕ) → i < 16 → row i ≤ row (i + 1)
  row_next ordered i h =
      let here = at_row i (i + 3) (omega (arith, h)) (omega arith) in
      let next = at_row (i + 1) (i + 3 + 1) (omega (arith, h)) (omega arith) in
      omega (arith, ints, here, next, (ordered (i + 3)).1)
