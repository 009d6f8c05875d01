-- The magnitudes after which there is a grouping separator.
use Rattle.std.specs.Prelude.{ℕ, ◌+◌, ◌-◌, ◌%◌, ◌==◌, nat_le, nat_lt, max, Bool, ◌&&◌, false, if◌then◌else◌, ℤ, pos, negsuc, ◌+ℤ◌, int_le}
use Rattle.decimal_format.specs.declared.grouping.{GroupingSizes.GroupingSizes, GroupingStrategy.{GroupingStrategy, TheVariants.{Auto, Never, Always, Min2}}}

-- of the hi + 1 integer digits, at least `least` are before the last group
abbrev pub reaches : GroupingSizes → ℕ → ℤ → Bool
reaches sizes least hi = int_le (pos (sizes.primary + least)) (hi +ℤ pos 1)

-- a value with the highest magnitude hi is grouped
abbrev pub is_grouped : GroupingStrategy → GroupingSizes → ℤ → Bool
is_grouped Auto sizes hi = reaches sizes (max sizes.min_grouping 1) hi
is_grouped Never sizes hi = false
is_grouped Always sizes hi = reaches sizes 1 hi
is_grouped Min2 sizes hi = reaches sizes (max sizes.min_grouping 2) hi

-- the size of every group except the last
abbrev pub secondary_size : GroupingSizes → ℕ
secondary_size sizes = if sizes.secondary == 0 then sizes.primary else sizes.secondary

-- a group ends after the digit at a magnitude: at the primary size, and at multiples of the secondary size above it
abbrev pub ends_group : GroupingSizes → ℕ → Bool
ends_group sizes m =
    nat_lt 0 sizes.primary && (nat_le sizes.primary m && ((m - sizes.primary) % secondary_size sizes == 0))

-- a separator is after the digit at a magnitude: at each end of a group, if the value is grouped
abbrev pub separates : GroupingStrategy → GroupingSizes → ℤ → ℤ → Bool
separates strategy sizes hi (negsuc m) = false
separates strategy sizes hi (pos m) = is_grouped strategy sizes hi && ends_group sizes m
