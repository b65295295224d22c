-- What the code of the numbers leans on, for numbers in place of records. Assumes nothing.
use Rattle.std.specs.Prelude.{◌≡◌, ℕ, ◌+◌, ◌-◌, ◌*◌, ◌/◌, ◌^◌, ◌<◌, ◌≤◌, Bool, true, cond, count_ones, nat_le}
use Rattle.prefix.specs.Prefix.{is_prefix, count, descend}

-- the number of a prefix does not go below 0, and is below how many there are
abbrev pub Numbered : Type 0
Numbered = (address length : ℕ) → is_prefix address length ≡ true → (count_ones (address / 256) ≤ 2 * (address / 256) + length) × (2 * (address / 256) + length - count_ones (address / 256) < count)

-- one step of `descend` at a length below 24: it ends at 0; else a 1 follows exactly if n is past all that go on with a 0
abbrev pub Descends : Type 0
Descends =
    (length address n : ℕ) → length < 24 → (n ≡ 0 → descend (24 - length) address n ≡ record { address = address; length = length })
    × (0 < n → (one : Bool) → one ≡ nat_le (2 ^ (24 - length)) n → descend (24 - length) address n ≡ descend (24 - (length + 1)) (address + cond one (2 ^ (31 - length)) 0) (n - cond one (2 ^ (24 - length)) 1))

-- at a length of 24 it ends
abbrev pub Ends : Type 0
Ends = (address n : ℕ) → descend 0 address n ≡ record { address = address; length = 24 }
