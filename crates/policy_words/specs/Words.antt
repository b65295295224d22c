-- The words of policy texts. Assumes nothing.
use Rattle.std.specs.Prelude.{ℕ, ◌+◌, ◌-◌, ◌*◌, ◌^◌, Bool, false, cond, ◌&&◌, ◌||◌, List, [], ◌∷◌, Some, None, codes, Option, ◌==◌, nat_lt}
use Rattle.prefix.specs.Prefix.{Prefix, is_prefix}
use Rattle.std.specs.Char.{is_ascii_digit, is_ascii_alphabetic}
use Rattle.std.specs.List.{list_all}
use Rattle.std.specs.Str.{bytes_eq}
use Rattle.policy_words.specs.declared.ItemWord as stored_item
use Rattle.policy_words.specs.declared.ItemWord.TheVariants as of_item
use Rattle.policy_words.specs.declared.TestWord as stored_test
use Rattle.policy_words.specs.declared.TestWord.TheVariants as of_test
use Rattle.policy_words.specs.declared.RangeWord as stored_range
use Rattle.policy_words.specs.declared.RangeWord.TheVariants as of_range
use Rattle.policy_words.specs.declared.JointWord as stored_joint
use Rattle.policy_words.specs.declared.JointWord.TheVariants as of_joint
use Rattle.policy_words.specs.declared.ActionWord as stored_action
use Rattle.policy_words.specs.declared.ActionWord.TheVariants as of_action

-- the word that begins a list or a policy
abbrev pub item_word : List ℕ → Option stored_item.ItemWord
item_word w =
    cond (bytes_eq w (codes "list")) (Some of_item.List)
    (cond (bytes_eq w (codes "from")) (Some of_item.From)
    (cond (bytes_eq w (codes "to")) (Some of_item.To) None))

-- the word that begins a part of a condition
abbrev pub test_word : List ℕ → Option stored_test.TestWord
test_word w =
    cond (bytes_eq w (codes "not")) (Some of_test.Not)
    (cond (bytes_eq w (codes "any")) (Some of_test.Any)
    (cond (bytes_eq w (codes "range")) (Some of_test.Range)
    (cond (bytes_eq w (codes "passes")) (Some of_test.Passes)
    (cond (bytes_eq w (codes "marked")) (Some of_test.Marked)
    (cond (bytes_eq w (codes "longer")) (Some of_test.Longer) None)))))

-- the word that stands behind `range`
abbrev pub range_word : List ℕ → Option stored_range.RangeWord
range_word w =
    cond (bytes_eq w (codes "in")) (Some of_range.In)
    (cond (bytes_eq w (codes "within")) (Some of_range.Within) None)

-- the word that stands behind a part of a condition
abbrev pub joint_word : List ℕ → Option stored_joint.JointWord
joint_word w =
    cond (bytes_eq w (codes "and")) (Some of_joint.And)
    (cond (bytes_eq w (codes "then")) (Some of_joint.Then) None)

-- the word that begins an action
abbrev pub action_word : List ℕ → Option stored_action.ActionWord
action_word w =
    cond (bytes_eq w (codes "take")) (Some of_action.Take)
    (cond (bytes_eq w (codes "leave")) (Some of_action.Leave)
    (cond (bytes_eq w (codes "like")) (Some of_action.Like)
    (cond (bytes_eq w (codes "far")) (Some of_action.Far)
    (cond (bytes_eq w (codes "mark")) (Some of_action.Mark)
    (cond (bytes_eq w (codes "unmark")) (Some of_action.Unmark)
    (cond (bytes_eq w (codes "front")) (Some of_action.Front) None))))))

-- no byte is above 127
abbrev pub is_ascii : List ℕ → Bool
is_ascii bs = list_all (λ b. nat_lt b 128) bs

-- the number whose digits stand in front, after the digits of n, and the bytes behind them; none if it has more than 32 bits
unfoldable pub leading_from : ℕ → List ℕ → Option (ℕ × List ℕ)
leading_from n [] = Some (n, [])
leading_from n (b ∷ bs) =
    cond (is_ascii_digit b)
    (cond (nat_lt (n * 10 + (b - 48)) (2 ^ 32)) (leading_from (n * 10 + (b - 48)) bs) None)
    (Some (n, b ∷ bs))

-- at least one digit
abbrev pub leading : List ℕ → Option (ℕ × List ℕ)
leading [] = None
leading (b ∷ bs) = cond (is_ascii_digit b) (leading_from 0 (b ∷ bs)) None

abbrev pub and_then : {A B : Type 0} → Option A → (A → Option B) → Option B
and_then None f = None
and_then (Some x) f = f x

-- x if nothing is left
abbrev pub if_done : ℕ × List ℕ → Option ℕ
if_done (n, []) = Some n
if_done (n, b ∷ bs) = None

-- a number of 32 bits, in decimal digits; zeros may stand in front
abbrev pub number_of : List ℕ → Option ℕ
number_of w = and_then (leading w) if_done

-- n, if it is below 256 and the sign stands behind it, and the bytes behind the sign
abbrev pub octet_of : ℕ → ℕ × List ℕ → Option (ℕ × List ℕ)
octet_of sign (n, []) = None
octet_of sign (n, b ∷ bs) = cond (nat_lt n 256 && b == sign) (Some (n, bs)) None

abbrev pub octet : ℕ → List ℕ → Option (ℕ × List ℕ)
octet sign bs = and_then (leading bs) (octet_of sign)

abbrev pub address_of : ℕ → ℕ → ℕ → ℕ → ℕ
address_of a b c d = ((a * 256 + b) * 256 + c) * 256 + d

-- the prefix of that address and length, if it is one
abbrev pub checked : ℕ → ℕ → Option Prefix
checked address length = cond (is_prefix address length) (Some (record { address = address; length = length })) None

-- a prefix, as 10.0.0.0/8
abbrev pub prefix_of : List ℕ → Option Prefix
prefix_of w =
    and_then (octet 46 w) (λ a.
    and_then (octet 46 a.1) (λ b.
    and_then (octet 46 b.1) (λ c.
    and_then (octet 47 c.1) (λ d.
    and_then (number_of d.1) (λ length.
    checked (address_of a.0 b.0 c.0 d.0) length)))))

-- a letter or `_`
abbrev pub is_name_start : ℕ → Bool
is_name_start b = is_ascii_alphabetic b || b == 95

abbrev pub is_name_byte : ℕ → Bool
is_name_byte b = is_name_start b || (is_ascii_digit b || b == 45)

-- the name of a list: a letter or `_`, and then letters, digits, `_` and `-`
abbrev pub is_name : List ℕ → Bool
is_name [] = false
is_name (b ∷ bs) = is_name_start b && list_all is_name_byte bs
