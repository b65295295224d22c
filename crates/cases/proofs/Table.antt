-- The rows of the table, each worked out from the few prefixes that it speaks of. Assumes nothing.
use Rattle.std.proofs.Common.{◌≡◌, ℕ, true, leb, List, ◌∷◌, map, reverse, sym, refl, ◌∙◌}
use lib.Count.{ones_in}
use Rattle.cases.proofs.Few.{of_few}
use Rattle.cases.proofs.Room.{placed}
use Rattle.cases.specs.Cases.{Advertised, update_by, Case, rules, Holds, AllHold, eight, nine, case_a, case_b, case_c, case_d, case_e, case_f, case_g, barred, comes_back, other_best, repeated, WorkedCases}
use Rattle.cases.specs.Few.{place, freely, announcements, all_of, falling, row_of, updates_of, sent_of}
use Rattle.model.specs.Model.{all_down}
use Rattle.model.specs.Updates.{held_after}
use Rattle.policy.specs.Policy.{through}
use Rattle.prefix.specs.Prefix.{number}
use Rattle.selection.specs.Intended.{selected}
use Rattle.server.specs.Meant.{size_of}
use Rattle.std.proofs.lemmas.Bool.{leb-true}

-- the numbers of the prefixes, the highest first
abbrev numbers : List ℕ
numbers = reverse (map place (eight ∷ nine))

numbers_fall : falling 33554431 numbers ≡ true
unfolding falling ones_in
numbers_fall = refl

same_numbers : (ws : List Advertised) → map (update_by place) ws ≡ map (update_by number) ws
same_numbers ws = λ i. map (update_by (λ p. sym (placed p) i)) ws

-- a row holds if it does so worked out from these prefixes
worked : (c : Case) → leb (announcements (c.event ∷ c.before)) 16384 ≡ true → all_of numbers (c.event ∷ c.before) ≡ true → sent_of numbers (size_of 4) rules c.event c.before ≡ map (update_by place) c.sends → Holds c
worked c room a e = of_few numbers (size_of 4) rules c.event c.before (leb-true (announcements (c.event ∷ c.before)) 16384 room) numbers_fall a ∙ e ∙ same_numbers c.sends

case_a_holds : Holds case_a
unfolding freely announcements all_of row_of updates_of all_down held_after through selected ones_in
case_a_holds = worked case_a refl refl refl

case_b_holds : Holds case_b
unfolding freely announcements all_of row_of updates_of all_down held_after through selected ones_in
case_b_holds = worked case_b refl refl refl

case_c_holds : Holds case_c
unfolding freely announcements all_of row_of updates_of all_down held_after through selected ones_in
case_c_holds = worked case_c refl refl refl

case_d_holds : Holds case_d
unfolding freely announcements all_of row_of updates_of all_down held_after through selected ones_in
case_d_holds = worked case_d refl refl refl

case_e_holds : Holds case_e
unfolding freely announcements all_of row_of updates_of all_down held_after through selected ones_in
case_e_holds = worked case_e refl refl refl

case_f_holds : Holds case_f
unfolding freely announcements all_of row_of updates_of all_down held_after through selected ones_in
case_f_holds = worked case_f refl refl refl

case_g_holds : Holds case_g
unfolding freely announcements all_of row_of updates_of all_down held_after through selected ones_in
case_g_holds = worked case_g refl refl refl

barred_holds : Holds barred
unfolding freely announcements all_of row_of updates_of all_down held_after through selected ones_in
barred_holds = worked barred refl refl refl

comes_back_holds : Holds comes_back
unfolding freely announcements all_of row_of updates_of all_down held_after through selected ones_in
comes_back_holds = worked comes_back refl refl refl

other_best_holds : Holds other_best
unfolding freely announcements all_of row_of updates_of all_down held_after through selected ones_in
other_best_holds = worked other_best refl refl refl

repeated_holds : Holds repeated
unfolding freely announcements all_of row_of updates_of all_down held_after through selected ones_in
repeated_holds = worked repeated refl refl refl

pub all_hold : WorkedCases
unfolding AllHold
all_hold = (case_a_holds, (case_b_holds, (case_c_holds, (case_d_holds, (case_e_holds, (case_f_holds, (case_g_holds, (barred_holds, (comes_back_holds, (other_best_holds, (repeated_holds, tt)))))))))))
